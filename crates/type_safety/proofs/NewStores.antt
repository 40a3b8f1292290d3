-- The store of a newly instantiated valid module is well typed, if the supply matches the module's imports.
use Rattle.std.proofs.Common.{◌≡◌, ℕ, ◌+◌, ◌*◌, ◌/◌, ◌^◌, ◌<◌, ◌≤◌, List, [], ◌∷◌, ◌++◌, length, Option, Some, None, Ok, Bool, true, false, ◌&&◌, cond, map, option_map, slice_get, refl, sym, ap, ◌∙◌, subst, arith}
use Rattle.std.specs.Prelude.{nat_le, fold, replicate, take, drop, unwrap_or, IsTrue, IfSome, All}
use Rattle.std.proofs.lemmas.Bool.{leb-true, le-leb}
use Rattle.std.proofs.lemmas.List.{map-append, length-append, length-take, length-drop, length-replicate, length-map}
use Rattle.std.proofs.lemmas.List.Elements.{All-head, All-tail, All-append, All-take, All-drop, All-replicate, All-map}
use Rattle.std.proofs.lemmas.Option.{slice_get-map, cond_some}
use Rattle.base.proofs.Options.{and_then_some}
use Rattle.base.proofs.Booleans.{and_parts}
use Rattle.type_safety.proofs.Quantities.{small_memories, small_tables}
use Rattle.wasm_syntax.proofs.ValidParts.{single_is}
use Rattle.wasm_syntax.specs.declared.limits.TheConstants.{MAX_ENTRIES, MAX_PAGES, PAGE_SIZE}
use Rattle.wasm_syntax.specs.declared.values.ValType.{ValType}
use Rattle.wasm_syntax.specs.declared.values.Val.{Val}
use Rattle.wasm_syntax.specs.declared.signatures.Limits.{Limits}
use Rattle.wasm_syntax.specs.declared.signatures.GlobalType.{GlobalType}
use Rattle.wasm_syntax.specs.declared.instructions.Instr.{Instr}
use Rattle.wasm_syntax.specs.declared.instructions.Instr.TheVariants.{End, GlobalGet, Const}
use Rattle.wasm_syntax.specs.declared.modules.Module.{Module}
use Rattle.wasm_syntax.specs.declared.modules.Global.{Global}
use Rattle.wasm_syntax.specs.declared.modules.ElemSeg.{ElemSeg}
use Rattle.wasm_syntax.specs.declared.modules.ElemSeg.TheVariants.{Active, Declared}
use Rattle.wasm_syntax.specs.declared.modules.DataSeg.{DataSeg}
use Rattle.wasm_syntax.specs.Index.{of_kind, memory_import, table_import, imported_globals, all_tables, all_memories}
use Rattle.wasm_syntax.specs.Typing.{is_constant}
use Rattle.wasm_syntax.specs.Validity.{IsLimits, IsConstant, IsGlobal, IsElem, AreFuncs, IsValid, single, constant_type, immutable_type}
use Rattle.wasm_syntax.specs.Profile.{IsSupported}
use Rattle.host_script.specs.declared.scripts.Supply.{Supply}
use Rattle.host_script.specs.Supply.{keeps_max, limits_match, is_within}
use Rattle.history_spec.specs.Store.{Memory, Table, Store, zeros, with_items_at}
use Rattle.history_spec.specs.Code.{zero_of}
use Rattle.history_spec.specs.Instantiation.{constant, global_value, offset_of, limits_of, new_memory, new_table, new_store, memory_length, table_length, elem_fits, data_fits, first_false, first_unfit, with_elem, with_data, with_datas, with_elems, with_segments, store_unless, instantiate}
use Rattle.type_safety.specs.Values.{IsValue, AreValues}
use Rattle.type_safety.specs.Stores.{func_count, IsMemory, IsTable, MayBeMemory, MayBeTable, IsStore}
use Rattle.type_safety.specs.Supplies.{HasBytes, Match, IsSupply}
use Rattle.type_safety.proofs.Values.{append_values, value_at}
use Rattle.type_safety.proofs.Constants.{constant_value}
use Rattle.type_safety.proofs.Memories.{memory_written}

-- ---- constants

-- an immutable type is the type of its global
pub immutable : (g : GlobalType) (ty : ValType) → immutable_type g ≡ Some ty → g.ty ≡ ty
immutable g ty e = by g.mutable e
  where
    by : (b : Bool) → cond b None (Some g.ty) ≡ Some ty → g.ty ≡ ty
    by true e' = cc
    by false e' = cc

module _ (m : Module) (imported : List Val)
    (values : AreValues (func_count m) (map (λ global. global.ty) (imported_globals m)) imported) where
  instr_value : (i : Instr) (t : ValType) (other : Val) → constant_type m i ≡ Some t
      → IsValue (func_count m) t (constant imported other (i ∷ End ∷ []))
  instr_value (Const value) t other h =
      let p = cond_some (is_constant value) value.ty t h in
      subst (λ u. IsValue (func_count m) u value) p.1 (constant_value (func_count m) value p.0)
  instr_value (GlobalGet x) t other h =
      let g = and_then_some (slice_get (imported_globals m) x) immutable_type t h in
      let own : g.0.ty ≡ t = immutable g.0 t g.2 in
      let v = value_at (func_count m) (map (λ global. global.ty) (imported_globals m)) imported x g.0.ty values
      (slice_get-map (λ global. global.ty) (imported_globals m) x ∙ ap (option_map (λ global. global.ty)) g.1) in
      subst (λ o. IsValue (func_count m) t (unwrap_or o other)) (sym v.1)
      (subst (λ u. IsValue (func_count m) u v.0) own v.2)
  instr_value i t other h = cc

  constant_fits : (t : ValType) (body : List Instr) (other : Val) → IsConstant m t body
      → IsValue (func_count m) t (constant imported other body)
  constant_fits t body other h =
      let i = and_then_some (single body) (constant_type m) t h in
      subst (λ l. IsValue (func_count m) t (constant imported other l)) (sym (single_is body i.0 i.1))
      (instr_value i.0 t other i.2)

  globals_fit : (globals : List Global) → All (IsGlobal m) globals
      → AreValues (func_count m) (map (λ g. g.ty.ty) globals) (map (global_value imported) globals)
  globals_fit [] all = tt
  globals_fit (g ∷ globals) all =
      let own = All-head (IsGlobal m) g globals all in (
        constant_fits g.ty.ty g.init (zero_of g.ty.ty) own.init,
        globals_fit globals
            (All-tail (IsGlobal m) g globals all),
      )

-- ---- before the segments

own_within : (size range : ℕ) (max : Option ℕ) → IfSome max (λ most. (most ≤ range) × (size ≤ most))
    → is_within size max ≡ true
own_within size range None h = refl
own_within size range (Some max) h = le-leb size max h.1

-- the properties of supplied limits that match
record Matched (most : ℕ) (given wanted : Limits) : Type 0 where
  least : wanted.min ≤ given.min
  within : is_within given.min given.max ≡ true
  most_is : given.min ≤ most

matched : (most : ℕ) (given wanted : Limits) → limits_match most given wanted ≡ true → Matched most given wanted
matched most given wanted h =
    let p = and_parts (nat_le wanted.min given.min && keeps_max given.max wanted.max && is_within given.min given.max)
    (nat_le given.min most) h in
    let q = and_parts (nat_le wanted.min given.min && keeps_max given.max wanted.max) (is_within given.min given.max)
    p.0 in
    let r = and_parts (nat_le wanted.min given.min) (keeps_max given.max wanted.max) q.0 in
    record { least = leb-true wanted.min given.min r.0; within = q.1; most_is = leb-true given.min most p.1 }

new_memory_fits : (wanted given : Limits) → wanted.min ≤ given.min → is_within given.min given.max ≡ true
    → given.min ≤ MAX_PAGES → IsMemory wanted (new_memory given)
new_memory_fits wanted given least within most =
    let size : length (zeros (given.min * PAGE_SIZE)) ≡ given.min * PAGE_SIZE =
    length-replicate {A = ℕ} (given.min * PAGE_SIZE) 0 in
    let count : given.min ≡ length (zeros (given.min * PAGE_SIZE)) / PAGE_SIZE = omega (arith, size) in
    record {
      bytes = All-replicate (λ byte. byte < 256) (given.min * PAGE_SIZE) 0 (omega arith);
      whole = subst (λ k. length (zeros (given.min * PAGE_SIZE)) ≡ k * PAGE_SIZE) count size;
      least = subst (λ k. wanted.min ≤ k) count least;
      within = subst (λ k. IsTrue (is_within k given.max)) count within;
      most = subst (λ k. k ≤ MAX_PAGES) count most;
    }

new_table_fits : (n : ℕ) (wanted given : Limits) → wanted.min ≤ given.min → is_within given.min given.max ≡ true
    → given.min ≤ MAX_ENTRIES → IsTable n wanted (new_table given)
new_table_fits n wanted given least within most =
    let none : Option ℕ = None in
    let size : given.min ≡ length (replicate given.min none) = sym (length-replicate given.min none) in
    record {
      entries = All-replicate (λ (entry : Option ℕ). IfSome entry (λ func. func < n)) given.min none tt;
      least = subst (λ k. wanted.min ≤ k) size least;
      within = subst (λ k. IsTrue (is_within k given.max)) size within;
      most = subst (λ k. k ≤ MAX_ENTRIES) size most;
    }

memory_begins : (imports defined : List Limits) (supplied : Option Limits) → Match MAX_PAGES imports supplied
    → All (IsLimits (2 ^ 16)) defined → All (λ limits. limits.min ≤ MAX_PAGES) (imports ++ defined)
    → MayBeMemory (imports ++ defined) (option_map new_memory (limits_of imports supplied defined))
memory_begins [] [] supplied match' valid small = tt
memory_begins [] (own ∷ more) supplied match' valid small =
    new_memory_fits own own (omega arith)
    (own_within own.min (2 ^ 16) own.max (All-head (IsLimits (2 ^ 16)) own more valid).max)
    (All-head (λ limits. limits.min ≤ MAX_PAGES) own more small)
memory_begins (wanted ∷ imports) defined None match' valid small = absurd match'
memory_begins (wanted ∷ imports) defined (Some given) match' valid small =
    let p = matched MAX_PAGES given wanted match' in
    new_memory_fits wanted given p.least p.within p.most_is

table_begins : (n : ℕ) (imports defined : List Limits) (supplied : Option Limits)
    → Match MAX_ENTRIES imports supplied → All (IsLimits (2 ^ 32)) defined
    → All (λ limits. limits.min ≤ MAX_ENTRIES) (imports ++ defined)
    → MayBeTable n (imports ++ defined) (option_map new_table (limits_of imports supplied defined))
table_begins n [] [] supplied match' valid small = tt
table_begins n [] (own ∷ more) supplied match' valid small =
    new_table_fits n own own (omega arith)
    (own_within own.min (2 ^ 32) own.max (All-head (IsLimits (2 ^ 32)) own more valid).max)
    (All-head (λ limits. limits.min ≤ MAX_ENTRIES) own more small)
table_begins n (wanted ∷ imports) defined None match' valid small = absurd match'
table_begins n (wanted ∷ imports) defined (Some given) match' valid small =
    let p = matched MAX_ENTRIES given wanted match' in
    new_table_fits n wanted given p.least p.within p.most_is

-- ---- segments

replaced_fits : {X : Type 0} (P : X → Type 0) (items news : List X) (at : ℕ) → All P items → All P news
    → at + length news ≤ length items → All P (with_items_at items at news)
    × (length (with_items_at items at news) ≡ length items)
replaced_fits P items news at all more within = (
  All-append P (take at items) (news ++ drop (at + length news) items) (All-take P at items all)
      (All-append P news (drop (at + length news) items) more (All-drop P (at + length news) items all)),
  omega (
    arith,
    length-append (take at items) (news ++ drop (at + length news) items),
    length-append news
        (drop (at + length news) items),
    length-take at items,
    length-drop (at + length news) items,
  ),
)

-- each test of a list passes
abbrev ArePassed : List Bool → Type 0
ArePassed [] = Unit {0}
ArePassed (b ∷ bs) = (b ≡ true) × ArePassed bs

first_passed : (at : ℕ) (bs : List Bool) → first_false at bs ≡ None → ArePassed bs
first_passed at [] h = tt
first_passed at (true ∷ bs) h = (refl, first_passed (at + 1) bs h)
first_passed at (false ∷ bs) h = cc

passed_parts : (bs cs : List Bool) → ArePassed (bs ++ cs) → ArePassed bs × ArePassed cs
passed_parts [] cs h = (tt, h)
passed_parts (b ∷ bs) cs h = let p = passed_parts bs cs h.1 in ((h.0, p.0), p.1)

module _ (m : Module) (imported : List Val) (store : Store) where
  datas_fit : (datas : List DataSeg) → ArePassed (map (data_fits imported store) datas)
      → All (λ segment. All (λ byte. byte < 256) segment.bytes) datas
      → (bytes : List ℕ) → All (λ byte. byte < 256) bytes → length bytes ≡ memory_length store.memory
      → All (λ byte. byte < 256) (fold (with_data imported) bytes datas)
      × (length (fold (with_data imported) bytes datas) ≡ length bytes)
  datas_fit [] passed each bytes all size = (all, refl)
  datas_fit (segment ∷ datas) passed each bytes all size =
      let within : offset_of imported segment.offset + length segment.bytes ≤ length bytes =
      omega (
        arith,
        size,
        leb-true (offset_of imported segment.offset + length segment.bytes)
            (memory_length store.memory) passed.0,
      ) in
      let own = replaced_fits (λ byte. byte < 256) bytes segment.bytes (offset_of imported segment.offset) all
      (All-head (λ s. All (λ byte. byte < 256) s.bytes) segment datas each) within in
      let later = datas_fit datas passed.1 (All-tail (λ s. All (λ byte. byte < 256) s.bytes) segment datas each)
      (with_data imported bytes segment) own.0 (own.1 ∙ size) in
      (later.0, later.1 ∙ own.1)

  funcs_fit : (funcs : List ℕ) → AreFuncs m funcs
      → All (λ (entry : Option ℕ). IfSome entry (λ func. func < func_count m)) (map (λ func. Some func) funcs)
  funcs_fit funcs all =
      All-map (λ (entry : Option ℕ). IfSome entry (λ func. func < func_count m)) (λ func. Some func) funcs all

  elems_fit : (elems : List ElemSeg) → ArePassed (map (elem_fits imported store) elems) → All (IsElem m) elems
      → (entries : List (Option ℕ)) → All (λ entry. IfSome entry (λ func. func < func_count m)) entries
      → length entries ≡ table_length store.table
      → All (λ entry. IfSome entry (λ func. func < func_count m)) (fold (with_elem imported) entries elems)
      × (length (fold (with_elem imported) entries elems) ≡ length entries)
  elems_fit [] passed each entries all size = (all, refl)
  elems_fit (Active table offset funcs ∷ elems) passed each entries all size =
      let valid = All-head (IsElem m) (Active table offset funcs) elems each in
      let within : offset_of imported offset + length (map (λ func. Some func) funcs) ≤ length entries =
      omega (
        arith,
        size,
        length-map funcs (λ func. Some func),
        leb-true
            (offset_of imported offset + length funcs) (table_length store.table) passed.0,
      ) in
      let own = replaced_fits (λ (entry : Option ℕ). IfSome entry (λ func. func < func_count m)) entries
      (map (λ func. Some func) funcs) (offset_of imported offset) all (funcs_fit funcs valid.2) within in
      let later = elems_fit elems passed.1 (All-tail (IsElem m) (Active table offset funcs) elems each)
      (with_items_at entries (offset_of imported offset) (map (λ func. Some func) funcs)) own.0 (own.1 ∙ size) in
      (later.0, later.1 ∙ own.1)
  elems_fit (Declared funcs ∷ elems) passed each entries all size =
      elems_fit elems passed.1 (All-tail (IsElem m) (Declared funcs) elems each) entries all size

table_written : (n : ℕ) (limits : Limits) (table : Table) (new : List (Option ℕ)) → IsTable n limits table
    → All (λ entry. IfSome entry (λ func. func < n)) new → length new ≡ length table.entries
    → IsTable n limits (record table { entries = new })
table_written n limits table new good all size = record {
  entries = all;
  least = subst (λ k. limits.min ≤ k) (sym size) good.least;
  within = subst (λ k. IsTrue (is_within k table.max)) (sym size) good.within;
  most = subst (λ k. k ≤ MAX_ENTRIES) (sym size) good.most;
}

memory_filled : (m : Module) (imported : List Val) (datas : List DataSeg) (store : Store) (limits : List Limits)
    (o : Option Memory) → store.memory ≡ o → MayBeMemory limits o → ArePassed (map (data_fits imported store) datas)
    → All (λ segment. All (λ byte. byte < 256) segment.bytes) datas
    → MayBeMemory limits (option_map (with_datas imported datas) o)
memory_filled m imported datas store [] None is may passed each = tt
memory_filled m imported datas store [] (Some memory) is may passed each = absurd may
memory_filled m imported datas store (l ∷ limits) None is may passed each = absurd may
memory_filled m imported datas store (l ∷ limits) (Some memory) is may passed each =
    let p = datas_fit m imported store datas passed each memory.bytes may.bytes (sym (ap memory_length is)) in
    memory_written l memory (fold (with_data imported) memory.bytes datas) may p.0 p.1

table_filled : (m : Module) (imported : List Val) (elems : List ElemSeg) (store : Store) (limits : List Limits)
    (o : Option Table) → store.table ≡ o → MayBeTable (func_count m) limits o
    → ArePassed (map (elem_fits imported store) elems)
    → All (IsElem m) elems → MayBeTable (func_count m) limits (option_map (with_elems imported elems) o)
table_filled m imported elems store [] None is may passed each = tt
table_filled m imported elems store [] (Some table) is may passed each = absurd may
table_filled m imported elems store (l ∷ limits) None is may passed each = absurd may
table_filled m imported elems store (l ∷ limits) (Some table) is may passed each =
    let p = elems_fit m imported store elems passed each table.entries may.entries (sym (ap table_length is)) in
    table_written (func_count m) l table (fold (with_elem imported) table.entries elems) may p.0 p.1

unfit_none : (o : Option ℕ) (made store : Store) → store_unless o made ≡ Ok store → (o ≡ None) × (made ≡ store)
unfit_none None made store h = (refl, cc)
unfit_none (Some number) made store h = cc

pub store_fits : (m : Module) (supply : Supply) (store : Store) → IsValid m → IsSupported m → HasBytes m
    → IsSupply m supply → instantiate m supply ≡ Ok store → IsStore m store
store_fits m supply store valid supported bytes matches made =
    let initial = new_store m supply in
    let p = unfit_none (first_unfit m supply.globals initial) (with_segments m supply.globals initial) store made in
    let passed =
    passed_parts (map (elem_fits supply.globals initial) m.elems) (map (data_fits supply.globals initial) m.datas)
    (first_passed 0 (map (elem_fits supply.globals initial) m.elems ++ map (data_fits supply.globals initial) m.datas)
    p.0) in
    let memory =
    memory_begins (of_kind memory_import m.imports) m.memories supply.memory matches.memory valid.outside.memories
    (small_memories m supported) in
    let table = table_begins (func_count m) (of_kind table_import m.imports) m.tables supply.table matches.table
    valid.outside.tables (small_tables m supported) in
    let types = map-append (λ (g : GlobalType). g.ty) (imported_globals m) (map (λ g. g.ty) m.globals) in
    let own : IsStore m (with_segments m supply.globals initial) = record {
      memory = memory_filled m supply.globals m.datas initial (all_memories m) initial.memory refl memory passed.1
          bytes;
      table = table_filled m supply.globals m.elems initial (all_tables m) initial.table refl table passed.0
          valid.outside.elems;
      globals = subst (λ ts. AreValues (func_count m) ts initial.globals)
          (sym (types ∙ ap (λ l. map (λ (g : GlobalType). g.ty) (imported_globals m) ++ l) (map_map m.globals)))
          (append_values (func_count m) (map (λ g. g.ty) (imported_globals m)) (map (λ g. g.ty.ty) m.globals)
          supply.globals (map (global_value supply.globals) m.globals) matches.globals
          (globals_fit m supply.globals matches.globals m.globals valid.outside.globals));
    } in
    subst (IsStore m) p.1 own
  where
    map_map : (globals : List Global) → map (λ (g : GlobalType). g.ty) (map (λ (g : Global). g.ty) globals)
        ≡ map (λ g. g.ty.ty) globals
    map_map [] = refl
    map_map (g ∷ globals) = ap (λ l. g.ty.ty ∷ l) (map_map globals)
