-- Linked modules are valid.
use Rattle.std.proofs.Common.{◌≡◌, ℕ, zero, suc, ◌<◌, ◌≤◌, List, [], ◌∷◌, length, map, reverse, Option, Some, None, true, not, nat_lt, nat_le, nat_eq, slice_get, option_map, All, refl, ap, ◌∙◌, arith}
use Rattle.std.specs.Prelude.{IfSome, is_some}
use Rattle.std.specs.List.{list_any}
use Rattle.std.specs.Option.{option_or}
use Rattle.std.proofs.lemmas.Bool.Decides.{nat_tests}
use Rattle.std.proofs.lemmas.List.Elements.{All-append, All-filter, All-map, All-weaker}
use Rattle.std.proofs.lemmas.Option.{slice_get_within}
use Rattle.base.proofs.Booleans.{and_parts, and_true}
use Rattle.base.proofs.Lists.{first_there, item_there}
use Rattle.wasm_syntax.specs.declared.values.ValType.TheVariants.{I32}
use Rattle.wasm_syntax.specs.declared.signatures.FuncType.{FuncType}
use Rattle.wasm_syntax.specs.declared.signatures.Limits.{Limits}
use Rattle.wasm_syntax.specs.declared.modules.Module.{Module}
use Rattle.wasm_syntax.specs.declared.modules.Func.{Func}
use Rattle.wasm_syntax.specs.declared.modules.Import.{Import}
use Rattle.wasm_syntax.specs.declared.modules.ImportKind.{ImportKind}
use Rattle.wasm_syntax.specs.declared.modules.ImportKind.TheVariants as import
use Rattle.wasm_syntax.specs.declared.modules.Export.{Export}
use Rattle.wasm_syntax.specs.declared.modules.ExportKind.{ExportKind}
use Rattle.wasm_syntax.specs.declared.modules.ExportKind.TheVariants as export
use Rattle.wasm_syntax.specs.declared.modules.ElemSeg.{ElemSeg}
use Rattle.wasm_syntax.specs.declared.modules.ElemSeg.TheVariants.{Active, Declared}
use Rattle.wasm_syntax.specs.declared.modules.DataSeg.{DataSeg}
use Rattle.wasm_syntax.specs.Index.{func_indices, all_tables, all_memories, all_globals}
use Rattle.wasm_syntax.specs.Validity.{IsFuncType, IsTable, IsMemory, IsImport, IsDeclaredFunc, IsGlobal, IsStart, IsElem, IsData, IsThere, IsValidOutside, IsTypedFunc, IsValid, declared_funcs, body_context}
use Rattle.instance_spec.specs.declared.sides.Side.{Side}
use Rattle.instance_spec.specs.declared.sides.Side.TheVariants.{Left, Right}
use Rattle.instance_spec.specs.Instances.{Instance}
use Rattle.instance_spec.specs.Renamed.{renamed_nest}
use Rattle.instance_laws.specs.Typings.{KeepsTypes, TypingsAreKept}
use Rattle.instance_laws.proofs.Numbers.{is_below}
use Rattle.instance_laws.proofs.RenamedTrees.{body_kept}
use Rattle.pair_spec.specs.declared.faults.PairFault.TheVariants.{TwoMemories, TwoTables}
use Rattle.pair_spec.specs.Pairs.{ModulePair, module_of, is_from_other, host_imports, Tables, Memories}
use Rattle.pair_spec.specs.Numbers.{count_in, side_instance}
use Rattle.pair_spec.specs.Linked.{linked_import, linked_import_kind, linked_func, linked_global, linked_export, linked_export_kind, linked_elem, linked_data, linked}
use Rattle.pair_spec.specs.Faults.{fault_unless, first_import_fault}
use Rattle.pair_laws.specs.Laws.{AreLinkable}
use Rattle.pair_laws.specs.LinkedLaws.{HaveFewTypes, LinkedAreValid}
use Rattle.pair_laws.proofs.Chains.{or_none, passes}
use Rattle.pair_laws.proofs.LinkedItems.{linked_counted}
use Rattle.pair_laws.proofs.LinkedSpaces.{table_space, memory_space, kept, types_of_side, tables_whole, memories_whole, type_linked, index_linked, func_linked, table_linked, memory_linked, global_linked}
use Rattle.pair_laws.proofs.Constants.{valid_side}
use Rattle.pair_laws.proofs.LinkedConstants.{constant_linked}
use Rattle.pair_laws.proofs.LinkedExports.{names_linked, declared_linked}

-- an index in a list of one item at most
first_only : {X : Type 0} (xs : List X) (x : ℕ) → length xs ≤ 1 → is_some (slice_get xs x) ≡ true → x ≡ 0
first_only [] x few h = cc
first_only (k ∷ xs) zero few h = omega arith
first_only (k ∷ []) (suc x) few h = cc
first_only (k ∷ j ∷ xs) (suc x) few h = absurd (omega (arith, few))

some_there : {X : Type 0} (o : Option X) → is_some o ≡ true → (x : X) × (o ≡ Some x)
some_there None h = cc
some_there (Some x) h = (x, refl)

module _ (kept_typings : TypingsAreKept) (pair : ModulePair) (linkable : AreLinkable pair) (few : HaveFewTypes pair) where
  abbrev whole : Module
  whole = linked pair

  module _ (side : Side) where
    abbrev m : Module
    m = module_of pair side

    abbrev i : Instance
    i = side_instance pair side

    valid : IsValid m
    valid = valid_side pair linkable side

    -- ---- indices

    type_there : (t : ℕ) → t < length m.types → i.types t < length whole.types
    type_there t low =
        let found = item_there m.types t low in
        slice_get_within whole.types (i.types t) found.0 (type_linked pair few side t found.0 found.1)

    func_there : (f : ℕ) → f < length (func_indices m) → i.funcs f < length (func_indices whole)
    func_there f low =
        let found = item_there (func_indices m) f low in
        let own = index_linked pair linkable.no_fault side f found.0 found.1 in
        slice_get_within (func_indices whole) (i.funcs f) (types_of_side pair own.0 own.1) own.2

    global_there : (x : ℕ) → x < length (all_globals m) → i.globals x < length (all_globals whole)
    global_there x low =
        let found = item_there (all_globals m) x low in
        slice_get_within (all_globals whole) (i.globals x) found.0
        (global_linked pair linkable.no_fault side x found.0 found.1)

    table_there : (x : ℕ) → x < length (all_tables m) → 0 < length (all_tables whole)
    table_there x low =
        let found = item_there (all_tables m) x low in table_linked pair linkable.no_fault side x found.0 found.1

    memory_there : (x : ℕ) → x < length (all_memories m) → 0 < length (all_memories whole)
    memory_there x low =
        let found = item_there (all_memories m) x low in memory_linked pair linkable.no_fault side x found.0 found.1

    -- ---- one body

    has_table_kept : (x : ℕ) → is_some (slice_get (all_tables m) x) ≡ true
        → is_some (slice_get (all_tables whole) x) ≡ true
    has_table_kept x h =
        let own = some_there (slice_get (all_tables m) x) h in
        let low = slice_get_within (all_tables m) x own.0 own.1 in
        let zero = first_only (all_tables m) x valid.outside.one_table h in
        ap (λ y. is_some (slice_get (all_tables whole) y)) zero ∙ first_there (all_tables whole) (table_there x low)

    has_memory_kept : is_some (slice_get (all_memories m) 0) ≡ true → is_some (slice_get (all_memories whole) 0) ≡ true
    has_memory_kept h =
        let own = some_there (slice_get (all_memories m) 0) h in
        let low = slice_get_within (all_memories m) 0 own.0 own.1 in
        first_there (all_memories whole) (memory_there 0 low)

    holds : (ty : FuncType) (f : Func) → KeepsTypes i (body_context m ty f) (body_context whole ty (linked_func i f))
    holds ty f =
        record {
          funcs = func_linked pair linkable.no_fault few side;
          types = type_linked pair few side;
          globals = global_linked pair linkable.no_fault side;
          tables = has_table_kept;
          memories = has_memory_kept;
          declared = λ x h.
              let both = and_parts (nat_lt x (length (func_indices m))) (list_any (nat_eq x) (declared_funcs m)) h in
              let low = both.0 in
              and_true (nat_lt (i.funcs x) (length (func_indices whole)))
              (list_any (nat_eq (i.funcs x)) (declared_funcs whole))
              (is_below (i.funcs x) (length (func_indices whole)) (func_there x (grind (arith, nat_tests, low))))
              (declared_linked pair side x both.1);
        }

    typed : (f : Func) → IsTypedFunc m f → IsTypedFunc whole (linked_func i f)
    typed f h =
        record {
          ty = h.ty;
          nest = renamed_nest i h.nest;
          has_type = type_linked pair few side f.ty h.ty h.has_type;
          is_body = body_kept i h.nest f.body h.is_body;
          typed =
              kept_typings i (body_context m h.ty f) (body_context whole h.ty (linked_func i f)) h.nest []
              (reverse h.ty.results) (holds h.ty f) h.typed;
        }

    -- ---- the parts

    kind_there : (kind : ExportKind) → IsThere m kind → IsThere whole (linked_export_kind i kind)
    kind_there (export.Func x) h = func_there x h
    kind_there (export.Table x) h = table_there x h
    kind_there (export.Memory x) h = memory_there x h
    kind_there (export.Global x) h = global_there x h

    import_kept : (kind : ImportKind) → IsImport m kind → IsImport whole (linked_import_kind i kind)
    import_kept (import.Func ty) h = type_there ty h
    import_kept (import.Table limits) h = h
    import_kept (import.Memory limits) h = h
    import_kept (import.Global ty) h = h

    funcs_there : (funcs : List ℕ) → All (λ f. f < length (func_indices m)) funcs
        → All (λ f. f < length (func_indices whole)) (map i.funcs funcs)
    funcs_there funcs h =
        All-map (λ f. f < length (func_indices whole)) i.funcs funcs
        (All-weaker (λ f. f < length (func_indices m)) (λ f. i.funcs f < length (func_indices whole)) func_there funcs h)

    elem_kept : (e : ElemSeg) → IsElem m e → IsElem whole (linked_elem pair side e)
    elem_kept (Active table offset funcs) h =
        let low = table_there table h.0 in
        let one = valid.outside.one_table in
        let there = h.0 in
        (omega (arith, there, one, low), constant_linked pair linkable side I32 offset h.1, funcs_there funcs h.2)
    elem_kept (Declared funcs) h = funcs_there funcs h

    data_kept : (d : DataSeg) → IsData m d → IsData whole (linked_data pair side d)
    data_kept d h =
        let there = h.memory in
        let low = memory_there d.memory there in
        let one = valid.outside.one_memory in
        record { memory = omega (arith, there, one, low); offset = constant_linked pair linkable side I32 d.offset h.offset }

    start_kept : (f : ℕ) → IsStart m f → IsStart whole (i.funcs f)
    start_kept f h =
        record {
          ty = h.ty;
          has_type = func_linked pair linkable.no_fault few side f h.ty h.has_type;
          params = h.params;
          results = h.results;
        }

    -- the parts of a side in the linked module
    pub record AreSideParts : Type 0 where
      pub imports : All (λ (x : Import). IsImport whole x.kind) (map (linked_import i) (host_imports side m.imports))
      pub funcs : All (IsDeclaredFunc whole) (map (linked_func i) m.funcs)
      pub globals : All (IsGlobal whole) (map (linked_global pair side) m.globals)
      pub exports : All (λ (x : Export). IsThere whole x.kind) (map (linked_export pair side) m.exports)
      pub elems : All (IsElem whole) (map (linked_elem pair side) m.elems)
      pub datas : All (IsData whole) (map (linked_data pair side) m.datas)
      pub bodies : All (IsTypedFunc whole) (map (linked_func i) m.funcs)

    side_parts : AreSideParts
    side_parts =
        record {
          imports =
              All-map (λ (x : Import). IsImport whole x.kind) (linked_import i) (host_imports side m.imports)
              (All-filter (λ x. not (is_from_other side x))
              (λ (x : Import). IsImport whole (linked_import_kind i x.kind)) m.imports
              (All-weaker (λ (x : Import). IsImport m x.kind)
              (λ (x : Import). IsImport whole (linked_import_kind i x.kind)) (λ x h. import_kept x.kind h) m.imports
              valid.outside.imports));
          funcs =
              All-map (IsDeclaredFunc whole) (linked_func i) m.funcs
              (All-weaker (IsDeclaredFunc m) (λ f. IsDeclaredFunc whole (linked_func i f))
              (λ f h. record { type_there = type_there f.ty h.type_there; locals = h.locals }) m.funcs valid.outside.funcs);
          globals =
              All-map (IsGlobal whole) (linked_global pair side) m.globals
              (All-weaker (IsGlobal m) (λ g. IsGlobal whole (linked_global pair side g))
              (λ g h. record { number = h.number; init = constant_linked pair linkable side g.ty.ty g.init h.init })
              m.globals valid.outside.globals);
          exports =
              All-map (λ (x : Export). IsThere whole x.kind) (linked_export pair side) m.exports
              (All-weaker (λ (x : Export). IsThere m x.kind) (λ (x : Export). IsThere whole (linked_export_kind i x.kind))
              (λ x h. kind_there x.kind h) m.exports valid.outside.exports);
          elems =
              All-map (IsElem whole) (linked_elem pair side) m.elems
              (All-weaker (IsElem m) (λ e. IsElem whole (linked_elem pair side e)) elem_kept m.elems valid.outside.elems);
          datas =
              All-map (IsData whole) (linked_data pair side) m.datas
              (All-weaker (IsData m) (λ d. IsData whole (linked_data pair side d)) data_kept m.datas valid.outside.datas);
          bodies =
              All-map (IsTypedFunc whole) (linked_func i) m.funcs
              (All-weaker (IsTypedFunc m) (λ f. IsTypedFunc whole (linked_func i f)) typed m.funcs valid.bodies);
        }

  -- ---- the module

  starts : (left right : Option ℕ) → IfSome left (IsStart pair.left) → IfSome right (IsStart pair.right)
      → IfSome (option_or (option_map (i Left).funcs left) (option_map (i Right).funcs right)) (IsStart whole)
  starts (Some f) right h k = start_kept Left f h
  starts None (Some f) h k = start_kept Right f k
  starts None None h k = tt

  counts_few : (nat_le (count_in pair Memories) 1 ≡ true) × (nat_le (count_in pair Tables) 1 ≡ true)
  counts_few =
      let left = first_import_fault pair Left 0 pair.left.imports in
      let right = first_import_fault pair Right 0 pair.right.imports in
      let memories = nat_le (count_in pair Memories) 1 in
      let tables = nat_le (count_in pair Tables) 1 in
      let a = or_none left _ linkable.no_fault in
      let b = or_none right _ a.1 in
      let c = or_none (fault_unless memories TwoMemories) _ b.1 in
      let d = or_none (fault_unless tables TwoTables) _ c.1 in
      (passes memories TwoMemories c.0, passes tables TwoTables d.0)

  one_table : length (all_tables whole) ≤ 1
  one_table =
      let test = counts_few.1 in
      let low : count_in pair Tables ≤ 1 = grind (arith, nat_tests, test) in
      let same = ap length (tables_whole pair) in
      let long = linked_counted Limits Tables table_space pair kept in omega (arith, low, same, long)

  one_memory : length (all_memories whole) ≤ 1
  one_memory =
      let test = counts_few.0 in
      let low : count_in pair Memories ≤ 1 = grind (arith, nat_tests, test) in
      let same = ap length (memories_whole pair) in
      let long = linked_counted Limits Memories memory_space pair kept in omega (arith, low, same, long)

  outside : IsValidOutside whole
  outside =
      let left = linkable.left.outside in
      let right = linkable.right.outside in
      let l = side_parts Left in
      let r = side_parts Right in
      record {
        types = All-append IsFuncType pair.left.types pair.right.types left.types right.types;
        imports = All-append (λ (x : Import). IsImport whole x.kind) _ _ l.imports r.imports;
        funcs = All-append (IsDeclaredFunc whole) _ _ l.funcs r.funcs;
        tables = All-append IsTable pair.left.tables pair.right.tables left.tables right.tables;
        memories = All-append IsMemory pair.left.memories pair.right.memories left.memories right.memories;
        globals = All-append (IsGlobal whole) _ _ l.globals r.globals;
        exports = All-append (λ (x : Export). IsThere whole x.kind) _ _ l.exports r.exports;
        names_differ = names_linked pair left.names_differ right.names_differ;
        start = starts pair.left.start pair.right.start left.start right.start;
        elems = All-append (IsElem whole) _ _ l.elems r.elems;
        datas = All-append (IsData whole) _ _ l.datas r.datas;
        one_table = one_table;
        one_memory = one_memory;
      }

  pub whole_valid : IsValid whole
  whole_valid =
      let l = side_parts Left in
      let r = side_parts Right in
      record { outside = outside; bodies = All-append (IsTypedFunc whole) _ _ l.bodies r.bodies }

pub linked_are_valid : TypingsAreKept → LinkedAreValid
linked_are_valid kept_typings pair linkable few = whole_valid kept_typings pair linkable few
