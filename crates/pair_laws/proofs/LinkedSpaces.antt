-- What each index of a side names, in the linked module under its number.
use Rattle.std.proofs.Common.{◌≡◌, ℕ, suc, ◌+◌, ◌<◌, ◌≤◌, ◌^◌, List, [], ◌∷◌, ◌++◌, length, map, Option, Some, None, Bool, true, false, cond, not, slice_get, option_and_then, refl, sym, ap, ◌∙◌, subst, arith}
use Rattle.std.specs.Option.{option_map_or}
use Rattle.std.proofs.lemmas.List.{length-map, map-append, map-id}
use Rattle.std.proofs.lemmas.Option.{slice_get_within}
use Rattle.base.proofs.Booleans.{and_parts}
use Rattle.base.proofs.Lists.{get_front, get_after_by}
use Rattle.base.proofs.Options.{and_then_some}
use Rattle.wasm_syntax.proofs.ValTypes.{type_same, signature_same}
use Rattle.wasm_syntax.specs.Alike.{same_type}
use Rattle.wasm_syntax.specs.declared.signatures.FuncType.{FuncType}
use Rattle.wasm_syntax.specs.declared.signatures.GlobalType.{GlobalType}
use Rattle.wasm_syntax.specs.declared.signatures.Limits.{Limits}
use Rattle.wasm_syntax.specs.declared.modules.Module.{Module}
use Rattle.wasm_syntax.specs.declared.modules.Func.{Func}
use Rattle.wasm_syntax.specs.declared.modules.Global.{Global}
use Rattle.wasm_syntax.specs.declared.modules.Import.{Import}
use Rattle.wasm_syntax.specs.declared.modules.ImportKind.{ImportKind}
use Rattle.wasm_syntax.specs.declared.modules.ImportKind.TheVariants as import
use Rattle.wasm_syntax.specs.Index.{of_kind, func_import, table_import, memory_import, global_import, func_indices, type_at, func_type, all_tables, all_memories, imported_globals, all_globals}
use Rattle.wasm_syntax.proofs.JoinedLists.{kinds_append}
use Rattle.instance_spec.specs.declared.sides.Side.{Side}
use Rattle.instance_spec.specs.declared.sides.Side.TheVariants.{Left, Right}
use Rattle.instance_spec.specs.Instances.{moved_up}
use Rattle.pair_spec.specs.Pairs.{ModulePair, module_of, is_from_other, host_imports, Space, Funcs, Tables, Memories, Globals, imports_in, defined_in}
use Rattle.pair_spec.specs.Chains.{ChainEnd, Defined, HostImport, end_module, end_index, end_by, end_after, end_of}
use Rattle.pair_spec.specs.Numbers.{number_of, no_number, numbers_in, number_at, side_instance}
use Rattle.pair_spec.specs.PairRuns.{pair_hosts}
use Rattle.pair_spec.specs.Linked.{linked_import, linked_func, linked_global, linked}
use Rattle.pair_spec.specs.Faults.{same_global_type, declared_match, is_signature, does_match, first_pair_fault}
use Rattle.pair_laws.proofs.Imports.{is_func, is_table, is_memory, is_global, tables_kept, memories_kept, globals_kept}
use Rattle.pair_laws.proofs.LinkedCode.{types_are}
use Rattle.pair_laws.proofs.Chains.{IsEnd, end_side, ends_are, own_end, import_end, no_import_fault}
use Rattle.pair_laws.proofs.LinkedItems.{ItemSpace, items_of, items_counted, import_item, linked_items, at_end, mapped_at}

-- ---- equal types

tests_equal : (a b : Bool) → cond a b (not b) ≡ true → a ≡ b
tests_equal true true h = refl
tests_equal true false h = cc
tests_equal false true h = cc
tests_equal false false h = refl

global_equal : (a b : GlobalType) → same_global_type a b ≡ true → a ≡ b
global_equal a b h =
    let parts = and_parts (same_type a.ty b.ty) (cond a.mutable b.mutable (not b.mutable)) h in
    let ty = type_same a.ty b.ty parts.0 in
    let mutable = tests_equal a.mutable b.mutable parts.1 in
    (λ j. record { ty = ty j; mutable = mutable j })

-- ---- the ends of chains

-- the number of an index
pub number_is : (pair : ModulePair) (space : Space) (side : Side) (x : ℕ) (e : ChainEnd)
    → x < length (imports_in space (module_of pair side)) + defined_in space (module_of pair side)
    → end_of pair space side x ≡ Some e → number_at (numbers_in pair space side) x ≡ number_of pair space e
number_is pair space side x e low is =
    let none : 0 + x ≡ x = omega arith in
    mapped_at (λ x. option_map_or (number_of pair space) (end_of pair space side x) no_number) 0
    (length (imports_in space (module_of pair side)) + defined_in space (module_of pair side)) x no_number low
    ∙ ap (λ x. option_map_or (number_of pair space) (end_of pair space side x) no_number) none
    ∙ ap (λ o. option_map_or (number_of pair space) o no_number) is

end_module_is : (pair : ModulePair) (e : ChainEnd) → end_module pair e ≡ module_of pair (end_side e)
end_module_is pair (Defined side y) = refl
end_module_is pair (HostImport side y) = refl

module _ (K : Type 0) (space : Space) (s : ItemSpace K space) (pair : ModulePair) where
  -- what an end has in the linked module is related to what an import of it asks for
  module _ (Rel : (given wanted : Module) → K → K → Type 0) where
    -- the end of the chain from an item of a side
    pub record IsFound (side : Side) (x : ℕ) (k : K) : Type 0 where
      pub found : ChainEnd
      pub is : end_of pair space side x ≡ Some found
      pub is_end : IsEnd pair space found
      pub item : K
      pub there : slice_get (items_of K space s (end_module pair found)) (end_index found) ≡ Some item
      pub related : Rel (end_module pair found) (module_of pair side) item k

    abbrev pub IsMatched : Side → Import → ChainEnd → K → Type 0
    IsMatched side i e k =
        (item : K) × (slice_get (items_of K space s (end_module pair e)) (end_index e) ≡ Some item)
        × Rel (end_module pair e) (module_of pair side) item k

    module _ (none : first_pair_fault pair ≡ None) (own_related : (m : Module) (k : K) → Rel m m k k)
        (matched : (side : Side) (i : Import) (e : ChainEnd) (k : K) → s.pick i.kind ≡ Some k
        → does_match pair side i.kind e ≡ true → IsMatched side i e k) where
      pub found_by : (side : Side) (x : ℕ) (k : K) → slice_get (items_of K space s (module_of pair side)) x ≡ Some k
          → IsFound side x k
      found_by side x k h = by (slice_get (imports_in space (module_of pair side)) x) refl
        where
          all : ℕ
          all = length pair.left.imports + length pair.right.imports

          more : length pair.left.imports + length pair.right.imports + 1
              ≡ suc (length pair.left.imports + length pair.right.imports)
          more = omega arith

          of_import : (i : Import) → slice_get (imports_in space (module_of pair side)) x ≡ Some i → (b : Bool)
              → is_from_other side i ≡ b → IsFound side x k
          of_import i there true from =
              let own = import_end pair side (no_import_fault pair none side) space x i there from in
              let picked : s.pick i.kind ≡ Some k = sym (import_item K space s (module_of pair side) x i there) ∙ h in
              let match = matched side i own.found k picked own.matches in
              record {
                found = own.found;
                is = own.is;
                is_end =
                    ends_are pair space (length pair.left.imports + length pair.right.imports + 1) side x own.found own.is;
                item = match.0;
                there = match.1;
                related = match.2;
              }
          of_import i there false mine =
              record {
                found = HostImport side x;
                is =
                    ap (λ k. end_after k pair space side x) more
                    ∙ own_end pair space (length pair.left.imports + length pair.right.imports) side x i there mine;
                is_end = (i, there, mine);
                item = k;
                there = h;
                related = own_related (module_of pair side) k;
              }

          by : (o : Option Import) → slice_get (imports_in space (module_of pair side)) x ≡ o → IsFound side x k
          by None nothing =
              record {
                found = Defined side x;
                is =
                    ap (λ k. end_after k pair space side x) more
                    ∙ ap (end_by (end_after (length pair.left.imports + length pair.right.imports) pair space) pair space side x) nothing;
                is_end = nothing;
                item = k;
                there = h;
                related = own_related (module_of pair side) k;
              }
          by (Some i) there = of_import i there (is_from_other side i) refl

      -- what the linked module has under the number of an index
      pub linked_there : (number : Side → K → K) (side : Side) (x : ℕ) (k : K)
          (h : slice_get (items_of K space s (module_of pair side)) x ≡ Some k)
          → slice_get (linked_items K space s pair number) (number_at (numbers_in pair space side) x)
          ≡ Some (number (end_side (found_by side x k h).found) (found_by side x k h).item)
      linked_there number side x k h =
          let own = found_by side x k h in
          let within = slice_get_within (items_of K space s (module_of pair side)) x k h in
          let long = items_counted K space s (module_of pair side) in
          ap (slice_get (linked_items K space s pair number))
          (number_is pair space side x own.found (omega (arith, within, long)) own.is)
          ∙ at_end K space s pair number own.found own.item own.is_end own.there

-- ---- the four spaces

abbrev pub func_space : ItemSpace ℕ Funcs
func_space =
    record {
      pick = func_import;
      same = is_func;
      own = λ m. map (λ (f : Func). f.ty) m.funcs;
      counts = λ m. length-map m.funcs (λ (f : Func). f.ty);
    }

abbrev pub table_space : ItemSpace Limits Tables
table_space = record { pick = table_import; same = is_table; own = λ m. m.tables; counts = λ m. refl }

abbrev pub memory_space : ItemSpace Limits Memories
memory_space = record { pick = memory_import; same = is_memory; own = λ m. m.memories; counts = λ m. refl }

abbrev pub global_space : ItemSpace GlobalType Globals
global_space =
    record {
      pick = global_import;
      same = is_global;
      own = λ m. map (λ (g : Global). g.ty) m.globals;
      counts = λ m. length-map m.globals (λ (g : Global). g.ty);
    }

-- an end has the type that an import of it asks for
abbrev pub HasType : (given wanted : Module) → ℕ → ℕ → Type 0
HasType given wanted item t = (ty : FuncType) → type_at wanted t ≡ Some ty → type_at given item ≡ Some ty

abbrev pub IsSame : (given wanted : Module) → GlobalType → GlobalType → Type 0
IsSame given wanted item k = item ≡ k

abbrev pub IsThereToo : (given wanted : Module) → Limits → Limits → Type 0
IsThereToo given wanted item k = Unit {0}

passed_there : {X : Type 0} (test : X → Bool) (o : Option X) → option_map_or test o false ≡ true
    → (x : X) × (o ≡ Some x) × (test x ≡ true)
passed_there test None h = cc
passed_there test (Some x) h = (x, refl, h)

signed : (o w : Option FuncType) → is_signature o w ≡ true
    → (ty : FuncType) × (o ≡ Some ty) × (w ≡ Some ty)
signed o None h = cc
signed None (Some wanted) h = cc
signed (Some given) (Some wanted) h = (given, refl, ap (λ t. Some t) (sym (signature_same given wanted h)))

module _ (pair : ModulePair) (side : Side) (e : ChainEnd) where
  abbrev given : Module
  given = end_module pair e

  abbrev wanted : Module
  wanted = module_of pair side

  func_matched : (kind : ImportKind) (t : ℕ) → func_import kind ≡ Some t → does_match pair side kind e ≡ true
      → (item : ℕ) × (slice_get (func_indices given) (end_index e) ≡ Some item) × HasType given wanted item t
  func_matched (import.Func ty) t is h =
      let same : ty ≡ t = cc in
      let own = signed (func_type given (end_index e)) (type_at wanted ty) h in
      let found = and_then_some (slice_get (func_indices given) (end_index e)) (type_at given) own.0 own.1 in (
        found.0,
        found.1,
        λ asked is_asked.
            found.2 ∙ sym own.2 ∙ ap (type_at wanted) same ∙ is_asked,
      )
  func_matched (import.Table limits) t is h = cc
  func_matched (import.Memory limits) t is h = cc
  func_matched (import.Global ty) t is h = cc

  table_matched : (kind : ImportKind) (k : Limits) → table_import kind ≡ Some k → does_match pair side kind e ≡ true
      → (item : Limits) × (slice_get (all_tables given) (end_index e) ≡ Some item) × Unit {0}
  table_matched (import.Func ty) k is h = cc
  table_matched (import.Table limits) k is h =
      let own = passed_there (λ given. declared_match given limits) (slice_get (all_tables given) (end_index e)) h in
      (own.0, own.1, tt)
  table_matched (import.Memory limits) k is h = cc
  table_matched (import.Global ty) k is h = cc

  memory_matched : (kind : ImportKind) (k : Limits) → memory_import kind ≡ Some k → does_match pair side kind e ≡ true
      → (item : Limits) × (slice_get (all_memories given) (end_index e) ≡ Some item) × Unit {0}
  memory_matched (import.Func ty) k is h = cc
  memory_matched (import.Table limits) k is h = cc
  memory_matched (import.Memory limits) k is h =
      let own = passed_there (λ given. declared_match given limits) (slice_get (all_memories given) (end_index e)) h in
      (own.0, own.1, tt)
  memory_matched (import.Global ty) k is h = cc

  global_matched : (kind : ImportKind) (k : GlobalType) → global_import kind ≡ Some k
      → does_match pair side kind e ≡ true
      → (item : GlobalType) × (slice_get (all_globals given) (end_index e) ≡ Some item) × (item ≡ k)
  global_matched (import.Func ty) k is h = cc
  global_matched (import.Table limits) k is h = cc
  global_matched (import.Memory limits) k is h = cc
  global_matched (import.Global ty) k is h =
      let own = passed_there (λ given. same_global_type given ty) (slice_get (all_globals given) (end_index e)) h in
      let same : ty ≡ k = cc in
      (own.0, own.1, global_equal own.0 ty own.2 ∙ same)

module _ (pair : ModulePair) where
  pub funcs_match : (side : Side) (i : Import) (e : ChainEnd) (k : ℕ) → func_import i.kind ≡ Some k
      → does_match pair side i.kind e ≡ true → IsMatched ℕ Funcs func_space pair HasType side i e k
  funcs_match side i e k is h = func_matched pair side e i.kind k is h

  pub tables_match : (side : Side) (i : Import) (e : ChainEnd) (k : Limits) → table_import i.kind ≡ Some k
      → does_match pair side i.kind e ≡ true → IsMatched Limits Tables table_space pair IsThereToo side i e k
  tables_match side i e k is h = table_matched pair side e i.kind k is h

  pub memories_match : (side : Side) (i : Import) (e : ChainEnd) (k : Limits) → memory_import i.kind ≡ Some k
      → does_match pair side i.kind e ≡ true → IsMatched Limits Memories memory_space pair IsThereToo side i e k
  memories_match side i e k is h = memory_matched pair side e i.kind k is h

  pub globals_match : (side : Side) (i : Import) (e : ChainEnd) (k : GlobalType) → global_import i.kind ≡ Some k
      → does_match pair side i.kind e ≡ true → IsMatched GlobalType Globals global_space pair IsSame side i e k
  globals_match side i e k is h = global_matched pair side e i.kind k is h

-- ---- the linked module

-- what a side's item is in the linked module, if it is the same
abbrev pub kept : {K : Type 0} → Side → K → K
kept side k = k

kept_whole : {K : Type 0} (a b c d : List K)
    → (a ++ b) ++ (c ++ d) ≡ (map (λ k. k) a ++ map (λ k. k) b) ++ (map (λ k. k) c ++ map (λ k. k) d)
kept_whole a b c d =
    sym (λ j. (map-id a j ++ map-id b j) ++ (map-id c j ++ map-id d j))

module _ (pair : ModulePair) where
  abbrev whole : Module
  whole = linked pair

  abbrev hosts_left : List Import
  hosts_left = host_imports Left pair.left.imports

  abbrev hosts_right : List Import
  hosts_right = host_imports Right pair.right.imports

  abbrev pub types_of_side : Side → ℕ → ℕ
  types_of_side side = (side_instance pair side).types

  typed_funcs : (side : Side) (funcs : List Func)
      → map (λ (f : Func). f.ty) (map (linked_func (side_instance pair side)) funcs)
      ≡ map (types_of_side side) (map (λ (f : Func). f.ty) funcs)
  typed_funcs side [] = refl
  typed_funcs side (f ∷ funcs) = ap (λ types. types_of_side side f.ty ∷ types) (typed_funcs side funcs)

  pub funcs_whole : func_indices whole ≡ linked_items ℕ Funcs func_space pair types_of_side
  funcs_whole =
      (λ j. types_are pair j
      ++ map-append (λ (f : Func). f.ty) (map (linked_func (side_instance pair Left)) pair.left.funcs)
      (map (linked_func (side_instance pair Right)) pair.right.funcs) j)
      ∙ (λ j. (map (types_of_side Left) (of_kind func_import hosts_left)
      ++ map (types_of_side Right) (of_kind func_import hosts_right))
      ++ (typed_funcs Left pair.left.funcs j ++ typed_funcs Right pair.right.funcs j))

  pub tables_whole : all_tables whole ≡ linked_items Limits Tables table_space pair kept
  tables_whole =
      (λ j. kinds_append table_import (map (linked_import (side_instance pair Left)) hosts_left)
      (map (linked_import (side_instance pair Right)) hosts_right) j
      ++ (pair.left.tables ++ pair.right.tables))
      ∙ (λ j. (tables_kept (side_instance pair Left) hosts_left j ++ tables_kept (side_instance pair Right) hosts_right j)
      ++ (pair.left.tables ++ pair.right.tables))
      ∙ kept_whole (of_kind table_import hosts_left) (of_kind table_import hosts_right) pair.left.tables pair.right.tables

  pub memories_whole : all_memories whole ≡ linked_items Limits Memories memory_space pair kept
  memories_whole =
      (λ j. kinds_append memory_import (map (linked_import (side_instance pair Left)) hosts_left)
      (map (linked_import (side_instance pair Right)) hosts_right) j
      ++ (pair.left.memories ++ pair.right.memories))
      ∙ (λ j. (memories_kept (side_instance pair Left) hosts_left j
      ++ memories_kept (side_instance pair Right) hosts_right j)
      ++ (pair.left.memories ++ pair.right.memories))
      ∙ kept_whole (of_kind memory_import hosts_left) (of_kind memory_import hosts_right) pair.left.memories
      pair.right.memories

  typed_globals : (side : Side) (globals : List Global)
      → map (λ (g : Global). g.ty) (map (linked_global pair side) globals) ≡ map (λ (g : Global). g.ty) globals
  typed_globals side [] = refl
  typed_globals side (g ∷ globals) = ap (λ types. g.ty ∷ types) (typed_globals side globals)

  pub imported_globals_whole : imported_globals whole ≡ of_kind global_import (pair_hosts pair)
  imported_globals_whole =
      kinds_append global_import (map (linked_import (side_instance pair Left)) hosts_left)
      (map (linked_import (side_instance pair Right)) hosts_right)
      ∙ (λ j. globals_kept (side_instance pair Left) hosts_left j ++ globals_kept (side_instance pair Right) hosts_right j)
      ∙ sym (kinds_append global_import hosts_left hosts_right)

  pub globals_whole : all_globals whole ≡ linked_items GlobalType Globals global_space pair kept
  globals_whole =
      (λ j. kinds_append global_import (map (linked_import (side_instance pair Left)) hosts_left)
      (map (linked_import (side_instance pair Right)) hosts_right) j
      ++ map-append (λ (g : Global). g.ty) (map (linked_global pair Left) pair.left.globals)
      (map (linked_global pair Right) pair.right.globals) j)
      ∙ (λ j. (globals_kept (side_instance pair Left) hosts_left j
      ++ globals_kept (side_instance pair Right) hosts_right j)
      ++ (typed_globals Left pair.left.globals j ++ typed_globals Right pair.right.globals j))
      ∙ kept_whole (of_kind global_import hosts_left) (of_kind global_import hosts_right)
      (map (λ (g : Global). g.ty) pair.left.globals) (map (λ (g : Global). g.ty) pair.right.globals)

  -- a type of a side, by its number
  pub type_linked : length pair.left.types + length pair.right.types ≤ 2 ^ 32 → (side : Side) (t : ℕ) (ty : FuncType)
      → slice_get (module_of pair side).types t ≡ Some ty → slice_get whole.types (types_of_side side t) ≡ Some ty
  type_linked few Left t ty there =
      let low = slice_get_within pair.left.types t ty there in
      let at : moved_up 0 t ≡ t = omega (arith, low, few) in
      ap (slice_get whole.types) at ∙ get_front pair.left.types pair.right.types t low ∙ there
  type_linked few Right t ty there =
      let low = slice_get_within pair.right.types t ty there in
      let at : moved_up (length pair.left.types) t ≡ length pair.left.types + t = omega (arith, low, few) in
      ap (slice_get whole.types) at
      ∙ get_after_by pair.left.types pair.right.types (length pair.left.types + t) t refl
      ∙ there

  module _ (none : first_pair_fault pair ≡ None) where
    -- a function, by its number
    pub index_linked : (side : Side) (x t : ℕ) → slice_get (func_indices (module_of pair side)) x ≡ Some t
        → (s : Side) × (item : ℕ)
        × (slice_get (func_indices whole) ((side_instance pair side).funcs x) ≡ Some (types_of_side s item))
        × HasType (module_of pair s) (module_of pair side) item t
    index_linked side x t h =
        let matched = funcs_match pair in
        let found = found_by ℕ Funcs func_space pair HasType none (λ m k ty is. is) matched side x t h in (
          end_side found.found,
          found.item,
          ap (λ l. slice_get l ((side_instance pair side).funcs x)) funcs_whole
              ∙ linked_there ℕ Funcs func_space pair HasType none (λ m k ty is. is) matched types_of_side side x t h,
          subst (λ m. HasType m (module_of pair side) found.item t) (end_module_is pair found.found) found.related,
        )

    pub func_linked : length pair.left.types + length pair.right.types ≤ 2 ^ 32 → (side : Side) (x : ℕ) (ty : FuncType)
        → func_type (module_of pair side) x ≡ Some ty → func_type whole ((side_instance pair side).funcs x) ≡ Some ty
    func_linked few side x ty h =
        let own = and_then_some (slice_get (func_indices (module_of pair side)) x) (type_at (module_of pair side)) ty h in
        let found = index_linked side x own.0 own.1 in
        ap (option_and_then (type_at whole)) found.2 ∙ type_linked few found.0 found.1 ty (found.3 ty own.2)

    -- a table and a memory
    pub table_linked : (side : Side) (x : ℕ) (k : Limits) → slice_get (all_tables (module_of pair side)) x ≡ Some k
        → 0 < length (all_tables whole)
    table_linked side x k h =
        let matched = tables_match pair in
        let there = linked_there Limits Tables table_space pair IsThereToo none (λ m k. tt) matched kept side x k h in
        let low = slice_get_within (linked_items Limits Tables table_space pair kept) _ _ there in
        let same = ap length tables_whole in omega (arith, low, same)

    pub memory_linked : (side : Side) (x : ℕ) (k : Limits) → slice_get (all_memories (module_of pair side)) x ≡ Some k
        → 0 < length (all_memories whole)
    memory_linked side x k h =
        let matched = memories_match pair in
        let there = linked_there Limits Memories memory_space pair IsThereToo none (λ m k. tt) matched kept side x k h in
        let low = slice_get_within (linked_items Limits Memories memory_space pair kept) _ _ there in
        let same = ap length memories_whole in omega (arith, low, same)

    -- a global, by its number
    abbrev pub global_found : (side : Side) (x : ℕ) (k : GlobalType) → slice_get (all_globals (module_of pair side)) x ≡ Some k
        → IsFound GlobalType Globals global_space pair IsSame side x k
    global_found side x k h =
        found_by GlobalType Globals global_space pair IsSame none (λ m k. refl)
        (globals_match pair) side x k h

    pub global_linked : (side : Side) (x : ℕ) (k : GlobalType) → slice_get (all_globals (module_of pair side)) x ≡ Some k
        → slice_get (all_globals whole) ((side_instance pair side).globals x) ≡ Some k
    global_linked side x k h =
        let matched = globals_match pair in
        ap (λ l. slice_get l ((side_instance pair side).globals x)) globals_whole
        ∙ linked_there GlobalType Globals global_space pair IsSame none (λ m k. refl) matched kept side x k h
        ∙ ap (λ k. Some k) (global_found side x k h).related
