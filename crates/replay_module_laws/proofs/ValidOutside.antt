-- The replay module of a plan is valid but for the bodies of its functions.
use Rattle.std.proofs.Common.{◌≡◌, ℕ, ◌+◌, ◌<◌, ◌≤◌, List, [], ◌∷◌, ◌++◌, length, refl, sym, ap, ◌∙◌, subst, arith, length-append}
use Rattle.std.specs.Prelude.{get_or, map, nat_eq, IsTrue, All}
use Rattle.std.specs.List.{AllByRecursion, list_any, range_with_len, zip}
use Rattle.std.proofs.lemmas.List.Elements.{All-append, All-cons, All-filter, All-from_recursion, All-map, All-nil, All-replicate, All-weaker, recursion_from_All}
use Rattle.std.proofs.lemmas.List.FromFn.{get_or-range_with_len, length-range_with_len}
use Rattle.wasm_syntax.specs.declared.limits.TheConstants.{MAX_ENTRIES, MAX_PAGES}
use Rattle.wasm_syntax.specs.declared.values.ValType.{ValType}
use Rattle.wasm_syntax.specs.declared.values.ValType.TheVariants.{I32, I64, F32, F64, FuncRef}
use Rattle.wasm_syntax.specs.declared.signatures.GlobalType.{GlobalType}
use Rattle.wasm_syntax.specs.declared.modules.DataSeg.{DataSeg}
use Rattle.wasm_syntax.specs.declared.modules.ElemSeg.{ElemSeg}
use Rattle.wasm_syntax.specs.declared.modules.ElemSeg.TheVariants.{Active, Declared}
use Rattle.wasm_syntax.specs.declared.modules.Export.{Export}
use Rattle.wasm_syntax.specs.declared.modules.Import.{Import}
use Rattle.wasm_syntax.specs.declared.modules.Func.{Func}
use Rattle.wasm_syntax.specs.declared.modules.Module.{Module}
use Rattle.wasm_syntax.specs.declared.modules.Run.{Run}
use Rattle.wasm_syntax.specs.Index.{all_globals, func_indices, imported_funcs, imported_globals, memory_import, of_kind, table_import}
use Rattle.wasm_syntax.specs.Typing.{is_number}
use Rattle.wasm_syntax.specs.Validity.{AreFuncs, IsData, IsDeclaredFunc, IsElem, IsFuncType, IsGlobal, IsImport, IsThere, IsValid, IsValidOutside}
use Rattle.host_script.specs.declared.scripts.Supply.{Supply}
use Rattle.trace_model.specs.declared.tapes.Segment.{Segment}
use Rattle.history_spec.specs.Code.{zero_of}
use Rattle.history_spec.specs.Instantiation.{limits_of}
use Rattle.type_safety.specs.Stores.{func_count}
use Rattle.type_safety.specs.Supplies.{IsSupply}
use Rattle.replay_module_spec.specs.declared.plans.Plan.{Plan}
use Rattle.replay_module_spec.specs.declared.fragments.Fragment.{Fragment}
use Rattle.replay_module_spec.specs.Functions.{appended_types, group_count, group_func, group_funcs, group_type, group_type_place, groups, import_funcs, one_i32, original_type, start_func}
use Rattle.replay_module_spec.specs.Fragments.{counter, fragment_of, helper_funcs, import_bodies, import_types, referred_funcs, referred_once, start_index}
use Rattle.replay_module_spec.specs.Merge.{constant_data, constant_elem, constant_global, declaration, memory_written, replay_module, supplied_global}
use Rattle.replay_module_laws.specs.CodeLaws.{ReplayModulesHaveCode}
use Rattle.replay_module_laws.specs.Laws.{StatesMaximum}
use Rattle.replay_module_laws.proofs.Standing.{functions_more}
use Rattle.replay_module_laws.proofs.Outside.{at_most_one, constant_kept, global_kept, limits_there, mapped_length, memories_valid, numbers_imported, supplied_kept, tables_valid, types_imported}

abbrev IsNumber : ValType → Type 0
IsNumber t = IsTrue (is_number t)

abbrev IsNumberRun : Run → Type 0
IsNumberRun run = IsTrue (is_number run.ty)

-- ---- types

group_type_valid : (results : List ValType) → AllByRecursion IsNumber results → length results ≤ 1
    → IsFuncType (group_type results)
group_type_valid results numbers one =
    record {
      params = All-cons IsNumber I32 [] refl (All-nil IsNumber);
      results = All-from_recursion IsNumber results numbers;
      one_result = one;
    }

appended_valid : All IsFuncType appended_types
appended_valid =
    All-from_recursion IsFuncType appended_types (
      record { params = All-nil IsNumber; results = All-nil IsNumber; one_result = omega arith },
      (
        group_type_valid [] tt (omega arith),
        (
          group_type_valid (I32 ∷ []) (refl, tt) (omega arith),
          (
            group_type_valid (I64 ∷ []) (refl, tt) (omega arith),
            (
              group_type_valid (F32 ∷ []) (refl, tt) (omega arith),
              (group_type_valid (F64 ∷ []) (refl, tt) (omega arith), tt),
            ),
          ),
        ),
      ),
    )

place_within : (results : List ValType) → group_type_place results < 6
place_within [] = omega arith
place_within (I32 ∷ more) = omega arith
place_within (I64 ∷ more) = omega arith
place_within (F32 ∷ more) = omega arith
place_within (F64 ∷ more) = omega arith
place_within (FuncRef ∷ more) = omega arith

-- ---- functions but for their bodies

module _ (m other : Module) (types : other.types ≡ m.types ++ appended_types) where
  more_types : length other.types ≡ length m.types + 6
  more_types = ap length types ∙ length-append m.types appended_types

  import_funcs_declared : (counter first : ℕ) (places : List ℕ) (calls : List (List (List Segment)))
      → AllByRecursion (λ ty. ty < length m.types) places
      → AllByRecursion (IsDeclaredFunc other) (import_funcs m counter first places calls)
  import_funcs_declared counter first [] calls there = tt
  import_funcs_declared counter first (ty ∷ places) [] there = tt
  import_funcs_declared counter first (ty ∷ places) (own ∷ calls) there =
      let more = more_types in
      let here = there.0 in (
        record {
          type_there = omega (arith, more, here);
          locals = All-cons IsNumberRun one_i32 [] refl (All-nil IsNumberRun);
        },
        import_funcs_declared (counter + 1) (first + group_count (length own)) places calls there.1,
      )

  group_declared : (ty : ℕ) (group : List (List Segment)) → IsDeclaredFunc other (group_func m ty group)
  group_declared ty group =
      let more = more_types in
      let place = place_within (original_type m ty).results in
      record { type_there = omega (arith, more, place); locals = All-nil IsNumberRun }

  group_funcs_declared : (places : List ℕ) (calls : List (List (List Segment)))
      → All (IsDeclaredFunc other) (group_funcs m places calls)
  group_funcs_declared [] calls = All-nil (IsDeclaredFunc other)
  group_funcs_declared (ty ∷ places) [] = All-nil (IsDeclaredFunc other)
  group_funcs_declared (ty ∷ places) (own ∷ calls) =
      All-append (IsDeclaredFunc other) (map (group_func m ty) (groups own)) (group_funcs m places calls)
      (All-map (IsDeclaredFunc other) (group_func m ty) (groups own) (λ k d below. group_declared ty (get_or (groups own) k d)))
      (group_funcs_declared places calls)

  start_declared : (segments : List Segment) → IsDeclaredFunc other (start_func m segments)
  start_declared segments =
      let more = more_types in record { type_there = omega (arith, more); locals = All-nil IsNumberRun }

-- ---- segments

pub range_below : (n : ℕ) → All (λ f. f < n) (range_with_len 0 n)
range_below n k d below =
    let long = length-range_with_len 0 n in
    let within : k < n = omega (arith, below, long) in
    subst (λ f. f < n) (sym (get_or-range_with_len 0 n k d within)) (omega (arith, within))

referred_below : (below : ℕ) (funcs : List Func) → All (λ f. f < below) (referred_once below funcs)
referred_below below funcs =
    All-filter (λ func. list_any (nat_eq func) (referred_funcs funcs)) (λ f. f < below) (range_with_len 0 below)
    (range_below below)

declaration_valid : (other : Module) (funcs : List ℕ) → AreFuncs other funcs → All (IsElem other) (declaration funcs)
declaration_valid other [] are = All-nil (IsElem other)
declaration_valid other (func ∷ funcs) are =
    All-cons (IsElem other) (Declared (func ∷ funcs)) [] are (All-nil (IsElem other))

-- ---- the replay module of any generated part

-- what a replay module needs to be valid but for the bodies of its functions: its types, functions and globals are
-- valid; the exported function, the original's and the declared ones exist
pub record HasValidParts (m : Module) (supply : Supply) (fragment : Fragment) : Type 0 where
  pub types : All IsFuncType fragment.types
  pub bodies : All (IsDeclaredFunc (replay_module m supply fragment)) fragment.bodies
  pub helpers : All (IsDeclaredFunc (replay_module m supply fragment)) fragment.helpers
  pub globals : All (IsGlobal (replay_module m supply fragment)) fragment.globals
  pub entry : fragment.entry < length (func_indices (replay_module m supply fragment))
  pub more : start_index m ≤ length (func_indices (replay_module m supply fragment))
  pub declared : AreFuncs (replay_module m supply fragment) fragment.declared

module _ (m : Module) (supply : Supply) (fragment : Fragment) (valid : IsValid m) (supplied : IsSupply m supply)
    (stated : StatesMaximum supply.table) (parts : HasValidParts m supply fragment) where
  abbrev merged : Module
  merged = replay_module m supply fragment

  abbrev IsNumberGlobal : GlobalType → Type 0
  IsNumberGlobal g = IsTrue (is_number g.ty)

  numbers : AllByRecursion IsNumberGlobal (imported_globals m)
  numbers =
      numbers_imported m m.imports
      (recursion_from_All (λ (i : Import). IsImport m i.kind) m.imports valid.outside.imports)

  numbers_all : All IsNumberGlobal (imported_globals m)
  numbers_all = All-from_recursion IsNumberGlobal (imported_globals m) numbers

  own_declared : (f : Func) → IsDeclaredFunc m f → IsDeclaredFunc merged f
  own_declared f is =
      let more = length-append m.types fragment.types in
      let here = is.type_there in record { type_there = omega (arith, more, here); locals = is.locals }

  funcs_declared : All (IsDeclaredFunc merged) merged.funcs
  funcs_declared =
      All-append (IsDeclaredFunc merged) fragment.bodies (m.funcs ++ fragment.helpers) parts.bodies
      (All-append (IsDeclaredFunc merged) m.funcs fragment.helpers
      (All-weaker (IsDeclaredFunc m) (IsDeclaredFunc merged) own_declared m.funcs valid.outside.funcs) parts.helpers)

  globals_valid : All (IsGlobal merged) merged.globals
  globals_valid =
      let own = map (constant_global supply.globals) m.globals in
      let imported = map supplied_global (zip (imported_globals m) supply.globals) in
      All-append (IsGlobal merged) imported (own ++ fragment.globals)
      (All-from_recursion (IsGlobal merged) imported
      (supplied_kept merged (func_count m) (imported_globals m) supply.globals supplied.globals numbers))
      (All-append (IsGlobal merged) own fragment.globals
      (All-map (IsGlobal merged) (constant_global supply.globals) m.globals
      (All-weaker (IsGlobal m) (λ g. IsGlobal merged (constant_global supply.globals g))
      (global_kept m merged (func_count m) supply.globals supplied.globals numbers_all) m.globals valid.outside.globals))
      parts.globals)

  funcs_there : (funcs : List ℕ) → AreFuncs m funcs → AreFuncs merged funcs
  funcs_there funcs are k d below =
      let more = parts.more in let there = are k d below in omega (arith, more, there)

  elem_kept : (segment : ElemSeg) → IsElem m segment → IsElem merged (constant_elem supply.globals segment)
  elem_kept (Active table offset funcs) is = (
    limits_there MAX_ENTRIES (of_kind table_import m.imports) m.tables supply.table table supplied.table
        valid.outside.one_table is.0,
    constant_kept m merged (func_count m) supply.globals supplied.globals numbers_all I32 offset (zero_of I32) is.1,
    funcs_there funcs is.2,
  )
  elem_kept (Declared funcs) is = funcs_there funcs is

  data_kept : (segment : DataSeg) → IsData m segment → IsData merged (constant_data supply.globals segment)
  data_kept segment is =
      record {
        memory =
            subst (λ count. segment.memory < count)
            (sym (mapped_length memory_written
            (limits_of (of_kind memory_import m.imports) supply.memory m.memories)))
            (limits_there MAX_PAGES (of_kind memory_import m.imports) m.memories supply.memory segment.memory
            supplied.memory valid.outside.one_memory is.memory);
        offset =
            constant_kept m merged (func_count m) supply.globals supplied.globals numbers_all I32 segment.offset
            (zero_of I32) is.offset;
      }

  elems_valid : All (IsElem merged) merged.elems
  elems_valid =
      All-append (IsElem merged) (map (constant_elem supply.globals) m.elems) (declaration fragment.declared)
      (All-map (IsElem merged) (constant_elem supply.globals) m.elems
      (All-weaker (IsElem m) (λ segment. IsElem merged (constant_elem supply.globals segment)) elem_kept m.elems
      valid.outside.elems))
      (declaration_valid merged fragment.declared parts.declared)

  pub valid_parts : IsValidOutside merged
  valid_parts =
      record {
        types = All-append IsFuncType m.types fragment.types valid.outside.types parts.types;
        imports = All-nil (λ (i : Import). IsImport merged i.kind);
        funcs = funcs_declared;
        tables =
            tables_valid (of_kind table_import m.imports) m.tables supply.table supplied.table stated
            valid.outside.tables;
        memories =
            memories_valid (of_kind memory_import m.imports) m.memories supply.memory supplied.memory
            valid.outside.memories;
        globals = globals_valid;
        exports = All-from_recursion (λ (e : Export). IsThere merged e.kind) merged.exports (parts.entry, tt);
        names_differ = λ i j d below within. absurd (omega (arith, below, within));
        start = tt;
        elems = elems_valid;
        datas =
            All-map (IsData merged) (constant_data supply.globals) m.datas
            (All-weaker (IsData m) (λ segment. IsData merged (constant_data supply.globals segment)) data_kept m.datas
            valid.outside.datas);
        one_table = at_most_one _;
        one_memory = at_most_one _;
      }

-- ---- the replay module of a plan

module _ (law : ReplayModulesHaveCode) (m : Module) (supply : Supply) (plan : Plan) (valid : IsValid m)
    (supplied : IsSupply m supply) (stated : StatesMaximum supply.table)
    (many : length plan.imports ≡ imported_funcs m) where
  abbrev replay : Module
  replay = replay_module m supply (fragment_of m plan)

  parts_valid : HasValidParts m supply (fragment_of m plan)
  parts_valid =
      let more = functions_more law m supply plan valid many in
      record {
        types = appended_valid;
        bodies =
            All-from_recursion (IsDeclaredFunc replay) (import_bodies m plan)
            (import_funcs_declared m replay refl (length (all_globals m)) (start_index m + 1) (import_types m) plan.imports
            (types_imported m m.imports
            (recursion_from_All (λ (i : Import). IsImport m i.kind) m.imports valid.outside.imports)));
        helpers =
            All-cons (IsDeclaredFunc replay) (start_func m plan.begin) (group_funcs m (import_types m) plan.imports)
            (start_declared m replay refl plan.begin)
            (group_funcs_declared m replay refl (import_types m) plan.imports);
        globals = All-replicate (IsGlobal replay) (imported_funcs m) counter (record { number = refl; init = refl });
        entry = more;
        more = omega (arith, more);
        declared = λ k d below.
            let there = referred_below (start_index m) (import_bodies m plan ++ (m.funcs ++ helper_funcs m plan)) k d below in
            omega (arith, more, there);
      }

  pub valid_outside : IsValidOutside replay
  valid_outside = valid_parts m supply (fragment_of m plan) valid supplied stated parts_valid
