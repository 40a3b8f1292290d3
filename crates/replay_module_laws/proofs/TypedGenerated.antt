-- The generated functions have typings in the replay module of a plan that fits.
use Rattle.std.proofs.Common.{◌≡◌, ℕ, zero, suc, ◌+◌, ◌-◌, ◌<◌, ◌≤◌, List, [], ◌∷◌, ◌++◌, length, Some, refl, sym, ap, ◌∙◌, subst, arith, option_and_then}
use Rattle.std.specs.Prelude.{◌*◌, map, nat_lt, replicate, reverse, slice_get, All, take, drop}
use Rattle.std.specs.List.{AllByRecursion, range_with_len, slice_index_or}
use Rattle.std.proofs.lemmas.Bool.Decides.{nat_tests}
use Rattle.std.proofs.lemmas.List.{append-nil, append_assoc}
use Rattle.std.proofs.lemmas.List.Elements.{All-append, All-drop, All-from_recursion, All-take, recursion_from_All}
use Rattle.std.proofs.lemmas.List.FromFn.{length-map-range_with_len}
use Rattle.std.proofs.lemmas.Option.{get_or_from_slice_get, slice_get_within}
use Rattle.base.proofs.Booleans.{and_parts, and_true}
use Rattle.base.proofs.Lists.{all_at, get_after_by, get_front, item_there, joined_all, first_there}
use Rattle.wasm_syntax.specs.declared.values.ValType.{ValType}
use Rattle.wasm_syntax.specs.declared.values.ValType.TheVariants.{I32}
use Rattle.wasm_syntax.specs.declared.signatures.FuncType.{FuncType}
use Rattle.wasm_syntax.specs.declared.instructions.Instr.{Instr}
use Rattle.wasm_syntax.specs.declared.instructions.Instr.TheVariants.{End}
use Rattle.wasm_syntax.specs.declared.modules.Import.{Import}
use Rattle.wasm_syntax.specs.declared.modules.Global.{Global}
use Rattle.wasm_syntax.specs.declared.modules.Func.{Func}
use Rattle.wasm_syntax.specs.declared.modules.Module.{Module}
use Rattle.wasm_syntax.specs.Nest.{Nest, Empty, flat}
use Rattle.wasm_syntax.specs.Index.{all_globals, all_memories, all_tables, func_indices, func_type, imported_funcs, type_at}
use Rattle.wasm_syntax.specs.Typing.{Context, IsTyped}
use Rattle.wasm_syntax.specs.Validity.{IsFuncType, IsImport, IsTypedFunc, IsValid, body_context}
use Rattle.wasm_syntax.proofs.JoinedLists.{both_parts}
use Rattle.host_script.specs.declared.scripts.Supply.{Supply}
use Rattle.trace_model.specs.declared.tapes.Segment.{Segment}
use Rattle.history_spec.specs.Code.{code_of}
use Rattle.type_safety.specs.Supplies.{IsSupply}
use Rattle.type_safety.proofs.Wider.{IsKnown}
use Rattle.replay_module_spec.specs.declared.plans.Plan.{Plan}
use Rattle.replay_module_spec.specs.declared.groups.TheConstants.{GROUP_CALLS}
use Rattle.replay_module_spec.specs.Dispatch.{body_of, sequence}
use Rattle.replay_module_spec.specs.Segments.{segments_code}
use Rattle.replay_module_spec.specs.Functions.{appended_types, group_count, group_func, group_funcs, group_nest, group_type, groups, import_func, import_funcs, import_nest, original_type, start_func, start_type}
use Rattle.replay_module_spec.specs.Fragments.{counter, fragment_of, helper_funcs, import_bodies, import_types, referred_funcs, start_index}
use Rattle.replay_module_spec.specs.Merge.{replay_module}
use Rattle.replay_module_laws.specs.Codes.{IsReplayCode, first_group}
use Rattle.replay_module_laws.specs.CodeLaws.{ReplayModulesHaveCode}
use Rattle.replay_module_laws.proofs.Functions.{group_type_there}
use Rattle.replay_module_laws.specs.Plans.{AreFit, CallsFit, PlanFits}
use Rattle.replay_module_laws.proofs.Declarations.{IsReferred, in_range, range_end, refers_among}
use Rattle.replay_module_laws.proofs.Generated.{counter_type, group_typed, import_typed}
use Rattle.replay_module_laws.proofs.Originals.{typed_known, typed_nest}
use Rattle.replay_module_laws.proofs.Outside.{types_imported}
use Rattle.replay_module_laws.proofs.Serving.{Serves}
use Rattle.replay_module_laws.proofs.Standing.{functions_more, originals_kept}
use Rattle.replay_module_laws.proofs.TypedOriginals.{declared_there, globals_are, memories_many, originals_typed, tables_many}
use Rattle.replay_module_laws.proofs.TypedSegments.{segments_typed}

-- ---- lists

last_there : (types : List ValType) → slice_get (types ++ I32 ∷ []) (length types) ≡ Some I32
last_there types = get_after_by types (I32 ∷ []) (length types) 0 (omega arith)

each_group : (m : Module) (results : List ValType) (calls : List (List Segment)) (places : List ℕ)
    → All (AreFit m results) calls
    → AllByRecursion (AllByRecursion (AreFit m results))
    (map (λ number. take GROUP_CALLS (drop (GROUP_CALLS * number) calls)) places)
each_group m results calls [] fit = tt
each_group m results calls (place ∷ places) fit = (
  recursion_from_All (AreFit m results) (take GROUP_CALLS (drop (GROUP_CALLS * place) calls))
      (All-take (AreFit m results) GROUP_CALLS (drop (GROUP_CALLS * place) calls)
      (All-drop (AreFit m results) (GROUP_CALLS * place) calls fit)),
  each_group m results calls places fit,
)

groups_fit : (m : Module) (results : List ValType) (calls : List (List Segment))
    → AllByRecursion (AreFit m results) calls
    → AllByRecursion (AllByRecursion (AreFit m results)) (groups calls)
groups_fit m results calls fit =
    each_group m results calls (range_with_len 0 (group_count (length calls)))
    (All-from_recursion (AreFit m results) calls fit)

module _ (law : ReplayModulesHaveCode) (m : Module) (supply : Supply) (plan : Plan) (valid : IsValid m)
    (supplied : IsSupply m supply) (many : length plan.imports ≡ imported_funcs m) (fits : PlanFits m plan) where
  abbrev replay : Module
  replay = replay_module m supply (fragment_of m plan)

  abbrev referred : List ℕ
  referred = referred_funcs replay.funcs

  -- a context in which each of the original's functions is declared
  abbrev generous : FuncType → Func → Context
  generous ty f = record (body_context replay ty f) { declared = range_with_len 0 (start_index m) }

  serves : (ty : FuncType) (f : Func) → Serves m (generous ty f)
  serves ty f =
      record {
        funcs = (originals_kept law m supply plan valid many).signatures;
        table = λ there.
            first_there (all_tables replay)
            (subst (λ n. 0 < n) (tables_many law m supply plan valid supplied many) there);
        memory = λ there.
            first_there (all_memories replay)
            (subst (λ n. 0 < n) (memories_many law m supply plan valid supplied many) there);
        globals = λ x g h.
            ap (λ l. slice_get l x) (globals_are law m supply plan valid supplied many)
            ∙ get_front (all_globals m) _ x (slice_get_within (all_globals m) x g h) ∙ h;
        declared = λ func below.
            let more = functions_more law m supply plan valid many in
            let within : func < length (func_indices replay) = omega (arith, below, more) in
            and_true (nat_lt func (length (func_indices replay))) _ (grind (arith, nat_tests, within))
            (in_range func 0 (start_index m) (omega arith) (omega (arith, below)));
      }

  known : (ty : FuncType) (f : Func) (code : List Instr) → AllByRecursion (IsReferred referred) code
      → AllByRecursion (IsKnown (generous ty f) (body_context replay ty f)) code
  known ty f [] r = tt
  known ty f (i ∷ code) r = (
    (λ func e is.
        let last = (and_parts (nat_lt func (length (func_indices replay))) _ is).1 in
        let below = range_end func 0 (start_index m) last in
        declared_there law m supply plan valid supplied many func (omega (arith, below)) (r.0 func e)),
    known ty f code r.1,
  )

  abbrev IsTypedWhereReferred : Func → Type 0
  IsTypedWhereReferred f = AllByRecursion (IsReferred referred) f.body → IsTypedFunc replay f

  generated : (f : Func) (ty : FuncType) (nest : Nest) → type_at replay f.ty ≡ Some ty
      → body_of nest ≡ f.body → IsTyped (generous ty f) nest [] (reverse ty.results) → IsTypedWhereReferred f
  generated f ty nest has_type written typed refers =
      let parts =
      both_parts (IsReferred referred) (flat nest) (End ∷ [])
      (subst (AllByRecursion (IsReferred referred)) (sym written) refers) in
      record {
        ty = ty;
        nest = nest;
        has_type = has_type;
        is_body = record { nested = typed_nest (generous ty f) nest [] (reverse ty.results) typed; written = written };
        typed =
            typed_known nest (generous ty f) (body_context replay ty f) [] (reverse ty.results)
            (record {
              types = λ t ty h. h;
              funcs = λ f ty h. h;
              tables = λ x. refl;
              memory = refl;
              globals = λ x g h. h;
              locals = λ x t h. h;
              labels = λ l x h. h;
              results = refl;
            }) (known ty f (flat nest) parts.0) typed;
      }

  -- ---- each function

  module _ (ty : ℕ) (there : ty < length m.types) where
    type_is : slice_get m.types ty ≡ Some (original_type m ty)
    type_is =
        let t = item_there m.types ty there in
        t.1 ∙ ap (λ x. Some x) (sym (get_or_from_slice_get m.types ty t.0 start_type t.1))

    type_valid : IsFuncType (original_type m ty)
    type_valid = all_at IsFuncType m.types ty (original_type m ty) valid.outside.types type_is

    import_func_typed : (place first count : ℕ) → slice_get (all_globals replay) place ≡ Some counter_type
        → ((func : ℕ) → first ≤ func → func < first + count
        → func_type replay func ≡ Some (group_type (original_type m ty).results))
        → IsTypedWhereReferred (import_func m ty place first count)
    import_func_typed place first count counts calls =
        let own = original_type m ty in
        let f = import_func m ty place first count in
        generated f own (import_nest place (length own.params) first count)
        ((originals_kept law m supply plan valid many).types ty own type_is)
        refl
        (import_typed (generous own f) own.results refl (length own.params) (last_there own.params) place first count
        (reverse own.results) counts calls)

    group_func_typed : (calls : List (List Segment)) → AllByRecursion (AreFit m (original_type m ty).results) calls
        → IsTypedWhereReferred (group_func m ty calls)
    group_func_typed calls fit =
        let own = original_type m ty in
        let f = group_func m ty calls in
        generated f (group_type own.results) (group_nest m calls)
        (group_type_there m own.results type_valid.one_result type_valid.results) refl
        (group_typed (generous (group_type own.results) f) own.results refl refl m (serves (group_type own.results) f)
        calls (reverse own.results) fit)

    groups_typed : (calls : List (List (List Segment)))
        → AllByRecursion (AllByRecursion (AreFit m (original_type m ty).results)) calls
        → AllByRecursion IsTypedWhereReferred (map (group_func m ty) calls)
    groups_typed [] fit = tt
    groups_typed (group ∷ calls) fit = (group_func_typed group fit.0, groups_typed calls fit.1)

  start_typed : IsTypedWhereReferred (start_func m plan.begin)
  start_typed =
      let f = start_func m plan.begin in
      generated f start_type (sequence (segments_code m plan.begin) Empty)
      (get_after_by m.types appended_types (length m.types) 0 (omega arith))
      refl
      (segments_typed m (generous start_type f) (serves start_type f) [] refl plan.begin [] fits.begin)

  -- ---- all functions

  import_funcs_typed : (place first : ℕ) (types : List ℕ) (calls : List (List (List Segment)))
      → AllByRecursion (λ ty. ty < length m.types) types
      → ((i ty : ℕ) (own : List (List Segment)) (number : ℕ) → slice_get types i ≡ Some ty
      → slice_get calls i ≡ Some own → number < group_count (length own)
      → func_type replay (first_group first calls i + number) ≡ Some (group_type (original_type m ty).results))
      → ((i : ℕ) → i < length types → slice_get (all_globals replay) (place + i) ≡ Some counter_type)
      → AllByRecursion IsTypedWhereReferred (import_funcs m place first types calls)
  import_funcs_typed place first [] calls there has counts = tt
  import_funcs_typed place first (ty ∷ types) [] there has counts = tt
  import_funcs_typed place first (ty ∷ types) (own ∷ calls) there has counts = (
    import_func_typed ty there.0 place first (group_count (length own))
        (subst (λ n. slice_get (all_globals replay) n ≡ Some counter_type) (omega arith) (counts 0 (omega arith)))
        (λ func past below.
        let number = func - first in
        let sum : first + number ≡ func = omega (arith, past) in
        subst (λ n. func_type replay n ≡ Some (group_type (original_type m ty).results)) sum
        (has 0 ty own number refl refl (omega (arith, past, below)))),
    import_funcs_typed (place + 1) (first + group_count (length own)) types calls there.1
        (λ i t o number f g below. has (suc i) t o number f g below)
        (λ i below.
        subst (λ n. slice_get (all_globals replay) n ≡ Some counter_type) (omega arith)
        (counts (suc i) (omega (arith, below)))),
  )

  group_funcs_typed : (types : List ℕ) (calls : List (List (List Segment)))
      → AllByRecursion (λ ty. ty < length m.types) types → CallsFit m types calls
      → AllByRecursion IsTypedWhereReferred (group_funcs m types calls)
  group_funcs_typed [] calls there fit = tt
  group_funcs_typed (ty ∷ types) [] there fit = tt
  group_funcs_typed (ty ∷ types) (own ∷ calls) there fit =
      joined_all IsTypedWhereReferred (map (group_func m ty) (groups own)) (group_funcs m types calls)
      (groups_typed ty there.0 (groups own) (groups_fit m (original_type m ty).results own fit.0))
      (group_funcs_typed types calls there.1 fit.1)

  types_there : AllByRecursion (λ ty. ty < length m.types) (import_types m)
  types_there =
      types_imported m m.imports (recursion_from_All (λ (i : Import). IsImport m i.kind) m.imports valid.outside.imports)

  code : IsReplayCode m plan (code_of replay)
  code = law m supply plan valid many

  group_there : (i ty : ℕ) (own : List (List Segment)) (number : ℕ) → slice_get (import_types m) i ≡ Some ty
      → slice_get plan.imports i ≡ Some own → number < group_count (length own)
      → func_type replay (first_group (start_index m + 1) plan.imports i + number)
      ≡ Some (group_type (original_type m ty).results)
  group_there i ty own number found calls below =
      let within = slice_get_within (import_types m) i ty found in
      let there = all_at (λ ty. ty < length m.types) (import_types m) i ty
      (All-from_recursion (λ ty. ty < length m.types) (import_types m) types_there) found in
      let typed : func_type m i ≡ Some (original_type m ty) =
      ap (λ o. option_and_then (type_at m) o) (get_front (import_types m) _ i within ∙ found) ∙ type_is ty there in
      let same : own ≡ slice_index_or plan.imports i [] = sym (get_or_from_slice_get plan.imports i own [] calls) in
      let long : length (groups own) ≡ group_count (length own) =
      length-map-range_with_len (λ number. take GROUP_CALLS (drop (GROUP_CALLS * number) own)) 0
      (group_count (length own)) in
      let group = item_there (groups own) number (omega (arith, long, below)) in
      ((code.answers i (original_type m ty) within typed).group number group.0
      (subst (λ calls. slice_get (groups calls) number ≡ Some group.0) same group.1)).has_type

  counter_there : (i : ℕ) → i < length (import_types m)
      → slice_get (all_globals replay) (length (all_globals m) + i) ≡ Some counter_type
  counter_there i below =
      ap (λ l. slice_get l (length (all_globals m) + i)) (globals_are law m supply plan valid supplied many)
      ∙ get_after_by (all_globals m) (map (λ (g : Global). g.ty) (replicate (imported_funcs m) counter))
      (length (all_globals m) + i) i refl
      ∙ mapped (imported_funcs m) i below
    where
      mapped : (count place : ℕ) → place < count
          → slice_get (map (λ (g : Global). g.ty) (replicate count counter)) place ≡ Some counter_type
      mapped zero place below = absurd (omega (arith, below))
      mapped (suc count) zero below = refl
      mapped (suc count) (suc place) below = mapped count place (omega (arith, below))

  applied : (funcs : List Func) → AllByRecursion IsTypedWhereReferred funcs
      → AllByRecursion (λ (f : Func). AllByRecursion (IsReferred referred) f.body) funcs
      → AllByRecursion (IsTypedFunc replay) funcs
  applied [] typed refers = tt
  applied (f ∷ funcs) typed refers = (typed.0 refers.0, applied funcs typed.1 refers.1)

  helpers_refer : AllByRecursion (λ (f : Func). AllByRecursion (IsReferred referred) f.body) (helper_funcs m plan)
  helpers_refer =
      subst
      (λ l. AllByRecursion (λ (f : Func). AllByRecursion (IsReferred (referred_funcs l)) f.body) (helper_funcs m plan))
      (append_assoc (import_bodies m plan) m.funcs (helper_funcs m plan ++ [])
      ∙ ap (λ l. import_bodies m plan ++ (m.funcs ++ l)) (append-nil (helper_funcs m plan)))
      (refers_among (import_bodies m plan ++ m.funcs) (helper_funcs m plan) [])

  pub all_typed : All (IsTypedFunc replay) replay.funcs
  all_typed =
      All-append (IsTypedFunc replay) (import_bodies m plan) (m.funcs ++ helper_funcs m plan)
      (All-from_recursion (IsTypedFunc replay) (import_bodies m plan)
      (applied (import_bodies m plan)
      (import_funcs_typed (length (all_globals m)) (start_index m + 1) (import_types m) plan.imports types_there
      group_there counter_there)
      (refers_among [] (import_bodies m plan) (m.funcs ++ helper_funcs m plan))))
      (All-append (IsTypedFunc replay) m.funcs (helper_funcs m plan) (originals_typed law m supply plan valid supplied many)
      (All-from_recursion (IsTypedFunc replay) (helper_funcs m plan)
      (applied (helper_funcs m plan)
      (start_typed, group_funcs_typed (import_types m) plan.imports types_there fits.imports) helpers_refer)))
