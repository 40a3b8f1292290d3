-- All functions of a guarded module have typings.
use Rattle.std.proofs.Common.{◌≡◌, ℕ, zero, suc, ◌+◌, ◌-◌, ◌*◌, ◌^◌, ◌<◌, ◌≤◌, List, [], ◌∷◌, ◌++◌, length, map, reverse, Some, Bool, true, false, slice_get, refl, sym, ap, ◌∙◌, subst, arith}
use Rattle.std.specs.Prelude.{All, take, drop, is_some, IsTrue}
use Rattle.std.specs.List.{AllByRecursion, enumerate_from, range_with_len}
use Rattle.std.proofs.lemmas.List.Elements.{All-drop, All-from_recursion, All-take, recursion_from_All}
use Rattle.std.proofs.lemmas.List.FromFn.{length-range_with_len}
use Rattle.std.proofs.lemmas.Option.{slice_get_within}
use Rattle.base.proofs.Lists.{all_at, get_after_by, get_front, joined_all}
use Rattle.wasm_syntax.specs.declared.values.ValType.{ValType}
use Rattle.wasm_syntax.specs.declared.values.ValType.TheVariants.{I64}
use Rattle.wasm_syntax.specs.declared.signatures.FuncType.{FuncType}
use Rattle.wasm_syntax.specs.declared.instructions.Instr.{Instr}
use Rattle.wasm_syntax.specs.declared.instructions.Instr.TheVariants.{Call, Unreachable}
use Rattle.wasm_syntax.specs.declared.modules.Func.{Func}
use Rattle.wasm_syntax.specs.declared.modules.Module.{Module}
use Rattle.wasm_syntax.specs.Index.{all_memories, func_type, type_at}
use Rattle.wasm_syntax.specs.Nest.{Nest, Empty, IsBody}
use Rattle.wasm_syntax.specs.Typing.{IsTyped, Leaves, is_number}
use Rattle.wasm_syntax.specs.Validity.{IsDeclaredFunc, IsFuncType, IsTypedFunc, IsValid, body_context, each_local}
use Rattle.history_spec.specs.Projection.{Layout}
use Rattle.replay_module_spec.specs.declared.groups.TheConstants.{GROUP_CALLS}
use Rattle.replay_module_spec.specs.Dispatch.{body_of, sequence}
use Rattle.replay_module_spec.specs.Functions.{group_count, group_type, import_nest, start_type}
use Rattle.replay_module_laws.proofs.Originals.{typed_nest}
use Rattle.replay_module_laws.proofs.Serving.{led}
use Rattle.replay_module_laws.proofs.Generated.{import_typed}
use Rattle.guarded_module_spec.specs.declared.numbers.Numbers.{Numbers}
use Rattle.guarded_module_spec.specs.Numbers.{behind, first_group, numbers_of, start_place, check_place, begun, passed}
use Rattle.guarded_module_spec.specs.Fronts.{func_front, func_front_code, import_front, import_front_code, one_local}
use Rattle.guarded_module_spec.specs.Functions.{check_func, check_nest, digest_func, digest_funcs, digest_nest, group_func, group_funcs, group_nest, next_func, start_code, start_func}
use Rattle.guarded_module_spec.specs.GuardedModules.{appended_funcs, func_fronts, funcs_in_places, guarded_module, import_fronts, is_called, original_funcs, outside_funcs, own_funcs, own_types, redirected, redirected_instr, type_in}
use Rattle.guarded_module_spec.specs.Forms.{IsGuardable}
use Rattle.guarded_module_laws.specs.Laws.{AreFewWords}
use Rattle.guarded_module_laws.specs.Moved.{called_by, moved_nest}
use Rattle.guarded_module_laws.proofs.Trees.{body_kept}
use Rattle.guarded_module_laws.proofs.Typed.{typed_moved}
use Rattle.guarded_module_laws.proofs.Indices.{in_parts, behind_type, check_type, func_kept, groups_types, next_type, own_last, type_kept, places_long, originals_long}
use Rattle.guarded_module_laws.proofs.Known.{RefersElsewhere, funcs_elsewhere}
use Rattle.guarded_module_laws.proofs.Contexts.{alone, body_known, func_at_place, memory_there, own_global, type_is, widens, within}
use Rattle.guarded_module_laws.proofs.TypedFronts.{HaveTypes, func_front_typed, gives_word, import_front_typed, takes_word}
use Rattle.guarded_module_laws.proofs.TypedOwn.{check_typed, digest_typed, group_typed, start_typed}

abbrev IsNumber : ValType → Type 0
IsNumber t = IsTrue (is_number t)

-- a body with its calls redirected is the body with calls by other numbers
redirected_is : (n : Numbers) (body : List Instr) → map (called_by (behind n)) body ≡ map (redirected_instr n) body
redirected_is n [] = refl
redirected_is n (i ∷ body) = (λ j. instr_is i j ∷ redirected_is n body j)
  where
    instr_is : (i : Instr) → called_by (behind n) i ≡ redirected_instr n i
    instr_is (Call f) = refl
    instr_is i = refl

same_code : (body : List Instr) → map (called_by (λ f. f)) body ≡ body
same_code [] = refl
same_code (i ∷ body) = (λ j. instr_is i j ∷ same_code body j)
  where
    instr_is : (i : Instr) → called_by (λ f. f) i ≡ i
    instr_is (Call f) = refl
    instr_is i = refl

-- locals of these types, one by one
pub each_one : (types : List ValType) → each_local (map one_local types) ≡ types
each_one [] = refl
each_one (ty ∷ types) = ap (λ l. ty ∷ l) (each_one types)

module _ (m : Module) (layout : Layout) (entry : ℕ) (words : List ℕ) (valid : IsValid m)
    (guardable : IsGuardable m layout entry) (few : AreFewWords words) where
  abbrev n : Numbers
  n = numbers_of m layout

  abbrev guarded : Module
  guarded = guarded_module m layout entry words

  abbrev none : m.imports ≡ []
  none = alone m layout entry words guardable

  abbrev many : layout.imports + layout.defined ≤ length m.funcs
  many = within m layout entry words guardable

  kept_type : (t : ℕ) (ty : FuncType) → type_at m t ≡ Some ty → type_at guarded t ≡ Some ty
  kept_type = type_kept m layout entry words none many

  kept_func : (f : ℕ) (ty : FuncType) → func_type m f ≡ Some ty → func_type guarded f ≡ Some ty
  kept_func = func_kept m layout entry words none many

  kept_behind : (f : ℕ) (ty : FuncType) → func_type m f ≡ Some ty → func_type guarded (behind n f) ≡ Some ty
  kept_behind = behind_type m layout entry words none many

  checks : func_type guarded (check_place n) ≡ Some takes_word
  checks = check_type m layout entry words none many

  -- ---- functions of the replay module

  abbrev Elsewhere : Func → Type 0
  Elsewhere f = AllByRecursion (RefersElsewhere entry) f.body

  redirected_typed : (f : Func) → IsTypedFunc m f → Elsewhere f → IsTypedFunc guarded (redirected n f)
  redirected_typed f typed elsewhere =
      record {
        ty = typed.ty;
        nest = moved_nest (behind n) typed.nest;
        has_type = kept_type f.ty typed.ty typed.has_type;
        is_body =
            subst (λ (b : List Instr). IsBody (moved_nest (behind n) typed.nest) b) (redirected_is n f.body)
            (body_kept (behind n) typed.nest f.body typed.is_body);
        typed =
            typed_moved (behind n) typed.nest (body_context m typed.ty f)
            (body_context guarded typed.ty (redirected n f)) [] (reverse typed.ty.results)
            (widens m layout entry words guardable (behind n) kept_behind typed.ty f (redirected n f) refl)
            (body_known m layout entry words guardable (behind n) kept_behind typed.ty f (redirected n f) refl typed.nest
            f.body typed.is_body elsewhere)
            typed.typed;
      }

  original_typed : (f : Func) → IsTypedFunc m f → Elsewhere f → IsTypedFunc guarded f
  original_typed f typed elsewhere =
      record {
        ty = typed.ty;
        nest = moved_nest (λ f. f) typed.nest;
        has_type = kept_type f.ty typed.ty typed.has_type;
        is_body =
            subst (λ (b : List Instr). IsBody (moved_nest (λ f. f) typed.nest) b) (same_code f.body)
            (body_kept (λ f. f) typed.nest f.body typed.is_body);
        typed =
            typed_moved (λ f. f) typed.nest (body_context m typed.ty f) (body_context guarded typed.ty f) []
            (reverse typed.ty.results)
            (widens m layout entry words guardable (λ f. f) kept_func typed.ty f f refl)
            (body_known m layout entry words guardable (λ f. f) kept_func typed.ty f f refl typed.nest f.body
            typed.is_body elsewhere)
            typed.typed;
      }

  redirected_all : (funcs : List Func) → AllByRecursion (IsTypedFunc m) funcs → AllByRecursion Elsewhere funcs
      → AllByRecursion (IsTypedFunc guarded) (map (redirected n) funcs)
  redirected_all [] typed elsewhere = tt
  redirected_all (f ∷ funcs) typed elsewhere =
      (redirected_typed f typed.0 elsewhere.0, redirected_all funcs typed.1 elsewhere.1)

  originals_all : (funcs : List Func) → AllByRecursion (IsTypedFunc m) funcs → AllByRecursion Elsewhere funcs
      → AllByRecursion (IsTypedFunc guarded) funcs
  originals_all [] typed elsewhere = tt
  originals_all (f ∷ funcs) typed elsewhere =
      (original_typed f typed.0 elsewhere.0, originals_all funcs typed.1 elsewhere.1)

  -- ---- functions that are made

  made : (f : Func) (ty : FuncType) (nest : Nest) → type_at guarded f.ty ≡ Some ty → body_of nest ≡ f.body
      → IsTyped (body_context guarded ty f) nest [] (reverse ty.results) → IsTypedFunc guarded f
  made f ty nest has_type written typed =
      record {
        ty = ty;
        nest = nest;
        has_type = has_type;
        is_body =
            record {
              nested = typed_nest (body_context guarded ty f) nest [] (reverse ty.results) typed;
              written = written;
            };
        typed = typed;
      }

  abbrev own_type : ℕ → FuncType
  own_type ty = type_in m.types ty

  type_valid : (ty : ℕ) → ty < length m.types → IsFuncType (own_type ty)
  type_valid ty there =
      all_at IsFuncType m.types ty (own_type ty) valid.outside.types (type_is m layout entry words guardable ty there)

  params_have : (f : Func) (ty : FuncType) → HaveTypes (body_context guarded ty f) n checks 0 ty.params
  params_have f ty j t h =
      let same : 0 + j ≡ j = omega arith in
      ap (slice_get (ty.params ++ each_local f.locals)) same
      ∙ get_front ty.params (each_local f.locals) j (slice_get_within ty.params j t h) ∙ h

  import_front_is : (import : ℕ) (f : Func) → slice_get m.funcs import ≡ Some f → f.ty < length m.types
      → import < 2 ^ 64 → IsTypedFunc guarded (import_front n (own_type f.ty) import f.ty)
  import_front_is import f found there small =
      let ty = own_type f.ty in
      let front = import_front n ty import f.ty in
      let is = func_at_place m layout entry words guardable import f found there in
      made front ty (sequence (import_front_code n ty import) Empty)
      (kept_type f.ty ty (type_is m layout entry words guardable f.ty there)) refl
      (import_front_typed (body_context guarded ty front) n checks ty import small
      (recursion_from_All IsNumber ty.params (type_valid f.ty there).params) (params_have front ty)
      (kept_behind import ty is))

  func_front_is : (called : Bool) (func : ℕ) (f : Func) → slice_get m.funcs func ≡ Some f → f.ty < length m.types
      → func < 2 ^ 64 → IsTypedFunc guarded (func_front called n (own_type f.ty) func f.ty)
  func_front_is false func f found there small =
      let ty = own_type f.ty in
      let front = func_front false n ty func f.ty in
      made front ty (sequence (Unreachable ∷ []) Empty)
      (kept_type f.ty ty (type_is m layout entry words guardable f.ty there)) refl
      (led (body_context guarded ty front) Unreachable (Leaves []) Empty [] (reverse ty.results) (reverse ty.results) refl
      (record { below = []; had = refl }) refl)
  func_front_is true func f found there small =
      let ty = own_type f.ty in
      let front = func_front true n ty func f.ty in
      let is = func_at_place m layout entry words guardable func f found there in
      let type_valid = type_valid f.ty there in
      let one = type_valid.one_result in
      made front ty (sequence (func_front_code n ty func) Empty)
      (kept_type f.ty ty (type_is m layout entry words guardable f.ty there)) refl
      (func_front_typed (body_context guarded ty front) n checks ty func small (omega (arith, one))
      (recursion_from_All IsNumber ty.results type_valid.results) (params_have front ty)
      (λ j t h. get_after_by ty.params (each_local (map one_local ty.results)) (length ty.params + j) j refl
      ∙ ap (λ l. slice_get l j) (each_one ty.results) ∙ h)
      (kept_func func ty is))

  -- the functions of a list are those from a number on
  abbrev AreFrom : (from : ℕ) → List Func → Type 0
  AreFrom from funcs = (j : ℕ) (f : Func) → slice_get funcs j ≡ Some f → slice_get m.funcs (from + j) ≡ Some f

  next_from : (from : ℕ) (f : Func) (funcs : List Func) → AreFrom from (f ∷ funcs) → AreFrom (from + 1) funcs
  next_from from f funcs are j g h =
      let same : from + suc j ≡ from + 1 + j = omega arith in
      subst (λ k. slice_get m.funcs k ≡ Some g) same (are (suc j) g h)

  first_from : (from : ℕ) (f : Func) (funcs : List Func) → AreFrom from (f ∷ funcs) → slice_get m.funcs from ≡ Some f
  first_from from f funcs are =
      let same : from + 0 ≡ from = omega arith in subst (λ k. slice_get m.funcs k ≡ Some f) same (are 0 f refl)

  import_fronts_all : (from : ℕ) (funcs : List Func) → AreFrom from funcs → from + length funcs < 2 ^ 64
      → AllByRecursion (IsDeclaredFunc m) funcs
      → AllByRecursion (IsTypedFunc guarded)
      (map (λ (e : ℕ × Func). import_front n (own_type e.1.ty) e.0 e.1.ty) (enumerate_from from funcs))
  import_fronts_all from [] are small declared = tt
  import_fronts_all from (f ∷ funcs) are small declared = (
    import_front_is from f (first_from from f funcs are) declared.0.type_there (omega (arith, small)),
    import_fronts_all (from + 1) funcs (next_from from f funcs are) (omega (arith, small)) declared.1,
  )

  func_fronts_all : (outside : List Func) (from : ℕ) (funcs : List Func) → AreFrom from funcs
      → from + length funcs < 2 ^ 64 → AllByRecursion (IsDeclaredFunc m) funcs
      → AllByRecursion (IsTypedFunc guarded) (func_fronts m.types n outside from funcs)
  func_fronts_all outside from [] are small declared = tt
  func_fronts_all outside from (f ∷ funcs) are small declared = (
    func_front_is (is_called from outside) from f (first_from from f funcs are) declared.0.type_there
        (omega (arith, small)),
    func_fronts_all outside (from + 1) funcs (next_from from f funcs are) (omega (arith, small)) declared.1,
  )

  -- ---- functions of its own

  own_type_at : (k : ℕ) → type_at guarded (n.types + k) ≡ slice_get own_types k
  own_type_at k = get_after_by m.types own_types (n.types + k) k refl

  start_is : IsTypedFunc guarded (start_func n entry)
  start_is =
      let f = start_func n entry in
      let same : n.types + 0 ≡ n.types = omega arith in
      made f start_type (sequence (start_code n entry) Empty) (ap (type_at guarded) (sym same) ∙ own_type_at 0) refl
      (start_typed (body_context guarded start_type f) n checks entry
      (kept_func entry start_type guardable.form.enters.typed) (memory_there m layout entry words guardable))

  digests_all : (digests : ℕ) → ((more : ℕ) → digests ≡ suc more → is_some (slice_get (all_memories guarded) 0) ≡ true)
      → AllByRecursion (IsTypedFunc guarded) (digest_funcs digests n)
  digests_all zero there = tt
  digests_all (suc more) there = (
    made (digest_func n) gives_word digest_nest (own_type_at 2) refl
        (digest_typed (body_context guarded gives_word (digest_func n)) (there more refl) refl refl),
    tt,
  )

  check_is : IsTypedFunc guarded (check_func n)
  check_is =
      let f = check_func n in
      made f takes_word (check_nest n) (own_type_at 1) refl
      (check_typed (body_context guarded takes_word f) n (next_type m layout entry words none many) refl
      (own_global m layout entry words guardable (passed n) 1 refl))

  groups_count : length (range_with_len 0 (group_count (length words))) ≡ group_count (length words)
  groups_count = length-range_with_len 0 (group_count (length words))

  group_there : (func : ℕ) → first_group n ≤ func → func < first_group n + group_count (length words)
      → func_type guarded func ≡ Some (group_type (I64 ∷ []))
  group_there func past below =
      let j = func - first_group n in
      let long = groups_count in
      let same : start_place n + (n.digests + 1 + suc (suc j)) ≡ func = omega (arith, past) in
      ap (func_type guarded) (sym same)
      ∙ own_last m layout entry words none many (suc (suc j)) 3 (group_type (I64 ∷ []))
      (groups_types m layout entry words none many (range_with_len 0 (group_count (length words)))
      (λ number. take GROUP_CALLS (drop (GROUP_CALLS * number) words)) j (omega (arith, past, below, long))) refl

  next_is : IsTypedFunc guarded (next_func n (length words))
  next_is =
      let f = next_func n (length words) in
      let same : length m.globals ≡ length m.globals + 0 = omega arith in
      made f gives_word (import_nest (begun n) 0 (first_group n) (group_count (length words))) (own_type_at 2) refl
      (import_typed (body_context guarded gives_word f) (I64 ∷ []) refl 0 refl (begun n) (first_group n)
      (group_count (length words)) (I64 ∷ []) (own_global m layout entry words guardable (begun n) 0 same) group_there)

  group_is : (part : List ℕ) → All (λ word. word < 2 ^ 64) part → IsTypedFunc guarded (group_func n part)
  group_is part small =
      let f = group_func n part in
      made f (group_type (I64 ∷ [])) (group_nest part) (own_type_at 3) refl
      (group_typed (body_context guarded (group_type (I64 ∷ [])) f) refl part (I64 ∷ [])
      (recursion_from_All (λ word. word < 2 ^ 64) part small) refl)

  groups_all : (numbers : List ℕ)
      → AllByRecursion (IsTypedFunc guarded)
      (map (λ number. group_func n (take GROUP_CALLS (drop (GROUP_CALLS * number) words))) numbers)
  groups_all [] = tt
  groups_all (number ∷ numbers) = (
    group_is (take GROUP_CALLS (drop (GROUP_CALLS * number) words))
        (All-take (λ word. word < 2 ^ 64) GROUP_CALLS (drop (GROUP_CALLS * number) words)
        (All-drop (λ word. word < 2 ^ 64) (GROUP_CALLS * number) words few.small)),
    groups_all numbers,
  )

  own_all : AllByRecursion (IsTypedFunc guarded) (own_funcs n entry words)
  own_all = (
    start_is,
    joined_all (IsTypedFunc guarded) (digest_funcs n.digests n)
        (check_func n ∷ next_func n (length words) ∷ group_funcs n words)
        (digests_all n.digests (λ more h. (memory_there m layout entry words guardable more h).0))
        (check_is, (next_is, groups_all (range_with_len 0 (group_count (length words))))),
  )

  -- ---- all functions

  abbrev in_places : List Func
  in_places = funcs_in_places layout m.funcs

  abbrev originals : List Func
  originals = original_funcs layout m.funcs

  abbrev appended : List Func
  appended = appended_funcs layout m.funcs

  -- what holds of all functions holds of those of each side
  module _ (P : Func → Type 0) (all : AllByRecursion P m.funcs) where
    abbrev listed : All P m.funcs
    listed = All-from_recursion P m.funcs all

    in_places_all : AllByRecursion P in_places
    in_places_all = recursion_from_All P in_places (All-take P layout.imports m.funcs listed)

    originals_hold : AllByRecursion P originals
    originals_hold =
        recursion_from_All P originals
        (All-take P layout.defined (drop layout.imports m.funcs) (All-drop P layout.imports m.funcs listed))

    appended_all : AllByRecursion P appended
    appended_all = recursion_from_All P appended (All-drop P (layout.imports + layout.defined) m.funcs listed)

  bodies : AllByRecursion (IsTypedFunc m) m.funcs
  bodies = recursion_from_All (IsTypedFunc m) m.funcs valid.bodies

  declared : AllByRecursion (IsDeclaredFunc m) m.funcs
  declared = recursion_from_All (IsDeclaredFunc m) m.funcs valid.outside.funcs

  elsewhere : AllByRecursion Elsewhere m.funcs
  elsewhere = funcs_elsewhere entry m.funcs guardable.unreferred

  places_from : AreFrom 0 in_places
  places_from j f h =
      let same : 0 + j ≡ j = omega arith in
      ap (λ l. slice_get l (0 + j)) (in_parts layout m.funcs)
      ∙ ap (slice_get (in_places ++ (originals ++ appended))) same
      ∙ get_front in_places (originals ++ appended) j (slice_get_within in_places j f h) ∙ h

  originals_from : AreFrom layout.imports originals
  originals_from j f h =
      let long = places_long m layout entry words none many in
      ap (λ l. slice_get l (layout.imports + j)) (in_parts layout m.funcs)
      ∙ get_after_by in_places (originals ++ appended) (layout.imports + j) j (omega (arith, long))
      ∙ get_front originals appended j (slice_get_within originals j f h) ∙ h

  imports_small : layout.imports < 2 ^ 32
  imports_small = guardable.form.laid.bytes.small_imports

  defined_small : layout.defined < 2 ^ 32
  defined_small = guardable.form.laid.bytes.small_defined

  pub all_typed : All (IsTypedFunc guarded) guarded.funcs
  all_typed =
      let places = places_long m layout entry words none many in
      let defined = originals_long m layout entry words none many in
      let small = imports_small in
      let smaller = defined_small in
      let outside = outside_funcs layout m.funcs in
      All-from_recursion (IsTypedFunc guarded) guarded.funcs
      (joined_all (IsTypedFunc guarded) (import_fronts m.types n in_places) _
      (import_fronts_all 0 in_places places_from (omega (arith, places, small))
      (in_places_all (IsDeclaredFunc m) declared))
      (joined_all (IsTypedFunc guarded) originals _
      (originals_all originals (originals_hold (IsTypedFunc m) bodies) (originals_hold Elsewhere elsewhere))
      (joined_all (IsTypedFunc guarded) (map (redirected n) appended) _
      (redirected_all appended (appended_all (IsTypedFunc m) bodies) (appended_all Elsewhere elsewhere))
      (joined_all (IsTypedFunc guarded) (map (redirected n) in_places) _
      (redirected_all in_places (in_places_all (IsTypedFunc m) bodies) (in_places_all Elsewhere elsewhere))
      (joined_all (IsTypedFunc guarded) (func_fronts m.types n outside layout.imports originals) _
      (func_fronts_all outside layout.imports originals originals_from (omega (arith, defined, small, smaller))
      (originals_hold (IsDeclaredFunc m) declared))
      own_all)))))
