-- The code of a replay module: the original's functions at their indices, and the generated ones.
use Rattle.std.proofs.Common.{◌≡◌, ℕ, zero, suc, ◌+◌, ◌-◌, ◌<◌, ◌≤◌, List, [], ◌∷◌, ◌++◌, length, Option, Some, None, false, cond, nat_lt, slice_get, refl, sym, ap, ◌∙◌, subst, arith, option_and_then, option_map, length-append}
use Rattle.std.specs.Prelude.{map, IsTrue}
use Rattle.std.specs.List.{slice_index_or, All}
use Rattle.std.proofs.lemmas.Bool.Decides.{nat_tests}
use Rattle.std.proofs.lemmas.List.{append_assoc, length-map, map-append}
use Rattle.std.proofs.lemmas.List.Elements.{All-head}
use Rattle.std.proofs.lemmas.List.FromFn.{length-map-range_with_len}
use Rattle.std.proofs.lemmas.Option.{get_or_from_slice_get, slice_get-map, slice_get_within}
use Rattle.base.proofs.Lists.{all_at, get_after_by, get_front, item_there}
use Rattle.base.proofs.Options.{and_then_some}
use Rattle.wasm_syntax.specs.declared.values.ValType.{ValType}
use Rattle.wasm_syntax.specs.declared.values.ValType.TheVariants.{I32, I64, F32, F64, FuncRef}
use Rattle.wasm_syntax.specs.declared.signatures.FuncType.{FuncType}
use Rattle.wasm_syntax.specs.declared.modules.Module.{Module}
use Rattle.wasm_syntax.specs.declared.modules.Func.{Func}
use Rattle.wasm_syntax.specs.Nest.{Nest, Empty, IsNest, nest_of}
use Rattle.wasm_syntax.specs.Index.{all_globals, func_import, func_indices, imported_funcs, of_kind}
use Rattle.wasm_syntax.specs.Typing.{is_number}
use Rattle.wasm_syntax.specs.Validity.{IsFuncType, IsValid, each_local}
use Rattle.wasm_syntax.proofs.FuncTypes.{TypeIndex, type_index}
use Rattle.host_script.specs.declared.scripts.Supply.{Supply}
use Rattle.trace_model.specs.declared.tapes.Segment.{Segment}
use Rattle.history_spec.specs.Code.{code_of, definition, definition_of, signature}
use Rattle.replay_module_spec.specs.declared.plans.Plan.{Plan}
use Rattle.replay_module_spec.specs.Dispatch.{body_of, sequence}
use Rattle.replay_module_spec.specs.Segments.{segments_code}
use Rattle.replay_module_spec.specs.Functions.{appended_types, group_count, group_func, group_funcs, group_nest, group_type, group_type_place, groups, import_func, import_funcs, import_nest, original_type, start_func, start_type}
use Rattle.replay_module_spec.specs.Fragments.{fragment_of, helper_funcs, import_bodies, import_types, start_index}
use Rattle.replay_module_spec.specs.Merge.{replay_module}
use Rattle.replay_module_laws.specs.Codes.{IsAnswered, IsDefined, IsReplayCode, first_group}
use Rattle.replay_module_laws.proofs.Bodies.{body_read, group_is_nest, import_is_nest, plain_segments, sequence_nest}

-- ---- indices

-- the functions of groups follow the first index
pub first_group_past : (first : ℕ) (calls : List (List (List Segment))) (import : ℕ)
    → first ≤ first_group first calls import
first_group_past first [] import = omega arith
first_group_past first (own ∷ more) zero = omega arith
first_group_past first (own ∷ more) (suc import) =
    let later = first_group_past (first + group_count (length own)) more import in omega (arith, later)

-- functions are imported or defined
pub functions : (m : Module) → start_index m ≡ imported_funcs m + length m.funcs
functions m =
    length-append (of_kind func_import m.imports) (map (λ (f : Func). f.ty) m.funcs)
    ∙ ap (λ n. imported_funcs m + n) (length-map m.funcs (λ (f : Func). f.ty))

-- ---- generated functions

-- the function in the place of an import
import_func_there : (m : Module) (counter first : ℕ) (types : List ℕ) (calls : List (List (List Segment)))
    (import place ty : ℕ) (own : List (List Segment))
    → slice_get types import ≡ Some ty → slice_get calls import ≡ Some own → place ≡ counter + import
    → slice_get (import_funcs m counter first types calls) import
    ≡ Some (import_func m ty place (first_group first calls import) (group_count (length own)))
import_func_there m counter first [] calls import place ty own t c e = absurd (cc t)
import_func_there m counter first (x ∷ types) [] import place ty own t c e = absurd (cc c)
import_func_there m counter first (x ∷ types) (y ∷ calls) zero place ty own t c e =
    let same : x ≡ ty = cc in
    let also : y ≡ own = cc in
    let there : counter ≡ place = omega (arith, e) in
    ap (λ x. Some (import_func m x counter first (group_count (length y)))) same
    ∙ ap (λ y. Some (import_func m ty counter first (group_count (length y)))) also
    ∙ ap (λ n. Some (import_func m ty n first (group_count (length own)))) there
import_func_there m counter first (x ∷ types) (y ∷ calls) (suc import) place ty own t c e =
    import_func_there m (counter + 1) (first + group_count (length y)) types calls import place ty own t c
    (omega (arith, e))

import_funcs_types : (m : Module) (counter first : ℕ) (types : List ℕ) (calls : List (List (List Segment)))
    → length calls ≡ length types
    → map (λ (f : Func). f.ty) (import_funcs m counter first types calls) ≡ types
import_funcs_types m counter first [] [] e = refl
import_funcs_types m counter first [] (y ∷ calls) e = absurd (omega (arith, e))
import_funcs_types m counter first (x ∷ types) [] e = absurd (omega (arith, e))
import_funcs_types m counter first (x ∷ types) (y ∷ calls) e =
    ap (λ l. x ∷ l)
    (import_funcs_types m (counter + 1) (first + group_count (length y)) types calls (omega (arith, e)))

-- the function of a group
group_func_there : (m : Module) (first : ℕ) (types : List ℕ) (calls : List (List (List Segment)))
    (import ty number place : ℕ) (own group : List (List Segment))
    → slice_get types import ≡ Some ty → slice_get calls import ≡ Some own → slice_get (groups own) number ≡ Some group
    → first + place ≡ first_group first calls import + number
    → slice_get (group_funcs m types calls) place ≡ Some (group_func m ty group)
group_func_there m first [] calls import ty number place own group t c g e = absurd (cc t)
group_func_there m first (x ∷ types) [] import ty number place own group t c g e = absurd (cc c)
group_func_there m first (x ∷ types) (y ∷ calls) zero ty number place own group t c g e =
    let same : x ≡ ty = cc in
    let also : y ≡ own = cc in
    let here : number ≡ place = omega (arith, e) in
    let found : slice_get (groups y) place ≡ Some group =
    subst (λ y. slice_get (groups y) place ≡ Some group) (sym also)
    (subst (λ n. slice_get (groups own) n ≡ Some group) here g) in
    let within = slice_get_within (groups y) place group found in
    let long : length (map (group_func m x) (groups y)) ≡ length (groups y) = length-map (groups y) (group_func m x) in
    get_front (map (group_func m x) (groups y)) (group_funcs m types calls) place (omega (arith, within, long))
    ∙ slice_get-map (group_func m x) (groups y) place
    ∙ ap (option_map (group_func m x)) found
    ∙ ap (λ x. Some (group_func m x group)) same
group_func_there m first (x ∷ types) (y ∷ calls) (suc import) ty number place own group t c g e =
    let next = first + group_count (length y) in
    let late = first_group_past next calls import in
    let long : length (map (group_func m x) (groups y)) ≡ length (groups y) = length-map (groups y) (group_func m x) in
    let many : length (groups y) ≡ group_count (length y) =
    length-map-range_with_len _ 0 (group_count (length y)) in
    let left : ℕ = place - group_count (length y) in
    let parts : place ≡ length (map (group_func m x) (groups y)) + left = omega (arith, e, late, long, many) in
    get_after_by (map (group_func m x) (groups y)) (group_funcs m types calls) place left parts
    ∙ group_func_there m next types calls import ty number left own group t c g (omega (arith, e, late))

-- ---- look-ups in code

-- the type and the definition of a function, by its index
defined_at : (m : Module) (func : ℕ) (f : Func) (ty : FuncType) (locals : List ValType) (nest : Nest)
    → m.imports ≡ [] → slice_get m.funcs func ≡ Some f → slice_get m.types f.ty ≡ Some ty
    → each_local f.locals ≡ locals → f.body ≡ body_of nest → IsNest nest → IsDefined (code_of m) func ty locals nest
defined_at m func f ty locals nest none there typed local body is_nest =
    let no_imports : imported_funcs m ≡ 0 = ap (λ imports. length (of_kind func_import imports)) none in
    let never : nat_lt func (imported_funcs m) ≡ false = grind (arith, nat_tests, no_imports) in
    let place : func - imported_funcs m ≡ func = omega (arith, no_imports) in
    record {
      has_type =
          ap (λ imports. option_and_then (λ t. slice_get m.types t)
          (slice_get (of_kind func_import imports ++ map (λ (f : Func). f.ty) m.funcs) func)) none
          ∙ ap (option_and_then (λ t. slice_get m.types t)) (slice_get-map (λ (f : Func). f.ty) m.funcs func)
          ∙ ap (λ o. option_and_then (λ t. slice_get m.types t) (option_map (λ (f : Func). f.ty) o)) there ∙ typed;
      is =
          ap (λ b. cond b None
          (option_and_then (λ d. d) (slice_get (map definition_of m.funcs) (func - imported_funcs m)))) never
          ∙ ap (λ n. option_and_then (λ d. d) (slice_get (map definition_of m.funcs) n)) place
          ∙ ap (option_and_then (λ d. d)) (slice_get-map definition_of m.funcs func)
          ∙ ap (λ o. option_and_then (λ d. d) (option_map definition_of o)) there
          ∙ ap (λ b. option_map (λ nest. record { locals = each_local f.locals; body = nest }) (nest_of b)) body
          ∙ ap (option_map (λ nest. record { locals = each_local f.locals; body = nest })) (body_read nest is_nest)
          ∙ ap (λ l. Some (record { locals = l; body = nest })) local;
    }

-- a group with the results of a valid type has one of the appended types
pub group_type_there : (m : Module) (results : List ValType) → length results ≤ 1 → All (λ t. IsTrue (is_number t)) results
    → slice_get (m.types ++ appended_types) (length m.types + group_type_place results) ≡ Some (group_type results)
group_type_there m [] one numbers = get_after_by m.types appended_types (length m.types + 1) 1 refl
group_type_there m (I32 ∷ []) one numbers = get_after_by m.types appended_types (length m.types + 2) 2 refl
group_type_there m (I64 ∷ []) one numbers = get_after_by m.types appended_types (length m.types + 3) 3 refl
group_type_there m (F32 ∷ []) one numbers = get_after_by m.types appended_types (length m.types + 4) 4 refl
group_type_there m (F64 ∷ []) one numbers = get_after_by m.types appended_types (length m.types + 5) 5 refl
group_type_there m (FuncRef ∷ []) one numbers =
    let h : IsTrue false = All-head (λ t. IsTrue (is_number t)) FuncRef [] numbers in absurd (cc h)
group_type_there m (x ∷ y ∷ results) one numbers = absurd (omega (arith, one))

-- ---- the replay module's code

module _ (m : Module) (supply : Supply) (plan : Plan) (valid : IsValid m)
    (many : length plan.imports ≡ imported_funcs m) where
  abbrev replay : Module
  replay = replay_module m supply (fragment_of m plan)

  abbrev index_of : Func → ℕ
  index_of f = f.ty

  bodies_types : map index_of (import_bodies m plan) ≡ import_types m
  bodies_types =
      import_funcs_types m (length (all_globals m)) (start_index m + 1) (import_types m) plan.imports many

  bodies_length : length (import_bodies m plan) ≡ imported_funcs m
  bodies_length = sym (length-map (import_bodies m plan) index_of) ∙ ap length bodies_types

  all_indices : func_indices replay ≡ func_indices m ++ map index_of (helper_funcs m plan)
  all_indices =
      map-append index_of (import_bodies m plan) (m.funcs ++ helper_funcs m plan)
      ∙ ap (λ l. map index_of (import_bodies m plan) ++ l) (map-append index_of m.funcs (helper_funcs m plan))
      ∙ ap (λ l. l ++ (map index_of m.funcs ++ map index_of (helper_funcs m plan))) bodies_types
      ∙ sym (append_assoc (import_types m) (map index_of m.funcs) (map index_of (helper_funcs m plan)))

  shares_signatures : (func : ℕ) (ty : FuncType) → signature (code_of m) func ≡ Some ty
      → signature (code_of replay) func ≡ Some ty
  shares_signatures func ty h =
      let b = and_then_some (slice_get (func_indices m) func) (λ t. slice_get m.types t) ty h in
      ap (λ l. option_and_then (λ t. slice_get replay.types t) (slice_get l func)) all_indices
      ∙ ap (option_and_then (λ t. slice_get replay.types t))
      (get_front (func_indices m) (map index_of (helper_funcs m plan)) func (slice_get_within (func_indices m) func b.0 b.1) ∙ b.1)
      ∙ get_front m.types appended_types b.0 (slice_get_within m.types b.0 ty b.2) ∙ b.2

  originals_same : (func : ℕ) → imported_funcs m ≤ func → func < start_index m
      → definition (code_of replay) func ≡ definition (code_of m) func
  originals_same func past below =
      let e = functions m in
      let own : nat_lt func (imported_funcs m) ≡ false = grind (arith, nat_tests, past) in
      let never : nat_lt func 0 ≡ false = grind (arith, nat_tests) in
      let place : func - 0 ≡ func = omega arith in
      let long = bodies_length in
      let parts : func ≡ length (import_bodies m plan) + (func - imported_funcs m) = omega (arith, past, long) in
      let within : func - imported_funcs m < length m.funcs = omega (arith, e, past, below) in
      let look = λ (o : Option Func). option_and_then (λ d. d) (option_map definition_of o) in
      ap (λ b. cond b None (option_and_then (λ d. d) (slice_get (map definition_of replay.funcs) (func - 0)))) never
      ∙ ap (λ n. option_and_then (λ d. d) (slice_get (map definition_of replay.funcs) n)) place
      ∙ ap (option_and_then (λ d. d)) (slice_get-map definition_of replay.funcs func)
      ∙ ap look
      (get_after_by (import_bodies m plan) (m.funcs ++ helper_funcs m plan) func (func - imported_funcs m) parts
      ∙ get_front m.funcs (helper_funcs m plan) (func - imported_funcs m) within)
      ∙ ap (option_and_then (λ d. d)) (sym (slice_get-map definition_of m.funcs (func - imported_funcs m)))
      ∙ ap (λ b. cond b None
      (option_and_then (λ d. d) (slice_get (map definition_of m.funcs) (func - imported_funcs m))))
      (sym own)

  -- the helper at a place
  helper_there : (place : ℕ) (f : Func) → slice_get (helper_funcs m plan) place ≡ Some f
      → slice_get replay.funcs (start_index m + place) ≡ Some f
  helper_there place f h =
      let e = functions m in
      let long = bodies_length in
      get_after_by (import_bodies m plan) (m.funcs ++ helper_funcs m plan) (start_index m + place) (length m.funcs + place) (omega (arith, e, long))
      ∙ get_after_by m.funcs (helper_funcs m plan) (length m.funcs + place) place refl ∙ h

  start_defined : IsDefined (code_of replay) (start_index m) start_type [] (sequence (segments_code m plan.begin) Empty)
  start_defined =
      let first : start_index m + 0 ≡ start_index m = omega arith in
      defined_at replay (start_index m) (start_func m plan.begin) start_type []
      (sequence (segments_code m plan.begin) Empty) refl
      (ap (slice_get replay.funcs) (sym first) ∙ helper_there 0 (start_func m plan.begin) refl)
      (get_after_by m.types appended_types (length m.types) 0 (omega arith)) refl refl
      (sequence_nest (segments_code m plan.begin) Empty (plain_segments m plan.begin) tt)

  module _ (import : ℕ) (ty : FuncType) (below : import < imported_funcs m)
      (typed : signature (code_of m) import ≡ Some ty) where
    abbrev own : List (List Segment)
    own = slice_index_or plan.imports import []

    calls_there : slice_get plan.imports import ≡ Some own
    calls_there =
        let there = item_there plan.imports import (omega (arith, many, below)) in
        there.1 ∙ ap (λ c. Some c) (sym (get_or_from_slice_get plan.imports import there.0 [] there.1))

    abbrev type_place : TypeIndex m import ty
    type_place = type_index m import ty typed

    index_there : slice_get (import_types m) import ≡ Some type_place.0
    index_there =
        sym (get_front (import_types m) (map index_of m.funcs) import below) ∙ type_place.1

    type_is : original_type m type_place.0 ≡ ty
    type_is = get_or_from_slice_get m.types type_place.0 ty start_type type_place.2

    ty_valid : IsFuncType ty
    ty_valid = all_at IsFuncType m.types type_place.0 ty valid.outside.types type_place.2

    pub answered : IsAnswered m plan (code_of replay) import ty own
    answered =
        record {
          body =
              (let long = bodies_length in
              subst
              (λ (t : FuncType). IsDefined (code_of replay) import ty (I32 ∷ [])
              (import_nest (length (all_globals m) + import) (length t.params)
              (first_group (start_index m + 1) plan.imports import) (group_count (length own)))) type_is
              (defined_at replay import _ ty (I32 ∷ []) _ refl
              (get_front (import_bodies m plan) (m.funcs ++ helper_funcs m plan) import (omega (arith, long, below))
              ∙ import_func_there m (length (all_globals m)) (start_index m + 1) (import_types m) plan.imports import
              (length (all_globals m) + import) type_place.0 own index_there calls_there refl)
              (get_front m.types appended_types type_place.0 (slice_get_within m.types type_place.0 ty type_place.2)
              ∙ type_place.2) refl refl
              (import_is_nest (length (all_globals m) + import) (length (original_type m type_place.0).params)
              (first_group (start_index m + 1) plan.imports import) (group_count (length own)))));
          group = λ number group found.
              let late = first_group_past (start_index m + 1) plan.imports import in
              let func = first_group (start_index m + 1) plan.imports import + number in
              let place = func - (start_index m + 1) in
              let parts : start_index m + suc place ≡ func = omega (arith, late) in
              let sum : start_index m + 1 + place ≡ func = omega (arith, late) in
              defined_at replay func (group_func m type_place.0 group) (group_type ty.results) []
              (group_nest m group) refl
              (ap (slice_get replay.funcs) (sym parts)
              ∙ helper_there (suc place) (group_func m type_place.0 group)
              (group_func_there m (start_index m + 1) (import_types m) plan.imports import type_place.0 number place own
              group index_there calls_there found sum))
              (ap (λ (t : FuncType). slice_get (m.types ++ appended_types)
              (length m.types + group_type_place t.results))
              type_is ∙ group_type_there m ty.results ty_valid.one_result ty_valid.results) refl refl
              (group_is_nest m group);
        }

  pub replay_code : IsReplayCode m plan (code_of replay)
  replay_code =
      record {
        shares =
            record {
              types = λ t ty h. get_front m.types appended_types t (slice_get_within m.types t ty h) ∙ h;
              signatures = shares_signatures;
            };
        imported = refl;
        originals = originals_same;
        start = start_defined;
        answers = λ import ty below typed. answered import ty below typed;
      }
