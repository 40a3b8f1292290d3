-- The generated functions have encodings, but for their type indices and the nesting of their bodies.
use Rattle.std.proofs.Common.{◌≡◌, ℕ, zero, suc, ◌+◌, ◌*◌, ◌^◌, ◌<◌, ◌≤◌, List, [], ◌∷◌, length, map, refl, arith}
use Rattle.std.specs.Prelude.{drop, take}
use Rattle.std.specs.List.{AllByRecursion, range_with_len}
use Rattle.std.proofs.lemmas.List.{length-append, length-map}
use Rattle.std.proofs.lemmas.List.FromFn.{length-map-range_with_len}
use Rattle.base.proofs.Lists.{joined_all}
use Rattle.base.specs.declared.opcodes.TheConstants.{I32_DIV_U, I32_REM_U}
use Rattle.wasm_syntax.specs.declared.instructions.Instr.TheVariants.{LocalGet, Numeric}
use Rattle.wasm_syntax.specs.declared.modules.Func.{Func}
use Rattle.wasm_syntax.specs.declared.modules.Module.{Module}
use Rattle.wasm_syntax.specs.Index.{all_globals, func_indices}
use Rattle.wasm_syntax.specs.Nest.{Empty}
use Rattle.wasm_syntax.specs.Encoding.Encodable.{FitsLocals}
use Rattle.trace_model.specs.declared.tapes.Segment.{Segment}
use Rattle.replay_module_spec.specs.declared.plans.Plan.{Plan}
use Rattle.replay_module_spec.specs.declared.groups.TheConstants.{GROUP_CALLS}
use Rattle.replay_module_spec.specs.Dispatch.{dispatch, sequence}
use Rattle.replay_module_spec.specs.Effects.{i32_const}
use Rattle.replay_module_spec.specs.Functions.{count_code, group_call, group_count, group_func, group_funcs, group_nest, groups, import_func, import_funcs, import_nest, original_type, start_func}
use Rattle.replay_module_spec.specs.Fragments.{helper_funcs, import_bodies, import_types, start_index}
use Rattle.replay_module_spec.specs.Segments.{segments_code}
use Rattle.replay_gen.specs.Bounds.{FitsIndices}
use Rattle.replay_gen.specs.Pieces.{group_total}
use Rattle.replay_module_laws.specs.Plans.{AreFit, CallsFit, PlanFits}
use Rattle.replay_encoding_laws.proofs.FittingCode.{AreFitting, body_fits, calls_fitting, dispatch_fits, parts_all, segments_fitting, sequence_fits}

-- the locals and the instructions of a function
abbrev pub HasFittingCode : Func → Type 0
HasFittingCode func = FitsLocals func.locals × AreFitting func.body

-- ---- the number of functions

pub imports_length : (m : Module) (counter first : ℕ) (types : List ℕ) (calls : List (List (List Segment)))
    → length (import_funcs m counter first types calls) ≤ length types
imports_length m counter first [] calls = omega arith
imports_length m counter first (ty ∷ types) [] = omega arith
imports_length m counter first (ty ∷ types) (calls ∷ more) =
    let later = imports_length m (counter + 1) (first + group_count (length calls)) types more in omega (arith, later)

pub groups_length : (m : Module) (types : List ℕ) (calls : List (List (List Segment)))
    → length (group_funcs m types calls) ≡ group_total types calls
groups_length m [] calls = refl
groups_length m (ty ∷ types) [] = refl
groups_length m (ty ∷ types) (calls ∷ more) =
    let part = λ (number : ℕ). take GROUP_CALLS (drop (GROUP_CALLS * number) calls) in
    let both = length-append (map (group_func m ty) (groups calls)) (group_funcs m types more) in
    let own = length-map (groups calls) (group_func m ty) in
    let count = length-map-range_with_len part 0 (group_count (length calls)) in
    let later = groups_length m types more in
    omega (arith, both, own, count, later)

-- ---- the function in an import's place

group_calls_fit : (local first count : ℕ) → local < 2 ^ 32 → first + count ≤ 2 ^ 32
    → AllByRecursion AreFitting (map (group_call local) (range_with_len first count))
group_calls_fit local first zero own few = tt
group_calls_fit local first (suc count) own few = (
  (own, (omega (arith, few), (tt, tt))),
  group_calls_fit local (first + 1) count own (omega (arith, few)),
)

import_fits : (m : Module) (ty counter first count : ℕ) → length (original_type m ty).params < 2 ^ 32
    → counter < 2 ^ 32 → first + count ≤ 2 ^ 32 → count < 2 ^ 32 → HasFittingCode (import_func m ty counter first count)
import_fits m ty counter first count params counted few small =
    let local = length (original_type m ty).params in
    let selector = LocalGet local ∷ i32_const GROUP_CALLS ∷ Numeric I32_DIV_U ∷ [] in
    let arms = map (group_call local) (range_with_len first count) in
    let many : length arms ≡ count = length-map-range_with_len (group_call local) first count in (
      (omega arith, ((omega arith, tt), tt), omega arith),
      body_fits (import_nest counter local first count)
          (sequence_fits (count_code counter local) (dispatch selector arms)
          (counted, (params, (omega arith, (refl, (counted, tt)))))
          (dispatch_fits selector arms (params, (omega arith, (refl, tt))) (omega (arith, many, small))
          (group_calls_fit local first count params few))),
    )

module _ (m : Module) (params : (ty : ℕ) → length (original_type m ty).params < 2 ^ 32) where
  imports_fit : (counter first : ℕ) (types : List ℕ) (calls : List (List (List Segment)))
      → counter + length types ≤ 2 ^ 32 → first + group_total types calls < 2 ^ 32
      → AllByRecursion HasFittingCode (import_funcs m counter first types calls)
  imports_fit counter first [] calls counted few = tt
  imports_fit counter first (ty ∷ types) [] counted few = tt
  imports_fit counter first (ty ∷ types) (calls ∷ more) counted few =
      let count = group_count (length calls) in (
        import_fits m ty counter first count (params ty) (omega (arith, counted)) (omega (arith, few))
            (omega (arith, few)),
        imports_fit (counter + 1) (first + count) types more (omega (arith, counted)) (omega (arith, few)),
      )

module _ (m : Module) (funcs : length (func_indices m) < 2 ^ 32) (globals : length (all_globals m) < 2 ^ 32) where
  part_length : (place : ℕ) (calls : List (List Segment))
      → length (take GROUP_CALLS (drop (GROUP_CALLS * place) calls)) < 2 ^ 32
  part_length place calls = let most = take_most GROUP_CALLS (drop (GROUP_CALLS * place) calls) in omega (arith, most)
    where
      take_most : (count : ℕ) (xs : List (List Segment)) → length (take count xs) ≤ count
      take_most zero xs = omega arith
      take_most (suc count) [] = omega arith
      take_most (suc count) (x ∷ xs) = let later = take_most count xs in omega (arith, later)

  group_fits : (ty : ℕ) (calls : List (List Segment)) → length calls < 2 ^ 32
      → AllByRecursion (AreFit m (original_type m ty).results) calls → HasFittingCode (group_func m ty calls)
  group_fits ty calls few fit =
      let selector = LocalGet 0 ∷ i32_const GROUP_CALLS ∷ Numeric I32_REM_U ∷ [] in
      let many = length-map calls (segments_code m) in (
        (tt, tt, omega arith),
        body_fits (group_nest m calls)
            (dispatch_fits selector (map (segments_code m) calls) (omega arith, (omega arith, (refl, tt)))
            (omega (arith, many, few)) (calls_fitting m funcs globals (original_type m ty).results calls fit)),
      )

  each_fits : (ty : ℕ) (calls : List (List Segment)) (places : List ℕ)
      → AllByRecursion (AllByRecursion (AreFit m (original_type m ty).results))
      (map (λ number. take GROUP_CALLS (drop (GROUP_CALLS * number) calls)) places)
      → AllByRecursion HasFittingCode
      (map (group_func m ty) (map (λ number. take GROUP_CALLS (drop (GROUP_CALLS * number) calls)) places))
  each_fits ty calls [] fit = tt
  each_fits ty calls (place ∷ places) fit = (
    group_fits ty (take GROUP_CALLS (drop (GROUP_CALLS * place) calls)) (part_length place calls) fit.0,
    each_fits ty calls places fit.1,
  )

  groups_fit : (types : List ℕ) (calls : List (List (List Segment))) → CallsFit m types calls
      → AllByRecursion HasFittingCode (group_funcs m types calls)
  groups_fit [] calls fit = tt
  groups_fit (ty ∷ types) [] fit = tt
  groups_fit (ty ∷ types) (calls ∷ more) fit =
      let places = range_with_len 0 (group_count (length calls)) in
      joined_all HasFittingCode (map (group_func m ty) (groups calls)) (group_funcs m types more)
      (each_fits ty calls places (parts_all (AreFit m (original_type m ty).results) calls places fit.0))
      (groups_fit types more fit.1)

  start_fits : (segments : List Segment) → AreFit m [] segments → HasFittingCode (start_func m segments)
  start_fits segments fit = (
    (tt, tt, omega arith),
    body_fits (sequence (segments_code m segments) Empty)
        (sequence_fits (segments_code m segments) Empty (segments_fitting m funcs globals [] segments fit) tt),
  )

-- ---- all functions

pub bodies_fit : (m : Module) (plan : Plan) → FitsIndices m plan
    → AllByRecursion HasFittingCode (import_bodies m plan)
bodies_fit m plan small =
    imports_fit m small.params (length (all_globals m)) (start_index m + 1) (import_types m) plan.imports
    (omega (arith, small.globals)) (omega (arith, small.funcs))

pub helpers_fit : (m : Module) (plan : Plan) → FitsIndices m plan → PlanFits m plan
    → AllByRecursion HasFittingCode (helper_funcs m plan)
helpers_fit m plan small fits =
    let funcs : length (func_indices m) < 2 ^ 32 = omega (arith, small.funcs) in
    let globals : length (all_globals m) < 2 ^ 32 = omega (arith, small.globals) in
    (start_fits m funcs globals plan.begin fits.begin, groups_fit m funcs globals (import_types m) plan.imports fits.imports)
