-- The plan of a tape has each segment of the tape once, in order, in the call to which it belongs.
use Rattle.std.specs.Prelude.{◌≡◌, ◌⊎◌, ℕ, ◌+◌, ◌<◌, List, [], ◌∷◌, length, map, filter, nat_eq, sum_by, slice_get, Bool, false, Some, All}
use Rattle.std.specs.List.{slice_index_or}
use Rattle.wasm_syntax.specs.declared.modules.Module.{Module}
use Rattle.wasm_syntax.specs.Index.{imported_funcs}
use Rattle.trace_model.specs.declared.tapes.Origin.{Origin}
use Rattle.trace_model.specs.declared.tapes.Origin.TheVariants.{Import}
use Rattle.trace_model.specs.declared.tapes.Segment.{Segment}
use Rattle.trace_model.specs.declared.tapes.Tape.{Tape}
use Rattle.trace_model.specs.Fitting.{IsFitting}
use Rattle.replay_module_spec.specs.declared.plans.Plan.{Plan}
use Rattle.replay_module_spec.specs.Plans.{plan_of}

-- some segments are among others in the same order
abbrev pub IsInOrder : List Segment → List Segment → Type 0
IsInOrder [] others = Unit {0}
IsInOrder (segment ∷ segments) [] = ⊥
IsInOrder (segment ∷ segments) (other ∷ others) =
    (segment ≡ other) × IsInOrder segments others ⊎ IsInOrder (segment ∷ segments) others

-- whether control comes by a call of this import
abbrev pub is_call_of : ℕ → Origin → Bool
is_call_of import (Import other) = nat_eq import other
is_call_of import origin = false

-- the sum of a number that each segment has, over the activations of a plan
abbrev pub plan_sum : (Segment → ℕ) → Plan → ℕ
plan_sum number plan =
    sum_by number plan.begin + sum_by (λ calls. sum_by (λ call. sum_by number call) calls) plan.imports

-- A plan has the segments of a tape: it has a list of calls for each import. The segments of each activation are in
-- the order of the tape. Each segment of the tape is in one activation, once, since any number that segments have has
-- the same sum over the plan and over the tape. The call of number k of an import, counted from 0, begins with the
-- segment of number k of those in the tape to which control comes by a call of the import.
pub record HasSegmentsOf (count : ℕ) (tape : Tape) (plan : Plan) : Type 0 where
  pub imports : length plan.imports ≡ count
  pub begin_order : IsInOrder plan.begin tape.segments
  pub call_order : All (λ calls. All (λ call. IsInOrder call tape.segments) calls) plan.imports
  pub once : (number : Segment → ℕ) → plan_sum number plan ≡ sum_by number tape.segments
  pub calls : (import : ℕ) → import < count
      → map (λ (call : List Segment). slice_get call 0) (slice_index_or plan.imports import [])
      ≡ map (λ (segment : Segment). Some segment)
      (filter (λ (segment : Segment). is_call_of import segment.origin) tape.segments)

-- the plan of a tape that fits a module has the segments of the tape
abbrev pub PlansHaveSegments : Type 0
PlansHaveSegments =
    (m : Module) (tape : Tape) → IsFitting m tape
    → HasSegmentsOf (imported_funcs m) tape (plan_of (imported_funcs m) tape)
