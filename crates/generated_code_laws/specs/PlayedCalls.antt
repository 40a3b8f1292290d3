-- Which segments the generated functions play in a call of an import.
use Rattle.std.specs.Prelude.{◌≡◌, ℕ, ◌+◌, ◌/◌, List, length, map, Some, slice_get}
use Rattle.std.specs.List.{range_with_len}
use Rattle.base.specs.declared.opcodes.TheConstants.{I32_DIV_U, I32_REM_U}
use Rattle.wasm_syntax.specs.declared.modules.Module.{Module}
use Rattle.trace_model.specs.declared.tapes.Segment.{Segment}
use Rattle.history_spec.specs.Code.{i32_value}
use Rattle.history_spec.specs.Configuration.{Label}
use Rattle.history_spec.specs.Store.{Store}
use Rattle.replay_module_spec.specs.declared.groups.TheConstants.{GROUP_CALLS}
use Rattle.replay_module_spec.specs.Functions.{group_call, group_count, groups}
use Rattle.replay_module_spec.specs.Segments.{segments_code}
use Rattle.generated_code_laws.specs.GeneratedStepLaws.{ReachesArm}
use Rattle.generated_code_laws.specs.Leads.{IsOutside, Standing, Watched}

-- A call of an import plays these segments, in any run, store and stack. In the import's place the dispatch on the
-- local that holds the number of the call reaches the call of the function of its group, if the groups' functions have
-- the indices from `first` on. In that function the dispatch on the parameter, which is the number of the call, reaches
-- the code of exactly these segments.
pub record IsPlayed (m : Module) (calls : List (List Segment)) (call : ℕ) (segments : List Segment) : Type 0 where
  pub body : (w : Watched) (s : Standing) (store : Store) (labels : List Label) (local first number : ℕ)
      → IsOutside w.layout s.frame.func → slice_get s.frame.locals local ≡ Some (i32_value call)
      → ReachesArm w s store labels local I32_DIV_U
      (map (group_call local) (range_with_len first (group_count (length calls)))) number
      (group_call local (first + call / GROUP_CALLS))
  pub group : List (List Segment)
  pub in_groups : slice_get (groups calls) (call / GROUP_CALLS) ≡ Some group
  pub plays : (w : Watched) (s : Standing) (store : Store) (labels : List Label) (number : ℕ)
      → IsOutside w.layout s.frame.func → slice_get s.frame.locals 0 ≡ Some (i32_value call)
      → ReachesArm w s store labels 0 I32_REM_U (map (segments_code m) group) number (segments_code m segments)

-- the call of number k of an import, counted from 0, plays the segments of number k in the list of its calls
abbrev pub CallsArePlayed : Type 0
CallsArePlayed =
    (m : Module) (calls : List (List Segment)) (call : ℕ) (segments : List Segment)
    → slice_get calls call ≡ Some segments → IsPlayed m calls call segments
