-- The generated functions play the segments of a call.
use Rattle.std.proofs.Common.{◌≡◌, ℕ, ◌+◌, ◌/◌, ◌%◌, List, [], ◌∷◌, length, map, option_map, Some, slice_get, sym, ap, ◌∙◌, subst}
use Rattle.std.specs.List.{range_with_len}
use Rattle.std.proofs.lemmas.Option.{slice_get-map, slice_get_within}
use Rattle.base.specs.declared.opcodes.TheConstants.{I32_DIV_U, I32_REM_U}
use Rattle.wasm_syntax.specs.declared.instructions.Instr.TheVariants.{Call, LocalGet, Return}
use Rattle.wasm_syntax.specs.declared.modules.Module.{Module}
use Rattle.trace_model.specs.declared.tapes.Segment.{Segment}
use Rattle.replay_module_spec.specs.declared.groups.TheConstants.{GROUP_CALLS}
use Rattle.replay_module_spec.specs.Functions.{group_call, group_count}
use Rattle.replay_module_spec.specs.Segments.{segments_code}
use Rattle.generated_code_laws.specs.GeneratedStepLaws.{ReachesArm}
use Rattle.generated_code_laws.specs.PlayedCalls.{IsPlayed}
use Rattle.generated_code_laws.proofs.Groups.{call_there, group_at, group_there, group_within, range_there, segments_some}
use Rattle.generated_code_laws.proofs.Selections.{dispatches_reach, selectors_count}

pub calls_played : (m : Module) (calls : List (List Segment)) (call : ℕ) (segments : List Segment)
    → slice_get calls call ≡ Some segments → IsPlayed m calls call segments
calls_played m calls call segments there =
    let below = slice_get_within calls call segments there in
    let group = group_at calls call below in
    record {
      body = λ w s store labels local first number outside holds.
          let count = group_count (length calls) in
          let own = first + call / GROUP_CALLS in
          (dispatches_reach w s store labels local I32_DIV_U call (call / GROUP_CALLS)
          (map (group_call local) (range_with_len first count)) number outside (selectors_count s local call holds).0).0
          (LocalGet local) (Call own ∷ Return ∷ [])
          (slice_get-map (group_call local) (range_with_len first count) (call / GROUP_CALLS)
          ∙ ap (option_map (group_call local))
          (range_there first count (call / GROUP_CALLS) (group_within calls call below)));
      group = group;
      in_groups = group_there calls call below;
      plays = λ w s store labels number outside holds.
          let code = segments_some m segments in
          subst (λ arm. ReachesArm w s store labels 0 I32_REM_U (map (segments_code m) group) number arm) (sym code.is)
          ((dispatches_reach w s store labels 0 I32_REM_U call (call % GROUP_CALLS) (map (segments_code m) group) number
          outside (selectors_count s 0 call holds).1).0 code.first code.more
          (slice_get-map (segments_code m) group (call % GROUP_CALLS)
          ∙ ap (option_map (segments_code m)) (call_there calls call below ∙ there)
          ∙ ap (λ l. Some l) code.is));
    }
