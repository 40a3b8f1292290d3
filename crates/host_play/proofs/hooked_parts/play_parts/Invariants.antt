use Rattle.std.proofs.Common.{◌≤◌, ◌+◌}
use Rattle.wasm_syntax.specs.declared.modules.Module.{Module}
use Rattle.history_spec.specs.Step.{StepResult}
use Rattle.host_play.specs.RunsSoFar.{BeginsPart, going}
use Rattle.host_play.specs.HooksSoFar.{HooksSoFar}
use Rattle.host_play.proofs.hooked_parts.play_parts.Given as goal

abbrev pub invariant-turns : goal.invariant-turns
invariant-turns g l =
    ((m : Module) (initial : StepResult) (begun : g.row.H.Denot)
    → HooksSoFar g.H.Hooks.is_step m l.script l.settings initial begun l.fn.hooks l.fn.first l.fn.playing l.settings.turns
    → HooksSoFar g.H.Hooks.is_step m l.script l.settings initial begun l.hooks l.stand l.playing l.left)
    × BeginsPart l.stand
    × (l.left ≤ l.settings.turns)

abbrev pub decreases-turns : goal.decreases-turns
decreases-turns g l = l.left + going l.stand
