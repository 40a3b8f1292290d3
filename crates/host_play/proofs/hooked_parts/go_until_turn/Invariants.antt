use Rattle.std.proofs.Common.{◌≡◌, ◌≤◌}
use Rattle.wasm_syntax.specs.declared.modules.Module.{Module}
use Rattle.history_spec.specs.Step.{StepResult}
use Rattle.host_play.specs.RunsSoFar.{BeginsPart, IsOn}
use Rattle.host_play.specs.HooksSoFar.{HooksSoFar, free}
use Rattle.host_play.proofs.hooked_parts.go_until_turn.Given as goal

abbrev pub invariant-parts : goal.invariant-parts
invariant-parts g l =
    ((m : Module) (initial : StepResult) (begun : g.row.H.Denot)
    → HooksSoFar g.H.Hooks.is_step m l.script l.settings initial begun l.fn.hooks l.fn.first l.fn.playing l.fn.left
    → HooksSoFar g.H.Hooks.is_step m l.script l.settings initial begun l.hooks l.stand l.playing l.left)
    × BeginsPart l.stand
    × IsOn l.stand
    × (l.left ≡ l.before)
    × (l.before ≡ l.fn.left)
    × (l.left ≤ l.settings.turns)

abbrev pub decreases-parts : goal.decreases-parts
decreases-parts g l = free l.stand l.playing
