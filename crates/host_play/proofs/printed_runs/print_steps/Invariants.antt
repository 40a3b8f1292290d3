use Rattle.std.proofs.Common.{◌+◌, ◌*◌, ◌≤◌}
use Rattle.wasm_syntax.specs.declared.modules.Module.{Module}
use Rattle.history_spec.specs.Step.{StepResult}
use Rattle.host_play.specs.RunsSoFar.{PrintsSoFar}
use Rattle.host_play.specs.Stands.{rest}
use Rattle.host_play.proofs.printed_runs.print_steps.Given as goal

abbrev pub invariant-steps : goal.invariant-steps
invariant-steps l =
    ((m : Module) (initial : StepResult) → PrintsSoFar m l.script initial l.turns l.fn.printed.lines l.fn.first l.fn.playing l.turns
    → PrintsSoFar m l.script initial l.turns l.printed.lines l.stand l.playing l.left)
    × (l.left ≤ l.turns)

abbrev pub decreases-steps : goal.decreases-steps
decreases-steps l = 4 * l.left + rest l.stand l.playing
