use Rattle.std.proofs.Common.{◌≡◌, ℕ, ◌≤◌, List}
use Rattle.wasm_syntax.specs.declared.modules.Module.{Module}
use Rattle.host_script.specs.declared.scripts.Action.{Action}
use Rattle.history_spec.specs.Step.{StepResult}
use Rattle.replay_run.specs.RunsSoFar.{IsShown, ShowsSoFar}
use Rattle.replay_run.proofs.calls.finish_call.Given as goal

abbrev pub invariant-steps : goal.invariant-steps
invariant-steps l =
    ((m : Module) (actions : List Action) (initial : StepResult) (turns : ℕ) → ShowsSoFar m actions initial turns
    l.fn.first l.fn.shown l.fn.machine l.fn.left → ShowsSoFar m actions initial turns l.stand l.shown l.machine l.left)
    × IsShown l.stand l.shown l.machine × (l.left ≤ l.fn.left) × (l.shown.layout ≡ l.fn.shown.layout)

abbrev pub decreases-steps : goal.decreases-steps
decreases-steps l = l.left
