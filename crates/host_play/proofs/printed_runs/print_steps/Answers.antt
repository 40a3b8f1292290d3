use Rattle.std.proofs.Common.{refl, subst, arith}
use Rattle.wasm_syntax.specs.declared.modules.Module.{Module}
use Rattle.history_spec.specs.Step.{StepResult}
use Rattle.history_spec.specs.Run.{program_of}
use Rattle.host_play.specs.RunsSoFar.{PrintsSoFar, UpToEnd}
use Rattle.host_play.proofs.Errors.{at_error}
use Rattle.host_play.proofs.printed_runs.print_steps.Goals as goal

pub steps-init : goal.steps-init
steps-init c = (λ m initial so_far. so_far, omega arith)

pub steps-preserved : goal.steps-preserved
steps-preserved c = (λ m initial so_far. c.in_ok-stand.ensures.goes m initial (c.steps.invariant.0 m initial so_far), c.print_on.ensures.left)

pub print_on-requires-clause-played : goal.print_on-requires-clause-played
print_on-requires-clause-played c =
    let m : Module = c.requires.so_far.0 in
    let initial : StepResult = c.requires.so_far.1 in
    let here : PrintsSoFar m c.args.script.now initial c.args.turns c.steps.printed.lines c.steps.stand c.steps.playing
    c.steps.left = c.steps.invariant.0 m initial c.requires.so_far.2 in
    (m, here.reached.pending, here.reached.standing)

pub returns-in-Over : goal.returns-in-Over
returns-in-Over c = λ m initial so_far. (
  c.steps.left,
  subst (λ stand. PrintsSoFar m c.args.script.now initial c.args.turns c.steps.printed.lines stand c.steps.playing
      c.steps.left) c.in-Over.is (c.steps.invariant.0 m initial so_far),
  refl,
)

pub returns-in_err-stand : goal.returns-in_err-stand
returns-in_err-stand c = λ m initial so_far.
    at_error c.from_residual.result c.in_err-stand.field-0.0
    (UpToEnd (program_of m c.args.script.now) initial c.args.turns
    (λ stand left. PrintsSoFar m c.args.script.now initial c.args.turns c.print_on.new.printed.lines stand c.print_on.new.playing left))
    c.from_residual.ensures.1 (c.in_err-stand.ensures.goes m initial (c.steps.invariant.0 m initial so_far))
