use Rattle.std.proofs.Common.{subst}
use Rattle.replay_run.specs.RunsSoFar.{ShowsSoFar}
use Rattle.replay_run.proofs.Extends.{walked}
use Rattle.replay_run.proofs.calls.go_outside.Goals as goal

pub returns-then-ne-clause-goes : goal.returns-then-ne-clause-goes
returns-then-ne-clause-goes c = λ m actions initial turns so.
    walked c.projections_run_along.ensures m actions initial turns c.args.shown.now c.args.machine.now c.args.left.now
    (subst (λ stand. ShowsSoFar m actions initial turns stand c.args.shown.now c.args.machine.now c.args.left.now) c.in-Instruction.is so)
    c.in_ok-after.after c.walk_outside.new.shown c.walk_outside.new.machine c.walk_outside.new.left c.in_ok-after.ensures.walks
