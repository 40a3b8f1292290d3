use Rattle.std.proofs.Common.{◌+◌, ◌-◌, arith}
use Rattle.replay_run.specs.declared.calls.CallStand.TheVariants as at
use Rattle.replay_run.proofs.Extends.{rebudgeted, stepped}
use Rattle.replay_run.proofs.calls.go_on.Goals as goal

pub go_outside-requires : goal.go_outside-requires
go_outside-requires c =
    let so = c.requires.5 in
    let turns = so.used + 1 in (
      c.requires.0,
      c.requires.1,
      c.requires.2,
      turns,
      1 - 1,
      stepped c.projections_run_along.ensures c.requires.0 c.requires.1 c.requires.2 turns c.args.shown.now c.args.machine.now 1
          (rebudgeted c.requires.0 c.requires.1 c.requires.2 c.requires.3 at.Instruction c.args.shown.now c.args.machine.now c.requires.4 1 so)
          c.in_ok-stand.stand c.make_step.new.shown c.make_step.new.machine (omega arith) c.in_ok-stand.ensures.makes,
    )

pub returns-clause-goes : goal.returns-clause-goes
returns-clause-goes c = λ m actions initial turns so.
    let some = c.if-left-eq0.false in
    c.in_ok-after.ensures.goes m actions initial turns
    (stepped c.projections_run_along.ensures m actions initial turns c.args.shown.now c.args.machine.now c.args.left.now so
    c.in_ok-stand.stand c.make_step.new.shown c.make_step.new.machine (omega (arith, some)) c.in_ok-stand.ensures.makes)
