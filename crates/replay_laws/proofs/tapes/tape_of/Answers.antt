use Rattle.replay_laws.proofs.TapesOfRuns.{reduced_in_order, reduced_tape, spares}
use Rattle.replay_laws.proofs.tapes.tape_of.Goals as goal

pub returns-clause-needed : goal.returns-clause-needed
returns-clause-needed c =
    reduced_tape c.logs_give_needed_tapes.ensures c.run_has_one_needed_tape.ensures c.args.log.now c.reduce.result
    c.reduce.ensures

pub returns-clause-spare : goal.returns-clause-spare
returns-clause-spare c =
    spares c.nothing_can_be_dropped.ensures c.args.log.now c.reduce.result
    (reduced_tape c.logs_give_needed_tapes.ensures c.run_has_one_needed_tape.ensures c.args.log.now c.reduce.result
    c.reduce.ensures)

pub returns-clause-balanced : goal.returns-clause-balanced
returns-clause-balanced c =
    reduced_in_order c.logs_are_balanced.ensures c.args.log.now c.reduce.result c.reduce.ensures
