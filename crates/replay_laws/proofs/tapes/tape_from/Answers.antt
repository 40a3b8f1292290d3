use Rattle.replay_laws.proofs.TapesOfRuns.{answered_in_order, answered_tape, spares}
use Rattle.replay_laws.proofs.tapes.tape_from.Goals as goal

pub returns-clause-needed : goal.returns-clause-needed
returns-clause-needed c =
    λ taken has.
    answered_tape c.logs_give_needed_tapes.ensures c.run_has_one_needed_tape.ensures _ _ c.finish.result
    (c.finish.ensures taken has)

pub returns-clause-spare : goal.returns-clause-spare
returns-clause-spare c =
    λ taken has.
    spares c.nothing_can_be_dropped.ensures _ c.finish.result
    (answered_tape c.logs_give_needed_tapes.ensures c.run_has_one_needed_tape.ensures _ _ c.finish.result
    (c.finish.ensures taken has))

pub returns-clause-balanced : goal.returns-clause-balanced
returns-clause-balanced c =
    λ taken has. answered_in_order c.logs_are_balanced.ensures _ _ c.finish.result (c.finish.ensures taken has)
