use Rattle.worked_laws.proofs.Dropped.{examples_lack}
use Rattle.worked_laws.proofs.Replayed.{examples_replay}
use Rattle.worked_laws.proofs.laws_of_tapes_hold_at_examples.Goals as goal

pub returns-clause-replayed : goal.returns-clause-replayed
returns-clause-replayed c =
    examples_replay c.needed_tape_replays.ensures c.tested_segments_are_needed.ensures
    c.validity_is_decided.ensures.valid

pub returns-clause-taken_out : goal.returns-clause-taken_out
returns-clause-taken_out c =
    examples_lack c.nothing_can_be_dropped.ensures c.tested_segments_are_needed.ensures
    c.validity_is_decided.ensures.valid
