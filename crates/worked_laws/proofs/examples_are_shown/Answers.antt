use Rattle.worked_laws.proofs.ShownRuns.{examples_are_shown}
use Rattle.worked_laws.proofs.examples_are_shown.Goals as goal

pub returns : goal.returns
returns c =
    examples_are_shown c.runs_are_replayed.ensures c.tested_segments_are_needed.ensures
    c.validity_is_decided.ensures.valid
