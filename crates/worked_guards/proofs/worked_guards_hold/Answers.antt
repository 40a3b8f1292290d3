use Rattle.worked_guards.proofs.Guards.{guards_of_replays}
use Rattle.worked_guards.proofs.Rows.{differences_are_seen, worked_rows}
use Rattle.worked_guards.proofs.worked_guards_hold.Goals as goal

pub returns : goal.returns
returns c =
    record {
      guards = guards_of_replays c.validity_is_decided.ensures.valid;
      rows = worked_rows;
      differences = differences_are_seen;
    }
