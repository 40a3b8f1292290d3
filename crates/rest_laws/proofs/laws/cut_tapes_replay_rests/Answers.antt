-- The law.
use Rattle.rest_laws.proofs.Restarts.{cut_tapes_replay_rests}
use Rattle.rest_laws.proofs.laws.cut_tapes_replay_rests.Goals as goal

pub returns : goal.returns
returns c =
    cut_tapes_replay_rests c.laws_of_steps.ensures c.laws_of_runs.ensures c.runs_read_what_is_there.ensures
    c.known_before_is_kept.ensures
