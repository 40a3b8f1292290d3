-- The law.
use Rattle.rest_theorem.proofs.Rests.{rests_are_replayed}
use Rattle.rest_theorem.proofs.laws.rests_are_replayed.Goals as goal

pub returns : goal.returns
returns c =
    rests_are_replayed c.cut_tapes_replay_rests.ensures c.cuts_are_playable.ensures c.replays_show_runs.ensures.outcomes
