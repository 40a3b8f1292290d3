use Rattle.replay_theorem.proofs.Whole.{runs_are_replayed}
use Rattle.replay_theorem.proofs.laws.runs_are_replayed.Goals as goal

pub returns : goal.returns
returns c =
    runs_are_replayed c.run_has_one_needed_tape.ensures c.needed_tapes_are_playable.ensures
    c.needed_tapes_grow_sizes.ensures c.replays_show_runs.ensures.outcomes c.replays_show_runs.ensures.effects
    c.items_show_projections.ensures.held c.items_show_projections.ensures.shown
