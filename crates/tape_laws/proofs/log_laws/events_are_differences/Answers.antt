use Rattle.tape_laws.proofs.LogMeaning.{events_differ}
use Rattle.tape_laws.proofs.log_laws.events_are_differences.Goals as goal

pub returns : goal.returns
returns c =
    events_differ c.laws_of_steps.ensures c.laws_of_runs.ensures c.instrumented_keep_indices.ensures
    c.indices_are_renumbered.ensures c.known_is_kept.ensures
