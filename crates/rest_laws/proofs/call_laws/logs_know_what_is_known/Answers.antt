-- The law.
use Rattle.rest_laws.proofs.TopRuns.{logs_know_what_is_known}
use Rattle.rest_laws.proofs.call_laws.logs_know_what_is_known.Goals as goal

pub returns : goal.returns
returns c =
    logs_know_what_is_known c.laws_of_steps.ensures c.laws_of_runs.ensures c.instrumented_keep_indices.ensures
    c.indices_are_renumbered.ensures c.known_before_is_kept.ensures
