-- The law.
use Rattle.rest_laws.proofs.TopRuns.{top_calls_are_reported}
use Rattle.rest_laws.proofs.call_laws.top_calls_are_reported.Goals as goal

pub returns : goal.returns
returns c =
    top_calls_are_reported c.laws_of_steps.ensures c.laws_of_runs.ensures c.instrumented_keep_indices.ensures
    c.indices_are_renumbered.ensures
