-- The law.
use Rattle.rest_laws.proofs.KnownStores.{known_stores_are_typed}
use Rattle.rest_laws.proofs.laws.known_stores_are_typed.Goals as goal

pub returns : goal.returns
returns c =
    known_stores_are_typed c.laws_of_steps.ensures c.laws_of_runs.ensures c.runs_read_what_is_there.ensures
    c.known_values_are_typed.ensures c.known_before_is_kept.ensures
