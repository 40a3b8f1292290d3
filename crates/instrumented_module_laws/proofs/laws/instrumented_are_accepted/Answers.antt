use Rattle.instrumented_module_laws.proofs.Accepted.{instrumented_are_accepted}
use Rattle.instrumented_module_laws.proofs.laws.instrumented_are_accepted.Goals as goal

pub returns : goal.returns
returns c = instrumented_are_accepted c.instrumented_keep_indices.ensures c.instrumented_are_valid.ensures
