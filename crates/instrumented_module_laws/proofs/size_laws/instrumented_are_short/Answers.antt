use Rattle.instrumented_module_laws.proofs.Short.{instrumented_are_short}
use Rattle.instrumented_module_laws.proofs.size_laws.instrumented_are_short.Goals as goal

pub returns : goal.returns
returns c = instrumented_are_short c.instrumented_keep_indices.ensures c.instrumented_are_accepted.ensures
