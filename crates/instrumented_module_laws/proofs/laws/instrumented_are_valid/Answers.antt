use Rattle.instrumented_module_laws.proofs.Valid.{instrumented_are_valid}
use Rattle.instrumented_module_laws.proofs.laws.instrumented_are_valid.Goals as goal

pub returns : goal.returns
returns c = instrumented_are_valid c.bodies_are_instrumented.ensures c.instrumented_keep_indices.ensures
