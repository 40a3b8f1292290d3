use Rattle.instrumented_module_laws.proofs.Links.{instrumented_are_instantiated}
use Rattle.instrumented_module_laws.proofs.laws.instrumented_are_instantiated.Goals as goal

pub returns : goal.returns
returns c = instrumented_are_instantiated c.instrumented_keep_indices.ensures
