use Rattle.instrumented_module_laws.proofs.Fitted.{instrumented_are_fitted}
use Rattle.instrumented_module_laws.proofs.laws.instrumented_are_fitted.Goals as goal

pub returns : goal.returns
returns c = instrumented_are_fitted c.instrumented_keep_indices.ensures
