use Rattle.instrumented_module_laws.proofs.Links.{instrumented_are_supplied}
use Rattle.instrumented_module_laws.proofs.laws.instrumented_are_supplied.Goals as goal

pub returns : goal.returns
returns c = instrumented_are_supplied c.instrumented_keep_indices.ensures
