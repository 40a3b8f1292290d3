use Rattle.instrumented_module_laws.proofs.Links.{instrumented_are_runnable}
use Rattle.instrumented_module_laws.proofs.laws.instrumented_are_runnable.Goals as goal

pub returns : goal.returns
returns c = instrumented_are_runnable c.instrumented_are_accepted.ensures
