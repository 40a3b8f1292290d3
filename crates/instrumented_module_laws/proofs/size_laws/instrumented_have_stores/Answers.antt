use Rattle.instrumented_module_laws.proofs.Stores.{instrumented_have_stores}
use Rattle.instrumented_module_laws.proofs.size_laws.instrumented_have_stores.Goals as goal

pub returns : goal.returns
returns c = instrumented_have_stores c.instrumented_keep_indices.ensures
