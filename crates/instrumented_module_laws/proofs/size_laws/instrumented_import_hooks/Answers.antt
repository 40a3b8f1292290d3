use Rattle.instrumented_module_laws.proofs.HookImports.{instrumented_import_hooks}
use Rattle.instrumented_module_laws.proofs.size_laws.instrumented_import_hooks.Goals as goal

pub returns : goal.returns
returns c = instrumented_import_hooks c.instrumented_keep_indices.ensures c.instrumented_are_hooked.ensures
