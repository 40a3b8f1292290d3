-- An accepted module imports nothing from the module of the hooks.
use Rattle.std.proofs.Common.{◌≡◌, ◌+◌, [], ◌++◌, false}
use Rattle.base.proofs.Lists.{nil_parts}
use Rattle.wasm_syntax.specs.Profile.{quantities_past, refused_instructions, reserved_imports}
use Rattle.instrumented_module_laws.proofs.HookImports.{none_from_hooks}
use Rattle.hooked_texts.specs.Laws.{AcceptedImportNoHooks}

pub accepted_import_no_hooks : AcceptedImportNoHooks
accepted_import_no_hooks m accepted =
    let all : (refused_instructions m ++ quantities_past false m) ++ reserved_imports false m ≡ [] = accepted.none_refused in
    none_from_hooks 0 m.imports (nil_parts (refused_instructions m ++ quantities_past false m) (reserved_imports false m) all).1
