use Rattle.std.proofs.Common.{◌≡◌, is_some, ap, subst, ◌∙◌}
use Rattle.wasm_syntax.specs.declared.modules.Module.{Module}
use Rattle.wasm_syntax.specs.Index.{global_import}
use Rattle.module_names.specs.Names.{imports_named, imports_with}
use Rattle.module_names.proofs.ImportLoops.{first_is_there}
use Rattle.module_names.proofs.globals.ImportedGlobals.has_names.Goals as goal

pub returns : goal.returns
returns c =
    let from = c.args.from.now in
    let name = c.args.name.now in
    subst (λ (m : Module). c.contains_key.result ≡ imports_named global_import m from name) c.self.view_is
    (c.contains_key.ensures ∙ ap is_some (c.self.invariant.2.holds from name)
    ∙ first_is_there from name 0 (imports_with global_import c.self.inside.source.now))
