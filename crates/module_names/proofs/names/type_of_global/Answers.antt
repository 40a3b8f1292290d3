use Rattle.std.proofs.Common.{map, sym, ◌∙◌}
use Rattle.wasm_syntax.specs.Index.{global_import}
use Rattle.module_names.proofs.Spaces.{at_import, past_imports}
use Rattle.module_names.proofs.names.type_of_global.Goals as goal

pub returns-then-index-globals : goal.returns-then-index-globals
returns-then-index-globals c =
    let m = c.args.module.now in
    c.type_of_imported.ensures
    ∙ sym (at_import global_import c.args.globals.now m.imports (map (λ global. global.ty) m.globals) c.args.index
    c.index-globals-index.result c.requires c.if-index-globals.true c.index-globals-index.is)

pub returns-else-index-globals : goal.returns-else-index-globals
returns-else-index-globals c =
    let m = c.args.module.now in
    c.type_of_defined_global.ensures ∙ sym (past_imports global_import c.args.globals.now m.imports
    (map (λ global. global.ty) m.globals) c.args.index c.requires c.if-index-globals.false)
