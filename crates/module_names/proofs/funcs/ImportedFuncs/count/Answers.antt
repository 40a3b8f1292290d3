use Rattle.std.proofs.Common.{length, sym, ap, ◌∙◌}
use Rattle.std.proofs.lemmas.List.{length-map}
use Rattle.wasm_syntax.specs.Index.{func_import}
use Rattle.module_names.proofs.Spaces.{length-of_kind}
use Rattle.module_names.proofs.funcs.ImportedFuncs.count.Goals as goal

pub returns : goal.returns
returns c =
    sym (length-map c.imports.result.now (λ import. import.now)) ∙ ap length c.imports.ensures
    ∙ sym (length-of_kind func_import c.args.self.now.imports)
