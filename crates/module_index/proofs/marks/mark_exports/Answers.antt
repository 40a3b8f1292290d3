use Rattle.std.proofs.Common.{ℕ, [], ◌++◌, take, subst, ap, ◌∙◌, Option}
use Rattle.std.specs.Prelude.{filter_map}
use Rattle.std.specs.List.{cons_option}
use Rattle.std.proofs.lemmas.List.{take_all}
use Rattle.wasm_syntax.specs.declared.modules.Export.{Export}
use Rattle.wasm_syntax.specs.Validity.{exported_func}
use Rattle.module_index.specs.Marks.{AreMarks}
use Rattle.module_index.proofs.MarkLemmas.{picked-more}
use Rattle.module_index.proofs.marks.mark_exports.Goals as goal

pub exports-preserved : goal.exports-preserved
exports-preserved c = λ count done h.
    let picks : Export → Option ℕ = λ e. exported_func e.kind in
    let before = done ++ filter_map picks (take c.exports.export-index c.args.exports.now) in
    subst (AreMarks c.mark_some.new.marks.items count)
    (ap (λ o. before ++ cons_option o []) c.func_of_export.ensures ∙ picked-more picks done c.args.exports.now
    c.exports.export-index c.export-item.result c.exports-test.true c.export-item.is)
    (c.mark_some.ensures count before (c.exports.invariant count done h))

pub returns : goal.returns
returns c = λ count done h.
    let picks : Export → Option ℕ = λ e. exported_func e.kind in
    subst (λ l. AreMarks c.exports.marks.items count (done ++ filter_map picks l))
    (take_all c.exports.export-index c.args.exports.now c.exports-test.false) (c.exports.invariant count done h)
