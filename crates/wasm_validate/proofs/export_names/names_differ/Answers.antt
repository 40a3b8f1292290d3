use Rattle.std.proofs.Common.{◌≡◌, not, take, ap, ◌∙◌}
use Rattle.wasm_validate.specs.Names.{exports_have}
use Rattle.wasm_validate.proofs.NameLemmas.{fresh-stops, fresh-ends, fresh-all}
use Rattle.wasm_validate.proofs.export_names.names_differ.Goals as goal

pub returns-then-not-branch : goal.returns-then-not-branch
returns-then-not-branch c =
    let exports = c.args.exports.now in
    let i = c.exports.export-index in
    let reported : c.in_ok-add.field-0 ≡ not (exports_have (take i exports) c.export-item.result.name) =
    c.in_ok-add.ensures.added ∙ ap not (c.exports.invariant.known c.as_str.result.now ∙ ap (exports_have (take i exports)) c.as_str.ensures)
    in
    fresh-stops exports i c.export-item.result c.in_ok-add.field-0 c.exports-test.true c.export-item.is reported
    c.if-not-branch.true ∙ c.exports.invariant.left ∙ fresh-all exports

pub returns : goal.returns
returns c = fresh-ends c.args.exports.now c.exports.export-index c.exports-test.false ∙ c.exports.invariant.left ∙ fresh-all c.args.exports.now
