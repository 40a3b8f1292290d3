use Rattle.std.proofs.Common.{◌≡◌, ◌∙◌}
use Rattle.replay_form.specs.Sides.{as_layout}
use Rattle.guard_maker.proofs.Assembly.{assembled}
use Rattle.guard_maker.proofs.modules.guarded_module.Goals as goal

pub returns : goal.returns
returns c =
    let parts = c.parts_of-code.ensures in
    c.module_of_parts.ensures
    ∙ assembled c.args.«module» (as_layout c.args.layout) c.args.entry c.args.words.now c.numbers_of-n.result
    c.parts_of-code.result.0 c.in_ok-code.code c.parts_of-code.result.1 c.in_ok-exports.exports
    c.numbers_of-n.ensures.numbers c.in_ok-exports.ensures c.in_ok-code.ensures parts.types parts.funcs parts.globals
    parts.customs parts.imports parts.tables parts.memories parts.start parts.elems parts.datas
