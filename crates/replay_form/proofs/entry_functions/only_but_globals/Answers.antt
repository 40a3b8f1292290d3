use Rattle.std.proofs.Common.{◌≡◌, true, sym, ◌∙◌, subst}
use Rattle.wasm_syntax.specs.declared.modules.Export.{Export}
use Rattle.replay_form.specs.Forms.{is_no_global}
use Rattle.replay_form.proofs.Sections.{not_alone, shown}
use Rattle.replay_form.proofs.entry_functions.only_but_globals.Goals as goal

pub returns-then-is_some-clause-absent : goal.returns-then-is_some-clause-absent
returns-then-is_some-clause-absent c = λ export alone.
    let first = shown c.exports.found (sym c.is_some.ensures ∙ c.if-is_some.true) in
    not_alone (λ (e : Export). is_no_global e.kind) c.args.exports.now c.exports.export-index c.export-item.result first.0
    export c.exports-test.true (c.exports.invariant ∙ first.1)
    (subst (λ (e : Export). is_no_global e.kind ≡ true) c.export-item.is (sym c.is_no_global.ensures ∙ c.if-is_no_global.true))
    alone
