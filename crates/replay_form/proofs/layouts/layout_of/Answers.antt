use Rattle.std.proofs.Common.{◌<◌, ◌+◌, subst}
use Rattle.std.specs.Prelude.{IfSome}
use Rattle.replay_form.specs.Forms.{AreLayoutBytes}
use Rattle.replay_form.specs.Sides.{as_layout}
use Rattle.replay_form.proofs.LayoutBytes.{too-many}
use Rattle.replay_form.proofs.layouts.layout_of.Goals as goal

pub returns-else-layout-funcs-clause-absent : goal.returns-else-layout-funcs-clause-absent
returns-else-layout-funcs-clause-absent c = λ layout h.
    let own = c.in-Some-2.layout in
    let known : AreLayoutBytes c.as_slice.result.now (as_layout own) =
    subst (λ found. IfSome found (λ layout. AreLayoutBytes c.as_slice.result.now (as_layout layout))) c.in-Some-2.is c.in_ok-layout.ensures.found
    in
    too-many c.layouts_are_one.ensures.bytes c.args.module.now c.in-Some.section.now (as_layout own) layout c.in-Some.ensures.found
    (subst (λ bytes. AreLayoutBytes bytes (as_layout own)) c.as_slice.ensures known)
    (subst (λ funcs. funcs < own.imports + own.defined) c.requires c.if-layout-funcs.false) h
