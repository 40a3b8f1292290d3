use Rattle.std.proofs.Common.{◌≡◌, [], ◌∷◌, take, true, sym, ◌∙◌, ap, subst}
use Rattle.std.specs.Prelude.{codes, bytes_eq, filter}
use Rattle.replay_form.specs.Forms.{has_layout_name}
use Rattle.replay_form.proofs.Sections.{not_alone, shown}
use Rattle.replay_form.proofs.layouts.layout_section.Goals as goal

pub returns-then-is_some-clause-absent : goal.returns-then-is_some-clause-absent
returns-then-is_some-clause-absent c = λ section alone.
    let list = c.as_slice-custom-items.ensures in
    let first = shown c.customs.found (sym c.is_some.ensures ∙ c.if-is_some.true) in
    let named : has_layout_name c.custom-item.result ≡ true =
    ap (λ name. bytes_eq name (codes "r3.layout")) (sym c.as_str.ensures) ∙ sym c.eq.ensures ∙ c.if-eq.true
    in
    not_alone has_layout_name c.as_slice-custom-items.result.now c.customs.custom-index c.custom-item.result first.0 section c.customs-test.true
    (subst (λ customs. filter has_layout_name (take c.customs.custom-index customs) ≡ first.0 ∷ []) (sym list) (c.customs.invariant ∙ first.1))
    (subst (λ custom. has_layout_name custom ≡ true) c.custom-item.is named)
    (subst (λ customs. filter has_layout_name customs ≡ section ∷ []) (sym list) alone)
