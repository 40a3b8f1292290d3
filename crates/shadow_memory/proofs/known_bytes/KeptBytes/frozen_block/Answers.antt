use Rattle.std.proofs.Common.{[], ap, sym, ◌∙◌, subst}
use Rattle.shadow_memory.specs.Shadow.{IsBlock}
use Rattle.shadow_memory.specs.KnownBytes.{page_of}
use Rattle.shadow_memory.proofs.Keeping.{block_is, no_block}
use Rattle.shadow_memory.proofs.known_bytes.KeptBytes.frozen_block.Goals as goal

pub returns-in-Some : goal.returns-in-Some
returns-in-Some c =
    let place = c.args.place in
    subst (λ kept. IsBlock kept.frozen place c.page.result.now) c.self.view_is
    (block_is c.self.inside.frozen.items c.self.inside.arena c.self.invariant.0.whole c.self.invariant.1.there place
    c.in-Some.id _ (sym c.in-Some.is ∙ c.page_id.ensures ∙ ap (λ places. page_of places place) c.deref.ensures.value)
    c.page.ensures.value)

pub returns-in-None : goal.returns-in-None
returns-in-None c =
    let place = c.args.place in
    subst (λ kept. IsBlock kept.frozen place []) c.self.view_is
    (no_block c.self.inside.frozen.items c.self.inside.arena c.self.invariant.0.whole c.self.invariant.1.there place
    (sym c.in-None.is ∙ c.page_id.ensures ∙ ap (λ places. page_of places place) c.deref.ensures.value))
