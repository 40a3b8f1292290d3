use Rattle.std.proofs.Common.{Some, None, ap, sym, ◌∙◌, subst}
use Rattle.shadow_memory.specs.KnownBytes.{AreBytesOf, page_of}
use Rattle.shadow_memory.proofs.Keeping.{bytes_are}
use Rattle.shadow_memory.proofs.known_bytes.KeptBytes.page.Goals as goal

pub returns-in-Some : goal.returns-in-Some
returns-in-Some c =
    let place = c.args.place in
    subst (λ kept. AreBytesOf kept.bytes place c.page.result.now) c.self.view_is
    (bytes_are c.self.inside.places.items c.self.inside.arena c.self.invariant.0.whole c.self.invariant.0.there place (Some c.in-Some.id) _
    (sym c.in-Some.is ∙ c.page_id.ensures ∙ ap (λ places. page_of places place) c.deref.ensures.value)
    c.page.ensures.value)

pub returns-in-None : goal.returns-in-None
returns-in-None c =
    let place = c.args.place in
    subst (λ kept. AreBytesOf kept.bytes place c.zeros.result.now) c.self.view_is
    (bytes_are c.self.inside.places.items c.self.inside.arena c.self.invariant.0.whole c.self.invariant.0.there place None _
    (sym c.in-None.is ∙ c.page_id.ensures ∙ ap (λ places. page_of places place) c.deref.ensures.value) c.zeros.ensures)
