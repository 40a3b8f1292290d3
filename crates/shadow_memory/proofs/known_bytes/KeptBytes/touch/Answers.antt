use Rattle.std.proofs.Common.{◌≡◌, true, subst}
use Rattle.shadow_memory.specs.Shadow.{AreSame}
use Rattle.shadow_memory.specs.KnownBytes.{bytes_of_places, is_touched, kept_of}
use Rattle.shadow_memory.proofs.Keeping.{same_bytes, still_touched}
use Rattle.shadow_memory.proofs.Frozen.{same_when_more}
use Rattle.shadow_memory.proofs.known_bytes.KeptBytes.touch.Goals as goal

pub returns-clause-others : goal.returns-clause-others
returns-clause-others c other =
    let places = c.make_page.new.places.items in
    let pages = c.make_page.new.arena in
    subst (λ kept. is_touched kept other ≡ true → is_touched (kept_of places c.self.inside.frozen.items pages) other ≡ true) c.self.view_is
    (still_touched c.self.inside.places.items c.self.inside.frozen.items c.self.inside.arena places pages c.make_page.ensures.kept other)

pub returns-clause-same : goal.returns-clause-same
returns-clause-same c =
    let places = c.make_page.new.places.items in
    let pages = c.make_page.new.arena in
    subst (λ kept. AreSame kept.bytes (kept_of places c.self.inside.frozen.items pages).bytes) c.self.view_is
    (same_bytes c.self.inside.places.items c.self.inside.arena places pages c.self.invariant.0 c.make_page.ensures.kept)

pub returns-clause-frozen : goal.returns-clause-frozen
returns-clause-frozen c =
    let frozen = c.self.inside.frozen.items in
    let pages = c.make_page.new.arena in
    subst (λ kept. bytes_of_places pages frozen ≡ kept.frozen) c.self.view_is
    (same_when_more c.self.inside.arena pages frozen c.self.invariant.1.there c.make_page.ensures.kept.more)
