use Rattle.std.proofs.Common.{◌≡◌, subst}
use Rattle.shadow_memory.specs.KnownBytes.{kept_of, AreCopies}
use Rattle.shadow_memory.proofs.Frozen.{frozen_is, kept_same, on_err}
use Rattle.shadow_memory.proofs.known_bytes.KeptBytes.freeze.Goals as goal

pub returns-in_err-copies-clause-err : goal.returns-in_err-copies-clause-err
returns-in_err-copies-clause-err c =
    let kept = c.self.inside in
    let pages = c.copied_places.new.arena in
    on_err c.from_residual.result
    (subst (λ before. kept_of kept.places.items kept.frozen.items pages ≡ before) c.self.view_is
    (kept_same kept.places.items kept.frozen.items kept.arena pages c.self.invariant.0 c.self.invariant.1
    c.copied_places.ensures.more))

pub returns-clause-ok : goal.returns-clause-ok
returns-clause-ok c =
    let kept = c.self.inside in
    let pages = c.copied_places.new.arena in
    let copies = c.in_ok-copies.copies.items in
    subst (λ before. kept_of kept.places.items copies pages ≡ record before { frozen = before.bytes }) c.self.view_is
    (frozen_is kept.places.items kept.frozen.items copies kept.arena pages c.self.invariant.0
    c.copied_places.ensures.more
    (subst (λ places. AreCopies places kept.arena copies pages) c.as_slice.ensures.value
    c.in_ok-copies.ensures.copies))
