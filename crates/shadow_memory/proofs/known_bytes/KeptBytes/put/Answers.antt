use Rattle.std.proofs.Common.{◌≡◌, ◌+◌, ◌*◌, ◌≤◌, Some, length, slice_set, ap, sym, ◌∙◌, subst, arith}
use Rattle.page_arena.specs.declared.TheConstants.{PAGE_LENGTH}
use Rattle.shadow_memory.specs.Shadow.{AreWritten}
use Rattle.shadow_memory.specs.KnownBytes.{bytes_of_places, kept_of, page_of}
use Rattle.shadow_memory.proofs.Keeping.{page_written, part_length, with_part, written_part}
use Rattle.shadow_memory.proofs.Frozen.{frozen_written}
use Rattle.shadow_memory.proofs.known_bytes.KeptBytes.put.Goals as goal

pub returns-clause-written : goal.returns-clause-written
returns-clause-written c =
    let places = c.self.inside.places.items in
    let pages = c.self.inside.arena in
    let id = c.in-Some.id in
    let bytes = c.args.bytes.now in
    let from = c.args.offset in
    let page = c.page_mut.result.now in
    let is : page_of places c.args.place ≡ Some id =
    sym (ap (λ places. page_of places c.args.place) c.deref.ensures.value) ∙ sym c.page_id.ensures ∙ c.in-Some.is in
    let fits : from + length bytes ≤ length page = omega (arith, c.requires.fits, c.page_mut.ensures.size) in
    let same : c.copy_from_slice.new.self ≡ bytes = c.copy_from_slice.ensures.after in
    let new_page = with_part page from bytes c.copy_from_slice.new.self in
    let written = written_part page from bytes c.copy_from_slice.new.self fits same in
    let now = kept_of places c.self.inside.frozen.items (slice_set pages id.number new_page) in
    subst (λ kept. AreWritten kept.bytes (c.args.place * PAGE_LENGTH + from) bytes now.bytes) c.self.view_is
    (page_written places pages c.self.invariant.0 id new_page
    (part_length page from bytes c.copy_from_slice.new.self fits same ∙ c.page_mut.ensures.size)
    (c.self.invariant.0.there c.args.place id is) c.args.place from bytes is
    (subst (λ old. AreWritten old from bytes new_page) c.page_mut.ensures.value written) c.requires.fits)

pub returns-clause-frozen : goal.returns-clause-frozen
returns-clause-frozen c =
    let places = c.self.inside.places.items in
    let frozen = c.self.inside.frozen.items in
    let pages = c.self.inside.arena in
    let id = c.in-Some.id in
    let page = with_part c.page_mut.result.now c.args.offset c.args.bytes.now c.copy_from_slice.new.self in
    let is : page_of places c.args.place ≡ Some id =
    sym (ap (λ places. page_of places c.args.place) c.deref.ensures.value) ∙ sym c.page_id.ensures ∙ c.in-Some.is in
    subst (λ kept. bytes_of_places (slice_set pages id.number page) frozen ≡ kept.frozen) c.self.view_is
    (frozen_written places frozen pages c.self.invariant.1 id page c.args.place is)
