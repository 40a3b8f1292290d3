use Rattle.std.proofs.Common.{sym, ◌∙◌, arith}
use Rattle.shadow_memory.proofs.Frozen.{one_more}
use Rattle.shadow_memory.proofs.known_bytes.copied_places.Goals as goal

pub copied_page-requires : goal.copied_page-requires
copied_page-requires c there is = c.places.invariant.kept.there c.places.place there (sym c.page_id.ensures ∙ is)

pub places-preserved : goal.places-preserved
places-preserved c =
    one_more c.args.places.now c.args.arena.now c.places.arena c.copied_page.new.arena c.page_id.result
    c.in_ok-copy.copy c.places.copies.items c.push.new.self.items c.places.place c.requires (omega arith)
    c.page_id.ensures c.in_ok-copy.ensures.ok c.in_ok-push.ensures.items c.places.invariant
