use Rattle.std.proofs.Common.{◌≡◌, Some, arith}
use Rattle.trace_format.proofs.LineLemmas.{shown_more}
use Rattle.trace_format.proofs.items.put_whole_items.Goals as goal

pub items-preserved : goal.items-preserved
items-preserved g c =
    let next : g.K.Kind.first c.args.version c.items.rest.now ≡ Some (c.in-Some.item, c.in-Some.after.now) =
    rw c.in-Some.is at c.in_ok-item.ensures in
    record {
      shown = shown_more (g.K.Kind.first c.args.version) g.K.HasLines.lines c.args.bytes.now c.items.rest.now
          c.in-Some.after.now c.args.out.now.items c.items.out.items c.put_lines.new.out.items c.in-Some.item
          c.items.invariant.shown next c.in_ok-put_lines.ensures;
      shorter = omega (arith, c.requires c.items.rest.now c.in-Some.after.now c.in-Some.item next, c.items.invariant.shorter);
    }
