use Rattle.std.proofs.Common.{◌≡◌, Some, arith}
use Rattle.trace_format.proofs.FileLaws.{read_last}
use Rattle.trace_format.proofs.items.whole_items.Goals as goal

pub loop-items-preserved : goal.loop-items-preserved
loop-items-preserved g c =
    let next : g.K.Kind.first c.args.version c.loop-items.rest.now ≡ Some (c.in-Some.item, c.in-Some.after.now) =
    rw c.in-Some.is at c.in_ok-item.ensures in
    record {
      read = rw c.in_ok-push.ensures.items
          (read_last (g.K.Kind.first c.args.version) c.args.bytes.now c.loop-items.rest.now c.in-Some.after.now
          c.loop-items.items.items c.in-Some.item c.loop-items.invariant.read next);
      shorter = omega (arith, c.requires c.loop-items.rest.now c.in-Some.after.now c.in-Some.item next, c.loop-items.invariant.shorter);
    }
