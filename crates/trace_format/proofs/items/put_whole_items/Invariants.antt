use Rattle.std.proofs.Common.{◌≤◌, length}
use Rattle.trace_format.specs.Lines.{AreShown}
use Rattle.trace_format.proofs.items.put_whole_items.Given as goal

abbrev pub invariant-items : goal.invariant-items
invariant-items g l = record {
  shown : AreShown (g.K.Kind.first l.fn.version) g.K.HasLines.lines l.bytes l.rest l.fn.out.items l.out.items;
  shorter : length l.rest ≤ length l.bytes;
}

abbrev pub decreases-items : goal.decreases-items
decreases-items g l = length l.rest
