use Rattle.std.proofs.Common.{◌≤◌, length}
use Rattle.trace_format.specs.Files.{AreRead}
use Rattle.trace_format.proofs.items.whole_items.Given as goal

abbrev pub invariant-loop-items : goal.invariant-loop-items
invariant-loop-items g l = record {
  read : AreRead (g.K.Kind.first l.fn.version) l.bytes l.items.items l.rest;
  shorter : length l.rest ≤ length l.bytes;
}

abbrev pub decreases-loop-items : goal.decreases-loop-items
decreases-loop-items g l = length l.rest
