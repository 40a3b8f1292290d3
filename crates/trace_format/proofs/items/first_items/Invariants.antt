use Rattle.std.proofs.Common.{◌≡◌, length}
use Rattle.trace_format.specs.Files.{AreRead}
use Rattle.trace_format.proofs.items.first_items.Given as goal

abbrev pub invariant-loop : goal.invariant-loop
invariant-loop g l = record {
  read : AreRead (g.K.Kind.first l.fn.version) l.bytes l.items.items l.rest;
  counted : length l.items.items ≡ l.counter;
}
