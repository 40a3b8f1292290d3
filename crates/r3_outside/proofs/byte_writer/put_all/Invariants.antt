use Rattle.std.proofs.Common.{◌≡◌, length, take, ◌-◌, ◌≤◌}
use Rattle.r3_outside.specs.Growth.{Grew}
use Rattle.r3_outside.proofs.byte_writer.put_all.Given as goal

abbrev pub invariant-pieces : goal.invariant-pieces
invariant-pieces g l = record {
  within : l.done ≤ length l.bytes;
  failed_none : g.S.Sink.faults l.sink ≡ g.S.Sink.faults l.initial.sink;
  faults_never_fall : g.S.Sink.faults l.initial.sink ≤ g.S.Sink.faults l.sink;
  grew : Grew (g.S.Sink.written l.initial.sink) (g.S.Sink.written l.sink) (take l.done l.bytes);
}

abbrev pub decreases-pieces : goal.decreases-pieces
decreases-pieces g l = length l.bytes - l.done
