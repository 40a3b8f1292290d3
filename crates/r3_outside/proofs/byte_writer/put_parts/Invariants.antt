use Rattle.std.proofs.Common.{◌≡◌, take, ◌≤◌}
use Rattle.std.specs.List.{flat_map}
use Rattle.r3_outside.specs.Growth.{Grew}
use Rattle.r3_outside.proofs.byte_writer.put_parts.Given as goal

abbrev pub invariant-parts : goal.invariant-parts
invariant-parts g l = record {
  failed_none : g.S.Sink.faults l.sink ≡ g.S.Sink.faults l.initial.sink;
  faults_never_fall : g.S.Sink.faults l.initial.sink ≤ g.S.Sink.faults l.sink;
  grew : Grew (g.S.Sink.written l.initial.sink) (g.S.Sink.written l.sink)
      (flat_map (λ part. part.now) (take l.part-index l.parts));
}
