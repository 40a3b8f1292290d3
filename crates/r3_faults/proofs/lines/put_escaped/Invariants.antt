use Rattle.std.proofs.Common.{◌≡◌, length, take, ◌-◌, ◌≤◌}
use Rattle.r3_outside.specs.Growth.{Grew}
use Rattle.r3_faults.specs.Lines.{escaped}
use Rattle.r3_faults.proofs.lines.put_escaped.Given as goal

abbrev pub invariant-runs : goal.invariant-runs
invariant-runs g l = record {
  within : l.done ≤ length l.text;
  failed_none : g.E.Sink.faults l.err ≡ g.E.Sink.faults l.initial.err;
  faults_never_fall : g.E.Sink.faults l.initial.err ≤ g.E.Sink.faults l.err;
  grew : Grew (g.E.Sink.written l.initial.err) (g.E.Sink.written l.err) (escaped (take l.done l.text));
}

abbrev pub decreases-runs : goal.decreases-runs
decreases-runs g l = length l.text - l.done
