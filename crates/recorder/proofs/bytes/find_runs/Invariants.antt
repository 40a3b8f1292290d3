use Rattle.std.proofs.Common.{◌≡◌, ◌+◌, ◌-◌, ◌≤◌, [], ◌∷◌, length, drop}
use Rattle.record_replay_spec.specs.Observations.{Reads}
use Rattle.shadow_memory.specs.Shadow.{Shadow}
use Rattle.recorder.specs.Known.{ReportsMemory}
use Rattle.recorder.proofs.bytes.find_runs.Given as goal

-- the rest of the bytes leads to what all bytes lead to
abbrev pub invariant-runs : goal.invariant-runs
invariant-runs g l = record {
  within : l.done ≤ length l.bytes;
  goes_on : (after : Shadow) (sink : g.row.S.Denot)
      → ReportsMemory g.S.EventSink.has_taken l.memory l.sink (Reads (l.addr + l.done) (drop l.done l.bytes) ∷ []) after
      sink
      → ReportsMemory g.S.EventSink.has_taken l.initial.memory l.initial.sink (Reads l.addr l.bytes ∷ []) after sink;
  frozen : l.memory.frozen ≡ l.initial.memory.frozen;
}

abbrev pub decreases-runs : goal.decreases-runs
decreases-runs g l = length l.bytes - l.done
