use Rattle.std.proofs.Common.{◌≡◌, ◌+◌, length, drop}
use Rattle.rest_spec.specs.StateSegments.{elem_segments}
use Rattle.checkpoint.specs.ElemRuns.{segments_by}
use Rattle.checkpoint.specs.FrozenStates.{state_of_frozen}
use Rattle.checkpoint.proofs.elem_segments.frozen_elems.Given as goal

-- the next index is the one after the run, and the segments by what is left are all
abbrev pub invariant-entries : goal.invariant-entries
invariant-entries l = record {
  place : l.runs.start + length l.runs.funcs.items ≡ l.index;
  segments :
      segments_by l.runs (drop l.index (state_of_frozen l.frozen).entries)
      ≡ elem_segments (state_of_frozen l.frozen).entries;
}
