use Rattle.std.proofs.Common.{length, ◌∙◌, arith}
use Rattle.recorder.specs.FrozenViews.{original_entry}
use Rattle.checkpoint.proofs.ElemRuns.{one_taken, all_taken}
use Rattle.checkpoint.proofs.elem_segments.frozen_elems.Goals as goal

pub entries-preserved : goal.entries-preserved
entries-preserved c =
    let frozen = c.args.frozen.now in
    record {
      place = c.in_ok-take.ensures.place;
      segments =
          one_taken (original_entry frozen) (length frozen.entries) c.entries.index c.entry.result c.entries.runs
          c.take.new.self _ (omega arith) c.entry.ensures c.in_ok-take.ensures.segments
          c.entries.invariant.segments;
    }

pub returns : goal.returns
returns c =
    let frozen = c.args.frozen.now in
    c.from_vec.ensures
    ∙ all_taken (original_entry frozen) (length frozen.entries) c.entries.index c.entries.runs
    c.close.new.self.elems.items _ (omega arith) c.in_ok-close.ensures.elems c.entries.invariant.segments
