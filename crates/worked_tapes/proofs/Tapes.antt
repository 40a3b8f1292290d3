-- The needed tapes of the examples and at the bounds, computed.
use Rattle.std.proofs.Common.{refl}
use Rattle.record_replay_spec.specs.Laws.{TestedSegmentsAreNeeded}
use Rattle.worked_tapes.specs.Bounds.{WorkedBounds}
use Rattle.worked_tapes.specs.NeededTapes.{WorkedTapes}
use Rattle.worked_tapes.proofs.Needs.{needs}
use Rattle.worked_tapes.proofs.GrowFailed.{grow_failed_passes}

module _ (law : TestedSegmentsAreNeeded) where
  pub worked_tapes : WorkedTapes
  worked_tapes =
      record {
        two_answers = needs law (record { ends = refl; tested = refl; replays = refl }) refl;
        empty = needs law (record { ends = refl; tested = refl; replays = refl }) refl;
        host_trap = needs law (record { ends = refl; tested = refl; replays = refl }) refl;
        overwrite = needs law (record { ends = refl; tested = refl; replays = refl }) refl;
        unread_write = needs law (record { ends = refl; tested = refl; replays = refl }) refl;
        grow_access = needs law (record { ends = refl; tested = refl; replays = refl }) refl;
        no_growth = needs law (record { ends = refl; tested = refl; replays = refl }) refl;
        grow_failed = needs law grow_failed_passes refl;
        fill_grown = needs law (record { ends = refl; tested = refl; replays = refl }) refl;
        copy_load = needs law (record { ends = refl; tested = refl; replays = refl }) refl;
        copy_overlap = needs law (record { ends = refl; tested = refl; replays = refl }) refl;
        nested_call = needs law (record { ends = refl; tested = refl; replays = refl }) refl;
        nested_trap = needs law (record { ends = refl; tested = refl; replays = refl }) refl;
        table_entry = needs law (record { ends = refl; tested = refl; replays = refl }) refl;
        table_entry_emptied = needs law (record { ends = refl; tested = refl; replays = refl }) refl;
        table_entry_import = needs law (record { ends = refl; tested = refl; replays = refl }) refl;
        table_growth = needs law (record { ends = refl; tested = refl; replays = refl }) refl;
        table_growth_short = needs law (record { ends = refl; tested = refl; replays = refl }) refl;
        table_not_grown = needs law (record { ends = refl; tested = refl; replays = refl }) refl;
        table_growth_unseen = needs law (record { ends = refl; tested = refl; replays = refl }) refl;
        float_global = needs law (record { ends = refl; tested = refl; replays = refl }) refl;
        imported_offset = needs law (record { ends = refl; tested = refl; replays = refl }) refl;
        c_buffers = needs law (record { ends = refl; tested = refl; replays = refl }) refl;
      }

  pub worked_bounds : WorkedBounds
  worked_bounds =
      record {
        last_byte = needs law (record { ends = refl; tested = refl; replays = refl }) refl;
        last_then_next = needs law (record { ends = refl; tested = refl; replays = refl }) refl;
        reads_next = needs law (record { ends = refl; tested = refl; replays = refl }) refl;
        grows_itself = needs law (record { ends = refl; tested = refl; replays = refl }) refl;
        grows_after_host = needs law (record { ends = refl; tested = refl; replays = refl }) refl;
        sizes_once = needs law (record { ends = refl; tested = refl; replays = refl }) refl;
        sizes_twice = needs law (record { ends = refl; tested = refl; replays = refl }) refl;
        first_past_table = needs law (record { ends = refl; tested = refl; replays = refl }) refl;
        last_in_table = needs law (record { ends = refl; tested = refl; replays = refl }) refl;
        last_then_next_entry = needs law (record { ends = refl; tested = refl; replays = refl }) refl;
        same_again = needs law (record { ends = refl; tested = refl; replays = refl }) refl;
        nothing_again = needs law (record { ends = refl; tested = refl; replays = refl }) refl;
        back_to_first = needs law (record { ends = refl; tested = refl; replays = refl }) refl;
        stored_by_module = needs law (record { ends = refl; tested = refl; replays = refl }) refl;
        stored_by_both = needs law (record { ends = refl; tested = refl; replays = refl }) refl;
        one_run = needs law (record { ends = refl; tested = refl; replays = refl }) refl;
        two_runs = needs law (record { ends = refl; tested = refl; replays = refl }) refl;
        set_by_module = needs law (record { ends = refl; tested = refl; replays = refl }) refl;
        set_by_both = needs law (record { ends = refl; tested = refl; replays = refl }) refl;
      }
