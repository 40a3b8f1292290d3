-- The histories of the examples, computed.
use Rattle.std.proofs.Common.{refl}
use Rattle.std.specs.Fmt.{digits}
use Rattle.worked_histories.proofs.GrowFailed.{grow_failed_lines}
use Rattle.worked_histories.specs.Histories.{WorkedHistories}

pub worked_histories : WorkedHistories
unfolding digits
worked_histories =
    record {
      two_answers = refl;
      two_answers_spent = refl;
      empty = refl;
      never_called = refl;
      answers_used_up = refl;
      overwrite = refl;
      unread_write = refl;
      grow_access = refl;
      grow_access_traps = refl;
      copy_load = refl;
      copy_load_spent = refl;
      copy_overlap = refl;
      fill_past = refl;
      fill_grown = refl;
      grow_failed = grow_failed_lines;
      nested_call = refl;
      nested_trap = refl;
      host_trap = refl;
      table_entry = refl;
      table_entry_emptied = refl;
      table_entry_import = refl;
      table_growth = refl;
      table_growth_short = refl;
      table_not_grown = refl;
      table_growth_refused = refl;
      table_sizes = refl;
      float_global = refl;
      imported_offset = refl;
      imported_offset_missing = refl;
      imported_offset_mismatch = refl;
      c_buffers = refl;
      c_buffers_spent = refl;
      replay_two_answers = refl;
    }
