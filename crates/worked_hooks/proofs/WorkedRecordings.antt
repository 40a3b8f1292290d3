-- Worked recordings, computed.
use Rattle.std.proofs.Common.{◌≡◌, None, true, refl}
use Rattle.trace_model.specs.Balance.{first_unbalanced}
use Rattle.record_replay_spec.specs.Needed.{IsNeededOfRun}
use Rattle.record_replay_spec.specs.LogTapeTest.{is_log_tape}
use Rattle.record_replay_spec.specs.HookLaws.{TestedTapesAreOfLogs}
use Rattle.worked_tapes.specs.NeededTapes.{WorkedTapes}
use Rattle.worked_hooks.specs.Recordings.{Recorded, recording, tape, Example, IsRecorded, IsRecordedAsNeeded}
use Rattle.worked_hooks.specs.WorkedRecordings.{WorkedRecordings, mixed_log, mixed_tape, two_answers_recorded, overwrite_recorded, unread_write_recorded, unseen_growth_recorded, growth_recorded, no_growth_recorded, growth_failed_recorded, copy_recorded, copy_overlap_recorded, fill_recorded, fill_grown_recorded, entry_recorded, emptied_recorded, import_entry_recorded, table_unseen_recorded, float_recorded, table_growth_recorded, table_short_recorded, table_not_grown_recorded, nested_recorded, nested_trap_recorded, host_trap_recorded, c_buffers_recorded}

module _ (of_log : TestedTapesAreOfLogs) (needs : WorkedTapes) where
  recorded : (e : Example) → recording e.m e.script ≡ Recorded e.turns e.log → first_unbalanced e.log ≡ None
      → is_log_tape e.log (tape e.segments) ≡ true → IsRecorded e
  recorded e run balanced tested =
      record { recorded = run; balanced = balanced; of_log = of_log e.log (tape e.segments) tested }

  recorded_as_needed : (e : Example) → recording e.m e.script ≡ Recorded e.turns e.log
      → first_unbalanced e.log ≡ None → is_log_tape e.log (tape e.segments) ≡ true
      → IsNeededOfRun e.m e.script e.segments → IsRecordedAsNeeded e
  recorded_as_needed e run balanced tested needed =
      record { tape_of_log = recorded e run balanced tested; needed = needed }

  pub worked_recordings : WorkedRecordings
  worked_recordings =
      record {
        two_answers = recorded_as_needed two_answers_recorded refl refl refl needs.two_answers.needed;
        overwrite = recorded_as_needed overwrite_recorded refl refl refl needs.overwrite.needed;
        unread_write = recorded_as_needed unread_write_recorded refl refl refl needs.unread_write.needed;
        growth = recorded_as_needed growth_recorded refl refl refl needs.grow_access.needed;
        no_growth = recorded_as_needed no_growth_recorded refl refl refl needs.no_growth.needed;
        copy = recorded_as_needed copy_recorded refl refl refl needs.copy_load.needed;
        copy_onto_itself = recorded_as_needed copy_overlap_recorded refl refl refl needs.copy_overlap.needed;
        fill_grown = recorded_as_needed fill_grown_recorded refl refl refl needs.fill_grown.needed;
        entry = recorded_as_needed entry_recorded refl refl refl needs.table_entry.needed;
        emptied = recorded_as_needed emptied_recorded refl refl refl needs.table_entry_emptied.needed;
        import_entry = recorded_as_needed import_entry_recorded refl refl refl needs.table_entry_import.needed;
        table_unseen = recorded_as_needed table_unseen_recorded refl refl refl needs.table_growth_unseen.needed;
        float = recorded_as_needed float_recorded refl refl refl needs.float_global.needed;
        table_grown = recorded_as_needed table_growth_recorded refl refl refl needs.table_growth.needed;
        table_short = recorded_as_needed table_short_recorded refl refl refl needs.table_growth_short.needed;
        table_not_grown = recorded_as_needed table_not_grown_recorded refl refl refl needs.table_not_grown.needed;
        nested = recorded_as_needed nested_recorded refl refl refl needs.nested_call.needed;
        nested_trapped = recorded_as_needed nested_trap_recorded refl refl refl needs.nested_trap.needed;
        host_trapped = recorded_as_needed host_trap_recorded refl refl refl needs.host_trap.needed;
        buffers = recorded_as_needed c_buffers_recorded refl refl refl needs.c_buffers.needed;
        unseen_growth = recorded unseen_growth_recorded refl refl refl;
        growth_failed = recorded growth_failed_recorded refl refl refl;
        fill = recorded fill_recorded refl refl refl;
        two_answers_all_turns = refl;
        two_answers_spent = refl;
        enters_at_end = refl;
        reports_reference = refl;
        mixed_balanced = refl;
        mixed = of_log mixed_log mixed_tape refl;
        wrong_byte = refl;
        short_runs = refl;
        more_than_found = refl;
        last_missing = refl;
      }
