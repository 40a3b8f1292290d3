-- What the replay modules of the examples do.
use Rattle.std.specs.Prelude.{◌≡◌}
use Rattle.wasm_syntax.specs.Index.{imported_funcs}
use Rattle.wasm_syntax.specs.Validity.{IsValid}
use Rattle.replay_module_spec.specs.Plans.{plan_of}
use Rattle.replay_run_spec.specs.Stretches.{AreEffectsOf}
use Rattle.replay_run_spec.specs.Steps.{AreWithinBound}
use Rattle.worked_histories.specs.RunLines.{Lines}
use Rattle.worked_replay_modules.specs.Cases.{ReplayCase, empty_case, never_called_case, two_answers_case, overwrite_case, unread_write_case, fifteen_bytes_case, grow_access_case, grow_access_traps_case, copy_load_case, fill_past_case, fill_grown_case, nested_call_case, nested_trap_case, host_trap_case, table_entry_case, table_entry_emptied_case, table_entry_import_case, table_growth_case, table_growth_short_case, table_not_grown_case, float_global_case, imported_offset_case, c_buffers_case}
use Rattle.worked_replay_modules.specs.Tests.{replay_of, print_tape, stretches_made, steps_made, script_lines}

-- the replay module is valid; its run ends after `c.turns` turns and shows the lines of the run under the script; its
-- stretches make exactly the effects of the tape's segments; and its calls of imports are within the bound of steps
pub record Replays (c : ReplayCase) : Type 0 where
  pub valid : IsValid (replay_of c.original c.script c.tape)
  pub shows : print_tape c.original c.script c.tape 100 ≡ Lines c.turns (script_lines c.original c.script)
  pub changes : AreEffectsOf c.tape.segments (stretches_made c.original c.script c.tape 100)
  pub steps : AreWithinBound (plan_of (imported_funcs c.original) c.tape).imports
      (steps_made c.original c.script c.tape 100)

-- all examples have their replay modules
pub record ReplaysOfRuns : Type 0 where
  pub empty : Replays empty_case
  pub never_called : Replays never_called_case
  pub two_answers : Replays two_answers_case
  pub overwrite : Replays overwrite_case
  pub unread_write : Replays unread_write_case
  pub fifteen_bytes : Replays fifteen_bytes_case
  pub grow_access : Replays grow_access_case
  pub grow_access_traps : Replays grow_access_traps_case
  pub copy_load : Replays copy_load_case
  pub fill_past : Replays fill_past_case
  pub fill_grown : Replays fill_grown_case
  pub nested_call : Replays nested_call_case
  pub nested_trap : Replays nested_trap_case
  pub host_trap : Replays host_trap_case
  pub table_entry : Replays table_entry_case
  pub table_entry_emptied : Replays table_entry_emptied_case
  pub table_entry_import : Replays table_entry_import_case
  pub table_growth : Replays table_growth_case
  pub table_growth_short : Replays table_growth_short_case
  pub table_not_grown : Replays table_not_grown_case
  pub float_global : Replays float_global_case
  pub imported_offset : Replays imported_offset_case
  pub c_buffers : Replays c_buffers_case
