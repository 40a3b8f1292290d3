-- The guarded modules of all worked replay modules: they are valid, and show the same.
use Rattle.std.specs.Prelude.{◌≡◌}
use Rattle.wasm_syntax.specs.Validity.{IsValid}
use Rattle.worked_replay_modules.specs.Cases.{ReplayCase, empty_case, never_called_case, two_answers_case, overwrite_case, grow_access_case, copy_load_case, fill_past_case, fill_grown_case, nested_call_case, nested_trap_case, host_trap_case, table_entry_case, table_entry_emptied_case, table_entry_import_case, table_growth_case, table_growth_short_case, table_not_grown_case, float_global_case, imported_offset_case, c_buffers_case}
use Rattle.worked_replay_modules.specs.Tests.{lines_of_result, script_lines}
use Rattle.worked_guards.specs.Tests.{guard, guard_for, words_before_digest, lines_before_end, print_guard}
use Rattle.worked_guards.specs.AllTypes.{all_types_case}

-- the guarded module is valid, and its whole run shows the lines of the run under the script
pub record IsGuarded (c : ReplayCase) : Type 0 where
  pub valid : IsValid (guard c)
  pub shows : lines_of_result (print_guard c (guard c) 600) ≡ script_lines c.original c.script

-- the guarded module for the words before the digest is valid, and its run shows these lines before it has computed the
-- digest of the memory
pub record IsGuardedBefore (c : ReplayCase) : Type 0 where
  pub valid : IsValid (guard_for c (words_before_digest c))
  pub shows : lines_before_end c (guard_for c (words_before_digest c)) 250 ≡ script_lines c.original c.script

-- the guarded modules of runs that trap, or that end without a memory; and of those that end with a memory
pub record GuardsOfReplays : Type 0 where
  pub empty : IsGuarded empty_case
  pub never_called : IsGuarded never_called_case
  pub two_answers : IsGuarded two_answers_case
  pub all_types : IsGuarded all_types_case
  pub fill_past : IsGuarded fill_past_case
  pub nested_trap : IsGuarded nested_trap_case
  pub host_trap : IsGuarded host_trap_case
  pub table_entry : IsGuarded table_entry_case
  pub table_entry_emptied : IsGuarded table_entry_emptied_case
  pub table_entry_import : IsGuarded table_entry_import_case
  pub table_growth : IsGuarded table_growth_case
  pub table_growth_short : IsGuarded table_growth_short_case
  pub table_not_grown : IsGuarded table_not_grown_case
  pub float_global : IsGuarded float_global_case
  pub overwrite : IsGuardedBefore overwrite_case
  pub grow_access : IsGuardedBefore grow_access_case
  pub copy_load : IsGuardedBefore copy_load_case
  pub fill_grown : IsGuardedBefore fill_grown_case
  pub nested_call : IsGuardedBefore nested_call_case
  pub imported_offset : IsGuardedBefore imported_offset_case
  pub c_buffers : IsGuardedBefore c_buffers_case
