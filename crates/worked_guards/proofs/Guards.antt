-- The guarded modules of the worked replay modules, computed.
use Rattle.std.proofs.Common.{◌≡◌, None, refl}
use Rattle.std.specs.Fmt.{digits}
use Rattle.wasm_syntax.specs.Laws.{ValidityIsDecided}
use Rattle.wasm_syntax.specs.ValidityTests.{invalid_at}
use Rattle.worked_replay_modules.specs.Cases.{ReplayCase, empty_case, never_called_case, two_answers_case, fill_past_case, nested_trap_case, host_trap_case, table_entry_case, table_entry_emptied_case, table_entry_import_case, table_growth_case, table_growth_short_case, table_not_grown_case, float_global_case, overwrite_case, grow_access_case, copy_load_case, fill_grown_case, nested_call_case, imported_offset_case, c_buffers_case}
use Rattle.worked_replay_modules.specs.Tests.{lines_of_result, script_lines}
use Rattle.worked_guards.specs.Tests.{guard, guard_for, words_before_digest, lines_before_end, print_guard}
use Rattle.worked_guards.specs.AllTypes.{all_types_case}
use Rattle.worked_guards.specs.Guards.{GuardsOfReplays, IsGuarded, IsGuardedBefore}

-- the results of the plain programs beside the definitions
record Computes (c : ReplayCase) : Type 0 where
  valid : invalid_at (guard c) ≡ None
  shows : lines_of_result (print_guard c (guard c) 600) ≡ script_lines c.original c.script

record ComputesBefore (c : ReplayCase) : Type 0 where
  valid : invalid_at (guard_for c (words_before_digest c)) ≡ None
  shows : lines_before_end c (guard_for c (words_before_digest c)) 250 ≡ script_lines c.original c.script

empty : Computes empty_case
unfolding digits
empty = record { valid = refl; shows = refl }

never_called : Computes never_called_case
unfolding digits
never_called = record { valid = refl; shows = refl }

two_answers : Computes two_answers_case
unfolding digits
two_answers = record { valid = refl; shows = refl }

all_types : Computes all_types_case
unfolding digits
all_types = record { valid = refl; shows = refl }

fill_past : Computes fill_past_case
unfolding digits
fill_past = record { valid = refl; shows = refl }

nested_trap : Computes nested_trap_case
unfolding digits
nested_trap = record { valid = refl; shows = refl }

host_trap : Computes host_trap_case
unfolding digits
host_trap = record { valid = refl; shows = refl }

table_entry : Computes table_entry_case
unfolding digits
table_entry = record { valid = refl; shows = refl }

table_entry_emptied : Computes table_entry_emptied_case
unfolding digits
table_entry_emptied = record { valid = refl; shows = refl }

table_entry_import : Computes table_entry_import_case
unfolding digits
table_entry_import = record { valid = refl; shows = refl }

table_growth : Computes table_growth_case
unfolding digits
table_growth = record { valid = refl; shows = refl }

table_growth_short : Computes table_growth_short_case
unfolding digits
table_growth_short = record { valid = refl; shows = refl }

table_not_grown : Computes table_not_grown_case
unfolding digits
table_not_grown = record { valid = refl; shows = refl }

float_global : Computes float_global_case
unfolding digits
float_global = record { valid = refl; shows = refl }

overwrite : ComputesBefore overwrite_case
unfolding digits
overwrite = record { valid = refl; shows = refl }

grow_access : ComputesBefore grow_access_case
unfolding digits
grow_access = record { valid = refl; shows = refl }

copy_load : ComputesBefore copy_load_case
unfolding digits
copy_load = record { valid = refl; shows = refl }

fill_grown : ComputesBefore fill_grown_case
unfolding digits
fill_grown = record { valid = refl; shows = refl }

nested_call : ComputesBefore nested_call_case
unfolding digits
nested_call = record { valid = refl; shows = refl }

imported_offset : ComputesBefore imported_offset_case
unfolding digits
imported_offset = record { valid = refl; shows = refl }

c_buffers : ComputesBefore c_buffers_case
unfolding digits
c_buffers = record { valid = refl; shows = refl }

module _ (decided : ValidityIsDecided) where
  guarded : (c : ReplayCase) → Computes c → IsGuarded c
  guarded c computes = record { valid = (decided (guard c)).1 computes.valid; shows = computes.shows }

  guarded_before : (c : ReplayCase) → ComputesBefore c → IsGuardedBefore c
  guarded_before c computes =
      record { valid = (decided (guard_for c (words_before_digest c))).1 computes.valid; shows = computes.shows }

  pub guards_of_replays : GuardsOfReplays
  guards_of_replays =
      record {
        empty = guarded empty_case empty;
        never_called = guarded never_called_case never_called;
        two_answers = guarded two_answers_case two_answers;
        all_types = guarded all_types_case all_types;
        fill_past = guarded fill_past_case fill_past;
        nested_trap = guarded nested_trap_case nested_trap;
        host_trap = guarded host_trap_case host_trap;
        table_entry = guarded table_entry_case table_entry;
        table_entry_emptied = guarded table_entry_emptied_case table_entry_emptied;
        table_entry_import = guarded table_entry_import_case table_entry_import;
        table_growth = guarded table_growth_case table_growth;
        table_growth_short = guarded table_growth_short_case table_growth_short;
        table_not_grown = guarded table_not_grown_case table_not_grown;
        float_global = guarded float_global_case float_global;
        overwrite = guarded_before overwrite_case overwrite;
        grow_access = guarded_before grow_access_case grow_access;
        copy_load = guarded_before copy_load_case copy_load;
        fill_grown = guarded_before fill_grown_case fill_grown;
        nested_call = guarded_before nested_call_case nested_call;
        imported_offset = guarded_before imported_offset_case imported_offset;
        c_buffers = guarded_before c_buffers_case c_buffers;
      }
