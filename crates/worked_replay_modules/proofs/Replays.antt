-- The replay modules of the examples, computed.
use Rattle.std.proofs.Common.{◌≡◌, None, true, refl}
use Rattle.std.specs.Prelude.{map}
use Rattle.std.specs.Fmt.{digits}
use Rattle.wasm_syntax.specs.Index.{imported_funcs}
use Rattle.wasm_syntax.specs.ValidityTests.{invalid_at}
use Rattle.wasm_syntax.specs.Laws.{ValidityIsDecided}
use Rattle.trace_model.specs.declared.tapes.Segment.{Segment}
use Rattle.replay_module_spec.specs.Plans.{plan_of}
use Rattle.replay_run_spec.specs.Steps.{are_within_bound}
use Rattle.replay_run_spec.specs.Laws.{EffectsAreTested, BoundsAreTested}
use Rattle.worked_histories.specs.RunLines.{Lines}
use Rattle.worked_replay_modules.specs.Cases.{ReplayCase, empty_case, never_called_case, two_answers_case, overwrite_case, unread_write_case, fifteen_bytes_case, grow_access_case, grow_access_traps_case, copy_load_case, fill_past_case, fill_grown_case, nested_call_case, nested_trap_case, host_trap_case, table_entry_case, table_entry_emptied_case, table_entry_import_case, table_growth_case, table_growth_short_case, table_not_grown_case, float_global_case, imported_offset_case, c_buffers_case}
use Rattle.worked_replay_modules.specs.Tests.{replay_of, print_tape, stretches_made, changes_made, steps_made, script_lines}
use Rattle.worked_replay_modules.specs.Replays.{Replays, ReplaysOfRuns}

-- the results of the plain programs beside the definitions
record Computes (c : ReplayCase) : Type 0 where
  valid : invalid_at (replay_of c.original c.script c.tape) ≡ None
  shows : print_tape c.original c.script c.tape 100 ≡ Lines c.turns (script_lines c.original c.script)
  changes : changes_made c.original c.script c.tape 100
      ≡ map (λ (segment : Segment). segment.effects) c.tape.segments
  steps : are_within_bound (plan_of (imported_funcs c.original) c.tape).imports
      (steps_made c.original c.script c.tape 100) ≡ true

empty : Computes empty_case
unfolding digits
empty = record { valid = refl; shows = refl; changes = refl; steps = refl }

never_called : Computes never_called_case
unfolding digits
never_called = record { valid = refl; shows = refl; changes = refl; steps = refl }

two_answers : Computes two_answers_case
unfolding digits
two_answers = record { valid = refl; shows = refl; changes = refl; steps = refl }

overwrite : Computes overwrite_case
unfolding digits
overwrite = record { valid = refl; shows = refl; changes = refl; steps = refl }

unread_write : Computes unread_write_case
unfolding digits
unread_write = record { valid = refl; shows = refl; changes = refl; steps = refl }

fifteen_bytes : Computes fifteen_bytes_case
unfolding digits
fifteen_bytes = record { valid = refl; shows = refl; changes = refl; steps = refl }

grow_access : Computes grow_access_case
unfolding digits
grow_access = record { valid = refl; shows = refl; changes = refl; steps = refl }

grow_access_traps : Computes grow_access_traps_case
unfolding digits
grow_access_traps = record { valid = refl; shows = refl; changes = refl; steps = refl }

copy_load : Computes copy_load_case
unfolding digits
copy_load = record { valid = refl; shows = refl; changes = refl; steps = refl }

fill_past : Computes fill_past_case
unfolding digits
fill_past = record { valid = refl; shows = refl; changes = refl; steps = refl }

fill_grown : Computes fill_grown_case
unfolding digits
fill_grown = record { valid = refl; shows = refl; changes = refl; steps = refl }

nested_call : Computes nested_call_case
unfolding digits
nested_call = record { valid = refl; shows = refl; changes = refl; steps = refl }

nested_trap : Computes nested_trap_case
unfolding digits
nested_trap = record { valid = refl; shows = refl; changes = refl; steps = refl }

host_trap : Computes host_trap_case
unfolding digits
host_trap = record { valid = refl; shows = refl; changes = refl; steps = refl }

table_entry : Computes table_entry_case
unfolding digits
table_entry = record { valid = refl; shows = refl; changes = refl; steps = refl }

table_entry_emptied : Computes table_entry_emptied_case
unfolding digits
table_entry_emptied = record { valid = refl; shows = refl; changes = refl; steps = refl }

table_entry_import : Computes table_entry_import_case
unfolding digits
table_entry_import = record { valid = refl; shows = refl; changes = refl; steps = refl }

table_growth : Computes table_growth_case
unfolding digits
table_growth = record { valid = refl; shows = refl; changes = refl; steps = refl }

table_growth_short : Computes table_growth_short_case
unfolding digits
table_growth_short = record { valid = refl; shows = refl; changes = refl; steps = refl }

table_not_grown : Computes table_not_grown_case
unfolding digits
table_not_grown = record { valid = refl; shows = refl; changes = refl; steps = refl }

float_global : Computes float_global_case
unfolding digits
float_global = record { valid = refl; shows = refl; changes = refl; steps = refl }

imported_offset : Computes imported_offset_case
unfolding digits
imported_offset = record { valid = refl; shows = refl; changes = refl; steps = refl }

c_buffers : Computes c_buffers_case
unfolding digits
c_buffers = record { valid = refl; shows = refl; changes = refl; steps = refl }

-- the laws that these programs decide what they test
module _ (decided : ValidityIsDecided) (effects : EffectsAreTested) (bounds : BoundsAreTested) where
  replays : (c : ReplayCase) → Computes c → Replays c
  replays c computed =
      record {
        valid = (decided (replay_of c.original c.script c.tape)).1 computed.valid;
        shows = computed.shows;
        changes = effects c.tape.segments (stretches_made c.original c.script c.tape 100) computed.changes;
        steps =
            (bounds (plan_of (imported_funcs c.original) c.tape).imports
            (steps_made c.original c.script c.tape 100)).0 computed.steps;
      }

  pub replays_of_runs : ReplaysOfRuns
  replays_of_runs =
      record {
        empty = replays empty_case empty;
        never_called = replays never_called_case never_called;
        two_answers = replays two_answers_case two_answers;
        overwrite = replays overwrite_case overwrite;
        unread_write = replays unread_write_case unread_write;
        fifteen_bytes = replays fifteen_bytes_case fifteen_bytes;
        grow_access = replays grow_access_case grow_access;
        grow_access_traps = replays grow_access_traps_case grow_access_traps;
        copy_load = replays copy_load_case copy_load;
        fill_past = replays fill_past_case fill_past;
        fill_grown = replays fill_grown_case fill_grown;
        nested_call = replays nested_call_case nested_call;
        nested_trap = replays nested_trap_case nested_trap;
        host_trap = replays host_trap_case host_trap;
        table_entry = replays table_entry_case table_entry;
        table_entry_emptied = replays table_entry_emptied_case table_entry_emptied;
        table_entry_import = replays table_entry_import_case table_entry_import;
        table_growth = replays table_growth_case table_growth;
        table_growth_short = replays table_growth_short_case table_growth_short;
        table_not_grown = replays table_not_grown_case table_not_grown;
        float_global = replays float_global_case float_global;
        imported_offset = replays imported_offset_case imported_offset;
        c_buffers = replays c_buffers_case c_buffers;
      }
