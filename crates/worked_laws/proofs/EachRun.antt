-- A property of each worked run.
use Rattle.std.proofs.Common.{◌≡◌, List, [], ◌∷◌, Some, true, nat_le, refl}
use Rattle.wasm_syntax.specs.declared.values.ValType.TheVariants.{F32}
use Rattle.wasm_syntax.specs.declared.modules.Module.{Module}
use Rattle.host_script.specs.declared.scripts.Address.TheVariants.{Fixed}
use Rattle.host_script.specs.declared.scripts.Action.TheVariants.{Write, SetTable, Grow as GrowBy}
use Rattle.host_script.specs.declared.scripts.Script.{Script}
use Rattle.base.specs.declared.outcomes.Outcome.{Outcome}
use Rattle.base.specs.declared.outcomes.Outcome.TheVariants.{Ended, Trapped, HostTrapped}
use Rattle.trace_model.specs.declared.tapes.Effect.TheVariants.{Grow, Table, Bytes, Entry, Global}
use Rattle.trace_model.specs.declared.tapes.Segment.{Segment}
use Rattle.trace_model.specs.Weight.{tape_weight}
use Rattle.record_replay_spec.specs.Needed.{opening_store}
use Rattle.worked_histories.specs.Build.{value}
use Rattle.worked_histories.specs.Modules.{two_answers, overwrite, grow_access, copy_load, fill_past, nested_call, table_entry, table_growth, float_global, c_buffers}
use Rattle.worked_histories.specs.Scripts.{five_seven, host_traps, does, does_all, calls_back, reads_hi}
use Rattle.worked_tapes.specs.NeededTapes.{two_answers_tape, needed_bytes, nested_tape}
use Rattle.worked_tapes.specs.TapeBuild.{changes, changes_then_traps, IfOpened}
use Rattle.worked_laws.specs.Dropped.{writes_four, writes_copied}
use Rattle.worked_laws.specs.Runs.{trapped_tape, buffers_tape, OfEachRun}
use Rattle.worked_laws.proofs.Runs.{CanRun, HasTape, two_answers_runs, host_trap_runs, overwrite_runs, unread_write_runs, grow_access_runs, fill_past_runs, copy_load_runs, c_buffers_runs, table_entry_runs, grows_table, table_growth_runs, sets_global, float_global_runs, nested_call_runs}

-- the tape of the segments weighs little
abbrev pub IsLight : List Segment → Type 0
IsLight segments = nat_le (tape_weight (record { segments = segments })) 1000 ≡ true

-- a property of each run to which the law of tapes applies, with a light tape, is one of each worked run
pub of_each_run : (P : Module → Script → List Segment → Outcome → Type 0)
    → ((m : Module) (script : Script) (segments : List Segment) (outcome : Outcome) → CanRun m script
    → IfOpened (opening_store m script) (HasTape m script segments outcome) → IsLight segments
    → P m script segments outcome) → OfEachRun P
of_each_run P each =
    record {
      answers =
          each two_answers five_seven two_answers_tape Ended two_answers_runs
          (record { ends = refl; tested = refl }) refl;
      host_trap =
          each two_answers host_traps trapped_tape HostTrapped host_trap_runs
          (record { ends = refl; tested = refl }) refl;
      unread =
          each overwrite (does (Write (Fixed 100) (0xFF ∷ []))) (changes []) Ended
          unread_write_runs (record { ends = refl; tested = refl }) refl;
      filled =
          each fill_past (does (GrowBy 1)) (changes (Grow 2 ∷ [])) Ended fill_past_runs
          (record { ends = refl; tested = refl }) refl;
      buffers =
          each c_buffers reads_hi buffers_tape Ended c_buffers_runs
          (record { ends = refl; tested = refl }) refl;
      bytes =
          each overwrite writes_four needed_bytes Ended overwrite_runs
          (record { ends = refl; tested = refl }) refl;
      growth =
          each grow_access (does (GrowBy 1)) (changes (Grow 2 ∷ [])) Ended grow_access_runs
          (record { ends = refl; tested = refl }) refl;
      copied =
          each copy_load writes_copied
          (changes (Bytes 8 (0x85 ∷ []) ∷ Bytes 11 (0x01 ∷ []) ∷ [])) Ended copy_load_runs
          (record { ends = refl; tested = refl }) refl;
      nested =
          each nested_call calls_back nested_tape Ended nested_call_runs
          (record { ends = refl; tested = refl }) refl;
      entry =
          each table_entry (does (SetTable 0 (Some 3)))
          (changes_then_traps (Entry 0 (Some 3) ∷ [])) Trapped table_entry_runs
          (record { ends = refl; tested = refl }) refl;
      size =
          each table_growth (does_all grows_table)
          (changes_then_traps (Table 6 ∷ Entry 5 (Some 3) ∷ [])) Trapped table_growth_runs
          (record { ends = refl; tested = refl }) refl;
      global =
          each float_global (does sets_global)
          (changes (Global 0 (value F32 0x7FA00001) ∷ [])) Ended float_global_runs
          (record { ends = refl; tested = refl }) refl;
    }
