-- Runs of the example modules, with the tapes that they need.
use Rattle.std.specs.Prelude.{List, [], ◌∷◌, Some}
use Rattle.wasm_syntax.specs.declared.modules.Module.{Module}
use Rattle.wasm_syntax.specs.declared.values.ValType.TheVariants.{F32}
use Rattle.host_script.specs.declared.scripts.Address.TheVariants.{Fixed}
use Rattle.host_script.specs.declared.scripts.Action.TheVariants.{Write, SetTable, SetGlobal, Grow as GrowBy, GrowTable}
use Rattle.host_script.specs.declared.scripts.Script.{Script}
use Rattle.base.specs.declared.outcomes.Outcome.{Outcome}
use Rattle.base.specs.declared.outcomes.Outcome.TheVariants.{Ended, Trapped, HostTrapped}
use Rattle.trace_model.specs.declared.tapes.Origin.TheVariants.{Begin, Import, Back}
use Rattle.trace_model.specs.declared.tapes.Next.TheVariants.{Call, Return, End, Trap}
use Rattle.trace_model.specs.declared.tapes.Effect.TheVariants.{Grow, Table, Bytes, Entry, Global}
use Rattle.trace_model.specs.declared.tapes.Segment.{Segment}
use Rattle.worked_histories.specs.Build.{value, i32}
use Rattle.worked_histories.specs.Modules.{two_answers, overwrite, grow_access, copy_load, fill_past, nested_call, table_entry, table_growth, float_global, c_buffers}
use Rattle.worked_histories.specs.Scripts.{five_seven, host_traps, does, does_all, calls_back, reads_hi}
use Rattle.worked_tapes.specs.NeededTapes.{two_answers_tape, needed_bytes, nested_tape}
use Rattle.worked_tapes.specs.TapeBuild.{segment, changes, changes_then_traps}
use Rattle.worked_laws.specs.Dropped.{writes_four, writes_copied}

-- the tape of a run in which the host traps
abbrev pub trapped_tape : List Segment
trapped_tape = segment Begin [] (Call 1 []) ∷ segment (Import 0) [] Trap ∷ []

-- the tape of a run with buffers on a C stack
abbrev pub buffers_tape : List Segment
buffers_tape =
    segment Begin [] (Call 1 [])
    ∷ segment (Import 0) (Bytes 66544 (0x68 ∷ 0x69 ∷ 0x0A ∷ []) ∷ Bytes 66552 (3 ∷ []) ∷ []) (Return (Some (i32 0)))
    ∷ segment Back [] End ∷ []

-- a property of each of these runs, by its module, script, segments and outcome
pub record OfEachRun (P : Module → Script → List Segment → Outcome → Type 0) : Type 0 where
  pub answers : P two_answers five_seven two_answers_tape Ended
  pub host_trap : P two_answers host_traps trapped_tape HostTrapped
  pub bytes : P overwrite writes_four needed_bytes Ended
  pub unread : P overwrite (does (Write (Fixed 100) (0xFF ∷ []))) (changes []) Ended
  pub growth : P grow_access (does (GrowBy 1)) (changes (Grow 2 ∷ [])) Ended
  pub filled : P fill_past (does (GrowBy 1)) (changes (Grow 2 ∷ [])) Ended
  pub copied : P copy_load writes_copied (changes (Bytes 8 (0x85 ∷ []) ∷ Bytes 11 (0x01 ∷ []) ∷ [])) Ended
  pub nested : P nested_call calls_back nested_tape Ended
  pub entry : P table_entry (does (SetTable 0 (Some 3))) (changes_then_traps (Entry 0 (Some 3) ∷ [])) Trapped
  pub size : P table_growth (does_all (GrowTable 4 ∷ SetTable 5 (Some 3) ∷ []))
      (changes_then_traps (Table 6 ∷ Entry 5 (Some 3) ∷ [])) Trapped
  pub global : P float_global (does (SetGlobal 0 (value F32 0x7FA00001)))
      (changes (Global 0 (value F32 0x7FA00001) ∷ [])) Ended
  pub buffers : P c_buffers reads_hi buffers_tape Ended
