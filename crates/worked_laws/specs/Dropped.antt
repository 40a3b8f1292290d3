-- Tapes that the runs of the example modules need, with effects removed.
use Rattle.std.specs.Prelude.{List, [], ◌∷◌, Some}
use Rattle.wasm_syntax.specs.declared.modules.Module.{Module}
use Rattle.wasm_syntax.specs.declared.values.ValType.TheVariants.{F32}
use Rattle.host_script.specs.declared.scripts.Address.TheVariants.{Fixed}
use Rattle.host_script.specs.declared.scripts.Action.TheVariants.{Write, SetTable, SetGlobal, Grow as GrowBy, GrowTable}
use Rattle.host_script.specs.declared.scripts.Script.{Script}
use Rattle.trace_model.specs.declared.tapes.Origin.TheVariants.{Begin, Import, Back}
use Rattle.trace_model.specs.declared.tapes.Next.TheVariants.{Call, Return, End}
use Rattle.trace_model.specs.declared.tapes.Effect.TheVariants.{Table, Bytes, Entry}
use Rattle.trace_model.specs.declared.tapes.Segment.{Segment}
use Rattle.history_spec.specs.Code.{code_of}
use Rattle.history_spec.specs.Run.{program_of, start_in_store}
use Rattle.record_replay_spec.specs.Needed.{opening_store}
use Rattle.record_replay_spec.specs.Observations.{run_observations}
use Rattle.record_replay_spec.specs.TapeRun.{tape_run}
use Rattle.tape_laws.specs.Dropped.{AreLeftSegments, IsAnother}
use Rattle.worked_histories.specs.Build.{value, i32}
use Rattle.worked_histories.specs.Modules.{overwrite, grow_access, copy_load, nested_call, table_entry, table_growth, float_global}
use Rattle.worked_histories.specs.Scripts.{does, does_all, calls_back}
use Rattle.worked_tapes.specs.TapeBuild.{segment, changes, changes_then_traps, IfOpened, max_steps, scripted_run}

-- the run of the remaining segments disagrees before it has the scripted run's history, or has another
abbrev pub Lacks : Module → Script → List Segment → Type 0
Lacks m script left =
    IfOpened (opening_store m script) (λ store.
    IsAnother (tape_run (code_of m) store left) (scripted_run m script store).history)

-- the segments are not the needed ones with effects removed
abbrev pub IsNotLeft : Module → Script → (needed left : List Segment) → Type 0
IsNotLeft m script needed left =
    IfOpened (opening_store m script) (λ store.
    AreLeftSegments (run_observations (program_of m script) (start_in_store m script store) max_steps) needed left
    → ⊥)

-- the host writes four bytes, and the module reads two of them
abbrev pub writes_four : Script
writes_four = does (Write (Fixed 8) (0xAA ∷ 0xBB ∷ 0xCC ∷ 0xDD ∷ []))

-- the host writes four bytes, and a copy reads two of them that were not known
abbrev pub writes_copied : Script
writes_copied = does (Write (Fixed 8) (0x85 ∷ 0x00 ∷ 0x00 ∷ 0x01 ∷ []))

-- the tape without the write after the nested call
abbrev pub unwritten_tape : List Segment
unwritten_tape =
    segment Begin [] (Call 1 []) ∷ segment (Import 0) [] (Call 2 []) ∷ segment (Import 0) [] (Return (Some (i32 2)))
    ∷ segment Back [] (Return (Some (i32 1))) ∷ segment Back [] End ∷ []

-- with an effect removed from their tapes the runs differ
pub record WorkedDrops : Type 0 where
  -- both bytes are removed, or one of them
  pub bytes : Lacks overwrite writes_four (changes [])
  pub second_byte : Lacks overwrite writes_four (changes (Bytes 10 (0xCC ∷ []) ∷ []))
  -- a growth is removed that a store sees
  pub growth : Lacks grow_access (does (GrowBy 1)) (changes [])
  -- a write after a nested call is removed
  pub nested : Lacks nested_call calls_back unwritten_tape
  -- an entry is removed; or the size or the entry of a table that grows
  pub entry : Lacks table_entry (does (SetTable 0 (Some 3))) (changes_then_traps [])
  pub size : Lacks table_growth (does_all (GrowTable 4 ∷ SetTable 5 (Some 3) ∷ []))
      (changes_then_traps (Entry 5 (Some 3) ∷ []))
  pub entry_past : Lacks table_growth (does_all (GrowTable 4 ∷ SetTable 5 (Some 3) ∷ []))
      (changes_then_traps (Table 6 ∷ []))
  -- a change of a global is removed
  pub global : Lacks float_global (does (SetGlobal 0 (value F32 0x7FA00001))) (changes [])
  -- a byte that a copy reads first can't be removed
  pub copied : IsNotLeft copy_load writes_copied (changes (Bytes 8 (0x85 ∷ []) ∷ Bytes 11 (0x01 ∷ []) ∷ []))
      (changes (Bytes 11 (0x01 ∷ []) ∷ []))
