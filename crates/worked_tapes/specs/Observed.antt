-- What the runs of the example modules observe.
use Rattle.std.specs.Prelude.{[], ◌∷◌, Some, None}
use Rattle.wasm_syntax.specs.declared.values.ValType.TheVariants.{F32}
use Rattle.host_script.specs.declared.scripts.Address.TheVariants.{Fixed}
use Rattle.host_script.specs.declared.scripts.Action.TheVariants.{Write, SetTable, SetGlobal, Grow, GrowTable}
use Rattle.trace_model.specs.declared.tapes.Origin.TheVariants.{Begin, Import, Back}
use Rattle.trace_model.specs.declared.tapes.Next.TheVariants.{Call, Return, End, Trap}
use Rattle.record_replay_spec.specs.Observations.{Begins, Ends, Reads, Copies, Writes, Reaches, ReadsEntry, ReachesEntry, ReadsGlobal}
use Rattle.worked_histories.specs.Build.{value, i32}
use Rattle.worked_histories.specs.Modules.{two_answers, overwrite, grow_access, copy_load, fill_past, nested_call, nested_trap, table_growth, float_global}
use Rattle.worked_histories.specs.Scripts.{does, does_all, does_nothing, host_traps, calls_back}
use Rattle.worked_tapes.specs.TapeBuild.{Observes}

-- a store of two bytes, and a load of four from the same address, after a write of the host that is not observed
abbrev pub Overwrite : Type 0
Overwrite =
    Observes overwrite (does (Write (Fixed 8) (0xAA ∷ 0xBB ∷ 0xCC ∷ 0xDD ∷ [])))
    (Begins Begin ∷ Ends (Call 1 []) ∷ Begins (Import 0) ∷ Ends (Return None)
    ∷ Reaches 10 1 ∷ Writes 8 (1 ∷ 0 ∷ [])
    ∷ Reaches 12 1 ∷ Reads 8 (1 ∷ 0 ∷ 0xCC ∷ 0xDD ∷ [])
    ∷ Begins Back ∷ Ends End ∷ [])

-- a store that traps: it reaches past the memory, and writes nothing
abbrev pub StoreTraps : Type 0
StoreTraps =
    Observes grow_access does_nothing
    (Begins Begin ∷ Ends (Call 1 []) ∷ Begins (Import 0) ∷ Ends (Return None) ∷ Reaches 65537 1 ∷ [])

-- a copy reads its source and writes its target; then a load
abbrev pub CopyLoad : Type 0
CopyLoad =
    Observes copy_load (does (Write (Fixed 8) (0x85 ∷ 0x00 ∷ 0x00 ∷ 0x01 ∷ [])))
    (Begins Begin ∷ Ends (Call 1 []) ∷ Begins (Import 0) ∷ Ends (Return None)
    ∷ Reaches 12 1 ∷ Reaches 4 1
    ∷ Copies 8 (0x85 ∷ 0x00 ∷ 0x00 ∷ 0x01 ∷ []) ∷ Writes 0 (0x85 ∷ 0x00 ∷ 0x00 ∷ 0x01 ∷ [])
    ∷ Reaches 4 1 ∷ Reads 0 (0x85 ∷ 0x00 ∷ 0x00 ∷ 0x01 ∷ [])
    ∷ Begins Back ∷ Ends End ∷ [])

-- a fill in a memory that the host grew
abbrev pub FillGrown : Type 0
FillGrown =
    Observes fill_past (does (Grow 1))
    (Begins Begin ∷ Ends (Call 1 []) ∷ Begins (Import 0) ∷ Ends (Return None)
    ∷ Reaches 65537 2 ∷ Writes 65535 (7 ∷ 7 ∷ [])
    ∷ Begins Back ∷ Ends End ∷ [])

-- a call within the call of an import: the write is in the activity that the inner call's return begins
abbrev pub NestedCall : Type 0
NestedCall =
    Observes nested_call calls_back
    (Begins Begin ∷ Ends (Call 1 []) ∷ Begins (Import 0) ∷ Ends (Call 2 [])
    ∷ Begins (Import 0) ∷ Ends (Return (Some (i32 2)))
    ∷ Begins Back ∷ Ends (Return (Some (i32 1)))
    ∷ Reaches 1 1 ∷ Reads 0 (4 ∷ [])
    ∷ Begins Back ∷ Ends End ∷ [])

-- a call within the call of an import traps
abbrev pub NestedTrap : Type 0
NestedTrap =
    Observes nested_trap calls_back (Begins Begin ∷ Ends (Call 1 []) ∷ Begins (Import 0) ∷ Ends (Call 2 []) ∷ [])

-- the host traps
abbrev pub HostTrap : Type 0
HostTrap =
    Observes two_answers host_traps (Begins Begin ∷ Ends (Call 1 []) ∷ Begins (Import 0) ∷ Ends Trap ∷ [])

-- a call by a table that the host grew
abbrev pub TableGrowth : Type 0
TableGrowth =
    Observes table_growth (does_all (GrowTable 4 ∷ SetTable 5 (Some 3) ∷ []))
    (Begins Begin ∷ Ends (Call 1 []) ∷ Begins (Import 0) ∷ Ends (Return None)
    ∷ ReachesEntry 5 6 ∷ ReadsEntry 5 (Some 3) ∷ [])

-- a call by the table, with an index that is still past it
abbrev pub TableGrowthShort : Type 0
TableGrowthShort =
    Observes table_growth (does (GrowTable 2))
    (Begins Begin ∷ Ends (Call 1 []) ∷ Begins (Import 0) ∷ Ends (Return None) ∷ ReachesEntry 5 4 ∷ [])

-- a global is read
abbrev pub FloatGlobal : Type 0
FloatGlobal =
    Observes float_global (does (SetGlobal 0 (value F32 0x7FA00001)))
    (Begins Begin ∷ Ends (Call 1 []) ∷ Begins (Import 0) ∷ Ends (Return None)
    ∷ ReadsGlobal 0 (value F32 0x7FA00001)
    ∷ Begins Back ∷ Ends End ∷ [])

-- all observations of the examples
pub record WorkedObservations : Type 0 where
  pub overwrite : Overwrite
  pub store_traps : StoreTraps
  pub copy_load : CopyLoad
  pub fill_grown : FillGrown
  pub nested_call : NestedCall
  pub nested_trap : NestedTrap
  pub host_trap : HostTrap
  pub table_growth : TableGrowth
  pub table_growth_short : TableGrowthShort
  pub float_global : FloatGlobal
