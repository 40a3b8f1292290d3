-- The tapes that the runs of the example modules need.
use Rattle.std.specs.Prelude.{List, [], ◌∷◌, Some, None}
use Rattle.wasm_syntax.specs.declared.values.ValType.TheVariants.{F32}
use Rattle.host_script.specs.declared.scripts.Address.TheVariants.{Fixed}
use Rattle.host_script.specs.declared.scripts.Action.TheVariants.{Write, SetTable, SetGlobal, Grow as GrowBy, GrowTable}
use Rattle.base.specs.declared.outcomes.Outcome.TheVariants.{Ended, Trapped, HostTrapped}
use Rattle.trace_model.specs.declared.tapes.Origin.TheVariants.{Begin, Import, Back}
use Rattle.trace_model.specs.declared.tapes.Next.TheVariants.{Call, Return, End, Trap}
use Rattle.trace_model.specs.declared.tapes.Effect.TheVariants.{Grow, Table, Bytes, Entry, Global}
use Rattle.trace_model.specs.declared.tapes.Segment.{Segment}
use Rattle.wasm_syntax.specs.EmptyModule.{empty_module}
use Rattle.worked_histories.specs.Build.{value, i32}
use Rattle.worked_histories.specs.Modules as modules
use Rattle.worked_histories.specs.Scripts.{idle, five_seven, does, does_all, does_nothing, host_traps, calls_back, gives_global, reads_hi}
use Rattle.worked_tapes.specs.TapeBuild.{segment, changes, changes_then_traps, Needs}

-- the needed tape of two answers
abbrev pub two_answers_tape : List Segment
two_answers_tape =
    segment Begin [] (Call 1 []) ∷ segment (Import 0) [] (Return (Some (i32 5)))
    ∷ segment (Import 0) [] (Return (Some (i32 7))) ∷ segment Back [] End ∷ []

-- the host writes four bytes, and the module overwrites the first two before it reads all
abbrev pub needed_bytes : List Segment
needed_bytes = changes (Bytes 10 (0xCC ∷ 0xDD ∷ []) ∷ [])

-- a call within the call of an import: the write after the inner call is in the segment that the inner call's return
-- begins
abbrev pub nested_tape : List Segment
nested_tape =
    segment Begin [] (Call 1 []) ∷ segment (Import 0) [] (Call 2 []) ∷ segment (Import 0) [] (Return (Some (i32 2)))
    ∷ segment Back (Bytes 0 (4 ∷ []) ∷ []) (Return (Some (i32 1))) ∷ segment Back [] End ∷ []

-- all examples have their needed tapes
pub record WorkedTapes : Type 0 where
  pub two_answers : Needs modules.two_answers five_seven two_answers_tape 6 Ended
  -- a host that does nothing
  pub empty : Needs empty_module idle (segment Begin [] End ∷ []) 1 Ended
  -- a host that traps
  pub host_trap : Needs modules.two_answers host_traps
      (segment Begin [] (Call 1 []) ∷ segment (Import 0) [] Trap ∷ []) 2 HostTrapped
  pub overwrite
      : Needs modules.overwrite (does (Write (Fixed 8) (0xAA ∷ 0xBB ∷ 0xCC ∷ 0xDD ∷ []))) needed_bytes 5 Ended
  -- a write that the module does not read
  pub unread_write : Needs modules.overwrite (does (Write (Fixed 100) (0xFF ∷ []))) (changes []) 3 Ended
  -- a growth that a store sees
  pub grow_access : Needs modules.grow_access (does (GrowBy 1)) (changes (Grow 2 ∷ [])) 4 Ended
  -- no growth, if the store traps
  pub no_growth : Needs modules.grow_access does_nothing (changes_then_traps []) 2 Trapped
  -- a growth that a failed growth sees
  pub grow_failed : Needs modules.grow_failed (does (GrowBy 4)) (changes (Grow 8 ∷ [])) 4 Ended
  -- a growth that a fill sees
  pub fill_grown : Needs modules.fill_past (does (GrowBy 1)) (changes (Grow 2 ∷ [])) 4 Ended
  -- the host writes four bytes; two of them are 0, which is known; a copy reads all
  pub copy_load : Needs modules.copy_load (does (Write (Fixed 8) (0x85 ∷ 0x00 ∷ 0x00 ∷ 0x01 ∷ [])))
      (changes (Bytes 8 (0x85 ∷ []) ∷ Bytes 11 (0x01 ∷ []) ∷ [])) 5 Ended
  -- a copy overwrites some of the bytes that it reads
  pub copy_overlap : Needs modules.copy_overlap (does (Write (Fixed 8) (1 ∷ 2 ∷ 3 ∷ [])))
      (changes (Bytes 8 (1 ∷ 2 ∷ 3 ∷ []) ∷ [])) 6 Ended
  pub nested_call : Needs modules.nested_call calls_back nested_tape 8 Ended
  -- a call within the call of an import traps
  pub nested_trap : Needs modules.nested_trap calls_back
      (segment Begin [] (Call 1 []) ∷ segment (Import 0) [] (Call 2 []) ∷ []) 2 Trapped
  -- an entry that the host sets has another type
  pub table_entry
      : Needs modules.table_entry (does (SetTable 0 (Some 3))) (changes_then_traps (Entry 0 (Some 3) ∷ [])) 3 Trapped
  -- an entry is emptied
  pub table_entry_emptied
      : Needs modules.table_entry (does (SetTable 0 None)) (changes_then_traps (Entry 0 None ∷ [])) 3 Trapped
  -- an entry holds the import
  pub table_entry_import
      : Needs modules.table_entry (does (SetTable 0 (Some 0))) (changes_then_traps (Entry 0 (Some 0) ∷ [])) 3 Trapped
  -- the host grows a table from two entries by four, and sets the last
  pub table_growth : Needs modules.table_growth (does_all (GrowTable 4 ∷ SetTable 5 (Some 3) ∷ []))
      (changes_then_traps (Table 6 ∷ Entry 5 (Some 3) ∷ [])) 4 Trapped
  -- the host grows the table by two, so that the index is still past it
  pub table_growth_short
      : Needs modules.table_growth (does (GrowTable 2)) (changes_then_traps (Table 4 ∷ [])) 3 Trapped
  -- the host does not grow the table
  pub table_not_grown : Needs modules.table_growth does_nothing (changes_then_traps []) 2 Trapped
  -- a growth of the table that the module does not see: its index is within the first two entries
  pub table_growth_unseen : Needs modules.table_entry (does_all (GrowTable 4 ∷ SetTable 0 (Some 3) ∷ []))
      (changes_then_traps (Entry 0 (Some 3) ∷ [])) 3 Trapped
  -- the bits of a NaN are kept
  pub float_global : Needs modules.float_global (does (SetGlobal 0 (value F32 0x7FA00001)))
      (changes (Global 0 (value F32 0x7FA00001) ∷ [])) 4 Ended
  -- a data segment at an imported offset is known from the beginning
  pub imported_offset : Needs modules.imported_offset (gives_global (Some (i32 16)))
      (segment Begin [] (Call 0 []) ∷ segment Back [] End ∷ []) 2 Ended
  -- buffers on a C stack: of the four bytes in each buffer the last, or the last three, are 0, as before
  pub c_buffers : Needs modules.c_buffers reads_hi
      (segment Begin [] (Call 1 [])
      ∷ segment (Import 0) (Bytes 66544 (0x68 ∷ 0x69 ∷ 0x0A ∷ []) ∷ Bytes 66552 (3 ∷ []) ∷ [])
      (Return (Some (i32 0)))
      ∷ segment Back [] End ∷ [])
      8 Ended
