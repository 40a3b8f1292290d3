-- The examples: modules with scripts, and the tapes of their runs.
use Rattle.std.specs.Prelude.{ℕ, [], ◌∷◌, Some, None}
use Rattle.wasm_syntax.specs.declared.values.ValType.TheVariants.{F32}
use Rattle.wasm_syntax.specs.declared.modules.Module.{Module}
use Rattle.wasm_syntax.specs.EmptyModule.{empty_module}
use Rattle.host_script.specs.declared.scripts.Address.TheVariants.{Fixed}
use Rattle.host_script.specs.declared.scripts.Action.TheVariants.{Write, SetTable, SetGlobal, Grow as GrowBy, GrowTable}
use Rattle.host_script.specs.declared.scripts.Script.{Script}
use Rattle.trace_model.specs.declared.tapes.Effect.TheVariants.{Grow, Table, Bytes, Entry, Global}
use Rattle.trace_model.specs.declared.tapes.Tape.{Tape}
use Rattle.worked_histories.specs.Build.{i32, value, script}
use Rattle.worked_histories.specs.Modules.{two_answers, overwrite, grow_access, copy_load, fill_past, nested_call, nested_trap, table_entry, table_growth, float_global, imported_offset, c_buffers}
use Rattle.worked_histories.specs.Scripts.{idle, five_seven, does, does_all, does_nothing, host_traps, calls_back, gives_global, reads_hi}
use Rattle.worked_replay_modules.specs.Tapes.{two_answers_tape, idle_tape, one_return, one_return_then_trap, fifteen_bytes, nested_call_tape, nested_trap_tape, host_trap_tape, calls_zero_tape, c_buffers_tape}

-- a module, a script for it, the tape of what the module observes of its run under the script, and the number of turns
-- of the replay module's run
pub record ReplayCase : Type 0 where
  pub original : Module
  pub script : Script
  pub tape : Tape
  pub turns : ℕ

-- a case, by its parts
abbrev pub replay_case : Module → Script → Tape → ℕ → ReplayCase
replay_case original script tape turns =
    record { original = original; script = script; tape = tape; turns = turns }

-- the module is empty, and the host does nothing
abbrev pub empty_case : ReplayCase
empty_case = replay_case empty_module idle idle_tape 1

-- the import is never called
abbrev pub never_called_case : ReplayCase
never_called_case = replay_case two_answers (script (None ∷ []) []) idle_tape 1

-- the module adds two answers of the host
abbrev pub two_answers_case : ReplayCase
two_answers_case = replay_case two_answers five_seven two_answers_tape 52

-- the module reads two of the four bytes that the host writes
abbrev pub overwrite_case : ReplayCase
overwrite_case =
    replay_case overwrite (does (Write (Fixed 8) (0xAA ∷ 0xBB ∷ 0xCC ∷ 0xDD ∷ [])))
    (one_return (Bytes 10 (0xCC ∷ 0xDD ∷ []) ∷ [])) 33

-- the module does not read what the host writes
abbrev pub unread_write_case : ReplayCase
unread_write_case = replay_case overwrite (does (Write (Fixed 100) (0xFF ∷ []))) (one_return []) 30

-- a tape may write more than its module reads
abbrev pub fifteen_bytes_case : ReplayCase
fifteen_bytes_case = replay_case overwrite does_nothing (one_return fifteen_bytes) 42

-- an access sees the host's growth
abbrev pub grow_access_case : ReplayCase
grow_access_case = replay_case grow_access (does (GrowBy 1)) (one_return (Grow 2 ∷ [])) 32

-- an access traps without the host's growth
abbrev pub grow_access_traps_case : ReplayCase
grow_access_traps_case = replay_case grow_access does_nothing (one_return_then_trap []) 26

-- the module copies what the host writes, and loads it
abbrev pub copy_load_case : ReplayCase
copy_load_case =
    replay_case copy_load (does (Write (Fixed 8) (0x85 ∷ 0x00 ∷ 0x00 ∷ 0x01 ∷ [])))
    (one_return (Bytes 8 (0x85 ∷ []) ∷ Bytes 11 (1 ∷ []) ∷ [])) 38

-- a fill ends past the memory
abbrev pub fill_past_case : ReplayCase
fill_past_case = replay_case fill_past does_nothing (one_return_then_trap []) 27

-- a fill sees the host's growth
abbrev pub fill_grown_case : ReplayCase
fill_grown_case = replay_case fill_past (does (GrowBy 1)) (one_return (Grow 2 ∷ [])) 33

-- an import is called within a call of the same import
abbrev pub nested_call_case : ReplayCase
nested_call_case = replay_case nested_call calls_back nested_call_tape 59

-- a call within the call of an import traps
abbrev pub nested_trap_case : ReplayCase
nested_trap_case = replay_case nested_trap calls_back nested_trap_tape 23

-- the host traps
abbrev pub host_trap_case : ReplayCase
host_trap_case = replay_case two_answers host_traps host_trap_tape 22

-- the function that the entry receives is declared
abbrev pub table_entry_case : ReplayCase
table_entry_case =
    replay_case table_entry (does (SetTable 0 (Some 3))) (one_return_then_trap (Entry 0 (Some 3) ∷ [])) 28

-- the host empties the entry
abbrev pub table_entry_emptied_case : ReplayCase
table_entry_emptied_case =
    replay_case table_entry (does (SetTable 0 None)) (one_return_then_trap (Entry 0 None ∷ [])) 28

-- the entry holds the import
abbrev pub table_entry_import_case : ReplayCase
table_entry_import_case =
    replay_case table_entry (does (SetTable 0 (Some 0))) (one_return_then_trap (Entry 0 (Some 0) ∷ [])) 28

-- the host grows the table and sets its last entry
abbrev pub table_growth_case : ReplayCase
table_growth_case =
    replay_case table_growth (does_all (GrowTable 4 ∷ SetTable 5 (Some 3) ∷ []))
    (one_return_then_trap (Table 6 ∷ Entry 5 (Some 3) ∷ [])) 34

-- the host grows the table, and the index is still past its end
abbrev pub table_growth_short_case : ReplayCase
table_growth_short_case = replay_case table_growth (does (GrowTable 2)) (one_return_then_trap (Table 4 ∷ [])) 31

-- the host does not grow the table
abbrev pub table_not_grown_case : ReplayCase
table_not_grown_case = replay_case table_growth does_nothing (one_return_then_trap []) 25

-- the bits of a NaN are kept
abbrev pub float_global_case : ReplayCase
float_global_case =
    replay_case float_global (does (SetGlobal 0 (value F32 2141192193)))
    (one_return (Global 0 (value F32 2141192193) ∷ [])) 28

-- the offset of the data segment is the supplied value
abbrev pub imported_offset_case : ReplayCase
imported_offset_case = replay_case imported_offset (gives_global (Some (i32 16))) calls_zero_tape 5

-- the module reads into buffers on a C stack
abbrev pub c_buffers_case : ReplayCase
c_buffers_case = replay_case c_buffers reads_hi c_buffers_tape 60
