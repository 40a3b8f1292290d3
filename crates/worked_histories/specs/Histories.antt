-- The histories that the example modules have.
use Rattle.std.specs.Prelude.{◌≡◌, ℕ, List, [], ◌∷◌, ◌++◌, Some, None, codes}
use Rattle.wasm_syntax.specs.declared.values.ValType.TheVariants.{I64, F32}
use Rattle.host_script.specs.declared.scripts.Address.TheVariants.{Fixed}
use Rattle.host_script.specs.declared.scripts.Action.TheVariants.{Write, SetTable, SetGlobal, Grow, GrowTable, Call}
use Rattle.host_script.specs.declared.scripts.LinkFault.TheVariants.{Missing, Mismatch}
use Rattle.history_spec.specs.declared.entries.FaultKind.TheVariants.{NoResponse, GrowRefused}
use Rattle.worked_histories.specs.Build.{value, i32, script, layout}
use Rattle.wasm_syntax.specs.EmptyModule.{empty_module}
use Rattle.worked_histories.specs.Modules.{grow_failed}
use Rattle.worked_histories.specs.Modules as modules
use Rattle.worked_histories.specs.Scripts.{idle, five_seven, five_seven_twice, does, does_all, does_nothing, host_traps, calls_back, gives_global, reads_hi}
use Rattle.worked_histories.specs.RunLines.{print, print_replay, Lines, Fault, Spent, NoLink}

-- the lines of a run whose first step calls the import
abbrev pub import_begins : List (List ℕ)
import_begins = codes "host-call 1" ∷ codes "step 1 0 ->" ∷ codes "import-call 0" ∷ []

-- the lines of a run whose first step calls the import, up to the return of nothing
abbrev pub import_returns : List (List ℕ)
import_returns = import_begins ++ codes "import-return 0" ∷ []

-- the lines of the run of two answers
abbrev pub two_answers_lines : List (List ℕ)
two_answers_lines =
    import_begins
    ++ codes "import-return 0 i32:00000005"
    ∷ codes "step 1 1 ->"
    ∷ codes "import-call 0"
    ∷ codes "import-return 0 i32:00000007"
    ∷ codes "step 1 2 i32:00000005 i32:00000007 -> i32:0000000c"
    ∷ codes "host-return 1 i32:0000000c"
    ∷ codes "ended" ∷ []

-- a failed growth sees that the host grew the memory
abbrev pub GrowFailed : Type 0
GrowFailed =
    print grow_failed (does (Grow 4)) 100 ≡ Lines 5
    (import_returns ++ codes "step 1 1 -> i32:00000003"
    ∷ codes "step 1 2 i32:00000003 -> i32:ffffffff found 8"
    ∷ codes "host-return 1 i32:ffffffff"
    ∷ codes "ended" ∷ [])

-- all examples have their histories
pub record WorkedHistories : Type 0 where
  -- two answers are added; four turns suffice
  pub two_answers : print modules.two_answers five_seven 4 ≡ Lines 4 two_answers_lines
  -- three turns do not suffice
  pub two_answers_spent : print modules.two_answers five_seven 3 ≡ Spent
  -- a run without actions
  pub empty : print empty_module idle 100 ≡ Lines 0 (codes "ended" ∷ [])
  -- an import that is never called
  pub never_called : print modules.two_answers (script (None ∷ []) []) 100 ≡ Lines 0 (codes "ended" ∷ [])
  -- the third call has no answer
  pub answers_used_up : print modules.two_answers five_seven_twice 100 ≡ Fault 6 NoResponse
  -- a write of the host that overlaps what the module stored
  pub overwrite : print modules.overwrite (does (Write (Fixed 8) (0xAA ∷ 0xBB ∷ 0xCC ∷ 0xDD ∷ []))) 100 ≡ Lines 8
      (import_returns ++ codes "step 1 1 -> i32:00000008"
      ∷ codes "step 1 2 -> i32:00000001"
      ∷ codes "step 1 3 i32:00000008 i32:00000001 ->"
      ∷ codes "step 1 4 -> i32:00000008"
      ∷ codes "step 1 5 i32:00000008 -> i32:ddcc0001"
      ∷ codes "host-return 1 i32:ddcc0001"
      ∷ codes "ended" ∷ [])
  -- a write of the host that the module does not read
  pub unread_write : print modules.overwrite (does (Write (Fixed 100) (0xFF ∷ []))) 100 ≡ Lines 8
      (import_returns ++ codes "step 1 1 -> i32:00000008"
      ∷ codes "step 1 2 -> i32:00000001"
      ∷ codes "step 1 3 i32:00000008 i32:00000001 ->"
      ∷ codes "step 1 4 -> i32:00000008"
      ∷ codes "step 1 5 i32:00000008 -> i32:00000001"
      ∷ codes "host-return 1 i32:00000001"
      ∷ codes "ended" ∷ [])
  -- an access sees that the host grew the memory
  pub grow_access : print modules.grow_access (does (Grow 1)) 100 ≡ Lines 6
      (import_returns ++ codes "step 1 1 -> i32:00010000"
      ∷ codes "step 1 2 -> i32:00000009"
      ∷ codes "step 1 3 i32:00010000 i32:00000009 ->"
      ∷ codes "host-return 1"
      ∷ codes "ended" ∷ [])
  -- an access traps if the host did not grow the memory
  pub grow_access_traps : print modules.grow_access does_nothing 100 ≡ Lines 5
      (import_returns ++ codes "step 1 1 -> i32:00010000"
      ∷ codes "step 1 2 -> i32:00000009"
      ∷ codes "trap 1 3 memory i32:00010000 i32:00000009 found 1"
      ∷ codes "trapped" ∷ [])
  -- a copy of what the host wrote, which is loaded with its sign; ten turns suffice
  pub copy_load : print modules.copy_load (does (Write (Fixed 8) (0x85 ∷ 0x00 ∷ 0x00 ∷ 0x01 ∷ []))) 10 ≡ Lines 10
      (import_returns ++ codes "step 1 1 -> i32:00000000"
      ∷ codes "step 1 2 -> i32:00000008"
      ∷ codes "step 1 3 -> i32:00000004"
      ∷ codes "step 1 4 i32:00000000 i32:00000008 i32:00000004 ->"
      ∷ codes "step 1 5 -> i32:00000000"
      ∷ codes "step 1 6 i32:00000000 -> i32:01000085"
      ∷ codes "step 1 7 i32:01000085 -> i32:ffffff85"
      ∷ codes "host-return 1 i32:ffffff85"
      ∷ codes "ended" ∷ [])
  -- nine turns do not suffice
  pub copy_load_spent : print modules.copy_load (does (Write (Fixed 8) (0x85 ∷ 0x00 ∷ 0x00 ∷ 0x01 ∷ []))) 9 ≡ Spent
  -- a copy reads the bytes as they were before it
  pub copy_overlap : print modules.copy_overlap (does (Write (Fixed 8) (1 ∷ 2 ∷ 3 ∷ []))) 100 ≡ Lines 13
      (import_returns ++ codes "step 1 1 -> i32:00000009"
      ∷ codes "step 1 2 -> i32:00000008"
      ∷ codes "step 1 3 -> i32:00000003"
      ∷ codes "step 1 4 i32:00000009 i32:00000008 i32:00000003 ->"
      ∷ codes "step 1 5 -> i32:0000000a"
      ∷ codes "step 1 6 -> i32:000001a5"
      ∷ codes "step 1 7 -> i32:00000001"
      ∷ codes "step 1 8 i32:0000000a i32:000001a5 i32:00000001 ->"
      ∷ codes "step 1 9 -> i32:00000008"
      ∷ codes "step 1 10 i32:00000008 -> i32:03a50101"
      ∷ codes "host-return 1 i32:03a50101"
      ∷ codes "ended" ∷ [])
  -- a fill that ends past the memory traps
  pub fill_past : print modules.fill_past does_nothing 100 ≡ Lines 6
      (import_returns ++ codes "step 1 1 -> i32:0000ffff"
      ∷ codes "step 1 2 -> i32:00000007"
      ∷ codes "step 1 3 -> i32:00000002"
      ∷ codes "trap 1 4 memory i32:0000ffff i32:00000007 i32:00000002 found 1"
      ∷ codes "trapped" ∷ [])
  -- a fill succeeds if the host grew the memory
  pub fill_grown : print modules.fill_past (does (Grow 1)) 100 ≡ Lines 7
      (import_returns ++ codes "step 1 1 -> i32:0000ffff"
      ∷ codes "step 1 2 -> i32:00000007"
      ∷ codes "step 1 3 -> i32:00000002"
      ∷ codes "step 1 4 i32:0000ffff i32:00000007 i32:00000002 ->"
      ∷ codes "host-return 1"
      ∷ codes "ended" ∷ [])
  pub grow_failed : GrowFailed
  -- the host calls the module inside the call of an import
  pub nested_call : print modules.nested_call calls_back 100 ≡ Lines 8
      (import_begins ++ codes "host-call 2"
      ∷ codes "step 2 0 ->"
      ∷ codes "import-call 0"
      ∷ codes "import-return 0 i32:00000002"
      ∷ codes "host-return 2 i32:00000002"
      ∷ codes "import-return 0 i32:00000001"
      ∷ codes "step 1 1 -> i32:00000000"
      ∷ codes "step 1 2 i32:00000000 -> i32:00000004"
      ∷ codes "step 1 3 i32:00000001 i32:00000004 -> i32:00000005"
      ∷ codes "host-return 1 i32:00000005"
      ∷ codes "ended" ∷ [])
  -- a call inside the call of an import traps
  pub nested_trap : print modules.nested_trap calls_back 100 ≡ Lines 4
      (import_begins ++ codes "host-call 2"
      ∷ codes "trap 2 0 unreachable"
      ∷ codes "trapped" ∷ [])
  -- the host traps
  pub host_trap : print modules.two_answers host_traps 100 ≡ Lines 2
      (import_begins ++ codes "host-trap"
      ∷ codes "host-trapped" ∷ [])
  -- an entry that the host set has another type
  pub table_entry : print modules.table_entry (does (SetTable 0 (Some 3))) 100 ≡ Lines 5
      (import_returns ++ codes "step 1 1 -> i32:00000000"
      ∷ codes "trap 1 2 signature i32:00000000 found 3"
      ∷ codes "trapped" ∷ [])
  -- an entry that the host set is empty
  pub table_entry_emptied : print modules.table_entry (does (SetTable 0 None)) 100 ≡ Lines 5
      (import_returns ++ codes "step 1 1 -> i32:00000000"
      ∷ codes "trap 1 2 empty i32:00000000"
      ∷ codes "trapped" ∷ [])
  -- an entry that the host set holds the import
  pub table_entry_import : print modules.table_entry (does (SetTable 0 (Some 0))) 100 ≡ Lines 5
      (import_returns ++ codes "step 1 1 -> i32:00000000"
      ∷ codes "trap 1 2 signature i32:00000000 found 0"
      ∷ codes "trapped" ∷ [])
  -- an entry that the host set is past the former end of the table; six turns suffice
  pub table_growth : print modules.table_growth (does_all (GrowTable 4 ∷ SetTable 5 (Some 3) ∷ [])) 6 ≡ Lines 6
      (import_returns ++ codes "step 1 1 -> i32:00000005"
      ∷ codes "trap 1 2 signature i32:00000005 found 3"
      ∷ codes "trapped" ∷ [])
  -- an index is past a table that the host grew
  pub table_growth_short : print modules.table_growth (does (GrowTable 2)) 100 ≡ Lines 5
      (import_returns ++ codes "step 1 1 -> i32:00000005"
      ∷ codes "trap 1 2 table i32:00000005 found 4"
      ∷ codes "trapped" ∷ [])
  -- an index is past a table that the host did not grow
  pub table_not_grown : print modules.table_growth does_nothing 100 ≡ Lines 4
      (import_returns ++ codes "step 1 1 -> i32:00000005"
      ∷ codes "trap 1 2 table i32:00000005 found 2"
      ∷ codes "trapped" ∷ [])
  -- no table grows to more than a million entries
  pub table_growth_refused : print modules.table_growth (does (GrowTable 999999)) 100 ≡ Fault 3 GrowRefused
  -- a table grows if its maximum allows it, and its new entries hold the function
  pub table_sizes : print modules.table_sizes (script [] (Call 0 [] ∷ [])) 100 ≡ Lines 14
      (codes "host-call 0"
      ∷ codes "step 0 0 -> funcref:0000000000000002"
      ∷ codes "step 0 1 -> i32:00000002"
      ∷ codes "step 0 2 funcref:0000000000000002 i32:00000002 -> i32:00000002"
      ∷ codes "step 0 3 -> funcref:0000000000000000"
      ∷ codes "step 0 4 -> i32:00000001"
      ∷ codes "step 0 5 funcref:0000000000000000 i32:00000001 -> i32:ffffffff"
      ∷ codes "step 0 6 i32:00000002 i32:ffffffff -> i32:00000001"
      ∷ codes "step 0 7 -> i32:00000004"
      ∷ codes "step 0 8 i32:00000001 i32:00000004 -> i32:00000005"
      ∷ codes "step 0 9 -> i32:00000003"
      ∷ codes "step 0 10 i32:00000003 -> found 1"
      ∷ codes "enter 1"
      ∷ codes "step 1 0 -> i32:00000007"
      ∷ codes "exit 1 i32:00000007"
      ∷ codes "step 0 11 i32:00000005 i32:00000007 -> i32:0000000c"
      ∷ codes "host-return 0 i32:0000000c"
      ∷ codes "ended" ∷ [])
  -- the bits of a NaN are kept
  pub float_global : print modules.float_global (does (SetGlobal 0 (value F32 2141192193))) 100 ≡ Lines 4
      (import_returns ++ codes "step 1 1 -> f32:7fa00001"
      ∷ codes "host-return 1 f32:7fa00001"
      ∷ codes "ended" ∷ [])
  -- an offset is an imported global
  pub imported_offset : print modules.imported_offset (gives_global (Some (i32 16))) 100 ≡ Lines 3
      (codes "host-call 0"
      ∷ codes "step 0 0 -> i32:00000010"
      ∷ codes "step 0 1 i32:00000010 -> i32:00000041"
      ∷ codes "host-return 0 i32:00000041"
      ∷ codes "ended" ∷ [])
  -- the imported global of an offset is not supplied
  pub imported_offset_missing : print modules.imported_offset (gives_global None) 100 ≡ NoLink (Missing 0)
  -- the imported global of an offset has another type
  pub imported_offset_mismatch
      : print modules.imported_offset (gives_global (Some (value I64 16))) 100 ≡ NoLink (Mismatch 0)
  -- the run reads into buffers on a C stack; 29 turns suffice
  pub c_buffers : print modules.c_buffers reads_hi 29 ≡ Lines 29
      (codes "host-call 1"
      ∷ codes "step 1 0 -> i32:00010400"
      ∷ codes "step 1 1 -> i32:00000010"
      ∷ codes "step 1 2 i32:00010400 i32:00000010 -> i32:000103f0"
      ∷ codes "step 1 3 i32:000103f0 -> i32:000103f0"
      ∷ codes "step 1 4 i32:000103f0 ->"
      ∷ codes "step 1 5 -> i32:000103f0"
      ∷ codes "step 1 6 -> i32:00000004"
      ∷ codes "step 1 7 -> i32:000103f0"
      ∷ codes "step 1 8 -> i32:00000008"
      ∷ codes "step 1 9 i32:000103f0 i32:00000008 -> i32:000103f8"
      ∷ codes "step 1 10 i32:000103f0 i32:00000004 i32:000103f8 ->"
      ∷ codes "import-call 0 i32:000103f0 i32:00000004 i32:000103f8"
      ∷ codes "import-return 0 i32:00000000"
      ∷ codes "step 1 11 i32:00000000 ->"
      ∷ codes "step 1 12 -> i32:000103f0"
      ∷ codes "step 1 13 i32:000103f0 -> i32:000a6968"
      ∷ codes "step 1 14 -> i32:000103f0"
      ∷ codes "step 1 15 i32:000103f0 -> i32:00000003"
      ∷ codes "step 1 16 i32:000a6968 i32:00000003 -> i32:000a696b"
      ∷ codes "step 1 17 -> i32:00000001"
      ∷ codes "step 1 18 i32:000a696b i32:00000001 -> found 2"
      ∷ codes "enter 2"
      ∷ codes "step 2 0 -> i32:000a696b"
      ∷ codes "step 2 1 -> i32:00000001"
      ∷ codes "step 2 2 i32:000a696b i32:00000001 -> i32:0014d2d6"
      ∷ codes "exit 2 i32:0014d2d6"
      ∷ codes "step 1 19 -> i32:000103f0"
      ∷ codes "step 1 20 -> i32:00000010"
      ∷ codes "step 1 21 i32:000103f0 i32:00000010 -> i32:00010400"
      ∷ codes "step 1 22 i32:00010400 ->"
      ∷ codes "host-return 1 i32:0014d2d6"
      ∷ codes "ended" ∷ [])
  -- 28 turns do not suffice
  pub c_buffers_spent : print modules.c_buffers reads_hi 28 ≡ Spent
  -- the replay module of two answers shows their history
  pub replay_two_answers : print_replay modules.replay_two_answers (layout 1 1) 2 21 ≡ Lines 19 two_answers_lines
