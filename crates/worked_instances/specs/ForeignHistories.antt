-- The histories of the examples.
use Rattle.std.specs.Prelude.{◌≡◌, ℕ, List, [], ◌∷◌, ◌++◌, Some, None, Err, codes}
use Rattle.wasm_syntax.specs.declared.values.ValType.TheVariants.{I64}
use Rattle.host_script.specs.declared.scripts.Action.TheVariants.{Call, CallTable, SetTable}
use Rattle.host_script.specs.declared.scripts.LinkFault.TheVariants.{Missing}
use Rattle.history_spec.specs.declared.entries.FaultKind.TheVariants.{CallsOwn}
use Rattle.worked_histories.specs.Build.{i32, value, limits}
use Rattle.worked_histories.specs.Modules.{table_entry}
use Rattle.worked_instances.specs.ForeignLines.{foreign_lines, ends, traps, fails}
use Rattle.worked_instances.specs.ForeignModules.{callback, wide_callback, registers, called_back, two_callbacks, taking_callback, supplies_table}
use Rattle.worked_instances.specs.ForeignModules as modules

-- the lines of a run whose first step calls the import, which returns nothing, up to the `call_indirect`
abbrev pub registered : List (List ℕ)
registered =
    codes "host-call 2" ∷ codes "step 2 0 ->" ∷ codes "import-call 0" ∷ codes "import-return 0"
    ∷ codes "step 2 1 -> i32:00000000" ∷ []

-- the lines of the run of a module whose table gets a callback
abbrev pub callback_lines : List (List ℕ)
callback_lines =
    registered ++ codes "step 2 2 i32:00000000 -> found 1"
    ∷ codes "import-call 1"
    ∷ codes "import-return 1 i32:00000009"
    ∷ codes "host-return 2 i32:00000009" ∷ []

-- all runs with foreign functions have their histories
pub record WorkedForeignRuns : Type 0 where
  -- the import puts a foreign function into the table, which the module calls
  pub foreign_callback : foreign_lines table_entry callback (registers (i32 9) (Call 2 [] ∷ [])) 5
      ≡ ends 5 callback_lines
  -- a foreign function calls a function of the module, which calls another one
  pub calls_back : foreign_lines called_back two_callbacks modules.calls_back 10 ≡ ends 10
      (codes "host-call 3" ∷ codes "step 3 0 ->"
      ∷ codes "import-call 0"
      ∷ codes "import-return 0"
      ∷ codes "step 3 1 -> i32:00000000"
      ∷ codes "step 3 2 i32:00000000 -> found 2"
      ∷ codes "import-call 2"
      ∷ codes "host-call 4"
      ∷ codes "step 4 0 ->"
      ∷ codes "enter 5"
      ∷ codes "step 5 0 -> i32:00000007"
      ∷ codes "exit 5 i32:00000007"
      ∷ codes "step 4 1 -> i32:00000001"
      ∷ codes "step 4 2 i32:00000007 i32:00000001 -> i32:00000008"
      ∷ codes "host-return 4 i32:00000008"
      ∷ codes "import-return 2 i32:00000009"
      ∷ codes "host-return 3 i32:00000009" ∷ [])
  -- the declared type is another one than the type that the instruction expects
  pub other_type : foreign_lines table_entry wide_callback (registers (value I64 9) (Call 2 [] ∷ [])) 5
      ≡ traps 5 (registered ++ codes "trap 2 2 signature i32:00000000 found 1" ∷ [])
  -- the host calls its own function through the table
  pub calls_own : foreign_lines table_entry callback
      (registers (i32 9) (SetTable 0 (Some 1) ∷ CallTable 0 [] ∷ [])) 2 ≡ fails CallsOwn 2 []
  -- the host calls through the table a function of the module, which an element segment put there
  pub from_segment : foreign_lines table_entry callback (registers (i32 9) (CallTable 0 [] ∷ [])) 2 ≡ ends 2
      (codes "host-call 3" ∷ codes "step 3 0 -> i32:00000007"
      ∷ codes "host-return 3 i32:00000007" ∷ [])
  -- the table is imported; the foreign function has the number 0, since no function is imported
  pub imported_table : foreign_lines modules.imported_table taking_callback
      (supplies_table (Some (limits 2 (Some 2)))) 5 ≡ ends 5
      (codes "host-call 1" ∷ codes "step 1 0 -> i32:00000005"
      ∷ codes "step 1 1 -> i32:00000001"
      ∷ codes "step 1 2 i32:00000005 i32:00000001 -> found 0"
      ∷ codes "import-call 0 i32:00000005"
      ∷ codes "import-return 0 i32:00000006"
      ∷ codes "host-return 1 i32:00000006" ∷ [])
  -- the table is not supplied
  pub missing_table : foreign_lines modules.imported_table taking_callback (supplies_table None) 5 ≡ Err (Missing 0)
