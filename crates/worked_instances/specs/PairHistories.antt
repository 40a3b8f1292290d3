-- The histories of the example pairs.
use Rattle.std.specs.Prelude.{[], ◌∷◌, Some, codes}
use Rattle.base.specs.declared.outcomes.Outcome.TheVariants.{Ended, Trapped}
use Rattle.host_script.specs.declared.scripts.Action.TheVariants.{Call, CallTable}
use Rattle.worked_histories.specs.Build.{i32, returns, calls, script}
use Rattle.worked_instances.specs.PairLines.{HasLines}
use Rattle.worked_instances.specs.PairModules.{adders, callbacks, trapping, counters, tables}

-- all runs have their histories
pub record WorkedPairs : Type 0 where
  -- the left module calls the right one twice, which calls the host; the host's function has the number 0, that of the
  -- left module 1, and that of the right module 2
  pub two_adders : HasLines adders
      (script (calls (returns [] (Some (i32 5)) ∷ returns [] (Some (i32 7)) ∷ []) ∷ []) (Call 1 [] ∷ [])) 10 Ended
      (codes "host-call 1" ∷ codes "step 1 0 ->"
      ∷ codes "enter 2"
      ∷ codes "step 2 0 ->"
      ∷ codes "import-call 0"
      ∷ codes "import-return 0 i32:00000005"
      ∷ codes "step 2 1 -> i32:00000001"
      ∷ codes "step 2 2 i32:00000005 i32:00000001 -> i32:00000006"
      ∷ codes "exit 2 i32:00000006"
      ∷ codes "step 1 1 ->"
      ∷ codes "enter 2"
      ∷ codes "step 2 0 ->"
      ∷ codes "import-call 0"
      ∷ codes "import-return 0 i32:00000007"
      ∷ codes "step 2 1 -> i32:00000001"
      ∷ codes "step 2 2 i32:00000007 i32:00000001 -> i32:00000008"
      ∷ codes "exit 2 i32:00000008"
      ∷ codes "step 1 2 i32:00000006 i32:00000008 -> i32:0000000e"
      ∷ codes "host-return 1 i32:0000000e" ∷ [])
      (codes "host-call 1" ∷ codes "step 1 0 ->"
      ∷ codes "import-call 2"
      ∷ codes "import-return 2 i32:00000006"
      ∷ codes "step 1 1 ->"
      ∷ codes "import-call 2"
      ∷ codes "import-return 2 i32:00000008"
      ∷ codes "step 1 2 i32:00000006 i32:00000008 -> i32:0000000e"
      ∷ codes "host-return 1 i32:0000000e" ∷ [])
      (codes "host-call 2" ∷ codes "step 2 0 ->"
      ∷ codes "import-call 0"
      ∷ codes "import-return 0 i32:00000005"
      ∷ codes "step 2 1 -> i32:00000001"
      ∷ codes "step 2 2 i32:00000005 i32:00000001 -> i32:00000006"
      ∷ codes "host-return 2 i32:00000006"
      ∷ codes "host-call 2"
      ∷ codes "step 2 0 ->"
      ∷ codes "import-call 0"
      ∷ codes "import-return 0 i32:00000007"
      ∷ codes "step 2 1 -> i32:00000001"
      ∷ codes "step 2 2 i32:00000007 i32:00000001 -> i32:00000008"
      ∷ codes "host-return 2 i32:00000008" ∷ [])
  -- the right module calls the host, which calls the left module back, and this calls the right module again
  pub calls_back : HasLines callbacks
      (script (calls (returns (Call 2 [] ∷ []) (Some (i32 5)) ∷ []) ∷ []) (Call 1 [] ∷ [])) 8 Ended
      (codes "host-call 1" ∷ codes "step 1 0 ->"
      ∷ codes "enter 3"
      ∷ codes "step 3 0 ->"
      ∷ codes "import-call 0"
      ∷ codes "host-call 2"
      ∷ codes "step 2 0 ->"
      ∷ codes "enter 4"
      ∷ codes "step 4 0 -> i32:00000004"
      ∷ codes "exit 4 i32:00000004"
      ∷ codes "host-return 2 i32:00000004"
      ∷ codes "import-return 0 i32:00000005"
      ∷ codes "exit 3 i32:00000005"
      ∷ codes "step 1 1 -> i32:00000001"
      ∷ codes "step 1 2 i32:00000005 i32:00000001 -> i32:00000006"
      ∷ codes "host-return 1 i32:00000006" ∷ [])
      (codes "host-call 1" ∷ codes "step 1 0 ->"
      ∷ codes "import-call 3"
      ∷ codes "host-call 2"
      ∷ codes "step 2 0 ->"
      ∷ codes "import-call 4"
      ∷ codes "import-return 4 i32:00000004"
      ∷ codes "host-return 2 i32:00000004"
      ∷ codes "import-return 3 i32:00000005"
      ∷ codes "step 1 1 -> i32:00000001"
      ∷ codes "step 1 2 i32:00000005 i32:00000001 -> i32:00000006"
      ∷ codes "host-return 1 i32:00000006" ∷ [])
      (codes "host-call 3" ∷ codes "step 3 0 ->"
      ∷ codes "import-call 0"
      ∷ codes "host-call 4"
      ∷ codes "step 4 0 -> i32:00000004"
      ∷ codes "host-return 4 i32:00000004"
      ∷ codes "import-return 0 i32:00000005"
      ∷ codes "host-return 3 i32:00000005" ∷ [])
  -- the right module traps inside a call by the left one, whose history ends with the call
  pub far_trap : HasLines trapping (script [] (Call 0 [] ∷ [])) 5 Trapped
      (codes "host-call 0" ∷ codes "step 0 0 -> i32:00000007"
      ∷ codes "step 0 1 i32:00000007 ->"
      ∷ codes "enter 1"
      ∷ codes "step 1 0 -> i32:00000007"
      ∷ codes "trap 1 1 unreachable" ∷ [])
      (codes "host-call 0" ∷ codes "step 0 0 -> i32:00000007"
      ∷ codes "step 0 1 i32:00000007 ->"
      ∷ codes "import-call 1 i32:00000007" ∷ [])
      (codes "host-call 1 i32:00000007" ∷ codes "step 1 0 -> i32:00000007"
      ∷ codes "trap 1 1 unreachable" ∷ [])
  -- the right module changes a global of the left one, by a value that it has from another global of the left one
  pub shared_global : HasLines counters (script [] (Call 0 [] ∷ [])) 7 Ended
      (codes "host-call 0" ∷ codes "step 0 0 ->"
      ∷ codes "enter 1"
      ∷ codes "step 1 0 -> i32:0000000a"
      ∷ codes "step 1 1 -> i32:00000003"
      ∷ codes "step 1 2 i32:0000000a i32:00000003 -> i32:0000000d"
      ∷ codes "step 1 3 i32:0000000d ->"
      ∷ codes "exit 1"
      ∷ codes "step 0 1 -> i32:0000000d"
      ∷ codes "host-return 0 i32:0000000d" ∷ [])
      (codes "host-call 0" ∷ codes "step 0 0 ->"
      ∷ codes "import-call 1"
      ∷ codes "import-return 1"
      ∷ codes "step 0 1 -> i32:0000000d"
      ∷ codes "host-return 0 i32:0000000d" ∷ [])
      (codes "host-call 1" ∷ codes "step 1 0 -> i32:0000000a"
      ∷ codes "step 1 1 -> i32:00000003"
      ∷ codes "step 1 2 i32:0000000a i32:00000003 -> i32:0000000d"
      ∷ codes "step 1 3 i32:0000000d ->"
      ∷ codes "host-return 1" ∷ [])
  -- the host calls the right module through the left module's table, and this calls the left module through it, by a
  -- type that has another number than its index
  pub shared_table : HasLines tables (script [] (CallTable 1 [] ∷ [])) 4 Ended
      (codes "host-call 1" ∷ codes "step 1 0 -> i32:00000000"
      ∷ codes "step 1 1 i32:00000000 -> found 0"
      ∷ codes "enter 0"
      ∷ codes "step 0 0 -> i32:00000007"
      ∷ codes "exit 0 i32:00000007"
      ∷ codes "host-return 1 i32:00000007" ∷ [])
      (codes "host-call 0" ∷ codes "step 0 0 -> i32:00000007"
      ∷ codes "host-return 0 i32:00000007" ∷ [])
      (codes "host-call 1" ∷ codes "step 1 0 -> i32:00000000"
      ∷ codes "step 1 1 i32:00000000 -> found 0"
      ∷ codes "import-call 0"
      ∷ codes "import-return 0 i32:00000007"
      ∷ codes "host-return 1 i32:00000007" ∷ [])
