-- The pair of modules that the bytes of two files are, or why they are refused, by the first cause that applies; and
-- the run of the pair.
use Rattle.std.specs.Prelude.{◌≡◌, ◌≢◌, ℕ, List, Some, None}
use Rattle.wasm_syntax.specs.declared.modules.Module.{Module}
use Rattle.host_script.specs.declared.scripts.Script.{Script}
use Rattle.pair_spec.specs.declared.faults.PairFault.{PairFault}
use Rattle.pair_spec.specs.declared.faults.PairFault.TheVariants as pair
use Rattle.pair_spec.specs.Pairs.{ModulePair}
use Rattle.pair_spec.specs.PairRuns.{pair_start, pair_world}
use Rattle.pair_spec.specs.Linked.{linked}
use Rattle.pair_spec.specs.Faults.{first_pair_fault}
use Rattle.r3_faults.specs.declared.faults.Fault.{Fault}
use Rattle.r3_faults.specs.declared.faults.Fault.TheVariants.{PairUnresolved, PairMismatch, TwoMemories, TwoTables, TwoStarts, Memory}
use Rattle.r3_inputs.specs.Inputs.{IsModuleOf, IsRefusedModule}
use Rattle.r3_instances.specs.Sources.{Source}
use Rattle.r3_instances.specs.WorldRuns.{WorldRun}

-- the fault of a pair, as the fault of a call
abbrev pub pair_fault : PairFault → Fault
pair_fault (pair.Unresolved side import) = PairUnresolved side import
pair_fault (pair.Mismatch side import) = PairMismatch side import
pair_fault pair.TwoMemories = TwoMemories
pair_fault pair.TwoTables = TwoTables
pair_fault pair.TwoStarts = TwoStarts
pair_fault pair.Memory = Memory

-- why the modules of a pair do not link: the first fault
pub record IsPairFault (modules : ModulePair) (fault : Fault) : Type 0 where
  pub found : PairFault
  pub named : fault ≡ pair_fault found
  pub differs : found ≢ pair.Memory
  pub first : first_pair_fault modules ≡ Some found

-- the bytes are the modules of a pair, and these link
pub record ArePairBytes (left_bytes right_bytes : List ℕ) (modules : ModulePair) : Type 0 where
  pub is_left : IsModuleOf left_bytes modules.left
  pub is_right : IsModuleOf right_bytes modules.right
  pub no_fault : first_pair_fault modules ≡ None

-- the left module is refused, or else the right one, or else they do not link
pub data AreRefusedPairBytes (left_bytes right_bytes : List ℕ) (fault : Fault) : Type 0 where
  NoLeft : (refused : IsRefusedModule left_bytes fault) → AreRefusedPairBytes left_bytes right_bytes fault
  NoRight : (m : Module) (is_left : IsModuleOf left_bytes m) (refused : IsRefusedModule right_bytes fault)
      → AreRefusedPairBytes left_bytes right_bytes fault
  NoLink : (modules : ModulePair) (is_left : IsModuleOf left_bytes modules.left)
      (is_right : IsModuleOf right_bytes modules.right) (refused : IsPairFault modules fault)
      → AreRefusedPairBytes left_bytes right_bytes fault

-- the run of a pair
abbrev pub pair_run : ModulePair → Script → WorldRun
pair_run modules script = record { begun = pair_start modules script; world = pair_world modules script }

-- two modules are read and link, or are refused; the linked module is recorded for the run of the pair
abbrev pub pair_source : (left_bytes right_bytes : List ℕ) → Source ModulePair
pair_source left_bytes right_bytes =
    record {
      IsRead = ArePairBytes left_bytes right_bytes;
      IsUnread = AreRefusedPairBytes left_bytes right_bytes;
      recorded = linked;
      run = pair_run;
    }
