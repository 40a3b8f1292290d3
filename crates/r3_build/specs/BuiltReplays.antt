-- What `build` prints.
use Rattle.std.specs.Prelude.{ℕ, List}
use Rattle.sha2.specs.Sha256.{sha256}
use Rattle.wasm_syntax.specs.declared.modules.Module.{Module}
use Rattle.host_script.specs.declared.scripts.Script.{Script}
use Rattle.host_script.specs.declared.scripts.Supply.{Supply}
use Rattle.history_spec.specs.Store.{Store}
use Rattle.trace_model.specs.declared.tapes.Tape.{Tape}
use Rattle.replay_laws.specs.EncodedReplays.{IsReplayOf}
use Rattle.r3_inputs.specs.Inputs.{AreInputs}
use Rattle.accepted_runs.specs.Linked.{IsLinked}
use Rattle.r3_build.specs.BuildRefusals.{IsTakenAs}

-- the module links with the script, the tape is accepted, and this is its replay module
pub record IsBuilt (m : Module) (script : Script) (digest tape_bytes printed : List ℕ) : Type 0 where
  pub supply : Supply
  pub store : Store
  pub linked : IsLinked m script supply store
  pub tape : Tape
  pub taken : IsTakenAs m digest tape_bytes tape
  pub replay : IsReplayOf m supply store tape printed

-- `build` prints this for the bytes of a module, a script and a tape
pub record IsPrinted (module_bytes script_bytes tape_bytes printed : List ℕ) : Type 0 where
  pub m : Module
  pub script : Script
  pub inputs : AreInputs module_bytes script_bytes m script
  pub built : IsBuilt m script (sha256 module_bytes) tape_bytes printed
