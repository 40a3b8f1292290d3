-- The instance of a module under a script, or why it has no instance.
use Rattle.std.specs.Prelude.{◌≡◌, ◌⊎◌, ℕ, List, [], Ok, Err, false}
use Rattle.wasm_syntax.specs.declared.modules.Module.{Module}
use Rattle.host_script.specs.declared.scripts.Script.{Script}
use Rattle.host_script.specs.declared.scripts.LinkFault.{LinkFault}
use Rattle.host_script.specs.declared.scripts.LinkFault.TheVariants as link
use Rattle.history_spec.specs.Run.{run_start, start_in_store}
use Rattle.type_safety.specs.Stores.{IsStore}
use Rattle.wasm_flat.specs.FlatCode.{flat_of}
use Rattle.wasm_interp.specs.State.{State, state}
use Rattle.r3_faults.specs.declared.faults.Fault.{Fault}
use Rattle.r3_faults.specs.declared.faults.Fault.TheVariants as fault
use Rattle.r3_inputs.specs.Inputs.{AreInputs, AreRefused}
use Rattle.bench_machine.specs.declared.instances.MachineFault.{MachineFault}
use Rattle.bench_machine.specs.declared.instances.MachineFault.TheVariants as machine

-- the machine without activations, in the store that the run of the module under the script begins with
pub record IsInstance (module_bytes script_bytes : List ℕ) (m : Module) (instance : State) : Type 0 where
  pub script : Script
  pub inputs : AreInputs module_bytes script_bytes m script
  pub starts : run_start m script ≡ Ok (start_in_store m script instance.store)
  pub typed : IsStore m instance.store
  pub same : instance ≡ state (flat_of m) instance.store [] [] false

-- the module does not link with the script
pub record IsUnlinked (module_bytes script_bytes : List ℕ) (found : LinkFault) : Type 0 where
  pub m : Module
  pub script : Script
  pub inputs : AreInputs module_bytes script_bytes m script
  pub unlinked : run_start m script ≡ Err found

-- why there is no instance; exhausted memory has no cause
abbrev pub HasCause : (module_bytes script_bytes : List ℕ) → MachineFault → Type 0
HasCause module_bytes script_bytes (machine.Input found) =
    (found ≡ fault.Memory) ⊎ AreRefused module_bytes script_bytes found
HasCause module_bytes script_bytes (machine.Link found) =
    (found ≡ link.Memory) ⊎ IsUnlinked module_bytes script_bytes found
HasCause module_bytes script_bytes machine.Memory = Unit {0}
