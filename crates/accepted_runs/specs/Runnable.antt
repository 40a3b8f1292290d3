-- What a run requires of a module, of a script and of the store that it starts with.
use Rattle.std.specs.Prelude.{◌≡◌, ℕ, List, Ok, length}
use Rattle.wasm_syntax.specs.declared.modules.Module.{Module}
use Rattle.wasm_syntax.specs.Profile.{IsSupported}
use Rattle.wasm_flat.specs.Sizes.{IsShort}
use Rattle.wasm_syntax.specs.ListsWithin.{HasListsWithin}
use Rattle.host_script.specs.declared.scripts.Script.{Script}
use Rattle.host_script.specs.Fits.{Fits}
use Rattle.history_spec.specs.Run.{run_start, start_in_store}
use Rattle.history_spec.specs.Store.{Store}
use Rattle.type_safety.specs.Stores.{IsStore}
use Rattle.type_safety.specs.Supplies.{HasBytes}
use Rattle.r3_inputs.specs.Inputs.{AreInputs}

-- no instruction of the module is refused, its code is short enough to be made flat, and the script fits it
pub record CanRun (m : Module) (script : Script) : Type 0 where
  pub supported : IsSupported m
  pub short : IsShort m
  pub fits : Fits m script

-- the module links with the script, and its run starts with this store
pub record StartsWith (m : Module) (script : Script) (store : Store) : Type 0 where
  pub typed : IsStore m store
  pub opened : run_start m script ≡ Ok (start_in_store m script store)

-- the module and the script that the bytes of two files encode can run, the module's data are bytes, and its list
-- lengths are at most the number of bytes in its file
pub record AreTaken (module_bytes script_bytes : List ℕ) (m : Module) (script : Script) : Type 0 where
  pub inputs : AreInputs module_bytes script_bytes m script
  pub can_run : CanRun m script
  pub bytes : HasBytes m
  pub within : HasListsWithin (length module_bytes) m
