-- The run of a module that can be run, under a script that fits it and links with it: code and store are typed, and the
-- run is safe.
use Rattle.std.proofs.Common.{◌≡◌, Ok, refl}
use Rattle.wasm_syntax.specs.declared.modules.Module.{Module}
use Rattle.host_script.specs.declared.scripts.Script.{Script}
use Rattle.host_script.specs.declared.scripts.Supply.{Supply}
use Rattle.host_script.specs.Fits.{Fits}
use Rattle.host_script.specs.Supply.{supply_of}
use Rattle.history_spec.specs.Store.{Store}
use Rattle.history_spec.specs.Instantiation.{instantiate}
use Rattle.history_spec.specs.Run.{program_of, start_in_store}
use Rattle.type_safety.specs.Configurations.{IsSafe, IsTypedCode}
use Rattle.type_safety.specs.Heights.{Heights}
use Rattle.type_safety.specs.Stores.{IsStore}
use Rattle.type_safety.specs.Supplies.{IsRunnable}
use Rattle.tape_laws.specs.Below.{LawsOfRuns}

pub record IsSafeRun (m : Module) (script : Script) (store : Store) : Type 0 where
  pub heights : Heights
  pub typed : IsTypedCode m heights
  pub is : IsStore m store
  pub safe : IsSafe m heights (start_in_store m script store).next

pub safe_run : LawsOfRuns → (m : Module) (script : Script) (supply : Supply) (store : Store) → IsRunnable m
    → Fits m script → supply_of m script ≡ Ok supply → instantiate m supply ≡ Ok store → IsSafeRun m script store
safe_run laws m script supply store runnable fits links opens =
    let h = laws.heights m runnable.valid in
    let typed = laws.code m h.0 runnable.valid runnable.supported h.1 in
    let is = laws.store m supply store runnable (laws.supplied m script supply fits links) opens in
    record {
      heights = h.0;
      typed = typed;
      is = is;
      safe =
          laws.starts m h.0 (program_of m script) store script.main runnable.valid typed
          (record { code = refl; answers = fits.imports }) is fits.main;
    }
