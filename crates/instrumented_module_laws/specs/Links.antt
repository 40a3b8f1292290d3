-- The laws of linking instrumented modules: they can be run, take the supply of their originals, and begin with their
-- originals' stores but for renumbered functions.
use Rattle.std.specs.Prelude.{◌≡◌, ℕ, List, Result, Ok, Err, false}
use Rattle.wasm_syntax.specs.declared.modules.Module.{Module}
use Rattle.wasm_syntax.specs.Encoding.Forms.{IsCoreModule}
use Rattle.wasm_syntax.specs.Index.{imported_funcs}
use Rattle.wasm_syntax.specs.Profile.{IsAccepted}
use Rattle.host_script.specs.declared.scripts.LinkFault.{LinkFault}
use Rattle.host_script.specs.declared.scripts.Script.{Script}
use Rattle.host_script.specs.declared.scripts.Supply.{Supply}
use Rattle.host_script.specs.Fits.{Fits}
use Rattle.host_script.specs.Supply.{supply_of}
use Rattle.history_spec.specs.Instantiation.{instantiate}
use Rattle.history_spec.specs.Store.{Store}
use Rattle.type_safety.specs.Supplies.{HasBytes, IsRunnable}
use Rattle.record_replay_spec.specs.Hooks.{renumbered_view}
use Rattle.record_replay_spec.specs.HookedRuns.{hooked_script, renumbered_script}
use Rattle.record_replay_spec.specs.Instrumented.{instrumented_module}
use Rattle.instrumented_module_laws.specs.Laws.{HasWords}

-- the instrumented module of an accepted one can be run
abbrev pub InstrumentedAreRunnable : Type 0
InstrumentedAreRunnable =
    (m : Module) (digest : List ℕ) → IsAccepted false m → HasBytes m → IsCoreModule m → HasWords m
    → IsRunnable (instrumented_module m digest)

-- a script for a module with the functions that it names renumbered, in which hooks do nothing
abbrev pub script_with_hooks : Module → Script → Script
script_with_hooks m script = hooked_script (imported_funcs m) (renumbered_script (imported_funcs m) script)

-- the script with hooks fits the instrumented module if the script fits the original
abbrev pub InstrumentedAreFitted : Type 0
InstrumentedAreFitted =
    (m : Module) (digest : List ℕ) (script : Script) → Fits m script
    → Fits (instrumented_module m digest) (script_with_hooks m script)

-- the script with hooks supplies for the instrumented module what the script supplies for the original, or both fail
-- at the same import
abbrev pub InstrumentedAreSupplied : Type 0
InstrumentedAreSupplied =
    (m : Module) (digest : List ℕ) (script : Script)
    → supply_of (instrumented_module m digest) (script_with_hooks m script) ≡ supply_of m script

-- the store or the fault of a link, with the store's functions renumbered
abbrev pub renumbered_link : (n : ℕ) → Result Store LinkFault → Result Store LinkFault
renumbered_link n (Ok store) = Ok (renumbered_view n store)
renumbered_link n (Err fault) = Err fault

-- with a supply the instrumented module is instantiated with the original's store, functions renumbered, or both fail
-- at the same segment
abbrev pub InstrumentedAreInstantiated : Type 0
InstrumentedAreInstantiated =
    (m : Module) (digest : List ℕ) (supply : Supply)
    → instantiate (instrumented_module m digest) supply ≡ renumbered_link (imported_funcs m) (instantiate m supply)
