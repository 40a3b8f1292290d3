-- The laws of a script's text for a module and for its instrumented module.
use Rattle.std.specs.Prelude.{◌≡◌, ◌≢◌, List, ℕ, [], ◌++◌, filter, None, replicate, Ok, Err, false}
use Rattle.wasm_syntax.specs.declared.modules.Module.{Module}
use Rattle.wasm_syntax.specs.Index.{imported_funcs}
use Rattle.wasm_syntax.specs.Profile.{IsAccepted}
use Rattle.wasm_syntax.specs.Validity.{IsValid}
use Rattle.host_script.specs.declared.scripts.Script.{Script}
use Rattle.host_script.specs.Fits.{Fits}
use Rattle.script_text.specs.declared.faults.ScriptFault.{ScriptFault}
use Rattle.script_text.specs.declared.faults.ScriptFault.TheVariants.{UnknownName}
use Rattle.script_text.specs.Texts.{script_of_text}
use Rattle.record_replay_spec.specs.Hooks.{hook_count, hook_module}
use Rattle.record_replay_spec.specs.HookedForm.{is_from_hooks}
use Rattle.record_replay_spec.specs.HookedRuns.{hooked_script, renumbered_script}
use Rattle.record_replay_spec.specs.Instrumented.{instrumented_module}
use Rattle.instrumented_module_laws.specs.Links.{script_with_hooks}

-- the module imports nothing from the module of the hooks
abbrev pub ImportsNoHooks : Module → Type 0
ImportsNoHooks m = filter is_from_hooks m.imports ≡ []

-- accepted modules import nothing from the module of the hooks
abbrev pub AcceptedImportNoHooks : Type 0
AcceptedImportNoHooks = (m : Module) → IsAccepted false m → ImportsNoHooks m

-- a script for a module with functions renumbered, without answers for the hooks
abbrev pub unanswered_script : Module → Script → Script
unanswered_script m script =
    record (renumbered_script (imported_funcs m) script) {
      imports = (renumbered_script (imported_funcs m) script).imports ++ replicate hook_count None;
    }

-- The meaning of a text for a module and for its instrumented module: if it is a script, it is the same one with
-- functions renumbered; if it has a fault, it has the same one. Only the instrumented module accepts a text that names
-- the module of the hooks under the key `imports`: for the original that is an unknown name.
pub record MeansTheSame (m : Module) (digest bytes : List ℕ) : Type 0 where
  pub script : (script : Script) → script_of_text m bytes ≡ Ok script
      → script_of_text (instrumented_module m digest) bytes ≡ Ok (unanswered_script m script)
  pub fault : (fault : ScriptFault) → script_of_text m bytes ≡ Err fault → fault ≢ UnknownName hook_module
      → script_of_text (instrumented_module m digest) bytes ≡ Err fault

-- each text means the same for a valid module that imports nothing from the module of the hooks
abbrev pub TextsAreRenumbered : Type 0
TextsAreRenumbered =
    (m : Module) (digest bytes : List ℕ) → IsValid m → ImportsNoHooks m → MeansTheSame m digest bytes

-- the script of a text, with the answers of the hooks, is the script for the instrumented module
abbrev pub HooksAreUnanswered : Type 0
HooksAreUnanswered =
    (m : Module) (script : Script) → Fits m script
    → hooked_script (imported_funcs m) (unanswered_script m script) ≡ script_with_hooks m script
