-- The file of the log of the run of a module in the hooked form under a script, or why there is none.
use Rattle.std.specs.Prelude.{◌≡◌, ◌≢◌, ◌≤◌, ◌^◌, ℕ, List, length, Some, None, Ok}
use Rattle.wasm_syntax.specs.declared.modules.Module.{Module}
use Rattle.wasm_syntax.specs.Index.{all_globals}
use Rattle.wasm_syntax.specs.Profile.{IsSupported}
use Rattle.wasm_flat.specs.Sizes.{IsShort}
use Rattle.host_script.specs.declared.scripts.Script.{Script}
use Rattle.host_script.specs.declared.scripts.Supply.{Supply}
use Rattle.host_script.specs.Fits.{Fits}
use Rattle.script_text.specs.Texts.{script_of_text}
use Rattle.trace_model.specs.declared.events.Log.{Log}
use Rattle.trace_bytes.specs.declared.tags.TheConstants.{VERSION_2}
use Rattle.trace_bytes.specs.Spelling.{log_bytes}
use Rattle.history_spec.specs.Store.{Store}
use Rattle.type_safety.specs.Supplies.{HasBytes}
use Rattle.record_replay_spec.specs.HookedForm.{HookedForm, hooked_form}
use Rattle.host_play.specs.declared.results.PlayFault.{PlayFault}
use Rattle.host_play.specs.declared.results.PlayFault.TheVariants as refusal
use Rattle.run_recorder.specs.Records.{RecordedRun, IsLog, RefusesRecord}
use Rattle.replay_theorem.specs.RecordLaws.{recorded_run}
use Rattle.accepted_runs.specs.Linked.{IsLinked}
use Rattle.accepted_runs.specs.Runs.{run_fault}
use Rattle.accepted_runs.specs.Unlinked.{IsUnlinkedFor}
use Rattle.r3_faults.specs.declared.faults.Fault.{Fault}
use Rattle.r3_faults.specs.declared.faults.Fault.TheVariants.{NotHooked}
use Rattle.r3_inputs.specs.declared.module_files.ModuleFile.TheVariants.{Instrumented}
use Rattle.r3_inputs.specs.Inputs.{IsModuleIn, IsRefusedIn, IsRefusedScript}

-- ---- assumptions

-- assumptions on an accepted module
pub record IsAccepted (m : Module) : Type 0 where
  pub supported : IsSupported m
  pub short : IsShort m
  pub bytes : HasBytes m
  pub globals : length (all_globals m) ≤ 2 ^ 32

-- assumptions on a module in the hooked form under a script
pub record CanBeRecorded (m : Module) (form : HookedForm) (script : Script) : Type 0 where
  pub accepted : IsAccepted m
  pub has_form : hooked_form m ≡ Some form
  pub fits : Fits m script

-- ---- the run of a module in the hooked form under a script

-- the run from a store; each instruction takes a turn
abbrev pub run_of : Module → HookedForm → Script → Store → (turns : ℕ) → RecordedRun
run_of m form script store turns = recorded_run m script store None form.imports turns

-- the fault reports why the run has no log
pub record IsRefusal (run : RecordedRun) (turns : ℕ) (fault : Fault) : Type 0 where
  pub found : PlayFault
  pub named : fault ≡ run_fault turns found
  pub differs : found ≢ refusal.Memory
  pub refused : RefusesRecord run found

-- the module links, its run has a log, and the file is that of the log with the digest that the module declares
pub record HasLogFile (m : Module) (form : HookedForm) (script : Script) (turns : ℕ) (file : List ℕ) : Type 0 where
  pub supply : Supply
  pub store : Store
  pub linked : IsLinked m script supply store
  pub log : Log
  pub logged : IsLog (run_of m form script store turns) log.outcome log
  pub spelled : file ≡ log_bytes VERSION_2 form.digest log

-- why there is no log file: the module does not link, or its run has no log
pub data HasNoLogFile (m : Module) (form : HookedForm) (script : Script) (turns : ℕ) (fault : Fault) : Type 0 where
  OfLink : (unlinked : IsUnlinkedFor m script fault) → HasNoLogFile m form script turns fault
  OfRun : (supply : Supply) (store : Store) (linked : IsLinked m script supply store)
      (refusal : IsRefusal (run_of m form script store turns) turns fault) → HasNoLogFile m form script turns fault

-- ---- a module, and the bytes of a script for it

-- the module has the hooked form, the bytes are a script for it, and the file has the log of its run under the
-- script
pub record HasModuleLog (m : Module) (script_bytes : List ℕ) (turns : ℕ) (file : List ℕ) : Type 0 where
  pub form : HookedForm
  pub has_form : hooked_form m ≡ Some form
  pub script : Script
  pub is_script : script_of_text m script_bytes ≡ Ok script
  pub logged : HasLogFile m form script turns file

-- why there is no log file: the module does not have the hooked form, the script is refused, or the run has no
-- log file
pub data HasNoModuleLog (m : Module) (script_bytes : List ℕ) (turns : ℕ) (fault : Fault) : Type 0 where
  OfForm : (none : hooked_form m ≡ None) (named : fault ≡ NotHooked) → HasNoModuleLog m script_bytes turns fault
  OfScript : (form : HookedForm) (has_form : hooked_form m ≡ Some form)
      (refused : IsRefusedScript m script_bytes fault) → HasNoModuleLog m script_bytes turns fault
  OfLog : (form : HookedForm) (has_form : hooked_form m ≡ Some form) (script : Script)
      (is_script : script_of_text m script_bytes ≡ Ok script) (none : HasNoLogFile m form script turns fault)
      → HasNoModuleLog m script_bytes turns fault

-- ---- the bytes of a module and of a script

-- the bytes are an accepted module and a script, and the file has the log of its run under the script
pub record IsLogFile (hooked_bytes script_bytes : List ℕ) (turns : ℕ) (file : List ℕ) : Type 0 where
  pub m : Module
  pub is_module : IsModuleIn Instrumented hooked_bytes m
  pub logged : HasModuleLog m script_bytes turns file

-- the module is refused, or its run has no log file
pub data IsLogRefusal (hooked_bytes script_bytes : List ℕ) (turns : ℕ) (fault : Fault) : Type 0 where
  OfModule : (refused : IsRefusedIn Instrumented hooked_bytes fault)
      → IsLogRefusal hooked_bytes script_bytes turns fault
  OfModuleLog : (m : Module) (is_module : IsModuleIn Instrumented hooked_bytes m)
      (none : HasNoModuleLog m script_bytes turns fault) → IsLogRefusal hooked_bytes script_bytes turns fault
