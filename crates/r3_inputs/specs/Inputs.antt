-- The module and the script that bytes encode, or why they are refused, by the first cause that applies.
use Rattle.std.specs.Prelude.{◌≡◌, ◌≢◌, ℕ, List, Option, Some, None, Err, Ok}
use Rattle.wasm_syntax.specs.declared.modules.Module.{Module}
use Rattle.wasm_syntax.specs.Encoding.Modules.{Encodes, IsFaultPlace}
use Rattle.wasm_syntax.specs.Validity.{IsValid, IsInvalidAt}
use Rattle.wasm_syntax.specs.Profile as profile
use Rattle.wasm_syntax.specs.Profile.{Refusal, IsAccepted, first_refusal}
use Rattle.host_script.specs.declared.scripts.Script.{Script}
use Rattle.script_text.specs.declared.faults.ScriptFault.{ScriptFault}
use Rattle.script_text.specs.declared.faults.ScriptFault.TheVariants as script
use Rattle.script_text.specs.Texts.{script_of_text}
use Rattle.r3_faults.specs.declared.faults.Fault.{Fault}
use Rattle.r3_faults.specs.declared.faults.Fault.TheVariants.{Malformed, InvalidFunction, InvalidModule, Unsupported, Limit, Reserved, NotJson, Shape, UnknownName, WrongType, NoAccess, CallsOwn, Memory}
use Rattle.r3_inputs.specs.declared.module_files.ModuleFile.{ModuleFile}
use Rattle.r3_inputs.specs.declared.module_files.ModuleFile.TheVariants.{Original}
use Rattle.r3_inputs.specs.ModuleFiles.{form_of, is_instrumented}

-- ---- the faults of refusals

-- the fault of a module that is invalid at a place
abbrev pub invalid_fault : Option ℕ → Fault
invalid_fault None = InvalidModule
invalid_fault (Some func) = InvalidFunction func

-- the fault of a valid module that is refused
abbrev pub refusal_fault : Refusal → Fault
refusal_fault (profile.Unsupported func number feature) = Unsupported func number feature
refusal_fault (profile.Limit which value) = Limit which value
refusal_fault (profile.Reserved import) = Reserved import

-- the fault of a script
abbrev pub script_fault : ScriptFault → Fault
script_fault script.NotJson = NotJson
script_fault (script.Shape path) = Shape path
script_fault (script.UnknownName name) = UnknownName name
script_fault (script.WrongType name) = WrongType name
script_fault (script.NoAccess name) = NoAccess name
script_fault (script.CallsOwn name) = CallsOwn name
script_fault script.Memory = Memory

-- ---- modules

-- the bytes encode the module in the form of such a file, and the module is accepted
pub record IsModuleIn (file : ModuleFile) (bytes : List ℕ) (m : Module) : Type 0 where
  pub encoded : Encodes (form_of file) bytes m
  pub accepted : IsAccepted (is_instrumented file) m

-- the bytes encode no module in that form, and the fault names the place
pub record IsMalformedIn (file : ModuleFile) (bytes : List ℕ) (fault : Fault) : Type 0 where
  pub at : ℕ
  pub named : fault ≡ Malformed at
  pub none : (m : Module) → Encodes (form_of file) bytes m → ⊥
  pub place : IsFaultPlace (form_of file) bytes at

-- a module is invalid at the place that the fault names
pub record IsInvalidFor (m : Module) (fault : Fault) : Type 0 where
  pub place : Option ℕ
  pub named : fault ≡ invalid_fault place
  pub invalid : IsInvalidAt m place

-- a module is refused for the cause that the fault names
pub record IsUnacceptedIn (file : ModuleFile) (m : Module) (fault : Fault) : Type 0 where
  pub refusal : Refusal
  pub named : fault ≡ refusal_fault refusal
  pub first : first_refusal (is_instrumented file) m ≡ Some refusal

-- why bytes are not an accepted module: they encode none, an invalid one, or a valid one that is refused
pub data IsRefusedIn (file : ModuleFile) (bytes : List ℕ) (fault : Fault) : Type 0 where
  ByBytes : (malformed : IsMalformedIn file bytes fault) → IsRefusedIn file bytes fault
  ByRules : (m : Module) (encoded : Encodes (form_of file) bytes m) (invalid : IsInvalidFor m fault)
      → IsRefusedIn file bytes fault
  ByProfile : (m : Module) (encoded : Encodes (form_of file) bytes m) (valid : IsValid m)
      (refused : IsUnacceptedIn file m fault) → IsRefusedIn file bytes fault

-- the bytes are an accepted original module; the bytes are refused as one
abbrev pub IsModuleOf : List ℕ → Module → Type 0
IsModuleOf bytes m = IsModuleIn Original bytes m

-- why bytes are not an accepted original module: they encode no module, an invalid one, or a valid one that is refused
abbrev pub IsRefusedModule : List ℕ → Fault → Type 0
IsRefusedModule bytes fault = IsRefusedIn Original bytes fault

-- ---- scripts

-- why bytes are not a script for a module: the first fault of the walk
pub record IsRefusedScript (m : Module) (bytes : List ℕ) (fault : Fault) : Type 0 where
  pub found : ScriptFault
  pub named : fault ≡ script_fault found
  pub differs : found ≢ script.Memory
  pub first : script_of_text m bytes ≡ Err found

-- ---- both

-- the bytes of two files are a module and a script for it
pub record AreInputs (module_bytes script_bytes : List ℕ) (m : Module) (script : Script) : Type 0 where
  pub is_module : IsModuleOf module_bytes m
  pub is_script : script_of_text m script_bytes ≡ Ok script

-- the module is refused, or the script for it is refused
pub data AreRefused (module_bytes script_bytes : List ℕ) (fault : Fault) : Type 0 where
  ByModule : (refused : IsRefusedModule module_bytes fault) → AreRefused module_bytes script_bytes fault
  ByScript : (m : Module) (is_module : IsModuleOf module_bytes m) (refused : IsRefusedScript m script_bytes fault)
      → AreRefused module_bytes script_bytes fault
