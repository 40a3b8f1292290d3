-- What is known of modules that are read from files, of the module that is made of them and recorded, and of a script
-- for it.
use Rattle.std.specs.Prelude.{◌≡◌, ℕ, ◌+◌, ◌<◌, ◌≤◌, List, Ok, None, length, false}
use Rattle.wasm_syntax.specs.declared.forms.Form.TheVariants.{Core, Replay}
use Rattle.wasm_syntax.specs.declared.limits.TheConstants.{MAX_FILE_BYTES, MAX_ORIGINAL_BYTES}
use Rattle.wasm_syntax.specs.declared.modules.Module.{Module}
use Rattle.wasm_syntax.specs.Encoding.Encodable.{IsEncodable}
use Rattle.wasm_syntax.specs.Encoding.Forms.{IsCoreModule}
use Rattle.wasm_syntax.specs.Encoding.Shortest.{encoding_of}
use Rattle.wasm_syntax.specs.Index.{func_indices}
use Rattle.wasm_syntax.specs.Profile.{IsAccepted, IsSupported}
use Rattle.wasm_flat.specs.Sizes.{IsShort, list_limit}
use Rattle.type_safety.specs.Supplies.{HasBytes}
use Rattle.script_text.specs.Texts.{script_of_text}
use Rattle.accepted_runs.specs.Runnable.{CanRun}
use Rattle.instance_spec.specs.DeclSizes.{decls_size}
use Rattle.instance_spec.specs.WidenedLaws.{AreWritable, HaveFewParameters}
use Rattle.pair_spec.specs.Pairs.{ModulePair}
use Rattle.pair_spec.specs.Linked.{linked}
use Rattle.pair_spec.specs.Faults.{first_pair_fault}
use Rattle.r3_instances.specs.Sources.{Source, AreReadWithScript}
use Rattle.r3_instances.specs.declared.declared_modules.DeclaredModule.{DeclaredModule}
use Rattle.r3_instances.specs.declared.run_inputs.RunInputs.{RunInputs}

-- ---- modules of files

-- a module that was read from a file
pub record IsFromFile (m : Module) : Type 0 where
  pub accepted : IsAccepted false m
  pub supported : IsSupported m
  pub short : IsShort m
  pub bytes : HasBytes m
  pub encodable : IsEncodable Core m
  pub within : length (encoding_of m) ≤ MAX_FILE_BYTES
  pub parts : length m.types + length m.imports + length m.funcs ≤ MAX_FILE_BYTES
  pub funcs : length (func_indices m) ≤ MAX_FILE_BYTES

-- a module of a file with declarations for it whose widened module can be recorded
pub record CanBeWidened (declared : DeclaredModule) : Type 0 where
  pub file : IsFromFile declared.checked
  pub writable : AreWritable declared.checked declared.decls
  pub few_parameters : HaveFewParameters declared.decls
  pub size : decls_size declared.decls ≤ MAX_FILE_BYTES
  pub types : length declared.checked.types + length declared.decls < list_limit
  pub funcs : length (func_indices declared.checked) + length declared.decls < list_limit

-- two modules of files
pub record AreFromFiles (modules : ModulePair) : Type 0 where
  pub left : IsFromFile modules.left
  pub right : IsFromFile modules.right

-- ---- the module that is made of them

-- the linked module of two modules that link
pub record IsLinkedOf (modules : ModulePair) (m : Module) : Type 0 where
  pub no_fault : first_pair_fault modules ≡ None
  pub is : m ≡ linked modules

-- a module made of others that can be encoded, run and recorded
pub record CanBeRecorded (m : Module) : Type 0 where
  pub accepted : IsAccepted false m
  pub supported : IsSupported m
  pub short : IsShort m
  pub bytes : HasBytes m
  pub core : IsCoreModule m
  pub encodable : IsEncodable Replay m
  pub within : length (encoding_of m) ≤ MAX_ORIGINAL_BYTES

-- the module that is recorded for what is read
pub record IsRecordedFor {X : Type 0} (source : Source X) (m : Module) : Type 0 where
  pub x : X
  pub read : source.IsRead x
  pub is : m ≡ source.recorded x

-- ---- a script for it

-- a module, and the script that bytes are for it
pub record IsScriptFor (m : Module) (script_bytes : List ℕ) (inputs : RunInputs) : Type 0 where
  pub same : inputs.checked ≡ m
  pub is_script : script_of_text m script_bytes ≡ Ok inputs.script

-- the module that is recorded for what is read, and the script
pub record AreRunInputs {X : Type 0} (source : Source X) (script_bytes : List ℕ) (inputs : RunInputs) : Type 0 where
  pub x : X
  pub read : AreReadWithScript source script_bytes x inputs.script
  pub is : inputs.checked ≡ source.recorded x

-- they can be run and recorded
pub record CanBePlayed (inputs : RunInputs) : Type 0 where
  pub recorded : CanBeRecorded inputs.checked
  pub can_run : CanRun inputs.checked inputs.script
