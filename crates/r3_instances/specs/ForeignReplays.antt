-- The replay module of a run with foreign functions, or why none is made, by the bytes of files.
use Rattle.std.specs.Prelude.{ℕ, ◌+◌, List, length}
use Rattle.wasm_syntax.specs.Index.{imported_funcs}
use Rattle.host_script.specs.declared.scripts.Script.{Script}
use Rattle.history_spec.specs.Projection.{Layout}
use Rattle.generated_code_laws.specs.Playable.{replay_of}
use Rattle.instance_spec.specs.ForeignRuns.{numbers}
use Rattle.instance_spec.specs.Widened.{renamed_func}
use Rattle.r3_faults.specs.declared.faults.Fault.{Fault}
use Rattle.r3_instances.specs.ForeignInputs.{foreign_run, foreign_source, widened_of}
use Rattle.r3_instances.specs.Sources.{AreReplayable, HasNoReplay, HasReplay}
use Rattle.r3_instances.specs.WorldReplays.{KeepsChanged, IsWorldReplayFor}
use Rattle.r3_instances.specs.declared.declared_modules.DeclaredModule.{DeclaredModule}

-- how many functions the host has: those that the module imports, and the declared ones
abbrev pub foreign_hosts : DeclaredModule → ℕ
foreign_hosts declared = imported_funcs declared.checked + length declared.decls

-- the layout of a replay module of a run with foreign functions: the host's functions come first, then the functions
-- that the module defines
abbrev pub foreign_layout : DeclaredModule → Layout
foreign_layout declared =
    record { imports = foreign_hosts declared; defined = length declared.checked.funcs }

-- The run with foreign functions has an outcome within the turns, and the printed bytes encode its replay module, whose
-- run shows exactly the history and the outcome of the run. The replay module keeps the functions that the module
-- defines at their numbers; in their bodies each function is named by its number.
pub record IsForeignReplayFor (declared : DeclaredModule) (script : Script) (turns : ℕ) (printed : List ℕ) : Type 0
  where
    pub replay : IsWorldReplayFor (widened_of declared) script (foreign_run declared script) turns
        (foreign_layout declared) printed
    pub keeps : KeepsChanged (renamed_func (numbers declared.checked (length declared.decls))) declared.checked.funcs
        (foreign_hosts declared) (replay_of (widened_of declared) replay.made.supply replay.made.tape)

-- `foreign` prints this for the bytes of a module, of declarations and of a script
abbrev pub IsForeignPrinted : (module_bytes decl_bytes script_bytes : List ℕ) → (turns : ℕ) → (printed : List ℕ)
    → Type 0
IsForeignPrinted module_bytes decl_bytes script_bytes turns printed =
    HasReplay (foreign_source module_bytes decl_bytes) script_bytes
    (λ declared script. IsForeignReplayFor declared script turns printed)

-- the bytes are a module, declarations and a script for the widened module, whose run has an outcome within the turns
-- and needs a tape that is light enough
abbrev pub AreForeignReplayable : (module_bytes decl_bytes script_bytes : List ℕ) → (turns : ℕ) → Type 0
AreForeignReplayable module_bytes decl_bytes script_bytes turns =
    AreReplayable (foreign_source module_bytes decl_bytes) script_bytes turns

-- the module, the declarations or the script are refused, or the run with foreign functions has no replay module
abbrev pub IsForeignRefusal : (module_bytes decl_bytes script_bytes : List ℕ) → (turns : ℕ) → Fault → Type 0
IsForeignRefusal module_bytes decl_bytes script_bytes turns fault =
    HasNoReplay (foreign_source module_bytes decl_bytes) script_bytes turns fault
