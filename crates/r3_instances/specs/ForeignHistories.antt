-- The history of a module's run with foreign functions, or why there is none, by the bytes of files.
use Rattle.std.specs.Prelude.{ℕ, List}
use Rattle.r3_faults.specs.declared.faults.Fault.{Fault}
use Rattle.r3_instances.specs.ForeignInputs.{foreign_source}
use Rattle.r3_instances.specs.Sources.{HasHistory, HasNoHistory}

-- the bytes are a module, declarations and a script, and their run with foreign functions has this history within the
-- turns
abbrev pub IsForeignHistory : (module_bytes decl_bytes script_bytes : List ℕ) → (turns : ℕ) → (text : List ℕ) → Type 0
IsForeignHistory module_bytes decl_bytes script_bytes turns text =
    HasHistory (foreign_source module_bytes decl_bytes) script_bytes turns text

-- the module, the declarations or the script are refused, or the run with foreign functions has no history
abbrev pub IsForeignHistoryRefusal : (module_bytes decl_bytes script_bytes : List ℕ) → (turns : ℕ) → Fault → Type 0
IsForeignHistoryRefusal module_bytes decl_bytes script_bytes turns fault =
    HasNoHistory (foreign_source module_bytes decl_bytes) script_bytes turns fault
