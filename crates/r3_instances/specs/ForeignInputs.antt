-- The module and the declarations that the bytes of files are, or why they are refused, by the first cause that
-- applies; and the run of the module with the declared functions as foreign functions.
use Rattle.std.specs.Prelude.{◌≡◌, ◌≢◌, ℕ, List, Ok, Err}
use Rattle.wasm_syntax.specs.declared.modules.Module.{Module}
use Rattle.host_script.specs.declared.scripts.Script.{Script}
use Rattle.instance_spec.specs.ForeignRuns.{foreign_start, foreign_world}
use Rattle.instance_spec.specs.Widened.{widened}
use Rattle.decl_text.specs.declared.faults.DeclFault.{DeclFault}
use Rattle.decl_text.specs.declared.faults.DeclFault.TheVariants as decl
use Rattle.decl_text.specs.Texts.{decls_of_text}
use Rattle.r3_faults.specs.declared.faults.Fault.{Fault}
use Rattle.r3_faults.specs.declared.faults.Fault.TheVariants.{DeclNotJson, DeclShape, DeclReserved, DeclTaken, Memory}
use Rattle.r3_inputs.specs.Inputs.{IsModuleOf, IsRefusedModule}
use Rattle.r3_instances.specs.Sources.{Source}
use Rattle.r3_instances.specs.WorldRuns.{WorldRun}
use Rattle.r3_instances.specs.declared.declared_modules.DeclaredModule.{DeclaredModule}

-- ---- declarations

-- the fault of declarations, as the fault of a call
abbrev pub decl_fault : DeclFault → Fault
decl_fault decl.NotJson = DeclNotJson
decl_fault (decl.Shape path) = DeclShape path
decl_fault (decl.Reserved import) = DeclReserved import
decl_fault (decl.Taken name) = DeclTaken name
decl_fault decl.Memory = Memory

-- why bytes are not declarations for a module: the first fault
pub record IsRefusedDecls (m : Module) (bytes : List ℕ) (fault : Fault) : Type 0 where
  pub found : DeclFault
  pub named : fault ≡ decl_fault found
  pub differs : found ≢ decl.Memory
  pub first : decls_of_text m bytes ≡ Err found

-- ---- a module and declarations

-- the bytes are a module, and declarations for it
pub record IsDeclared (module_bytes decl_bytes : List ℕ) (declared : DeclaredModule) : Type 0 where
  pub is_module : IsModuleOf module_bytes declared.checked
  pub are_decls : decls_of_text declared.checked decl_bytes ≡ Ok declared.decls

-- the module is refused, or else the declarations for it
pub data AreUndeclared (module_bytes decl_bytes : List ℕ) (fault : Fault) : Type 0 where
  NoModule : (refused : IsRefusedModule module_bytes fault) → AreUndeclared module_bytes decl_bytes fault
  NoDecls : (m : Module) (is_module : IsModuleOf module_bytes m) (refused : IsRefusedDecls m decl_bytes fault)
      → AreUndeclared module_bytes decl_bytes fault

-- the module in which the declared functions are imports
abbrev pub widened_of : DeclaredModule → Module
widened_of declared = widened declared.checked declared.decls

-- the run with the declared functions as foreign functions
abbrev pub foreign_run : DeclaredModule → Script → WorldRun
foreign_run declared script =
    record {
      begun = foreign_start declared.checked declared.decls script;
      world = foreign_world declared.checked declared.decls script;
    }

-- a module and declarations are read, or refused; the widened module is recorded for the run with foreign functions
abbrev pub foreign_source : (module_bytes decl_bytes : List ℕ) → Source DeclaredModule
foreign_source module_bytes decl_bytes =
    record {
      IsRead = IsDeclared module_bytes decl_bytes;
      IsUnread = AreUndeclared module_bytes decl_bytes;
      recorded = widened_of;
      run = foreign_run;
    }
