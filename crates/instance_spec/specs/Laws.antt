-- Laws of runs over instances, of foreign functions and of widened modules.
use Rattle.std.specs.Prelude.{◌≡◌, ◌≢◌, ℕ, ◌+◌, ◌^◌, ◌<◌, ◌≤◌, List, length, slice_get, All, AllPairs, Option, Some, Result, Ok, Err}
use Rattle.wasm_syntax.specs.declared.signatures.FuncType.{FuncType}
use Rattle.wasm_syntax.specs.declared.modules.Module.{Module}
use Rattle.wasm_syntax.specs.declared.modules.Export.{Export}
use Rattle.wasm_syntax.specs.Index.{func_type, imported_funcs}
use Rattle.wasm_syntax.specs.Validity.{IsFuncType, IsValid}
use Rattle.host_script.specs.declared.scripts.Action.{Action}
use Rattle.host_script.specs.declared.scripts.Script.{Script}
use Rattle.host_script.specs.declared.scripts.LinkFault.{LinkFault}
use Rattle.history_spec.specs.Store.{Store}
use Rattle.history_spec.specs.Code.{signature, definition, code_of}
use Rattle.history_spec.specs.Step.{Program, Progress, StepResult, start}
use Rattle.history_spec.specs.Run.{Meter, steps, program_of, run_start}
use Rattle.instance_spec.specs.declared.decls.Decl.{Decl}
use Rattle.instance_spec.specs.Instances.{World, steps_in}
use Rattle.instance_spec.specs.Renamed.{Realises, renamed_progress, renamed_result, renamed_run}
use Rattle.instance_spec.specs.ForeignRuns.{numbers, foreign_code, foreign_world, foreign_start}
use Rattle.instance_spec.specs.Widened.{widened}

-- ---- runs

-- a program runs as a world does: it starts alike in each store, and from each progress makes the same entries in the
-- same turns and goes on alike
pub record DoesFollow (w : World) (p : Program) : Type 0 where
  pub begins : (func : Option ℕ) (store : Store) (counts : List ℕ) (main : List Action)
      → start p func store counts main ≡ renamed_result w (start w.program func store counts main)
  pub goes_on : (meter : Meter) (k : ℕ) (at : Progress)
      → steps p meter k (renamed_progress w at) ≡ renamed_run w (steps_in w meter k at)

-- indices that are resolved beforehand, and indices that are resolved when an instruction is executed, make the same
-- run, under every meter; the module need not be valid
abbrev pub RunsFollow : Type 0
RunsFollow = (w : World) (p : Program) → Realises w p → DoesFollow w p

-- ---- foreign functions

-- The functions of a run with foreign functions: its numbers, which entries of its history show, name the imports, then
-- the declared functions, then those that the module defines. Each has its type, and a defined one has its body.
pub record HaveTheirNumbers (m : Module) (decls : List Decl) : Type 0 where
  -- the number of a module's function by its index
  pub import_number : (x : ℕ) → x < imported_funcs m → (numbers m (length decls)).funcs x ≡ x
  pub defined_number : (f : ℕ) → imported_funcs m ≤ f → f + length decls < 2 ^ 32
      → (numbers m (length decls)).funcs f ≡ f + length decls
  -- the types of functions by their numbers
  pub import_type : (x : ℕ) (ty : FuncType) → x < imported_funcs m → func_type m x ≡ Some ty
      → signature (foreign_code m decls) x ≡ Some ty
  pub declared_type : (j : ℕ) (d : Decl) → slice_get decls j ≡ Some d
      → signature (foreign_code m decls) (imported_funcs m + j) ≡ Some d.ty
  pub defined_type : (f : ℕ) (ty : FuncType) → imported_funcs m ≤ f → func_type m f ≡ Some ty
      → signature (foreign_code m decls) (f + length decls) ≡ Some ty
  -- the functions of the host, and the body of each other function
  pub hosts : (foreign_code m decls).imported ≡ imported_funcs m + length decls
  pub body : (f : ℕ) → imported_funcs m ≤ f
      → definition (foreign_code m decls) (f + length decls) ≡ definition (code_of m) f

-- the functions of a run with foreign functions have their numbers
abbrev pub FunctionsHaveTheirNumbers : Type 0
FunctionsHaveTheirNumbers = (m : Module) (decls : List Decl) → HaveTheirNumbers m decls

-- ---- widened modules

-- the start with all indices resolved beforehand, or the same fault
abbrev pub renamed_start : World → Result StepResult LinkFault → Result StepResult LinkFault
renamed_start w (Ok initial) = Ok (renamed_result w initial)
renamed_start w (Err fault) = Err fault

-- the widened module realises the run with foreign functions, and starts as it does, or does not link for the same
-- fault
pub record DoesWidenedFollow (m : Module) (decls : List Decl) (script : Script) : Type 0 where
  pub realises : Realises (foreign_world m decls script) (program_of (widened m decls) script)
  pub starts : run_start (widened m decls) script
      ≡ renamed_start (foreign_world m decls script) (foreign_start m decls script)

-- the run of a widened module is that of the module as it is, with foreign functions, for every module, declarations
-- and script
abbrev pub WidenedRunsFollow : Type 0
WidenedRunsFollow = (m : Module) (decls : List Decl) (script : Script) → DoesWidenedFollow m decls script

-- declarations for a module: their types are valid, there are not too many functions, and no name is taken
pub record AreDecls (m : Module) (decls : List Decl) : Type 0 where
  pub types : All (λ (d : Decl). IsFuncType d.ty) decls
  pub few : imported_funcs m + length decls + length m.funcs < 2 ^ 32
  pub names : AllPairs (λ (e later : Export). e.name ≢ later.name) (widened m decls).exports

-- the widened module of a valid one is valid
abbrev pub WidenedAreValid : Type 0
WidenedAreValid = (m : Module) (decls : List Decl) → IsValid m → AreDecls m decls → IsValid (widened m decls)
