-- When a generated part fits a module. The supply makes no difference to it, so the replay module that is used
-- here is that of a supply which gives each import as it is declared.
use Rattle.std.specs.Prelude.{◌≡◌, ◌↔◌, ℕ, ◌+◌, ◌≤◌, [], ◌++◌, length, map, Some, slice_get, All, Contains}
use Rattle.std.specs.List.{AllZip}
use Rattle.wasm_syntax.specs.declared.limits.TheConstants.{MAX_LOCALS, MAX_PARAMETERS}
use Rattle.wasm_syntax.specs.declared.signatures.FuncType.{FuncType}
use Rattle.wasm_syntax.specs.declared.modules.Module.{Module}
use Rattle.wasm_syntax.specs.declared.modules.Func.{Func}
use Rattle.wasm_syntax.specs.Index.{of_kind, func_import, memory_import, table_import, func_indices, imported_globals, type_at}
use Rattle.wasm_syntax.specs.Profile.{count_of_locals}
use Rattle.wasm_syntax.specs.Validity.{IsFuncType, IsGlobal, IsDeclaredFunc, IsTypedFunc}
use Rattle.host_script.specs.declared.scripts.Supply.{Supply}
use Rattle.history_spec.specs.Code.{zero_of}
use Rattle.replay_module_spec.specs.declared.fragments.Fragment.{Fragment}
use Rattle.replay_module_spec.specs.Fragments.{referred_funcs}
use Rattle.replay_module_spec.specs.Merge.{replay_module}

-- a supply of memory and table with the limits that the imports declare, and of globals with zeros
abbrev pub declared_supply : Module → Supply
declared_supply m =
    record {
      memory = slice_get (of_kind memory_import m.imports) 0;
      table = slice_get (of_kind table_import m.imports) 0;
      globals = map (λ g. zero_of g.ty) (imported_globals m);
    }

-- the replay module, for the declared supply
abbrev pub unsupplied_module : Module → Fragment → Module
unsupplied_module m fragment = replay_module m (declared_supply m) fragment

-- an appended type is valid, and has no more parameters than a module may have
pub record IsAppendedType (ty : FuncType) : Type 0 where
  pub valid : IsFuncType ty
  pub params : length ty.params ≤ MAX_PARAMETERS

-- a body has the type of the import that it replaces
pub record HasImportType (m : Module) (fragment : Fragment) (import : ℕ) (body : Func) : Type 0 where
  pub ty : FuncType
  pub of_import : type_at m import ≡ Some ty
  pub of_body : type_at (unsupplied_module m fragment) body.ty ≡ Some ty

-- the exported function is one of the helpers, without parameters and results
pub record HasStart (m : Module) (fragment : Fragment) : Type 0 where
  pub place : ℕ
  pub func : Func
  pub found : slice_get fragment.helpers place ≡ Some func
  pub index : fragment.entry ≡ length (func_indices m) + place
  pub has_type : type_at (unsupplied_module m fragment) func.ty ≡ Some (record { params = []; results = [] })

-- a generated function is valid in the replay module, and has no more locals than a function may have
pub record IsGeneratedFunc (m : Module) (fragment : Fragment) (func : Func) : Type 0 where
  pub declared : IsDeclaredFunc (unsupplied_module m fragment) func
  pub typed : IsTypedFunc (unsupplied_module m fragment) func
  pub locals : count_of_locals func ≤ MAX_LOCALS

-- a generated part fits a module: its types and globals are valid (a global's initial value is one constant,
-- since there are no imports); there is a body for each imported function; the exported function is a helper;
-- exactly the functions that bodies refer to are declared; and each function is valid
pub record FitsModule (m : Module) (fragment : Fragment) : Type 0 where
  pub types : All IsAppendedType fragment.types
  pub globals : All (IsGlobal (unsupplied_module m fragment)) fragment.globals
  pub bodies : AllZip (HasImportType m fragment) (of_kind func_import m.imports) fragment.bodies
  pub start : HasStart m fragment
  pub declared : (func : ℕ) → Contains fragment.declared func
      ↔ Contains (referred_funcs (unsupplied_module m fragment).funcs) func
  pub generated : All (IsGeneratedFunc m fragment) (fragment.bodies ++ fragment.helpers)
