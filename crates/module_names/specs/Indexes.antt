-- What indexes of a module's names hold.
use Rattle.std.specs.Prelude.{◌≡◌, ℕ, ◌&&◌, List, [], ◌++◌, map, filter, filter_map, Vec, Option, Some, None, option_map, option_to_list, unwrap_or, if◌then◌else◌}
use Rattle.std.specs.List.{list_any}
use Rattle.std.specs.Str.{bytes_eq}
use Rattle.std.specs.Map.{lookup}
use Rattle.std.specs.Borrow.{Bor}
use Rattle.std.specs.declared.alloc.Global.{Global}
use Rattle.wasm_syntax.specs.declared.signatures.FuncType.{FuncType}
use Rattle.wasm_syntax.specs.declared.modules.Module.{Module}
use Rattle.wasm_syntax.specs.declared.modules.ExportKind.{ExportKind}
use Rattle.wasm_syntax.specs.declared.modules.Import.{Import}
use Rattle.module_names.specs.Names.{export_of, is_from, is_named, first_named, import_type}

-- an index holds, under each name, what the module exports under that name
pub record HoldsExports (entries : List (Bor (List ℕ) × ExportKind)) (m : Module) : Type 0 where
  pub holds : (name : List ℕ) → lookup (λ key. bytes_eq name key.now) entries ≡ export_of m name

-- an index holds the names of the modules of imports
pub record HoldsModules (names : List (Bor (List ℕ))) (imports : List Import) : Type 0 where
  pub holds : (from : List ℕ) → list_any (λ key. bytes_eq from key.now) names ≡ list_any (is_from from) imports

-- the value under two names
abbrev pub under_names : {V : Type 0} → (from name : List ℕ) → List ((Bor (List ℕ) × Bor (List ℕ)) × V) → Option V
under_names from name entries = lookup (λ key. bytes_eq from key.0.now && bytes_eq name key.1.now) entries

-- an index holds, under two names, the place of the first import of those names
pub record HoldsFirsts (entries : List ((Bor (List ℕ) × Bor (List ℕ)) × ℕ)) (imports : List Import) : Type 0 where
  pub holds : (from name : List ℕ) → under_names from name entries ≡ first_named from name 0 imports

-- the index of types under two names
abbrev pub Types : Type 0
Types = List ((Bor (List ℕ) × Bor (List ℕ)) × Vec (Bor FuncType) Global)

abbrev pub types_of : (from name : List ℕ) → Types → Option (List FuncType)
types_of from name entries = option_map (λ types. map (λ ty. ty.now) types.items) (under_names from name entries)

-- an index has one more type under the names of an import
pub record AddsType (old new : Types) (import : Import) (ty : Option FuncType) : Type 0 where
  pub adds : (from name : List ℕ) → types_of from name new
      ≡ (if is_named from name import
      then Some (unwrap_or (types_of from name old) [] ++ option_to_list ty)
      else types_of from name old)

-- the types of the functions under two names, if there are any
abbrev pub types_if_any : Module → (from name : List ℕ) → List Import → Option (List FuncType)
types_if_any m from name imports =
    if list_any (is_named from name) imports
    then Some (filter_map (import_type m) (filter (is_named from name) imports))
    else None

-- an index holds the types of the functions imported under two names
pub record HoldsTypes (entries : Types) (m : Module) (imports : List Import) : Type 0 where
  pub holds : (from name : List ℕ) → types_of from name entries ≡ types_if_any m from name imports
