-- What the names of a module refer to: its imports of one kind by two names, its exports by one.
use Rattle.std.specs.Prelude.{ℕ, ◌+◌, ◌&&◌, ◌||◌, List, [], ◌∷◌, filter, filter_map, find, Bool, Option, Some, None, is_some, option_map, option_and_then, if◌then◌else◌}
use Rattle.std.specs.Str.{bytes_eq}
use Rattle.std.specs.List.{list_any}
use Rattle.wasm_syntax.specs.declared.signatures.FuncType.{FuncType}
use Rattle.wasm_syntax.specs.declared.modules.Module.{Module}
use Rattle.wasm_syntax.specs.declared.modules.Import.{Import}
use Rattle.wasm_syntax.specs.declared.modules.ImportKind.{ImportKind}
use Rattle.wasm_syntax.specs.declared.modules.ExportKind.{ExportKind}
use Rattle.wasm_syntax.specs.declared.modules.ExportKind.TheVariants.{Func, Table, Memory, Global}
use Rattle.module_names.specs.declared.index_spaces.Space.{Space}
use Rattle.module_names.specs.declared.index_spaces.Space.TheVariants.{Funcs, Tables, Memories, Globals}
use Rattle.wasm_syntax.specs.Index.{func_import, table_import, memory_import, global_import, type_at}

-- ---- imports

-- whether an import is of a kind
abbrev pub is_kind : {K : Type 0} → (ImportKind → Option K) → Import → Bool
is_kind pick import = is_some (pick import.kind)

-- whether an import is in an index space
abbrev pub is_in : Space → Import → Bool
is_in Funcs = is_kind func_import
is_in Tables = is_kind table_import
is_in Memories = is_kind memory_import
is_in Globals = is_kind global_import

-- the imports of one kind, in the module's order, with their names
abbrev pub imports_with : {K : Type 0} → (ImportKind → Option K) → Module → List Import
imports_with pick m = filter (is_kind pick) m.imports

abbrev pub is_from : List ℕ → Import → Bool
is_from from import = bytes_eq import.«module» from

abbrev pub is_named : (from name : List ℕ) → Import → Bool
is_named from name import = bytes_eq import.«module» from && bytes_eq import.name name

-- whether something of a kind is imported from a module
abbrev pub imports_from : {K : Type 0} → (ImportKind → Option K) → Module → List ℕ → Bool
imports_from pick m from = list_any (is_from from) (imports_with pick m)

-- whether something of a kind is imported under two names, that of a module and its own
abbrev pub imports_named : {K : Type 0} → (ImportKind → Option K) → Module → (from name : List ℕ) → Bool
imports_named pick m from name = list_any (is_named from name) (imports_with pick m)

-- the type of an imported function
abbrev pub import_type : Module → Import → Option FuncType
import_type m import = option_and_then (type_at m) (func_import import.kind)

-- the types of the functions imported under two names, in the module's order
abbrev pub func_types_named : Module → (from name : List ℕ) → List FuncType
func_types_named m from name = filter_map (import_type m) (filter (is_named from name) (imports_with func_import m))

-- the place of the first import under two names, from a place on
abbrev pub first_named : (from name : List ℕ) → ℕ → List Import → Option ℕ
first_named from name place [] = None
first_named from name place (import ∷ imports) =
    if is_named from name import then Some place else first_named from name (place + 1) imports

-- the first global imported under two names, by its index
abbrev pub imported_global : Module → (from name : List ℕ) → Option ℕ
imported_global m from name = first_named from name 0 (imports_with global_import m)

-- ---- exports

-- the index of what is exported, if it is in this space
abbrev pub index_in : Space → ExportKind → Option ℕ
index_in Funcs (Func index) = Some index
index_in Tables (Table index) = Some index
index_in Memories (Memory index) = Some index
index_in Globals (Global index) = Some index
index_in space kind = None

-- what is exported under a name
abbrev pub export_of : Module → List ℕ → Option ExportKind
export_of m name = option_map (λ export. export.kind) (find (λ export. bytes_eq export.name name) m.exports)

-- the index of the function that is exported under a name
abbrev pub exported_func : Module → List ℕ → Option ℕ
exported_func m name = option_and_then (index_in Funcs) (export_of m name)

-- the index of the global that is exported under a name
abbrev pub exported_global : Module → List ℕ → Option ℕ
exported_global m name = option_and_then (index_in Globals) (export_of m name)

-- ---- access

-- whether something in an index space is exported
abbrev pub exports_some : Space → Module → Bool
exports_some space m = list_any (λ export. is_some (index_in space export.kind)) m.exports

abbrev pub imports_some : {K : Type 0} → (ImportKind → Option K) → Module → Bool
imports_some pick m = list_any (is_kind pick) m.imports

-- whether the host can access a memory: a memory is imported or exported
abbrev pub reaches_memory : Module → Bool
reaches_memory m = imports_some memory_import m || exports_some Memories m

-- whether the host can access a table: a table is imported or exported
abbrev pub reaches_table : Module → Bool
reaches_table m = imports_some table_import m || exports_some Tables m
