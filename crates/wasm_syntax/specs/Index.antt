-- The index spaces of a module (Core 1.0, 2.5.1): imports come before definitions in each.
use Rattle.std.specs.Prelude.{ℕ, List, [], ◌∷◌, ◌++◌, Option, Some, None, map, length, slice_get, option_and_then}
use Rattle.std.specs.List.{cons_option}
use Rattle.wasm_syntax.specs.declared.signatures.FuncType.{FuncType}
use Rattle.wasm_syntax.specs.declared.signatures.Limits.{Limits}
use Rattle.wasm_syntax.specs.declared.signatures.GlobalType.{GlobalType}
use Rattle.wasm_syntax.specs.declared.modules.Module.{Module}
use Rattle.wasm_syntax.specs.declared.modules.Import.{Import}
use Rattle.wasm_syntax.specs.declared.modules.ImportKind.{ImportKind}
use Rattle.wasm_syntax.specs.declared.modules.ImportKind.TheVariants.{Func, Table, Memory, Global}

-- the type index of an import if it is a function (Core 1.0, 2.5.11)
abbrev pub func_import : ImportKind → Option ℕ
func_import (Func ty) = Some ty
func_import (Table limits) = None
func_import (Memory limits) = None
func_import (Global ty) = None

-- the limits of an import if it is a table (Core 1.0, 2.5.11)
abbrev pub table_import : ImportKind → Option Limits
table_import (Func ty) = None
table_import (Table limits) = Some limits
table_import (Memory limits) = None
table_import (Global ty) = None

-- the limits of an import if it is a memory (Core 1.0, 2.5.11)
abbrev pub memory_import : ImportKind → Option Limits
memory_import (Func ty) = None
memory_import (Table limits) = None
memory_import (Memory limits) = Some limits
memory_import (Global ty) = None

-- the type of an import if it is a global (Core 1.0, 2.5.11)
abbrev pub global_import : ImportKind → Option GlobalType
global_import (Func ty) = None
global_import (Table limits) = None
global_import (Memory limits) = None
global_import (Global ty) = Some ty

-- the imports of one kind, in the order of the module
abbrev pub of_kind : {K : Type 0} → (ImportKind → Option K) → List Import → List K
of_kind pick [] = []
of_kind pick (i ∷ is) = cons_option (pick i.kind) (of_kind pick is)

-- the type index of each function
abbrev pub func_indices : Module → List ℕ
func_indices m = of_kind func_import m.imports ++ map (λ f. f.ty) m.funcs

-- the number of imported functions
abbrev pub imported_funcs : Module → ℕ
imported_funcs m = length (of_kind func_import m.imports)

-- the type at a type index
abbrev pub type_at : Module → ℕ → Option FuncType
type_at m t = slice_get m.types t

-- the type of a function
abbrev pub func_type : Module → ℕ → Option FuncType
func_type m f = option_and_then (type_at m) (slice_get (func_indices m) f)

-- the limits of each table
abbrev pub all_tables : Module → List Limits
all_tables m = of_kind table_import m.imports ++ m.tables

-- the limits of each memory
abbrev pub all_memories : Module → List Limits
all_memories m = of_kind memory_import m.imports ++ m.memories

-- the type of each imported global
abbrev pub imported_globals : Module → List GlobalType
imported_globals m = of_kind global_import m.imports

-- the type of each global
abbrev pub all_globals : Module → List GlobalType
all_globals m = imported_globals m ++ map (λ g. g.ty) m.globals
