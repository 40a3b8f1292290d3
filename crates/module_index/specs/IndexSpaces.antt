-- The index spaces of a module (Core 1.0, 2.5.1): imports come before definitions in each.
use Rattle.std.specs.Prelude.{◌≡◌, ℕ, List, [], ◌∷◌, ◌++◌, length, map, Bool}
use Rattle.wasm_syntax.specs.declared.signatures.Limits.{Limits}
use Rattle.wasm_syntax.specs.declared.signatures.GlobalType.{GlobalType}
use Rattle.wasm_syntax.specs.declared.modules.Import.{Import}
use Rattle.wasm_syntax.specs.declared.modules.ImportKind.{ImportKind}
use Rattle.wasm_syntax.specs.declared.modules.ImportKind.TheVariants.{Func, Table, Memory, Global}
use Rattle.wasm_syntax.specs.declared.modules.Module.{Module}
use Rattle.wasm_syntax.specs.Index.{func_import, table_import, memory_import, global_import, of_kind, func_indices, imported_funcs, all_tables, all_memories, imported_globals, all_globals}
use Rattle.wasm_syntax.specs.Validity.{declared_funcs}
use Rattle.module_index.specs.Marks.{AreMarks}

-- the type index of each function, the limits of each table and of each memory, the type of each global
pub record Spaces : Type 0 where
  pub funcs : List ℕ
  pub tables : List Limits
  pub memories : List Limits
  pub globals : List GlobalType

abbrev pub spaces : List ℕ → (tables memories : List Limits) → List GlobalType → Spaces
spaces funcs tables memories globals =
    record { funcs = funcs; tables = tables; memories = memories; globals = globals }

-- the index spaces of the imports alone
abbrev pub imported_spaces : List Import → Spaces
imported_spaces imports =
    spaces (of_kind func_import imports) (of_kind table_import imports) (of_kind memory_import imports)
    (of_kind global_import imports)

-- the index spaces of a whole module
abbrev pub spaces_of : Module → Spaces
spaces_of m = spaces (func_indices m) (all_tables m) (all_memories m) (all_globals m)

-- the index spaces with one more import
abbrev pub with_import : ImportKind → Spaces → Spaces
with_import (Func ty) s = record s { funcs = s.funcs ++ ty ∷ [] }
with_import (Table limits) s = record s { tables = s.tables ++ limits ∷ [] }
with_import (Memory limits) s = record s { memories = s.memories ++ limits ∷ [] }
with_import (Global ty) s = record s { globals = s.globals ++ ty ∷ [] }

-- index spaces with a module's definitions after the earlier items
abbrev pub with_definitions : Module → Spaces → Spaces
with_definitions m s =
    spaces (s.funcs ++ map (λ f. f.ty) m.funcs) (s.tables ++ m.tables) (s.memories ++ m.memories)
    (s.globals ++ map (λ g. g.ty) m.globals)

-- what a scope keeps of a module: its index spaces, the numbers of its imported functions and globals, and which
-- functions bodies may refer to
pub record IsScope (m : Module) (all : Spaces) (outer_funcs outer_globals : ℕ) (marks : List Bool) : Type 0 where
  pub spaces : all ≡ spaces_of m
  pub funcs : outer_funcs ≡ imported_funcs m
  pub globals : outer_globals ≡ length (imported_globals m)
  pub declared : AreMarks marks (length (func_indices m)) (declared_funcs m)
