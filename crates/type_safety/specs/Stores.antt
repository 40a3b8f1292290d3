-- Stores that are well typed for a module (Core 1.0, appendix 7.5, "Store Validity").
use Rattle.std.specs.Prelude.{◌≡◌, ℕ, ◌*◌, ◌<◌, ◌≤◌, List, [], ◌∷◌, length, map, Option, Some, None, IsTrue, IfSome, All}
use Rattle.wasm_syntax.specs.declared.limits.TheConstants.{MAX_ENTRIES, MAX_PAGES, PAGE_SIZE}
use Rattle.host_script.specs.Supply.{is_within}
use Rattle.wasm_syntax.specs.declared.values.ValType.{ValType}
use Rattle.wasm_syntax.specs.declared.signatures.Limits.{Limits}
use Rattle.wasm_syntax.specs.declared.modules.Module.{Module}
use Rattle.wasm_syntax.specs.Index.{func_indices, all_tables, all_memories, all_globals}
use Rattle.history_spec.specs.Store.{Memory, Table, Store, pages}
use Rattle.type_safety.specs.Values.{AreValues}

-- the number of functions of a module
abbrev pub func_count : Module → ℕ
func_count m = length (func_indices m)

-- a memory: bytes, a whole number of pages, within its limits (Core 1.0, 7.5, "Memory Instances")
pub record IsMemory (limits : Limits) (memory : Memory) : Type 0 where
  pub bytes : All (λ byte. byte < 256) memory.bytes
  pub whole : length memory.bytes ≡ pages memory * PAGE_SIZE
  pub least : limits.min ≤ pages memory
  pub within : IsTrue (is_within (pages memory) memory.max)
  pub most : pages memory ≤ MAX_PAGES

-- a table: each entry is empty or names a function; within its limits (Core 1.0, 7.5, "Table Instances")
pub record IsTable (funcs : ℕ) (limits : Limits) (table : Table) : Type 0 where
  pub entries : All (λ entry. IfSome entry (λ func. func < funcs)) table.entries
  pub least : limits.min ≤ length table.entries
  pub within : IsTrue (is_within (length table.entries) table.max)
  pub most : length table.entries ≤ MAX_ENTRIES

-- a memory exists if and only if the module has one, and it is well typed
abbrev pub MayBeMemory : List Limits → Option Memory → Type 0
MayBeMemory [] None = Unit {0}
MayBeMemory [] (Some memory) = ⊥
MayBeMemory (limits ∷ more) None = ⊥
MayBeMemory (limits ∷ more) (Some memory) = IsMemory limits memory

-- a table exists if and only if the module has one, and it is well typed
abbrev pub MayBeTable : ℕ → List Limits → Option Table → Type 0
MayBeTable funcs [] None = Unit {0}
MayBeTable funcs [] (Some table) = ⊥
MayBeTable funcs (limits ∷ more) None = ⊥
MayBeTable funcs (limits ∷ more) (Some table) = IsTable funcs limits table

-- the types of the globals
abbrev pub global_types : Module → List ValType
global_types m = map (λ global. global.ty) (all_globals m)

-- a store is well typed for a module (Core 1.0, 7.5, "Store Validity")
pub record IsStore (m : Module) (store : Store) : Type 0 where
  pub memory : MayBeMemory (all_memories m) store.memory
  pub table : MayBeTable (func_count m) (all_tables m) store.table
  pub globals : AreValues (func_count m) (global_types m) store.globals
