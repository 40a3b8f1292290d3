-- The parts of a store in code, and the store that they represent.
use Rattle.std.specs.Prelude.{◌≡◌, ℕ, ◌*◌, ◌≤◌, List, length, Option, Some, None, Bool, true, false}
use Rattle.wasm_syntax.specs.declared.limits.TheConstants.{MAX_ENTRIES, MAX_PAGES, PAGE_SIZE}
use Rattle.wasm_syntax.specs.declared.values.Val.{Val}
use Rattle.wasm_syntax.specs.declared.signatures.Limits.{Limits}
use Rattle.history_spec.specs.Store.{Store, Memory, Table}

-- the number of pages or entries at first, 0 without a memory or a table
abbrev pub minimum_of : Option Limits → ℕ
minimum_of None = 0
minimum_of (Some limits) = limits.min

-- the most pages or entries that these limits allow, if they name a maximum
abbrev pub maximum_of : Option Limits → Option ℕ
maximum_of None = None
maximum_of (Some limits) = limits.max

-- the memory of these bytes, if there is one with these limits
abbrev pub memory_of : List ℕ → Option Limits → Option Memory
memory_of bytes None = None
memory_of bytes (Some limits) = Some (record { bytes = bytes; max = limits.max })

-- the table of these entries, if there is one with these limits
abbrev pub table_of : List (Option ℕ) → Option Limits → Option Table
table_of entries None = None
table_of entries (Some limits) = Some (record { entries = entries; max = limits.max })

-- the store of these parts
abbrev pub store_of : List ℕ → Option Limits → List (Option ℕ) → Option Limits → List Val → Store
store_of bytes memory entries table globals =
    record { memory = memory_of bytes memory; table = table_of entries table; globals = globals }

-- a size, if a condition holds
abbrev pub size_if : Bool → ℕ → Option ℕ
size_if true size = Some size
size_if false size = None

-- the bytes are that many whole pages, pages and entries are within the limits of this project, and there are no
-- pages without a memory and no entries without a table
pub record IsSized (bytes : List ℕ) (pages : ℕ) (memory : Option Limits)
    (entries : List (Option ℕ)) (table : Option Limits) : Type 0 where
  pub whole : length bytes ≡ pages * PAGE_SIZE
  pub few_pages : pages ≤ MAX_PAGES
  pub few_entries : length entries ≤ MAX_ENTRIES
  pub no_bytes : memory ≡ None → length bytes ≡ 0
  pub no_entries : table ≡ None → length entries ≡ 0
