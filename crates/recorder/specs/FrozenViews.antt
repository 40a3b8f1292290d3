-- What was known at some moment of a recording.
use Rattle.std.specs.Prelude.{◌≡◌, ℕ, List, length, Option, Some, None, option_and_then, slice_get, slice_index, slice_index_or}
use Rattle.wasm_syntax.specs.declared.values.Val.{Val}
use Rattle.record_replay_spec.specs.Hooks.{original}
use Rattle.record_replay_spec.specs.Known.{Known}
use Rattle.shadow_memory.specs.Shadow.{FrozenBytes}
use Rattle.shadow_tables.specs.Tables.{Tables}
use Rattle.recorder.specs.declared.frozen.FrozenTables.{FrozenTables}

-- the known bytes from address 0 on, with zeros after them; the known number of pages; the known entries, whose
-- functions are those of the instrumented module, in the known number; the known globals; and the number of
-- functions that the original imports
pub record FrozenView : Type 0 where
  pub bytes : List ℕ
  pub pages : ℕ
  pub entries : List (Option ℕ)
  pub globals : List Val
  pub imports : ℕ

-- the view of frozen bytes and tables
abbrev pub view_of : FrozenBytes → Tables → (imports : ℕ) → FrozenView
view_of memory tables imports =
    record {
      bytes = memory.bytes;
      pages = memory.pages;
      entries = tables.entries;
      globals = tables.globals;
      imports = imports;
    }

-- the view of frozen bytes and tables, if tables were frozen
abbrev pub frozen_of : FrozenBytes → Option FrozenTables → Option FrozenView
frozen_of memory None = None
frozen_of memory (Some frozen) = Some (view_of memory frozen.tables frozen.imports)

-- what was known of an entry: a function of the instrumented module; `None` if it was empty, or is past the known
-- entries
abbrev pub known_entry : FrozenView → (index : ℕ) → Option ℕ
known_entry frozen index = slice_index_or frozen.entries index None

-- the function of the original that an entry was known to hold; `None` if it was empty, or held a hook
abbrev pub original_entry : FrozenView → (index : ℕ) → Option ℕ
original_entry frozen index = option_and_then (original frozen.imports) (known_entry frozen index)

-- a view has what is known of a store: each byte, entry and global, and both sizes
pub record ShowsFrozen (frozen : FrozenView) (known : Known) : Type 0 where
  pub byte : (at : ℕ) → known.byte at ≡ slice_index frozen.bytes at
  pub entry : (at : ℕ) → known.entry at ≡ known_entry frozen at
  pub global : (at : ℕ) → known.global at ≡ slice_get frozen.globals at
  pub pages : known.pages ≡ frozen.pages
  pub entries : known.entries ≡ length frozen.entries
