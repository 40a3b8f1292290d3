-- The sizes of JSON values: a text of a value has at least as many bytes.
use Rattle.std.specs.Prelude.{◌≡◌, ℕ, ◌+◌, ◌≤◌, List, length, Some}
use Rattle.serde_json.specs.Data.{Data, null, boolean, number, string, array, object, Items, no_items, item, Members, no_members, member}
use Rattle.serde_json.specs.Read.{read}

-- the size of a value: 1 for each value in it, 1 for each key, and the bytes of keys and strings
abbrev mutual
  pub data_size : Data → ℕ
  data_size null = 1
  data_size (boolean b) = 1
  data_size (number n) = 1
  data_size (string s) = 1 + length s
  data_size (array ds) = 1 + items_size ds
  data_size (object ms) = 1 + members_size ms

  pub items_size : Items → ℕ
  items_size no_items = 0
  items_size (item d ds) = data_size d + items_size ds

  pub members_size : Members → ℕ
  members_size no_members = 0
  members_size (member k d ms) = 1 + length k + data_size d + members_size ms

-- a value that is read from a text has no greater size than the text has bytes
abbrev pub ValuesAreWithinTexts : Type 0
ValuesAreWithinTexts = (text : List ℕ) (d : Data) → read text ≡ Some d → data_size d ≤ length text
