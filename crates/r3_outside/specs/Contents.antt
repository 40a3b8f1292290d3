-- What files hold: names, as the bytes of their text, and under each its bytes.
use Rattle.std.specs.Prelude.{◌≡◌, ℕ, ◌-◌, ◌≤◌, List, [], length, min, take, drop, unwrap_or}
use Rattle.std.specs.Ordering.{nat_cmp}
use Rattle.std.specs.Cmp.Lexicographic.{slice_cmp}
use Rattle.std.specs.FinMap as map

-- the bytes under each known name
abbrev pub FileMap : Type 0
FileMap = map.FinMap (slice_cmp nat_cmp) (List ℕ)

-- the bytes under a name, empty if the name is unknown
abbrev pub file_bytes : FileMap → List ℕ → List ℕ
file_bytes files name = unwrap_or (map.get files name) []

-- `into` begins with `count` bytes of the file from `at` on; `count` is 0 only at or past the end
pub record IsPiece (bytes : List ℕ) (at count : ℕ) (into : List ℕ) : Type 0 where
  pub head : take count into ≡ take count (drop at bytes)
  pub ended : count ≡ 0 → length bytes ≤ at

-- the number of bytes of a file from a place on, at most as many as there is room for
abbrev pub piece_length : List ℕ → ℕ → ℕ → ℕ
piece_length bytes at room = min room (length bytes - at)
