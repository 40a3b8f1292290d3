-- How far the bytes of a file are read, and where they are faulty.
use Rattle.std.specs.Prelude.{◌≡◌, ℕ, ◌<◌, ◌+◌, ◌⊎◌, List, [], ◌∷◌, length, Some, None}
use Rattle.wasm_syntax.specs.Encoding.Combinators.{Reader}

-- a reader takes at least one byte for each item
abbrev pub Shrinks : {A : Type 0} → Reader A → Type 0
Shrinks {A} read = (bytes rest : List ℕ) (x : A) → read bytes ≡ Some (x, rest) → length rest < length bytes

-- the items that a reader reads one after another, and the bytes left after them
abbrev pub AreRead : {A : Type 0} → Reader A → List ℕ → List A → List ℕ → Type 0
AreRead read bytes [] left = bytes ≡ left
AreRead read bytes (x ∷ xs) left = (after : List ℕ) × (read bytes ≡ Some (x, after)) × AreRead read after xs left

-- the items that a reader reads one after another until it reads none, and the bytes left after them
pub record AreAllRead {A : Type 0} (read : Reader A) (bytes : List ℕ) (xs : List A) (left : List ℕ) : Type 0 where
  pub items : AreRead read bytes xs left
  pub ended : read left ≡ None

-- the header is read, and then items until no item can be read
pub record IsReadTo {H A : Type 0} (head : Reader H) (item : H → Reader A) (bytes : List ℕ) (header : H)
    (items : List A) (left : List ℕ) : Type 0 where
  pub start : List ℕ
  pub header_read : head bytes ≡ Some (header, start)
  pub items_read : AreAllRead (item header) start items left

-- the file is whole: its end follows the items, and nothing follows the end
pub record IsWhole {H A O : Type 0} (head : Reader H) (item : H → Reader A) (last : Reader O) (bytes : List ℕ)
    (header : H) (items : List A) («end» : O) : Type 0 where
  pub left : List ℕ
  pub read_to : IsReadTo head item bytes header items left
  pub end_read : last left ≡ Some («end», [])

-- after the items the file has no end; the file goes on after its end; the file is faulty in one of these two
-- ways
abbrev pub IsNoEnd : {O : Type 0} → Reader O → (all left : List ℕ) → (at : ℕ) → Type 0
IsNoEnd {O} last all left at = (last left ≡ None) × (at + length left ≡ length all)

abbrev pub IsMore : {O : Type 0} → Reader O → (all left : List ℕ) → (at : ℕ) → Type 0
IsMore {O} last all left at =
    («end» : O) × (b : ℕ) × (rest : List ℕ) × (last left ≡ Some («end», b ∷ rest))
    × (at + length (b ∷ rest) ≡ length all)

pub record IsCut {H A O : Type 0} (head : Reader H) (item : H → Reader A) (last : Reader O) (bytes : List ℕ) (at : ℕ)
    : Type 0 where
  pub header : H
  pub items : List A
  pub left : List ℕ
  pub read_to : IsReadTo head item bytes header items left
  pub fault : IsNoEnd last bytes left at ⊎ IsMore last bytes left at

-- the place of a fault, as the reader finds it
abbrev pub IsBadAt : {H A O : Type 0} → Reader H → (H → Reader A) → Reader O → List ℕ → ℕ → Type 0
IsBadAt head item last bytes at = ((head bytes ≡ None) × (at ≡ 0)) ⊎ IsCut head item last bytes at
