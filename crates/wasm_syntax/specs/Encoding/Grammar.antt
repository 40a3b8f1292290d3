-- Grammars of the binary format (Core 1.0, 5.1.1): which bytes encode which value. Each is a relation on whole
-- lists of bytes, and a production parts them by ◌++◌.
use Rattle.std.specs.Prelude.{◌≡◌, ℕ, List, [], ◌∷◌, ◌++◌, length}
use Rattle.leb_bytes.specs.Unsigned.{EncodesU32}

abbrev pub Grammar : Type 0 → Type 1
Grammar A = List ℕ → A → Type 0

-- these very bytes
abbrev pub Exactly : List ℕ → Grammar (Unit {0})
Exactly word bytes it = bytes ≡ word

-- any bytes, which encode themselves (Core 1.0, 5.2.1)
abbrev pub Raw : Grammar (List ℕ)
Raw bytes content = bytes ≡ content

-- the byte, and then the grammar
abbrev pub Marked : {A : Type 0} → ℕ → Grammar A → Grammar A
Marked mark E bytes x = (rest : List ℕ) × (bytes ≡ mark ∷ rest) × E rest x

-- one grammar, and then another
infixr 30 ◌then◌
abbrev pub ◌then◌ : {A B : Type 0} → Grammar A → Grammar B → Grammar (A × B)
(E then F) bytes v = (first rest : List ℕ) × (bytes ≡ first ++ rest) × E first v.0 × F rest v.1

-- as many bytes as the u32 at their front gives; the grammar encodes them all (Core 1.0, 5.5.2)
abbrev pub Sized : {A : Type 0} → Grammar A → Grammar A
Sized E bytes x = (size content : List ℕ) × (bytes ≡ size ++ content) × EncodesU32 size (length content) × E content x

-- items one after another
abbrev pub Each : {A : Type 0} → Grammar A → Grammar (List A)
Each E bytes [] = bytes ≡ []
Each E bytes (x ∷ xs) = (first rest : List ℕ) × (bytes ≡ first ++ rest) × E first x × Each E rest xs

-- a vector: a u32 that counts the items, and the items (Core 1.0, 5.1.3)
abbrev pub VectorOf : {A : Type 0} → Grammar A → Grammar (List A)
VectorOf E bytes xs = (count items : List ℕ) × (bytes ≡ count ++ items) × EncodesU32 count (length xs) × Each E items xs
