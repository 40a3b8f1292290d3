-- What is asked of an encoding of values as bytes.
use Rattle.std.specs.Prelude.{◌≡◌, ℕ, ◌<◌, ◌≤◌, List, ◌++◌, length, Option, Some}

-- what is encoded is in the range, in at least one byte and at most `most`
abbrev pub IsWithin : {A : Type 0} → (List ℕ → A → Type 0) → (A → Type 0) → ℕ → Type 0
IsWithin {A} Encodes InRange most =
    (bytes : List ℕ) (n : A) → Encodes bytes n → InRange n × (0 < length bytes) × (length bytes ≤ most)

-- no encoding begins another, and each has one value
pub record IsPrefixFree {A : Type 0} (Encodes : List ℕ → A → Type 0) : Type 0 where
  pub one : (a b x y : List ℕ) (m n : A) → Encodes a m → Encodes b n → a ++ x ≡ b ++ y → (a ≡ b) × (m ≡ n)

-- `first` reads the encoding at the front of a list, and gives its value and what follows it
pub record IsReadBy {A : Type 0} (Encodes : List ℕ → A → Type 0) (first : List ℕ → Option (A × List ℕ)) : Type 0 where
  pub found : (input rest : List ℕ) (n : A) → first input ≡ Some (n, rest)
      → (bytes : List ℕ) × Encodes bytes n × (input ≡ bytes ++ rest)
  pub only : (bytes rest : List ℕ) (n : A) → Encodes bytes n → first (bytes ++ rest) ≡ Some (n, rest)

-- each value in the range has this encoding, which is the one encoding of its length, and no encoding is shorter
pub record IsShortest {A : Type 0} (Encodes : List ℕ → A → Type 0) (InRange : A → Type 0) (shortest : A → List ℕ)
    : Type 0 where
  pub encodes : (n : A) → InRange n → Encodes (shortest n) n
  pub least : (bytes : List ℕ) (n : A) → Encodes bytes n → length (shortest n) ≤ length bytes
  pub alone : (bytes : List ℕ) (n : A) → Encodes bytes n → length bytes ≡ length (shortest n) → bytes ≡ shortest n

-- a whole encoding: no encoding begins another, `first` reads it, and each value in the range has its shortest one
pub record IsEncoding {A : Type 0} (Encodes : List ℕ → A → Type 0) (first : List ℕ → Option (A × List ℕ))
    (InRange : A → Type 0) (short : A → List ℕ) : Type 0 where
  pub prefix_free : IsPrefixFree Encodes
  pub read : IsReadBy Encodes first
  pub shortest : IsShortest Encodes InRange short
