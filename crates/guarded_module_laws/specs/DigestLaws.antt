-- The law of digests: memories that differ in one word of eight bytes have different digests.
use Rattle.std.specs.Prelude.{◌≡◌, ◌≢◌, ℕ, ◌*◌, ◌/◌, ◌<◌, List, ◌++◌, length, All}
use Rattle.guarded_module_spec.specs.Words.{digest_of}

-- all are bytes
abbrev pub AreBytes : List ℕ → Type 0
AreBytes bytes = All (λ byte. byte < 256) bytes

-- the bytes of two memories, which are the same but for one word of eight bytes
pub record DifferInOneWord (bytes other : List ℕ) : Type 0 where
  pub words_before : ℕ
  pub before : List ℕ
  pub word : List ℕ
  pub changed : List ℕ
  pub after : List ℕ
  pub first : bytes ≡ before ++ (word ++ after)
  pub second : other ≡ before ++ (changed ++ after)
  pub place : length before ≡ 8 * words_before
  pub width : length word ≡ 8
  pub changed_width : length changed ≡ 8
  pub differ : word ≢ changed

-- they have different digests
abbrev pub OneWordIsFound : Type 0
OneWordIsFound =
    (bytes other : List ℕ) → AreBytes bytes → AreBytes other → DifferInOneWord bytes other
    → digest_of (length bytes / 8) bytes ≢ digest_of (length other / 8) other
