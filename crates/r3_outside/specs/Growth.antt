-- What a sink was given, as far as it shows its bytes.
use Rattle.std.specs.Prelude.{◌≡◌, ℕ, List, ◌++◌, Option, Some, None}

-- If the bytes are shown before and after, they grew by these. Bytes that are no longer shown are not shown again.
abbrev pub Grew : Option (List ℕ) → Option (List ℕ) → List ℕ → Type 0
Grew (Some before) (Some now) bytes = now ≡ before ++ bytes
Grew None (Some now) bytes = ⊥
Grew before None bytes = Unit {0}

-- a sink's bytes grew by a first part of these bytes
pub record GrewByPrefix (before now : Option (List ℕ)) (bytes : List ℕ) : Type 0 where
  pub prefix : List ℕ
  pub rest : List ℕ
  pub whole : prefix ++ rest ≡ bytes
  pub grew : Grew before now prefix
