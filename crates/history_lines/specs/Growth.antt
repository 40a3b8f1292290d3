-- How a list of bytes grows if memory runs out.
use Rattle.std.specs.Prelude.{◌≡◌, ℕ, List, ◌++◌}

-- a list of bytes grew by a first part of a text
pub record GrewByFirstPart (old new text : List ℕ) : Type 0 where
  pub part : List ℕ
  pub rest : List ℕ
  pub whole : part ++ rest ≡ text
  pub grew : new ≡ old ++ part
