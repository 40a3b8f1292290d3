-- Bytes that are appended one at a time.
use Rattle.std.proofs.Common.{◌≡◌, ℕ, ◌+◌, ◌≤◌, List, [], ◌∷◌, ◌++◌, length, ap, sym, ◌∙◌, append_assoc}

-- what is written and what is left are the whole, also after one more byte
pub appended : (out new bytes rest whole : List ℕ) (b : ℕ) → out ++ bytes ≡ whole → bytes ≡ b ∷ rest
    → new ≡ out ++ b ∷ [] → new ++ rest ≡ whole
appended out new bytes rest whole b before first pushed =
    ap (λ x. x ++ rest) pushed ∙ append_assoc out (b ∷ []) rest ∙ ap (λ x. out ++ x) (sym first) ∙ before

-- a number is written but for a rest, for which there is room
pub record IsPartWritten {A : Type 0} (bytes : A → List ℕ) (number rest : A) (before out : List ℕ) (len capacity : ℕ)
    : Type 0 where
  pub written : out ++ bytes rest ≡ before ++ bytes number
  pub room : len + length (bytes rest) ≤ capacity
