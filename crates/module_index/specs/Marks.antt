-- Functions that are marked by their indices.
use Rattle.std.specs.Prelude.{◌≡◌, ℕ, ◌<◌, List, ◌++◌, length, get_or, Bool, false, nat_eq}
use Rattle.std.specs.List.{list_any}

-- the marks show which numbers below a count are in a list
pub record AreMarks (marks : List Bool) (count : ℕ) (done : List ℕ) : Type 0 where
  pub many : length marks ≡ count
  pub each : (f : ℕ) → f < count → get_or marks f false ≡ list_any (nat_eq f) done

-- these functions are marked in addition to the earlier ones
abbrev pub MarksMore : (before now : List Bool) → List ℕ → Type 0
MarksMore before now funcs =
    (count : ℕ) (done : List ℕ) → AreMarks before count done → AreMarks now count (done ++ funcs)
