-- Looking through listed texts, as a loop does.
use Rattle.std.proofs.Common.{◌≡◌, ℕ, ◌+◌, ◌<◌, List, map, length, drop, get_or, Bool, true, false, Bor, refl}
use Rattle.std.specs.List.{list_any}
use Rattle.module_names.proofs.Lists.{front_or}

abbrev pub texts : List (Bor (List ℕ)) → List (List ℕ)
texts listed = map (λ name. name.now) listed

module _ (test : List ℕ → Bool) (listed : List (Bor (List ℕ))) (i : ℕ) (d : Bor (List ℕ)) (lt : i < length listed) where
  pub found : test (get_or listed i d).now ≡ true → list_any test (texts (drop i listed)) ≡ true
  found here = rw (front_or listed i d lt, here) refl

  pub passed : test (get_or listed i d).now ≡ false
      → list_any test (texts (drop i listed)) ≡ list_any test (texts (drop (i + 1) listed))
  passed here = rw (front_or listed i d lt, here) refl
