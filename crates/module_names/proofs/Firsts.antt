-- An index of names, filled by a loop: the first value under each name stays.
use Rattle.std.proofs.Common.{◌≡◌, ℕ, ◌+◌, ◌<◌, List, length, drop, get_or, Option, Some, None, option_map, is_some, cond, Bool, true, false, refl}
use Rattle.std.specs.Prelude.{find}
use Rattle.std.specs.Option.{option_or}
use Rattle.base.proofs.Lists.{drop_at_item}

module _ {X V Q : Type 0} (value : X → V) (test : Q → X → Bool) where
  -- what the first item gives that passes the test
  abbrev pub first_in : List X → Q → Option V
  first_in xs q = option_map value (find (test q) xs)

  -- an item that passes a test only if its value is known already
  pub passed : (L : Q → Option V) (xs : List X) (i : ℕ) (x : X) → i < length xs → x ≡ get_or xs i x
      → ((q : Q) → test q x ≡ true → is_some (L q) ≡ true)
      → (q : Q) → option_or (L q) (first_in (drop i xs) q) ≡ option_or (L q) (first_in (drop (i + 1) xs) q)
  passed L xs i x lt is there q = rw (drop_at_item xs i x lt is) (by (test q x) (L q) (there q))
    where
      by : (b : Bool) (l : Option V) → (b ≡ true → is_some l ≡ true)
          → option_or l (option_map value (cond b (Some x) (find (test q) (drop (i + 1) xs))))
          ≡ option_or l (option_map value (find (test q) (drop (i + 1) xs)))
      by b (Some v) h = refl
      by true None h = cc (h refl)
      by false None h = refl

  -- an item whose names are new
  pub added : (L M : Q → Option V) (xs : List X) (i : ℕ) (x : X) → i < length xs → x ≡ get_or xs i x
      → ((q : Q) → test q x ≡ true → L q ≡ None)
      → ((q : Q) → M q ≡ cond (test q x) (Some (value x)) (L q))
      → (q : Q) → option_or (M q) (first_in (drop (i + 1) xs) q) ≡ option_or (L q) (first_in (drop i xs) q)
  added L M xs i x lt is none new q = rw (drop_at_item xs i x lt is, new q) (by (test q x) (L q) (none q))
    where
      by : (b : Bool) (l : Option V) → (b ≡ true → l ≡ None)
          → option_or (cond b (Some (value x)) l) (option_map value (find (test q) (drop (i + 1) xs)))
          ≡ option_or l (option_map value (cond b (Some x) (find (test q) (drop (i + 1) xs))))
      by true l h = rw (h refl) refl
      by false l h = refl
