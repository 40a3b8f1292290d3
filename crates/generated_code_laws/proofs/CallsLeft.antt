-- The lists of calls that remain of a tape.
use Rattle.std.proofs.Common.{◌≡◌, ℕ, zero, suc, ◌<◌, List, [], ◌∷◌, length, slice_set, replicate, refl, ap, arith}
use Rattle.std.specs.List.{slice_index_or}

-- ---- the number of lists of calls that remain

pub set_length : {X : Type 0} (xs : List X) (i : ℕ) (x : X) → length (slice_set xs i x) ≡ length xs
set_length [] i x = refl
set_length (y ∷ xs) zero x = refl
set_length (y ∷ xs) (suc i) x = ap suc (set_length xs i x)

pub replicate_length : {X : Type 0} (count : ℕ) (x : X) → length (replicate count x) ≡ count
replicate_length zero x = refl
replicate_length (suc count) x = ap suc (replicate_length count x)

pub none_replicated : {X : Type 0} (count i : ℕ) → slice_index_or (replicate {A = List X} count []) i [] ≡ []
none_replicated zero i = refl
none_replicated (suc count) zero = refl
none_replicated (suc count) (suc i) = none_replicated count i

-- ---- a list with one item set

pub set_is : {X : Type 0} (xs : List X) (i : ℕ) (x d : X) → i < length xs → slice_index_or (slice_set xs i x) i d ≡ x
set_is [] i x d below = absurd (omega (arith, below))
set_is (y ∷ xs) zero x d below = refl
set_is (y ∷ xs) (suc i) x d below = set_is xs i x d (omega (arith, below))

pub set_other : {X : Type 0} (xs : List X) (i j : ℕ) (x d : X) → (i ≡ j → ⊥)
    → slice_index_or (slice_set xs i x) j d ≡ slice_index_or xs j d
set_other [] i j x d differ = refl
set_other (y ∷ xs) zero zero x d differ = absurd (differ refl)
set_other (y ∷ xs) zero (suc j) x d differ = refl
set_other (y ∷ xs) (suc i) zero x d differ = refl
set_other (y ∷ xs) (suc i) (suc j) x d differ = set_other xs i j x d (λ e. differ (ap suc e))
