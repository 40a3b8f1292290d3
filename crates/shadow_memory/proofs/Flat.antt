-- Lists of one length, one after another.
use Rattle.std.proofs.Common.{◌≡◌, ℕ, zero, suc, ◌+◌, ◌*◌, ◌<◌, List, [], ◌∷◌, ◌++◌, length, slice_index, sym, ap, ◌∙◌, arith}
use Rattle.std.specs.Prelude.{slice_index_or}
use Rattle.std.specs.List.{flat_map}
use Rattle.std.proofs.lemmas.List.{get_or_append_left, get_or-append-add}

-- an item of the joined lists, by its list and its place in it; it is zero past the end
pub flat_item : {X : Type 0} (f : X → List ℕ) (n : ℕ) (d : X) (xs : List X) (i k : ℕ)
    → ((j : ℕ) → j < length xs → length (f (slice_index_or xs j d)) ≡ n) → slice_index (f d) k ≡ 0 → k < n
    → slice_index (flat_map f xs) (i * n + k) ≡ slice_index (f (slice_index_or xs i d)) k
flat_item f n d [] i k whole none below = sym none
flat_item f n d (x ∷ xs) zero k whole none below =
    let size : length (f x) ≡ n = whole 0 (omega arith) in
    let e : zero * n + k ≡ k = grind arith in
    ap (slice_index (f x ++ flat_map f xs)) e ∙ get_or_append_left (f x) (flat_map f xs) 0 k (omega (arith, size))
flat_item f n d (x ∷ xs) (suc i) k whole none below =
    let size : length (f x) ≡ n = whole 0 (omega arith) in
    let e : suc i * n + k ≡ length (f x) + (i * n + k) = grind (arith, size) in
    ap (slice_index (f x ++ flat_map f xs)) e
    ∙ (get_or-append-add (f x) (flat_map f xs) (i * n + k) 0
    ∙ flat_item f n d xs i k (λ j h. whole (suc j) (omega (arith, h))) none below)
