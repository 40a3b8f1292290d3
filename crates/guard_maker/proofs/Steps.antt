-- Laws on code that is appended piece by piece.
use Rattle.std.proofs.Common.{◌≡◌, ◌∙◌, refl, ap, sym, append_assoc, ℕ, zero, suc, ◌+◌, List, [], ◌∷◌, ◌++◌, length, map, replicate}
use Rattle.std.specs.List.{range_with_len}
use Rattle.std.proofs.lemmas.List.FromFn.{map-range_with_len_more}

-- a map over a range with one more number
pub mapped_more : {X : Type 0} (f : ℕ → X) (first n : ℕ) (start before now : List X)
    → before ≡ start ++ map f (range_with_len first n) → now ≡ before ++ f (first + n) ∷ []
    → now ≡ start ++ map f (range_with_len first (n + 1))
mapped_more f first n start before now invariant written =
    written ∙ ap (λ l. l ++ f (first + n) ∷ []) invariant
    ∙ append_assoc start (map f (range_with_len first n)) (f (first + n) ∷ [])
    ∙ ap (λ l. start ++ l) (sym (map-range_with_len_more f first n (first + n) refl))

-- the same item for each of a list
pub same_for_each : {X Y : Type 0} (y : Y) (xs : List X) → replicate (length xs) y ≡ map (λ (x : X). y) xs
same_for_each y [] = refl
same_for_each y (x ∷ xs) = ap (λ l. y ∷ l) (same_for_each y xs)

-- functions that are appended in five steps
pub own_parts : {X : Type 0} (old one two three four now : List X) (start check next : X) (digests groups : List X)
    → one ≡ old ++ start ∷ [] → two ≡ one ++ digests → three ≡ two ++ check ∷ [] → four ≡ three ++ next ∷ []
    → now ≡ four ++ groups → now ≡ old ++ start ∷ (digests ++ check ∷ next ∷ groups)
own_parts old one two three four now start check next digests groups a b c d e =
    e
    ∙ ap (λ l. l ++ groups) (d ∙ ap (λ l. l ++ next ∷ []) (c ∙ ap (λ l. l ++ check ∷ []) (b ∙ ap (λ l. l ++ digests) a)))
    ∙ append_assoc (((old ++ start ∷ []) ++ digests) ++ check ∷ []) (next ∷ []) groups
    ∙ append_assoc ((old ++ start ∷ []) ++ digests) (check ∷ []) (next ∷ groups)
    ∙ append_assoc (old ++ start ∷ []) digests (check ∷ next ∷ groups)
    ∙ append_assoc old (start ∷ []) (digests ++ check ∷ next ∷ groups)
