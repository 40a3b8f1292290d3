-- Laws on groups of calls.
use Rattle.std.proofs.Common.{◌≡◌, ◌∙◌, refl, ap, sym, append_assoc, ℕ, ◌+◌, ◌-◌, min, List, [], ◌∷◌, ◌++◌, length, map, take, drop, length-drop, arith}
use Rattle.std.specs.List.{range_with_len}
use Rattle.std.proofs.Math.Seq.{take-length}
use Rattle.std.proofs.lemmas.List.{take_min}
use Rattle.std.proofs.lemmas.List.FromFn.{map-range_with_len_more}

-- at most `size` items from a place on, as far as the list has them
pub part_from : {X : Type 0} (size : ℕ) (xs : List X) (at count : ℕ)
    → count ≡ min size (length (take (length xs - at) (drop at xs)))
    → take count (take (length xs - at) (drop at xs)) ≡ take size (drop at xs)
part_from size xs at count is =
    let rest-is : take (length xs - at) (drop at xs) ≡ drop at xs = rw (← length-drop at xs) (take-length (drop at xs)) in
    ap (λ k. take k (take (length xs - at) (drop at xs))) is
    ∙ (take_min size (take (length xs - at) (drop at xs)) ∙ ap (take size) rest-is)

-- a map over a range with one more number
pub made_more : {X : Type 0} (f : ℕ → X) (n : ℕ) (start before now : List X) (x : X)
    → before ≡ start ++ map f (range_with_len 0 n) → now ≡ before ++ x ∷ [] → x ≡ f n
    → now ≡ start ++ map f (range_with_len 0 (n + 1))
made_more f n start before now x invariant written is =
    written ∙ (ap (λ l. l ++ x ∷ []) invariant ∙ (append_assoc start (map f (range_with_len 0 n)) (x ∷ [])
    ∙ (ap (λ y. start ++ (map f (range_with_len 0 n) ++ y ∷ [])) is
    ∙ ap (λ l. start ++ l) (sym (map-range_with_len_more f 0 n n (omega arith))))))

-- a map after a map is a map
pub map_twice : {X Y Z : Type 0} (g : Y → Z) (f : X → Y) (xs : List X) → map (λ x. g (f x)) xs ≡ map g (map f xs)
map_twice g f [] = refl
map_twice g f (x ∷ xs) = ap (λ l. g (f x) ∷ l) (map_twice g f xs)
