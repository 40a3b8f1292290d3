-- Items at a place, and entries of a table, whose functions have other numbers.
use Rattle.std.proofs.Common.{◌≡◌, ℕ, zero, suc, ◌+◌, List, [], ◌∷◌, ◌++◌, length, map, take, drop, Some, None, option_map, replicate, refl, sym, ap, ◌∙◌}
use Rattle.std.proofs.lemmas.List.{length-map, map-append, take-map, drop-map}
use Rattle.history_spec.specs.Store.{with_items_at}

pub items_mapped : {X Y : Type 0} (f : X → Y) (xs : List X) (at : ℕ) (news : List X)
    → with_items_at (map f xs) at (map f news) ≡ map f (with_items_at xs at news)
items_mapped f xs at news =
    let front = take-map f at xs in
    let back : drop (at + length (map f news)) (map f xs) ≡ map f (drop (at + length news) xs) =
    ap (λ n. drop (at + n) (map f xs)) (length-map news f) ∙ drop-map f (at + length news) xs in
    (λ i. front i ++ (map f news ++ back i))
    ∙ ap (λ ys. map f (take at xs) ++ ys) (sym (map-append f news (drop (at + length news) xs)))
    ∙ sym (map-append f (take at xs) (news ++ drop (at + length news) xs))

pub empty_kept : (to : ℕ → ℕ) (count : ℕ) → replicate count None ≡ map (option_map to) (replicate count None)
empty_kept to zero = refl
empty_kept to (suc count) = ap (λ entries. None ∷ entries) (empty_kept to count)

pub entries_of : (to : ℕ → ℕ) (funcs : List ℕ)
    → map (λ func. Some func) (map to funcs) ≡ map (option_map to) (map (λ func. Some func) funcs)
entries_of to [] = refl
entries_of to (func ∷ funcs) = ap (λ entries. Some (to func) ∷ entries) (entries_of to funcs)
