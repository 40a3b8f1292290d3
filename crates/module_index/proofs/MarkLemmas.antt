-- Lemmas on marks.
use Rattle.std.proofs.Common.{◌≡◌, ℕ, ◌+◌, ◌<◌, ◌≤◌, List, [], ◌∷◌, ◌++◌, length, take, get_or, replicate, Option, Bool, false, refl, sym, ap, ◌∙◌, append_assoc}
use Rattle.std.specs.Prelude.{filter_map, flat_map}
use Rattle.std.specs.List.{cons_option}
use Rattle.std.proofs.lemmas.List.{take_more, take_all, flat_map_more, length-replicate, get_or-replicate}
use Rattle.module_index.specs.Marks.{AreMarks}
use Rattle.wasm_syntax.proofs.JoinedLists.{cons_front}

-- one more element
pub done-more : {A : Type 0} (done xs : List A) (i : ℕ) (d : A) → i < length xs
    → (done ++ take i xs) ++ get_or xs i d ∷ [] ≡ done ++ take (i + 1) xs
done-more done xs i d h = append_assoc done (take i xs) (get_or xs i d ∷ []) ∙ ap (λ l. done ++ l) (sym (take_more xs i d h))

pub done-all : {A : Type 0} (done xs : List A) (i : ℕ) → length xs ≤ i → done ++ take i xs ≡ done ++ xs
done-all done xs i h = ap (λ l. done ++ l) (take_all i xs h)

pub flat-more : {A : Type 0} (f : A → List ℕ) (done : List ℕ) (xs : List A) (i : ℕ) (x : A) → i < length xs
    → x ≡ get_or xs i x → (done ++ flat_map f (take i xs)) ++ f x ≡ done ++ flat_map f (take (i + 1) xs)
flat-more f done xs i x h is =
    flat_map_more f done (take i xs) x ∙ ap (λ l. done ++ flat_map f l) (ap (λ y. take i xs ++ y ∷ []) is ∙ sym (take_more xs i x h))

filter_map-push : {A B : Type 0} (f : A → Option B) (xs : List A) (x : A)
    → filter_map f (xs ++ x ∷ []) ≡ filter_map f xs ++ cons_option (f x) []
filter_map-push f [] x = refl
filter_map-push f (y ∷ xs) x = ap (cons_option (f y)) (filter_map-push f xs x) ∙ cons_front (f y) (filter_map f xs) (cons_option (f x) [])

pub picked-more : {A B : Type 0} (f : A → Option B) (done : List B) (xs : List A) (i : ℕ) (x : A) → i < length xs
    → x ≡ get_or xs i x
    → (done ++ filter_map f (take i xs)) ++ cons_option (f x) [] ≡ done ++ filter_map f (take (i + 1) xs)
picked-more f done xs i x h is =
    append_assoc done (filter_map f (take i xs)) (cons_option (f x) [])
    ∙ ap (λ l. done ++ l) (sym (filter_map-push f (take i xs) x) ∙ ap (filter_map f) (ap (λ y. take i xs ++ y ∷ []) is ∙ sym (take_more xs i x h)))

pub none-marked : (count : ℕ) (marks : List Bool) → marks ≡ replicate count false → AreMarks marks count []
none-marked count marks e = record {
  many = ap length e ∙ length-replicate count false;
  each = λ f lt. ap (λ l. get_or l f false) e ∙ get_or-replicate count f false false lt;
}
