-- Passes over a list that stop at the first refusal.
use Rattle.std.proofs.Common.{◌≡◌, ℕ, ◌+◌, ◌<◌, List, [], ◌∷◌, ◌++◌, Option, Some, None, length, drop, get_or, refl, ap, sym, ◌∙◌, arith, add_assoc}
use Rattle.std.specs.Prelude.{filter_map, slice_get, option_to_list}
use Rattle.std.specs.List.{cons_option, enumerate_from}
use Rattle.std.proofs.lemmas.List.Elements.{filter_map-append}
use Rattle.base.proofs.Lists.{drop_at_item}
use Rattle.wasm_profile.specs.Answers.{refused_of_all}
use Rattle.wasm_syntax.specs.Index.{of_kind}
use Rattle.wasm_syntax.specs.Profile.{Refusal, refused_in}
use Rattle.wasm_syntax.specs.declared.modules.Func.{Func}
use Rattle.wasm_syntax.specs.declared.modules.Import.{Import}
use Rattle.wasm_syntax.specs.declared.modules.ImportKind.{ImportKind}

-- the first of a list
abbrev pub first : {A : Type 0} → List A → Option A
first xs = slice_get xs 0

-- ---- items with their places

pub place_next : {A : Type 0} (k : ℕ) (xs : List A) (i : ℕ) (x : A) → i < length xs → x ≡ get_or xs i x
    → enumerate_from (k + i) (drop i xs) ≡ (k + i, x) ∷ enumerate_from (k + (i + 1)) (drop (i + 1) xs)
place_next k xs i x within is =
    ap (enumerate_from (k + i)) (drop_at_item xs i x within is) ∙ ap (λ n. (k + i, x) ∷ enumerate_from n (drop (i + 1) xs)) (add_assoc k i 1)

-- ---- lists of refusals, one after another

pub first_of_front : (xs ys : List Refusal) (r : Refusal) → Some r ≡ first xs → Some r ≡ first (xs ++ ys)
first_of_front [] ys r is = cc
first_of_front (x ∷ xs) ys r is = is

pub none_first : (xs : List Refusal) → None ≡ first xs → xs ≡ []
none_first [] is = refl
none_first (x ∷ xs) is = cc

pub first_after : (xs ys : List Refusal) (o : Option Refusal) → None ≡ first xs → o ≡ first ys → o ≡ first (xs ++ ys)
first_after xs ys o none is = is ∙ ap (λ zs. first (zs ++ ys)) (sym (none_first xs none))

-- ---- functions with their indices

pub func_passed : (k : ℕ) (all : List Refusal) (xs : List Func) (i : ℕ) (x : Func)
    → all ≡ refused_of_all (enumerate_from (k + i) (drop i xs))
    → i < length xs → x ≡ get_or xs i x → None ≡ first (refused_in (k + i) x)
    → all ≡ refused_of_all (enumerate_from (k + (i + 1)) (drop (i + 1) xs))
func_passed k all xs i x so_far within is none =
    so_far ∙ ap refused_of_all (place_next k xs i x within is)
    ∙ ap (λ front. front ++ refused_of_all (enumerate_from (k + (i + 1)) (drop (i + 1) xs))) (none_first _ none)

pub func_found : (k : ℕ) (all : List Refusal) (xs : List Func) (i : ℕ) (x : Func) (r : Refusal)
    → all ≡ refused_of_all (enumerate_from (k + i) (drop i xs))
    → i < length xs → x ≡ get_or xs i x → Some r ≡ first (refused_in (k + i) x) → Some r ≡ first all
func_found k all xs i x r so_far within is some =
    first_of_front _ _ r some ∙ sym (ap first (so_far ∙ ap refused_of_all (place_next k xs i x within is)))

-- ---- how many imports are of a kind

counted : {K : Type 0} (o : Option K) (ks : List K) → length (cons_option o ks) ≡ length (option_to_list o) + length ks
counted None ks = omega arith
counted (Some k) ks = omega arith

pub count_next : {K : Type 0} (pick : ImportKind → Option K) (n total : ℕ) (xs : List Import) (i : ℕ) (x : Import)
    → total ≡ n + length (of_kind pick (drop i xs)) → i < length xs → x ≡ get_or xs i x
    → total ≡ (n + length (option_to_list (pick x.kind))) + length (of_kind pick (drop (i + 1) xs))
count_next pick n total xs i x so_far within is =
    omega (arith, so_far, ap (λ ys. length (of_kind pick ys)) (drop_at_item xs i x within is), counted (pick x.kind) (of_kind pick (drop (i + 1) xs)))

-- ---- what is picked of two lists, one after the other

pub picked_of_front : {A : Type 0} (h : A → Option Refusal) (xs ys : List A) (r : Refusal)
    → Some r ≡ first (filter_map h xs)
    → Some r ≡ first (filter_map h (xs ++ ys))
picked_of_front h xs ys r is = first_of_front _ (filter_map h ys) r is ∙ ap first (sym (filter_map-append h xs ys))

pub picked_after : {A : Type 0} (h : A → Option Refusal) (xs ys : List A) (o : Option Refusal)
    → None ≡ first (filter_map h xs)
    → o ≡ first (filter_map h ys) → o ≡ first (filter_map h (xs ++ ys))
picked_after h xs ys o none is = first_after (filter_map h xs) (filter_map h ys) o none is ∙ ap first (sym (filter_map-append h xs ys))
