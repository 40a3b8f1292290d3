-- Lemmas on export names.
use Rattle.std.proofs.Common.{◌≡◌, ℕ, ◌+◌, ◌<◌, ◌≤◌, List, [], ◌∷◌, ◌++◌, length, take, drop, get_or, Bool, true, false, not, ◌&&◌, ◌||◌, refl, sym, ap, ◌∙◌}
use Rattle.std.specs.Prelude.{bytes_eq}
use Rattle.std.specs.List.{list_any, list_all}
use Rattle.std.specs.Ordering.{is_eq, nat_cmp, match_ordering}
use Rattle.std.specs.Cmp.Lexicographic.{slice_cmp}
use Rattle.std.specs.BTreeSet.{insert_key}
use Rattle.std.specs.declared.cmp.Ordering.{Ordering}
use Rattle.std.specs.declared.cmp.Ordering.TheVariants.{Less, Equal, Greater}
use Rattle.std.proofs.lemmas.Map.Text.{is_eq-slice_cmp}
use Rattle.std.proofs.lemmas.Slice.Eq.{bytes_eq-Decides}
use Rattle.std.proofs.lemmas.List.{take_more, drop_more, drop_all}
use Rattle.std.proofs.lemmas.List.Folds.{list_any-append}
use denote.Bor.{Bor}
use Rattle.base.proofs.Booleans.{same_tests}
use Rattle.wasm_syntax.specs.declared.modules.Export.{Export}
use Rattle.wasm_syntax.specs.ValidityTests.{names_differ}
use Rattle.wasm_validate.specs.Names.{exports_have, are_new_names}

-- ---- tests

or-last : (a b : Bool) → (a || b) ≡ (b || (a || false))
or-last true true = refl
or-last true false = refl
or-last false true = refl
or-last false false = refl

or-comm : (a b : Bool) → (a || b) ≡ (b || a)
or-comm true true = refl
or-comm true false = refl
or-comm false true = refl
or-comm false false = refl

-- ---- the set of names

pub has-name : (keys : List (Bor (List ℕ))) (name : List ℕ)
    → list_any (λ (k : Bor (List ℕ)). is_eq (slice_cmp nat_cmp name k.now)) keys ≡ list_any (λ (k : Bor (List ℕ)). bytes_eq name k.now) keys
has-name [] name = refl
has-name (k ∷ keys) name =
    ap (λ b. b || list_any (λ (k : Bor (List ℕ)). is_eq (slice_cmp nat_cmp name k.now)) keys)
    (is_eq-slice_cmp name k.now) ∙ ap (λ b. bytes_eq name k.now || b) (has-name keys name)

or-twice : (a b : Bool) → (a || b) ≡ (a || (a || b))
or-twice true b = refl
or-twice false b = refl

or-swap : (a b r : Bool) → (b || (a || r)) ≡ (a || (b || r))
or-swap true true r = refl
or-swap true false r = refl
or-swap false true r = refl
or-swap false false r = refl

inserted : (p : Bor (List ℕ) → Bool) (name x : Bor (List ℕ)) (xs rest : List (Bor (List ℕ))) (o : Ordering)
    → (o ≡ Equal → p name ≡ p x) → list_any p rest ≡ (p name || list_any p xs)
    → list_any p (match_ordering o (name ∷ x ∷ xs) (x ∷ xs) (x ∷ rest)) ≡ (p name || (p x || list_any p xs))
inserted p name x xs rest Less same h = refl
inserted p name x xs rest Equal same h = or-twice (p x) (list_any p xs) ∙ ap (λ b. b || (p x || list_any p xs)) (sym (same refl))
inserted p name x xs rest Greater same h = ap (λ b. p x || b) h ∙ or-swap (p name) (p x) (list_any p xs)

same-bytes : (name x : List ℕ) → slice_cmp nat_cmp name x ≡ Equal → name ≡ x
same-bytes name x e = (bytes_eq-Decides name x).0 (sym (is_eq-slice_cmp name x) ∙ ap is_eq e)

pub insert-known : (keys : List (Bor (List ℕ))) (name : Bor (List ℕ)) (other : List ℕ)
    → list_any (λ (k : Bor (List ℕ)). bytes_eq other k.now)
    (insert_key (λ (a b : Bor (List ℕ)). slice_cmp nat_cmp a.now b.now) keys name)
    ≡ (bytes_eq other name.now || list_any (λ (k : Bor (List ℕ)). bytes_eq other k.now) keys)
insert-known [] name other = refl
insert-known (x ∷ keys) name other =
    let p : Bor (List ℕ) → Bool = λ k. bytes_eq other k.now in
    inserted p name x keys (insert_key (λ (a b : Bor (List ℕ)). slice_cmp nat_cmp a.now b.now) keys name)
    (slice_cmp nat_cmp name.now x.now) (λ e. ap (bytes_eq other) (same-bytes name.now x.now e))
    (insert-known keys name other)

-- ---- names that are new

fresh-next : (exports : List Export) (i : ℕ) (e : Export) → i < length exports → e ≡ get_or exports i e
    → are_new_names (take i exports) (drop i exports)
    ≡ (not (exports_have (take i exports) e.name) && are_new_names (take (i + 1) exports) (drop (i + 1) exports))
fresh-next exports i e h is =
    ap (are_new_names (take i exports)) (drop_more exports i e h ∙ ap (λ (y : Export). y ∷ drop (i + 1) exports) (sym is))
    ∙ ap (λ l. not (exports_have (take i exports) e.name) && are_new_names l (drop (i + 1) exports))
    (ap (λ y. take i exports ++ y ∷ []) is ∙ sym (take_more exports i e h))

pub fresh-stops : (exports : List Export) (i : ℕ) (e : Export) (added : Bool) → i < length exports
    → e ≡ get_or exports i e → added ≡ not (exports_have (take i exports) e.name) → added ≡ false
    → false ≡ are_new_names (take i exports) (drop i exports)
fresh-stops exports i e added h is reported new =
    ap (λ b. b && are_new_names (take (i + 1) exports) (drop (i + 1) exports)) (sym new ∙ reported)
    ∙ sym (fresh-next exports i e h is)

pub fresh-ends : (exports : List Export) (i : ℕ) → length exports ≤ i
    → true ≡ are_new_names (take i exports) (drop i exports)
fresh-ends exports i h = ap (are_new_names (take i exports)) (sym (drop_all i exports h))

not-or : (a b : Bool) → not (a || b) ≡ (not a && not b)
not-or true b = refl
not-or false b = refl

and-cross : (a b x y : Bool) → ((a && b) && (x && y)) ≡ ((a && x) && (b && y))
and-cross true true x y = refl
and-cross true false true y = refl
and-cross true false false y = refl
and-cross false b x y = refl

and-shift : (a b c d : Bool) → (a && ((b && c) && d)) ≡ ((a && b) && (c && d))
and-shift true true c d = refl
and-shift true false c d = refl
and-shift false b c d = refl

bytes_eq-swap : (a b : List ℕ) → bytes_eq a b ≡ bytes_eq b a
bytes_eq-swap a b =
    same_tests (bytes_eq a b) (bytes_eq b a) (λ h. (bytes_eq-Decides b a).1 (sym ((bytes_eq-Decides a b).0 h)))
    (λ h. (bytes_eq-Decides a b).1 (sym ((bytes_eq-Decides b a).0 h)))

new-more : (done : List Export) (e : Export) (name : List ℕ)
    → not (exports_have (done ++ e ∷ []) name) ≡ (not (exports_have done name) && not (bytes_eq e.name name))
new-more done e name =
    ap not (list_any-append (λ (x : Export). bytes_eq name x.name) done (e ∷ []) ∙ sym
    (or-last (bytes_eq name e.name) (exports_have done name)) ∙ or-comm (bytes_eq name e.name) (exports_have done name))
    ∙ not-or (exports_have done name) (bytes_eq name e.name)
    ∙ ap (λ b. not (exports_have done name) && not b) (bytes_eq-swap name e.name)

all-new : (done : List Export) (e : Export) (rest : List Export)
    → list_all (λ (x : Export). not (exports_have (done ++ e ∷ []) x.name)) rest
    ≡ (list_all (λ (x : Export). not (exports_have done x.name)) rest
    && list_all (λ (x : Export). not (bytes_eq e.name x.name)) rest)
all-new done e [] = refl
all-new done e (x ∷ rest) =
    ap (λ b. b && list_all (λ (x : Export). not (exports_have (done ++ e ∷ []) x.name)) rest) (new-more done e x.name)
    ∙ ap (λ b. (not (exports_have done x.name) && not (bytes_eq e.name x.name)) && b) (all-new done e rest)
    ∙ and-cross (not (exports_have done x.name)) (not (bytes_eq e.name x.name))
    (list_all (λ (x : Export). not (exports_have done x.name)) rest)
    (list_all (λ (x : Export). not (bytes_eq e.name x.name)) rest)

fresh-differ : (done rest : List Export)
    → are_new_names done rest ≡ (list_all (λ (x : Export). not (exports_have done x.name)) rest && names_differ rest)
fresh-differ done [] = refl
fresh-differ done (e ∷ rest) =
    ap (λ b. not (exports_have done e.name) && b) (fresh-differ (done ++ e ∷ []) rest)
    ∙ ap (λ b. not (exports_have done e.name) && (b && names_differ rest)) (all-new done e rest)
    ∙ and-shift (not (exports_have done e.name)) (list_all (λ (x : Export). not (exports_have done x.name)) rest)
    (list_all (λ (x : Export). not (bytes_eq e.name x.name)) rest) (names_differ rest)

none-seen : (exports : List Export) → list_all (λ (x : Export). not (exports_have [] x.name)) exports ≡ true
none-seen [] = refl
none-seen (e ∷ exports) = none-seen exports

pub fresh-all : (exports : List Export) → are_new_names [] exports ≡ names_differ exports
fresh-all exports = fresh-differ [] exports ∙ ap (λ b. b && names_differ exports) (none-seen exports)
