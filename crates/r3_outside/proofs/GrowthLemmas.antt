-- How growth of a sink's bytes composes over several writes.
use Rattle.std.proofs.Common.{◌≡◌, ℕ, zero, suc, ◌+◌, ◌<◌, List, [], ◌∷◌, ◌++◌, length, get_or, take, drop, refl, sym, ◌∙◌, ap, subst, append_assoc, arith, Option, Some, None, Result, Ok, Err, OnErr}
use Rattle.std.specs.List.{flat_map}
use Rattle.std.proofs.Math.Seq.{take-add}
use Rattle.std.proofs.lemmas.List.{take-append-drop}
use Rattle.r3_outside.specs.Growth.{Grew, GrewByPrefix}

-- two growths are one by both lists
pub Grew-append : (before between now : Option (List ℕ)) (xs ys : List ℕ) → Grew before between xs
    → Grew between now ys → Grew before now (xs ++ ys)
Grew-append before between None xs ys p q = tt
Grew-append before None (Some now) xs ys p q = absurd q
Grew-append None (Some between) (Some now) xs ys p q = absurd p
Grew-append (Some before) (Some between) (Some now) xs ys p q = q ∙ ap (λ l. l ++ ys) p ∙ append_assoc before xs ys

-- a growth by a list, then one by a first part of what follows
pub GrewByPrefix-after : (before between now : Option (List ℕ)) (xs ys : List ℕ) → Grew before between xs
    → GrewByPrefix between now ys → GrewByPrefix before now (xs ++ ys)
GrewByPrefix-after before between now xs ys p q = record {
  prefix = xs ++ q.prefix;
  rest = q.rest;
  whole = append_assoc xs q.prefix q.rest ∙ ap (λ l. xs ++ l) q.whole;
  grew = Grew-append before between now xs q.prefix p q.grew;
}

-- a growth by a first part, of a longer list too
pub GrewByPrefix-longer : (before now : Option (List ℕ)) (xs ys : List ℕ) → GrewByPrefix before now xs
    → GrewByPrefix before now (xs ++ ys)
GrewByPrefix-longer before now xs ys p = record {
  prefix = p.prefix;
  rest = p.rest ++ ys;
  whole = sym (append_assoc p.prefix p.rest ys) ∙ ap (λ l. l ++ ys) p.whole;
  grew = p.grew;
}

-- one more write, of the first `count` bytes after those that are written
pub Grew-more : (before between now : Option (List ℕ)) (bytes : List ℕ) (done count : ℕ)
    → Grew before between (take done bytes) → Grew between now (take count (drop done bytes))
    → Grew before now (take (done + count) bytes)
Grew-more before between now bytes done count p q =
    subst (Grew before now) (sym (take-add done count bytes))
    (Grew-append before between now (take done bytes) (take count (drop done bytes)) p q)

-- a write that failed leaves the first part that was written before it
pub GrewByPrefix-failed : (before between now : Option (List ℕ)) (bytes : List ℕ) (done : ℕ)
    → Grew before between (take done bytes) → now ≡ between → GrewByPrefix before now bytes
GrewByPrefix-failed before between now bytes done p same = record {
  prefix = take done bytes;
  rest = drop done bytes;
  whole = take-append-drop done bytes;
  grew = subst (λ known. Grew before known (take done bytes)) (sym same) p;
}

-- what holds of any outcome, at an error
pub OnErr-always : {T E P : Type 0} (r : Result T E) → P → OnErr r P
OnErr-always (Ok x) p = tt
OnErr-always (Err e) p = p

-- what all parts give: the parts before one, that one, and those after it
pub flat_map-split : {X : Type 0} (f : X → List ℕ) (xs : List X) (i : ℕ) (d : X) → i < length xs
    → (flat_map f (take i xs) ++ f (get_or xs i d)) ++ flat_map f (drop (suc i) xs) ≡ flat_map f xs
flat_map-split f [] i d h = absurd (omega arith)
flat_map-split f (x ∷ xs) zero d h = refl
flat_map-split f (x ∷ xs) (suc i) d h =
    let before = flat_map f (take i xs) in
    let part = f (get_or xs i d) in
    ap (λ l. l ++ flat_map f (drop (suc i) xs)) (append_assoc (f x) before part)
    ∙ append_assoc (f x) (before ++ part) (flat_map f (drop (suc i) xs))
    ∙ ap (λ l. f x ++ l) (flat_map-split f xs i d (omega arith))

-- a part that was written by its first bytes, after those that were written whole
pub GrewByPrefix-parts : {X : Type 0} (f : X → List ℕ) (xs : List X) (i : ℕ) (d : X)
    (before between now : Option (List ℕ))
    → i < length xs → Grew before between (flat_map f (take i xs)) → GrewByPrefix between now (f (get_or xs i d))
    → GrewByPrefix before now (flat_map f xs)
GrewByPrefix-parts f xs i d before between now h p q =
    subst (GrewByPrefix before now) (flat_map-split f xs i d h)
    (GrewByPrefix-longer before now (flat_map f (take i xs) ++ f (get_or xs i d)) (flat_map f (drop (suc i) xs))
    (GrewByPrefix-after before between now (flat_map f (take i xs)) (f (get_or xs i d)) p q))
