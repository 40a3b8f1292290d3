-- A list that is kept as the image of another.
use Rattle.std.proofs.Common.{◌≡◌, ℕ, ◌<◌, List, length, map, get_or, slice_set, ap, sym, ◌∙◌, arith}
use Rattle.std.proofs.lemmas.List.{get_or_read, get_or-map, map-set, length-map}

-- an item that was read, as an item of the image
pub read_mapped : {X Y : Type 0} (f : X → Y) (xs : List X) (ys : List Y) (i : ℕ) (x : X) (d : Y) → map f xs ≡ ys
    → i < length ys → x ≡ get_or xs i x → f x ≡ get_or ys i d
read_mapped f xs ys i x d image within read =
    let below : i < length xs = omega (arith, length-map xs f, ap length image) in
    ap f (get_or_read xs i x below read x) ∙ (sym (get_or-map f xs i x d below) ∙ ap (λ zs. get_or zs i d) image)

-- an item that is written, as an item of the image
pub written_mapped : {X Y : Type 0} (f : X → Y) (xs : List X) (ys : List Y) (i : ℕ) (x : X) → map f xs ≡ ys
    → map f (slice_set xs i x) ≡ slice_set ys i (f x)
written_mapped f xs ys i x image = map-set f xs i x ∙ ap (λ zs. slice_set zs i (f x)) image
