-- Vectors: their counts and their parts.
use Rattle.std.proofs.Common.{◌≡◌, ℕ, ◌<◌, ◌≤◌, ◌^◌, List, [], ◌∷◌, length, get_or, ap, arith}
use Rattle.std.specs.Prelude.{flat_map}
use Rattle.std.specs.List.{AllByRecursion}
use Rattle.std.proofs.lemmas.List.{length-append}
use Rattle.std.proofs.lemmas.List.Folds.{length-flat_map-take}
use Rattle.leb_bytes.specs.Unsigned.{u32_bytes}
use Rattle.wasm_syntax.specs.Encoding.Shortest.{vector_bytes}

-- a vector has no more items than bytes, if no encoding is empty
pub count_le : {A : Type 0} (Fits : A → Type 0) (write : A → List ℕ) → ((x : A) → Fits x → 0 < length (write x))
    → (xs : List A) → AllByRecursion Fits xs → length xs ≤ length (flat_map write xs)
count_le Fits write some [] fits = omega arith
count_le Fits write some (x ∷ xs) fits =
    omega (arith, length-append (write x) (flat_map write xs), some x fits.0, count_le Fits write some xs fits.1)

-- an item has no more bytes than all items together
pub item_le : {A : Type 0} (write : A → List ℕ) (xs : List A) (i : ℕ) (x : A) → i < length xs → x ≡ get_or xs i x
    → length (write x) ≤ length (flat_map write xs)
item_le write xs i x within is = omega (arith, length-flat_map-take write xs i x within, ap (λ y. length (write y)) is)

-- that many items fit if their vector is short enough
pub count_fits : {A : Type 0} (Fits : A → Type 0) (write : A → List ℕ) → ((x : A) → Fits x → 0 < length (write x))
    → (xs : List A) → AllByRecursion Fits xs → length (vector_bytes write xs) < 2 ^ 32 → length xs < 2 ^ 32
count_fits Fits write some xs fits few =
    omega (arith, count_le Fits write some xs fits, length-append (u32_bytes (length xs)) (flat_map write xs))
