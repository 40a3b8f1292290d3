-- The number of bytes of the shortest encodings of numbers.
use Rattle.std.proofs.Common.{◌≡◌, ℕ, zero, suc, ◌+◌, ◌-◌, ◌/◌, ◌%◌, ◌<◌, ◌≤◌, ◌^◌, Bool, true, false, List, [], ◌∷◌, length, refl, ap, inl, inr, arith}
use Rattle.std.specs.Prelude.{ℤ, pos, negsuc, nat_lt, if◌then◌else◌}
use Rattle.std.proofs.lemmas.Bool.{cases_lt}
use Rattle.std.proofs.lemmas.Bool.Decides.{nat_tests}
use Rattle.leb_bytes.specs.Signed.{low_bits, high_bits, signed_bytes, s64_bytes}
use Rattle.leb_bytes.specs.Unsigned.{unsigned_bytes, u32_bytes}
use Rattle.wasm_encode.specs.Lengths.{byte_count, magnitude}

-- ---- the count

count_ends : (more last n : ℕ) → n < last → byte_count more last n ≡ 1
count_ends zero last n small = refl
count_ends (suc more) last n small = grind (arith, nat_tests)

count_grows : (more last n : ℕ) → last ≤ n → byte_count (suc more) last n ≡ suc (byte_count more last (n / 2 ^ 7))
count_grows more last n large = grind (arith, nat_tests)

pub count_most : (more last n : ℕ) → byte_count more last n ≤ suc more
count_most zero last n = omega arith
count_most (suc more) last n = elim (cases_lt n last) [
  | inl small ↦ omega (arith, count_ends (suc more) last n small)
  | inr large ↦ omega (arith, count_grows more last n large, count_most more last (n / 2 ^ 7))
]

-- one byte more, if a number does not end with this byte and there may be another
pub count_next : (count most last left all : ℕ) → count < most → last ≤ left
    → count + byte_count (most - count) last left ≡ all
    → (count + 1) + byte_count (most - (count + 1)) last (left / 2 ^ 7) ≡ all
count_next count most last left all room large so_far =
    let one : most - count ≡ suc (most - (count + 1)) = omega arith in
    let grows = count_grows (most - (count + 1)) last left large in
    let before : count + byte_count (suc (most - (count + 1))) last left ≡ all = rw one at so_far in
    omega (arith, grows, before)

-- ---- numbers

-- the count of one byte, or of one byte before others
counted : (is_last : Bool) (last first : ℕ) (rest : List ℕ) (count : ℕ) → length rest ≡ count
    → length (if is_last then last ∷ [] else (first ∷ rest)) ≡ (if is_last then 1 else suc count)
counted true last first rest count is = refl
counted false last first rest count is = ap suc is

unsigned_count : (more n : ℕ) → length (unsigned_bytes more n) ≡ byte_count more (2 ^ 7) n
unfolding unsigned_bytes
unsigned_count zero n = refl
unsigned_count (suc more) n =
    counted (nat_lt n (2 ^ 7)) n (n % 2 ^ 7 + 2 ^ 7) (unsigned_bytes more (n / 2 ^ 7))
    (byte_count more (2 ^ 7) (n / 2 ^ 7)) (unsigned_count more (n / 2 ^ 7))

pub u32_count : (n : ℕ) → length (u32_bytes n) ≡ byte_count 4 (2 ^ 7) n
unfolding u32_bytes
u32_count n = unsigned_count 4 n

-- a signed number by what it has besides its sign
signed_count : (more : ℕ) (z : ℤ) → length (signed_bytes more z) ≡ byte_count more (2 ^ 6) (magnitude z)
unfolding signed_bytes
signed_count zero z = refl
signed_count (suc more) (pos n) =
    counted (nat_lt n (2 ^ 6)) (low_bits (pos n)) (low_bits (pos n) + 2 ^ 7) (signed_bytes more (high_bits (pos n)))
    (byte_count more (2 ^ 6) (n / 2 ^ 7)) (signed_count more (high_bits (pos n)))
signed_count (suc more) (negsuc n) =
    counted (nat_lt n (2 ^ 6)) (low_bits (negsuc n)) (low_bits (negsuc n) + 2 ^ 7)
    (signed_bytes more (high_bits (negsuc n))) (byte_count more (2 ^ 6) (n / 2 ^ 7))
    (signed_count more (high_bits (negsuc n)))

pub s64_count : (z : ℤ) → length (s64_bytes z) ≡ byte_count 9 (2 ^ 6) (magnitude z)
unfolding s64_bytes
s64_count z = signed_count 9 z
