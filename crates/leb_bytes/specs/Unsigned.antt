-- Unsigned numbers in LEB128 (Core 1.0, 5.2.2).
use Rattle.std.specs.Prelude.{◌≡◌, ℕ, zero, suc, ◌+◌, ◌-◌, ◌*◌, ◌/◌, ◌%◌, ◌^◌, ◌<◌, ◌≤◌, List, [], ◌∷◌, Option, Some, None, ◌&&◌, nat_lt, if◌then◌else◌}
use Rattle.std.specs.Option.{option_map}

-- The bytes encode the unsigned number of `width` bits. A byte below 2^7 is the last; one from 2^7 on has the low
-- seven bits, and the bytes after it encode the rest.
abbrev pub EncodesUnsigned : ℕ → List ℕ → ℕ → Type 0
EncodesUnsigned width [] n = ⊥
EncodesUnsigned width (b ∷ []) n = (b < 2 ^ 7) × (b < 2 ^ width) × (n ≡ b)
EncodesUnsigned width (b ∷ c ∷ bytes) n =
    (2 ^ 7 ≤ b) × (b < 2 ^ 8) × (7 < width)
    × (m : ℕ) × EncodesUnsigned (width - 7) (c ∷ bytes) m × (n ≡ 2 ^ 7 * m + (b - 2 ^ 7))

-- the unsigned number that a front of the bytes encodes, and the bytes after it
abbrev pub first_unsigned : ℕ → List ℕ → Option (ℕ × List ℕ)
first_unsigned width [] = None
first_unsigned width (b ∷ bytes) =
    if nat_lt b (2 ^ 7) then (if nat_lt b (2 ^ width) then Some (b, bytes) else None)
    else (if nat_lt b (2 ^ 8) && nat_lt 7 width
    then option_map (λ high. (2 ^ 7 * high.0 + (b - 2 ^ 7), high.1)) (first_unsigned (width - 7) bytes)
    else None)

-- the shortest encoding of an unsigned number, for which a byte and `more` others are enough
unfoldable pub unsigned_bytes : ℕ → ℕ → List ℕ
unsigned_bytes zero n = n ∷ []
unsigned_bytes (suc more) n =
    if nat_lt n (2 ^ 7) then n ∷ [] else (n % 2 ^ 7 + 2 ^ 7) ∷ unsigned_bytes more (n / 2 ^ 7)

-- ---- 32 bits, in at most five bytes

-- the bytes encode the u32
pub record EncodesU32 (bytes : List ℕ) (n : ℕ) : Type 0 where
  pub unsigned : EncodesUnsigned 32 bytes n

-- the u32 that a front of the bytes encodes, and the bytes after it
unfoldable pub first_u32 : List ℕ → Option (ℕ × List ℕ)
first_u32 bytes = first_unsigned 32 bytes

-- the shortest encoding of a u32
unfoldable pub u32_bytes : ℕ → List ℕ
u32_bytes n = unsigned_bytes 4 n
