-- Signed numbers in LEB128, and integers by their bits (Core 1.0, 5.2.2).
use Rattle.std.specs.Prelude.{◌≡◌, ℕ, zero, suc, ◌+◌, ◌-◌, ◌/◌, ◌%◌, ◌^◌, ◌<◌, ◌≤◌, ◌⊎◌, List, [], ◌∷◌, Option, Some, None, ◌&&◌, Bool, nat_lt, nat_le, if◌then◌else◌, ℤ, pos, negsuc, ◌+ℤ◌, ◌-ℤ◌, ◌*ℤ◌}
use Rattle.std.specs.Option.{option_map}
use Rattle.std.specs.Int.{Width, w32, w64, cast_signed, cast_unsigned}
use mir.Val.{bits}

-- The bytes encode the signed number of `width` bits. A byte below 2^7 is the last, and its seventh bit is the sign;
-- one from 2^7 on has the low seven bits, and the bytes after it encode the rest.
abbrev pub EncodesSigned : ℕ → List ℕ → ℤ → Type 0
EncodesSigned width [] z = ⊥
EncodesSigned width (b ∷ []) z =
    ((b < 2 ^ 6) × (b < 2 ^ (width - 1)) × (z ≡ pos b))
    ⊎ ((2 ^ 6 ≤ b) × (b < 2 ^ 7) × (2 ^ 7 ≤ b + 2 ^ (width - 1)) × (z ≡ pos b -ℤ pos (2 ^ 7)))
EncodesSigned width (b ∷ c ∷ bytes) z =
    (2 ^ 7 ≤ b) × (b < 2 ^ 8) × (7 < width)
    × (m : ℤ) × EncodesSigned (width - 7) (c ∷ bytes) m × (z ≡ pos (2 ^ 7) *ℤ m +ℤ pos (b - 2 ^ 7))

-- the signed number that a front of the bytes encodes, and the bytes after it
abbrev pub first_signed : ℕ → List ℕ → Option (ℤ × List ℕ)
first_signed width [] = None
first_signed width (b ∷ bytes) =
    if nat_lt b (2 ^ 6) then (if nat_lt b (2 ^ (width - 1)) then Some (pos b, bytes) else None)
    else (if nat_lt b (2 ^ 7)
    then (if nat_le (2 ^ 7) (b + 2 ^ (width - 1)) then Some (pos b -ℤ pos (2 ^ 7), bytes) else None)
    else (if nat_lt b (2 ^ 8) && nat_lt 7 width
    then option_map (λ high. (pos (2 ^ 7) *ℤ high.0 +ℤ pos (b - 2 ^ 7), high.1)) (first_signed (width - 7) bytes)
    else None))

-- the low seven bits of a number in two's complement, the number without them, and whether seven bits have it whole
abbrev pub low_bits : ℤ → ℕ
low_bits (pos n) = n % 2 ^ 7
low_bits (negsuc n) = 2 ^ 7 - suc (n % 2 ^ 7)

abbrev pub high_bits : ℤ → ℤ
high_bits (pos n) = pos (n / 2 ^ 7)
high_bits (negsuc n) = negsuc (n / 2 ^ 7)

abbrev pub fits_seven_bits : ℤ → Bool
fits_seven_bits (pos n) = nat_lt n (2 ^ 6)
fits_seven_bits (negsuc n) = nat_lt n (2 ^ 6)

-- the shortest encoding of a signed number, for which a byte and `more` others are enough
unfoldable pub signed_bytes : ℕ → ℤ → List ℕ
signed_bytes zero z = low_bits z ∷ []
signed_bytes (suc more) z =
    if fits_seven_bits z then low_bits z ∷ [] else (low_bits z + 2 ^ 7) ∷ signed_bytes more (high_bits z)

-- ---- numbers of 32 bits, in at most five bytes, and of 64, in at most ten

-- the bytes encode the signed number of the width
pub record EncodesIn (w : Width) (bytes : List ℕ) (z : ℤ) : Type 0 where
  pub signed : EncodesSigned (bits w) bytes z

-- the bytes encode the integer with these bits, as the signed number that they are in two's complement
pub record EncodesBits (w : Width) (bytes : List ℕ) (n : ℕ) : Type 0 where
  pub in_range : n < 2 ^ bits w
  pub signed : EncodesIn w bytes (cast_signed w n)

-- s32 and s64
abbrev pub EncodesS32 : List ℕ → ℤ → Type 0
EncodesS32 = EncodesIn w32

-- the bytes encode the s64 (Core 1.0, 5.2.2)
abbrev pub EncodesS64 : List ℕ → ℤ → Type 0
EncodesS64 = EncodesIn w64

-- i32 and i64, by their bits
abbrev pub EncodesI32 : List ℕ → ℕ → Type 0
EncodesI32 = EncodesBits w32

-- the bytes encode the i64 with these bits (Core 1.0, 5.2.2)
abbrev pub EncodesI64 : List ℕ → ℕ → Type 0
EncodesI64 = EncodesBits w64

-- the s32, and the s64, that a front of the bytes encodes, and the bytes after it
unfoldable pub first_s32 : List ℕ → Option (ℤ × List ℕ)
first_s32 bytes = first_signed 32 bytes

-- the s64 that a front of the bytes encodes, and the bytes after it (Core 1.0, 5.2.2)
unfoldable pub first_s64 : List ℕ → Option (ℤ × List ℕ)
first_s64 bytes = first_signed 64 bytes

-- the bits of the i32, and of the i64, that a front of the bytes encodes, and the bytes after it
unfoldable pub first_i32 : List ℕ → Option (ℕ × List ℕ)
first_i32 bytes = option_map (λ read. (cast_unsigned w32 read.0, read.1)) (first_s32 bytes)

-- the bits of the i64 that a front of the bytes encodes, and the bytes after it (Core 1.0, 5.2.2)
unfoldable pub first_i64 : List ℕ → Option (ℕ × List ℕ)
first_i64 bytes = option_map (λ read. (cast_unsigned w64 read.0, read.1)) (first_s64 bytes)

-- ---- the shortest encodings, of 32 and of 64 bits alike

-- the shortest encoding of an s64, or of an s32 (Core 1.0, 5.2.2)
unfoldable pub s64_bytes : ℤ → List ℕ
s64_bytes z = signed_bytes 9 z

-- the shortest encoding of the i32 with these bits (Core 1.0, 5.2.2)
unfoldable pub i32_bytes : ℕ → List ℕ
i32_bytes bits = s64_bytes (cast_signed w32 bits)

-- the shortest encoding of the i64 with these bits (Core 1.0, 5.2.2)
unfoldable pub i64_bytes : ℕ → List ℕ
i64_bytes bits = s64_bytes (cast_signed w64 bits)
