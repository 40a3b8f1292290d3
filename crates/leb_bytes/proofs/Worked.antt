-- The standard's own examples of encodings (Core 1.0, 5.2.2), read by the definitions, and those of the DWARF standard, written.
use Rattle.std.proofs.Common.{◌≡◌, [], ◌∷◌, Some, None, refl, pos, negsuc}
use Rattle.leb_bytes.specs.Unsigned.{first_unsigned, unsigned_bytes, u32_bytes}
use Rattle.leb_bytes.specs.Signed.{first_signed, signed_bytes, s64_bytes}

-- 3 as a u8, in one byte and in two
u8_short : first_unsigned 8 (0x03 ∷ []) ≡ Some (3, [])
u8_short = refl

u8_padded : first_unsigned 8 (0x83 ∷ 0x00 ∷ []) ≡ Some (3, [])
u8_padded = refl

-- -2 as an s16, in one byte to three
s16_short : first_signed 16 (0x7e ∷ []) ≡ Some (negsuc 1, [])
s16_short = refl

s16_padded : first_signed 16 (0xfe ∷ 0x7f ∷ []) ≡ Some (negsuc 1, [])
s16_padded = refl

s16_longest : first_signed 16 (0xfe ∷ 0xff ∷ 0x7f ∷ []) ≡ Some (negsuc 1, [])
s16_longest = refl

-- unused bits that differ from 0, and from the sign
u8_unused : first_unsigned 8 (0x83 ∷ 0x10 ∷ []) ≡ None
u8_unused = refl

s8_unused : first_signed 8 (0x83 ∷ 0x3e ∷ []) ≡ None
s8_unused = refl

s8_unused_sign : first_signed 8 (0xff ∷ 0x7b ∷ []) ≡ None
s8_unused_sign = refl

-- the shortest encodings
two_bytes : u32_bytes 128 ≡ 0x80 ∷ 0x01 ∷ []
unfolding u32_bytes unsigned_bytes
two_bytes = refl

two_bytes_more : u32_bytes 12857 ≡ 0xb9 ∷ 0x64 ∷ []
unfolding u32_bytes unsigned_bytes
two_bytes_more = refl

minus_128 : s64_bytes (negsuc 127) ≡ 0x80 ∷ 0x7f ∷ []
unfolding s64_bytes signed_bytes
minus_128 = refl

plus_127 : s64_bytes (pos 127) ≡ 0xff ∷ 0x00 ∷ []
unfolding s64_bytes signed_bytes
plus_127 = refl
