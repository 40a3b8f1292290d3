-- Lengths in 64 bits.
use Rattle.std.specs.Prelude.{ℕ, zero, suc, ◌-◌, ◌/◌, ◌^◌, min, ℤ, pos, negsuc, nat_lt, if◌then◌else◌}

-- the length, or the greatest number of 64 bits if it is greater
abbrev pub at_most_u64 : ℕ → ℕ
at_most_u64 n = min n (2 ^ 64 - 1)

-- what a signed number has besides its sign, in two's complement
abbrev pub magnitude : ℤ → ℕ
magnitude (pos n) = n
magnitude (negsuc n) = n

-- the number of bytes of seven bits that a number takes, the last of them for what is less than `last`: one, and
-- at most `more` further ones (Core 1.0, 5.2.2)
abbrev pub byte_count : (more last n : ℕ) → ℕ
byte_count zero last n = 1
byte_count (suc more) last n = if nat_lt n last then 1 else suc (byte_count more last (n / 2 ^ 7))
