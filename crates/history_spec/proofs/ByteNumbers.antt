-- The number that bytes encode, and the bytes of a number.
use Rattle.std.proofs.Common.{◌≡◌, ℕ, zero, suc, ◌+◌, ◌*◌, ◌/◌, List, [], ◌∷◌, ◌++◌, length, replicate, refl, ap, arith}
use Rattle.std.specs.Int.{w64, from_le_bytes}
use Rattle.history_spec.specs.Store.{number_of, bytes_of}

-- zeros above a number do not change it
pub number_of-zeros : (bytes : List ℕ) (k : ℕ) → number_of (bytes ++ replicate k 0) ≡ number_of bytes
number_of-zeros [] zero = refl
number_of-zeros [] (suc k) = let e : number_of (replicate k 0) ≡ 0 = number_of-zeros [] k in omega arith
number_of-zeros (b ∷ bs) k = ap (λ n. b + 256 * n) (number_of-zeros bs k)

-- the number of eight bytes
pub from_le_bytes-number_of : (bytes : List ℕ) → length bytes ≡ 8 → from_le_bytes w64 bytes ≡ number_of bytes
from_le_bytes-number_of (a ∷ b ∷ c ∷ d ∷ e ∷ f ∷ g ∷ h ∷ []) is_8 = omega arith
from_le_bytes-number_of bytes is_8 = absurd (omega arith)

pub length-bytes_of : (count number : ℕ) → length (bytes_of count number) ≡ count
length-bytes_of zero number = refl
length-bytes_of (suc count) number = ap suc (length-bytes_of count (number / 256))
