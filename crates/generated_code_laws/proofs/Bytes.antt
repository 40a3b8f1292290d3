-- Bytes and the numbers that they represent.
use Rattle.std.proofs.Common.{◌≡◌, ℕ, zero, suc, ◌+◌, ◌*◌, ◌/◌, ◌%◌, ◌<◌, List, [], ◌∷◌, length, take, drop, refl, ap, ◌∙◌, arith}
use Rattle.history_spec.specs.Store.{number_of, bytes_of}
use Rattle.generated_code_laws.specs.Bytes.{AreBytes, NumbersHoldBytes}

-- the lowest byte, and the number of the others
lowest : (byte more : ℕ) → byte < 256 → (byte + 256 * more) % 256 ≡ byte
lowest byte more below = omega (arith, below)

others : (byte more : ℕ) → byte < 256 → (byte + 256 * more) / 256 ≡ more
others byte more below = omega (arith, below)

pub first_byte : (byte : ℕ) (bytes : List ℕ) → AreBytes (byte ∷ bytes) → byte < 256
first_byte byte bytes are = are 0 0 (omega arith)

pub other_bytes : (byte : ℕ) (bytes : List ℕ) → AreBytes (byte ∷ bytes) → AreBytes bytes
other_bytes byte bytes are = λ k d below. are (suc k) d (omega (arith, below))

pub numbers_hold_bytes : NumbersHoldBytes
numbers_hold_bytes [] are = refl
numbers_hold_bytes (byte ∷ bytes) are =
    let more = number_of bytes in
    let below = first_byte byte bytes are in
    ap (λ b. b ∷ bytes_of (length bytes) ((byte + 256 * more) / 256)) (lowest byte more below)
    ∙ ap (λ n. byte ∷ bytes_of (length bytes) n) (others byte more below)
    ∙ ap (λ l. byte ∷ l) (numbers_hold_bytes bytes (other_bytes byte bytes are))

-- a byte before others
pub one_more : (byte : ℕ) (bytes : List ℕ) → byte < 256 → AreBytes bytes → AreBytes (byte ∷ bytes)
one_more byte bytes below are zero d within = below
one_more byte bytes below are (suc k) d within = are k d (omega (arith, within))

-- the first of some bytes, and those after them
pub first_bytes : (count : ℕ) (bytes : List ℕ) → AreBytes bytes → AreBytes (take count bytes)
first_bytes zero bytes are = λ k d below. absurd (omega (arith, below))
first_bytes (suc count) [] are = λ k d below. absurd (omega (arith, below))
first_bytes (suc count) (byte ∷ bytes) are =
    one_more byte (take count bytes) (first_byte byte bytes are) (first_bytes count bytes (other_bytes byte bytes are))

pub last_bytes : (count : ℕ) (bytes : List ℕ) → AreBytes bytes → AreBytes (drop count bytes)
last_bytes zero bytes are = are
last_bytes (suc count) [] are = are
last_bytes (suc count) (byte ∷ bytes) are = last_bytes count bytes (other_bytes byte bytes are)
