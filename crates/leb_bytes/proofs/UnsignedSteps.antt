-- What reading an unsigned number does at a byte.
use Rattle.std.proofs.Common.{◌≡◌, ℕ, ◌+◌, ◌-◌, ◌*◌, ◌^◌, ◌%◌, ◌<◌, ◌≤◌, List, ◌∷◌, Option, Some, None, refl, ap, sym, ◌∙◌, arith, bit_or, pow-add, pow_mono, ◌⊎◌, inl, inr, length, get_or, drop}
use Rattle.std.proofs.lemmas.Bool.Decides.{nat_tests}
use Rattle.std.proofs.lemmas.Nat.{or_shifted, or_comm, shl_whole}
use Rattle.std.proofs.lemmas.List.{drop_more}
use Rattle.std.proofs.Math.Nat.{mul-le-mul_left}
use Rattle.std.specs.Option.{option_map}
use Rattle.leb_bytes.specs.Unsigned.{first_unsigned}

pub first-last : (width b : ℕ) (bytes : List ℕ) → b < 2 ^ 7 → b < 2 ^ width
    → first_unsigned width (b ∷ bytes) ≡ Some (b, bytes)
first-last width b bytes last fits = grind (arith, nat_tests)

pub first-large : (width b : ℕ) (bytes : List ℕ) → b < 2 ^ 7 → 2 ^ width ≤ b → first_unsigned width (b ∷ bytes) ≡ None
first-large width b bytes last large = grind (arith, nat_tests)

pub first-long : (width b : ℕ) (bytes : List ℕ) → 2 ^ 7 ≤ b → width ≤ 7 → first_unsigned width (b ∷ bytes) ≡ None
first-long width b bytes more long = grind (arith, nat_tests)

pub first-more : (width b : ℕ) (bytes : List ℕ) → 2 ^ 7 ≤ b → b < 2 ^ 8 → 7 < width
    → first_unsigned width (b ∷ bytes) ≡ option_map (λ high. (2 ^ 7 * high.0 + (b - 2 ^ 7), high.1)) (first_unsigned (width - 7) bytes)
first-more width b bytes more byte room = grind (arith, nat_tests)

-- what is read, given the bits that were read before it
abbrev pub joined : ℕ → ℕ → Option (ℕ × List ℕ) → Option (ℕ × List ℕ)
joined low place high = option_map (λ read. (low + place * read.0, read.1)) high

joined_more : (low place b : ℕ) (high : Option (ℕ × List ℕ))
    → joined low place (option_map (λ high. (2 ^ 7 * high.0 + b, high.1)) high) ≡ joined (low + place * b) (place * 2 ^ 7) high
joined_more low place b None = refl
joined_more low place b (Some read) = ap (λ n. Some (n, read.1)) (grind arith)

-- the bits of one more byte, put above k bits
pub above : (low b j k width : ℕ) → low < 2 ^ k → b < 2 ^ j → j + k ≤ width
    → bit_or low ((b * 2 ^ k) % 2 ^ width) ≡ low + 2 ^ k * b
above low b j k width small digit room =
    ap (bit_or low) (shl_whole b j k width digit room) ∙ or_comm low (b * 2 ^ k) ∙ or_shifted b k low small
    ∙ grind arith

-- the bits fit where they are put
pub above_fits : (low b k j : ℕ) → low < 2 ^ k → b < 2 ^ j → low + 2 ^ k * b < 2 ^ (k + j)
above_fits low b k j small digit =
    let below : b + 1 ≤ 2 ^ j = omega arith in
    rw (pow-add 2 k j) (omega (arith, mul-le-mul_left (2 ^ k) below))

-- a byte's seven bits are no more than are left, and the fifth byte has four
pub last_fits : (k i b : ℕ) → k ≡ 7 * i → k ≤ 28 → b < 2 ^ 7 → ((k ≡ 28) × (b < 16)) ⊎ (k ≡ 28 → ⊥) → b < 2 ^ (32 - k)
last_fits k i b turns within last (inl fifth) = rw (fifth.0) (fifth.1)
last_fits k i b turns within last (inr before) =
    let left : 7 ≤ 32 - k = omega arith in
    omega (arith, pow_mono left)

module _ (all : Option (ℕ × List ℕ)) (bytes : List ℕ) (i low k : ℕ) (inside : i < length bytes) (small : low < 2 ^ k)
    (before : all ≡ joined low (2 ^ k) (first_unsigned (32 - k) (drop i bytes))) where
  -- the last byte ends the number
  pub stops : (b : ℕ) → b ≡ get_or bytes i 0 → b < 2 ^ 7 → b < 2 ^ (32 - k) → k ≤ 32
      → all ≡ Some (bit_or low ((b * 2 ^ k) % 2 ^ 32), drop (i + 1) bytes)
  stops b here last fits within =
      before
      ∙ ap (λ left. joined low (2 ^ k) (first_unsigned (32 - k) left)) (drop_more bytes i 0 inside ∙ ap (λ x. x ∷ drop (i + 1) bytes) (sym here))
      ∙ ap (joined low (2 ^ k)) (first-last (32 - k) b (drop (i + 1) bytes) last fits)
      ∙ ap (λ n. Some (n, drop (i + 1) bytes)) (sym (above low b (32 - k) k 32 small fits (omega arith)))

  -- any other byte gives seven bits
  pub goes_on : (d : ℕ) → d ≡ get_or bytes i 0 - 2 ^ 7 → 2 ^ 7 ≤ get_or bytes i 0 → get_or bytes i 0 < 2 ^ 8
      → k + 7 < 32
      → (bit_or low ((d * 2 ^ k) % 2 ^ 32) < 2 ^ (k + 7))
      × (all ≡ joined (bit_or low ((d * 2 ^ k) % 2 ^ 32)) (2 ^ (k + 7)) (first_unsigned (32 - (k + 7)) (drop (i + 1) bytes)))
  goes_on d here more byte room =
      let digit : d < 2 ^ 7 = omega arith in
      let sum : bit_or low ((d * 2 ^ k) % 2 ^ 32) ≡ low + 2 ^ k * d = above low d 7 k 32 small digit (omega arith) in
      let left : 32 - k - 7 ≡ 32 - (k + 7) = omega arith in (
        rw (sum) (above_fits low d k 7 small digit),
        before ∙ ap (λ left. joined low (2 ^ k) (first_unsigned (32 - k) left)) (drop_more bytes i 0 inside)
            ∙ ap (joined low (2 ^ k)) (first-more (32 - k) (get_or bytes i 0) (drop (i + 1) bytes) more byte (omega arith))
            ∙ joined_more low (2 ^ k) (get_or bytes i 0 - 2 ^ 7) (first_unsigned (32 - k - 7) (drop (i + 1) bytes))
            ∙ (rw (← here, sum, pow-add 2 k 7, left) refl),
      )
