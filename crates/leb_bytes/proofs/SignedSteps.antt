-- What reading a signed number does at a byte.
use Rattle.std.proofs.Common.{◌≡◌, ℕ, suc, ◌+◌, ◌-◌, ◌*◌, ◌^◌, ◌%◌, ◌<◌, ◌≤◌, List, [], ◌∷◌, Option, Some, None, refl, ap, sym, ◌∙◌, arith, pow_mono, pow-add, bit_or, min, length, get_or, drop, ℤ, pos, negsuc, ◌+ℤ◌, ◌-ℤ◌, ◌*ℤ◌, neg_ℤ, w64, to_z, of_z, FitsSigned, mul-add, mul_assoc, mul_comm}
use Rattle.std.proofs.lemmas.Bool.Decides.{nat_tests}
use Rattle.std.proofs.lemmas.Int.{ints, to_z_pos, to_z-of_z}
use Rattle.std.proofs.lemmas.Nat.{one_shl}
use Rattle.std.proofs.lemmas.List.{drop_more}
use Rattle.std.proofs.Math.Nat.{mul-le-mul_left, mod-eq_of_lt}
use Rattle.std.specs.Option.{option_map}
use Rattle.leb_bytes.specs.Signed.{first_signed}
use Rattle.leb_bytes.proofs.UnsignedSteps.{above, above_fits}

pub signed-plus : (width b : ℕ) (bytes : List ℕ) → b < 2 ^ 6 → b < 2 ^ (width - 1)
    → first_signed width (b ∷ bytes) ≡ Some (pos b, bytes)
signed-plus width b bytes plus fits = grind (arith, nat_tests)

pub signed-minus : (width b : ℕ) (bytes : List ℕ) → 2 ^ 6 ≤ b → b < 2 ^ 7 → 2 ^ 7 ≤ b + 2 ^ (width - 1)
    → first_signed width (b ∷ bytes) ≡ Some (pos b -ℤ pos (2 ^ 7), bytes)
signed-minus width b bytes minus last fits = grind (arith, nat_tests)

pub signed-large : (width b : ℕ) (bytes : List ℕ) → b < 2 ^ 6 → 2 ^ (width - 1) ≤ b
    → first_signed width (b ∷ bytes) ≡ None
signed-large width b bytes plus large = grind (arith, nat_tests)

pub signed-small : (width b : ℕ) (bytes : List ℕ) → 2 ^ 6 ≤ b → b < 2 ^ 7 → b + 2 ^ (width - 1) < 2 ^ 7
    → first_signed width (b ∷ bytes) ≡ None
signed-small width b bytes minus last small = grind (arith, nat_tests)

pub signed-long : (width b : ℕ) (bytes : List ℕ) → 2 ^ 7 ≤ b → width ≤ 7 → first_signed width (b ∷ bytes) ≡ None
signed-long width b bytes more long = grind (arith, nat_tests)

pub signed-more : (width b : ℕ) (bytes : List ℕ) → 2 ^ 7 ≤ b → b < 2 ^ 8 → 7 < width
    → first_signed width (b ∷ bytes) ≡ option_map (λ high. (pos (2 ^ 7) *ℤ high.0 +ℤ pos (b - 2 ^ 7), high.1)) (first_signed (width - 7) bytes)
signed-more width b bytes more byte room = grind (arith, nat_tests)

-- a byte with the sign
pub minus : (b : ℕ) → b < 2 ^ 7 → pos b -ℤ pos (2 ^ 7) ≡ negsuc (127 - b)
minus b last = omega (arith, ints)

-- seven bits below a negative number
pub below_negative : (k b : ℕ) → b < 2 ^ 7 → pos (2 ^ 7) *ℤ negsuc k +ℤ pos b ≡ negsuc (128 * k + (127 - b))
below_negative k b digit = omega (arith, ints)

-- bits with the highest set
to_z_negative : (n : ℕ) → 2 ^ 63 ≤ n → to_z w64 n ≡ negsuc (2 ^ 64 - suc n)
to_z_negative n high = grind (arith, nat_tests)

less_than : (low n : ℕ) → low < n → pos low +ℤ neg_ℤ (pos n) ≡ negsuc (n - suc low)
less_than low n below = omega (arith, ints)

-- two numbers above bits
pub value_more : (low place b : ℕ) (z : ℤ) → b < 2 ^ 7
    → pos low +ℤ pos place *ℤ (pos (2 ^ 7) *ℤ z +ℤ pos b) ≡ pos (low + place * b) +ℤ pos (place * 2 ^ 7) *ℤ z
value_more low place b (pos k) digit = ap pos (grind arith)
value_more low place b (negsuc k) digit =
    let bits : suc (128 * k + (127 - b)) + b ≡ 2 ^ 7 * suc k = omega arith in
    let parts : place * suc (128 * k + (127 - b)) + place * b ≡ place * 2 ^ 7 * suc k =
    sym (mul-add place (suc (128 * k + (127 - b))) b) ∙ ap (λ n. place * n) bits ∙ sym (mul_assoc place (2 ^ 7) (suc k)) in
    rw (below_negative k b digit) (omega (arith, ints, parts))

-- what is read, given the bits that were read before it
abbrev pub joined : ℕ → ℕ → Option (ℤ × List ℕ) → Option (ℤ × List ℕ)
joined low place high = option_map (λ read. (pos low +ℤ pos place *ℤ read.0, read.1)) high

joined_more : (low place b : ℕ) (high : Option (ℤ × List ℕ)) → b < 2 ^ 7
    → joined low place (option_map (λ high. (pos (2 ^ 7) *ℤ high.0 +ℤ pos b, high.1)) high) ≡ joined (low + place * b) (place * 2 ^ 7) high
joined_more low place b None digit = refl
joined_more low place b (Some read) digit = ap (λ n. Some (n, read.1)) (value_more low place b read.0 digit)

-- ---- the last byte, above `shift` bits and with `left` bits left

module _ (low shift left b m : ℕ) (z : ℤ) (bits : low < 2 ^ shift) (room : (0 < left) × (shift + left ≤ 64))
    (least : m ≡ min (left - 1) 6) (fits : FitsSigned w64 z) where
  limit_six : 2 ^ m ≤ 2 ^ 6
  limit_six = let le : m ≤ 6 = omega arith in pow_mono le

  limit_left : 2 ^ m ≤ 2 ^ (left - 1)
  limit_left = let le : m ≤ left - 1 = omega arith in pow_mono le

  limit_is : (1 * 2 ^ m) % 2 ^ 64 ≡ 2 ^ m
  limit_is = one_shl m 64 (omega arith)

  within : (d : ℕ) → d ≤ 2 ^ m → 2 ^ shift * d ≤ 2 ^ 63
  within d small =
      let fewer : d ≤ 2 ^ (left - 1) = omega (arith, limit_left) in
      let most : shift + (left - 1) ≤ 63 = omega arith in
      omega (arith, mul-le-mul_left (2 ^ shift) fewer, pow-add 2 shift (left - 1), pow_mono most)

  -- without the sign
  pub ended_plus : b < (1 * 2 ^ m) % 2 ^ 64 → z ≡ to_z w64 (bit_or low ((b * 2 ^ shift) % 2 ^ 64))
      → Some (to_z w64 (of_z w64 z)) ≡ option_map (λ high. pos low +ℤ pos (2 ^ shift) *ℤ high.0) (first_signed left (b ∷ []))
  ended_plus below e =
      let small : b < 2 ^ m = rw (← limit_is) below in
      let digit : b < 2 ^ (left - 1) = omega (arith, limit_left) in
      let next : b + 1 ≤ 2 ^ m = omega arith in
      let value : low + 2 ^ shift * b < 2 ^ 63 = omega (arith, within (b + 1) next) in
      let is : z ≡ pos (low + 2 ^ shift * b) =
      e ∙ ap (to_z w64) (above low b (left - 1) shift 64 bits digit (omega arith))
      ∙ to_z_pos w64 (low + 2 ^ shift * b) value in
      ap Some (to_z-of_z w64 z fits ∙ is)
      ∙ sym (ap (option_map (λ (high : ℤ × List ℕ). pos low +ℤ pos (2 ^ shift) *ℤ high.0)) (signed-plus left b [] (omega (arith, limit_six)) digit))

  -- with the sign
  pub ended_minus : (1 * 2 ^ m) % 2 ^ 64 ≤ b → b < 2 ^ 7 → 2 ^ 7 - b ≤ (1 * 2 ^ m) % 2 ^ 64
      → z ≡ to_z w64 ((low + (2 ^ 64 - ((2 ^ 7 - b) * 2 ^ shift) % 2 ^ 64)) % 2 ^ 64)
      → Some (to_z w64 (of_z w64 z)) ≡ option_map (λ high. pos low +ℤ pos (2 ^ shift) *ℤ high.0) (first_signed left (b ∷ []))
  ended_minus over last negated e =
      let small : 2 ^ 7 - b ≤ 2 ^ m = rw (← limit_is) negated in
      let six : 2 ^ 6 ≤ b = omega (arith, limit_six) in
      let room : 2 ^ 7 ≤ b + 2 ^ (left - 1) = omega (arith, limit_left) in
      let top : (2 ^ 7 - b) * 2 ^ shift ≤ 2 ^ 63 = omega (arith, within (2 ^ 7 - b) small) in
      let one : 1 ≤ 2 ^ 7 - b = omega arith in
      let over : 2 ^ shift ≤ (2 ^ 7 - b) * 2 ^ shift = omega (arith, mul-le-mul_left (2 ^ shift) one) in
      let whole : (2 ^ 7 - b) * 2 ^ shift < 2 ^ 64 = omega arith in
      let less : low + (2 ^ 64 - (2 ^ 7 - b) * 2 ^ shift) < 2 ^ 64 = omega arith in
      let is : z ≡ to_z w64 (low + (2 ^ 64 - (2 ^ 7 - b) * 2 ^ shift)) =
      e ∙ ap (λ x. to_z w64 ((low + (2 ^ 64 - x)) % 2 ^ 64)) (mod-eq_of_lt whole) ∙ ap (to_z w64) (mod-eq_of_lt less) in
      let same : 2 ^ shift * suc (127 - b) ≡ (2 ^ 7 - b) * 2 ^ shift = ap (λ n. 2 ^ shift * n) (omega arith) ∙ mul_comm (2 ^ shift) (2 ^ 7 - b) in
      let value : to_z w64 (low + (2 ^ 64 - (2 ^ 7 - b) * 2 ^ shift)) ≡ pos low +ℤ pos (2 ^ shift) *ℤ negsuc (127 - b) =
      to_z_negative (low + (2 ^ 64 - (2 ^ 7 - b) * 2 ^ shift)) (omega arith) ∙ ap negsuc (omega arith)
      ∙ sym (less_than low ((2 ^ 7 - b) * 2 ^ shift) (omega arith)) ∙ ap (λ n. pos low +ℤ neg_ℤ (pos n)) (sym same) in
      ap Some (to_z-of_z w64 z fits ∙ is ∙ value ∙ ap (λ y. pos low +ℤ pos (2 ^ shift) *ℤ y) (sym (minus b last)))
      ∙ sym (ap (option_map (λ (high : ℤ × List ℕ). pos low +ℤ pos (2 ^ shift) *ℤ high.0)) (signed-minus left b [] six last room))

-- ---- a byte that isn't the last, in its place

module _ (width : ℕ) (all : Option (ℤ × List ℕ)) (bytes : List ℕ) (i low k : ℕ) (inside : i < length bytes) (small : low < 2 ^ k)
    (before : all ≡ joined low (2 ^ k) (first_signed (width - k) (drop i bytes))) where
  -- any other byte gives seven bits
  pub goes_on : (d : ℕ) → d ≡ get_or bytes i 0 - 2 ^ 7 → 2 ^ 7 ≤ get_or bytes i 0 → get_or bytes i 0 < 2 ^ 8
      → k + 7 < width → width ≤ 64
      → (bit_or low ((d * 2 ^ k) % 2 ^ 64) < 2 ^ (k + 7))
      × (all ≡ joined (bit_or low ((d * 2 ^ k) % 2 ^ 64)) (2 ^ (k + 7)) (first_signed (width - (k + 7)) (drop (i + 1) bytes)))
  goes_on d here more byte room most =
      let digit : d < 2 ^ 7 = omega arith in
      let sum : bit_or low ((d * 2 ^ k) % 2 ^ 64) ≡ low + 2 ^ k * d = above low d 7 k 64 small digit (omega arith) in
      let left : width - k - 7 ≡ width - (k + 7) = omega arith in
      let seven : get_or bytes i 0 - 2 ^ 7 < 2 ^ 7 = omega arith in (
        rw (sum) (above_fits low d k 7 small digit),
        before ∙ ap (λ left. joined low (2 ^ k) (first_signed (width - k) left)) (drop_more bytes i 0 inside)
            ∙ ap (joined low (2 ^ k)) (signed-more (width - k) (get_or bytes i 0) (drop (i + 1) bytes) more byte (omega arith))
            ∙ joined_more low (2 ^ k) (get_or bytes i 0 - 2 ^ 7) (first_signed (width - k - 7) (drop (i + 1) bytes)) seven
            ∙ (rw (← here, sum, pow-add 2 k 7, left) refl),
      )
