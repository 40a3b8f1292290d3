-- The encodings of a signed number.
use Rattle.std.proofs.Common.{◌≡◌, ℕ, zero, suc, ◌+◌, ◌-◌, ◌*◌, ◌/◌, ◌^◌, ◌%◌, ◌<◌, ◌≤◌, List, [], ◌∷◌, ◌++◌, Some, None, true, false, refl, ap, sym, ◌∙◌, arith, pow_mono, pow-add, length, inl, inr, subst, ℤ, pos, negsuc, ◌+ℤ◌, ◌-ℤ◌, ◌*ℤ◌, w64, to_z, of_z}
use Rattle.std.proofs.lemmas.Bool.{cases_lt, cases_Bool}
use Rattle.std.proofs.lemmas.Bool.Decides.{nat_tests}
use Rattle.std.proofs.lemmas.Int.{to_z-of_z}
use Rattle.std.proofs.lemmas.Option.{none-some, some_pair_parts}
use Rattle.std.proofs.Math.Nat.{mul-le-mul_left}
use Rattle.std.proofs.lemmas.Nat.{shr_below}
use Rattle.std.specs.Int.Signed.{mag, shr_z}
use Rattle.std.specs.Option.{option_map}
use Rattle.base.proofs.Options.{map_some}
use Rattle.leb_bytes.specs.Signed.{EncodesSigned, first_signed, signed_bytes, s64_bytes, low_bits, high_bits, fits_seven_bits}
use Rattle.leb_bytes.proofs.SignedSteps.{signed-plus, signed-minus, signed-large, signed-small, signed-long, signed-more, minus, below_negative}

-- a byte with its high bit set, before an encoding of the rest
encode_more : (width b : ℕ) (m : ℤ) (bytes : List ℕ) → 2 ^ 7 ≤ b → b < 2 ^ 8 → 7 < width
    → EncodesSigned (width - 7) bytes m → EncodesSigned width (b ∷ bytes) (pos (2 ^ 7) *ℤ m +ℤ pos (b - 2 ^ 7))
encode_more width b m [] more byte room high = absurd high
encode_more width b m (c ∷ bytes) more byte room high = (more, byte, room, m, high, refl)

signed-byte : (width b : ℕ) (bytes : List ℕ) → 2 ^ 8 ≤ b → first_signed width (b ∷ bytes) ≡ None
signed-byte width b bytes large = grind (arith, nat_tests)

-- a last byte, by what it says of the width
last_signed : (width b n : ℕ) (input rest : List ℕ) (z : ℤ) → b < 2 ^ 7
    → first_signed width (b ∷ input) ≡ Some (z, rest)
    → EncodesSigned width (b ∷ []) z × (input ≡ rest)
last_signed width b n input rest z last e = elim (cases_lt b (2 ^ 6)) [
  | inl plus ↦ elim (cases_lt b (2 ^ (width - 1))) [
    | inl fits ↦ let parts = some_pair_parts (pos b) z input rest (sym (signed-plus width b input plus fits) ∙ e) in
        (inl (plus, fits, sym parts.0), parts.1)
    | inr large ↦ absurd (none-some _ (sym (signed-large width b input plus large) ∙ e))
  ]
  | inr sign ↦ elim (cases_lt (b + 2 ^ (width - 1)) (2 ^ 7)) [
    | inl small ↦ absurd (none-some _ (sym (signed-small width b input sign last small) ∙ e))
    | inr fits ↦ let parts = some_pair_parts (pos b -ℤ pos (2 ^ 7)) z input rest (sym (signed-minus width b input sign last fits) ∙ e) in
        (inr (sign, last, fits, sym parts.0), parts.1)
  ]
]

pub found_signed : (width : ℕ) (input rest : List ℕ) (z : ℤ) → first_signed width input ≡ Some (z, rest)
    → (bytes : List ℕ) × EncodesSigned width bytes z × (input ≡ bytes ++ rest)
found_signed width [] rest z e = absurd (none-some _ e)
found_signed width (b ∷ input) rest z e = elim (cases_lt b (2 ^ 7)) [
  | inl last ↦ let parts = last_signed width b 0 input rest z last e in (b ∷ [], parts.0, ap (λ x. b ∷ x) parts.1)
  | inr more ↦ elim (cases_lt b (2 ^ 8)) [
    | inl byte ↦ elim (cases_lt 7 width) [
      | inl room ↦
          let high = map_some (λ (high : ℤ × List ℕ). (pos (2 ^ 7) *ℤ high.0 +ℤ pos (b - 2 ^ 7), high.1)) (first_signed (width - 7) input) (z, rest)
          (sym (signed-more width b input more byte room) ∙ e) in
          let below = found_signed (width - 7) input high.0.1 high.0.0 high.1 in
          let value : pos (2 ^ 7) *ℤ high.0.0 +ℤ pos (b - 2 ^ 7) ≡ z = ap (λ (p : ℤ × List ℕ). p.0) high.2 in
          let behind : high.0.1 ≡ rest = ap (λ (p : ℤ × List ℕ). p.1) high.2 in (
            b ∷ below.0,
            subst (λ k. EncodesSigned width (b ∷ below.0) k) value (encode_more width b high.0.0 below.0 more byte room below.1),
            ap (λ x. b ∷ x) (below.2 ∙ ap (λ x. below.0 ++ x) behind),
          )
      | inr long ↦ absurd (none-some _ (sym (signed-long width b input more long) ∙ e))
    ]
    | inr large ↦ absurd (none-some _ (sym (signed-byte width b input large) ∙ e))
  ]
]

pub only_signed : (width : ℕ) (bytes rest : List ℕ) (z : ℤ) → EncodesSigned width bytes z
    → first_signed width (bytes ++ rest) ≡ Some (z, rest)
only_signed width [] rest z h = absurd h
only_signed width (b ∷ []) rest z (inl h) = signed-plus width b rest h.0 h.1 ∙ ap (λ k. Some (k, rest)) (sym h.2)
only_signed width (b ∷ []) rest z (inr h) = signed-minus width b rest h.0 h.1 h.2 ∙ ap (λ k. Some (k, rest)) (sym h.3)
only_signed width (b ∷ c ∷ bytes) rest z h =
    signed-more width b (c ∷ (bytes ++ rest)) h.0 h.1 h.2
    ∙ ap (option_map (λ (high : ℤ × List ℕ). (pos (2 ^ 7) *ℤ high.0 +ℤ pos (b - 2 ^ 7), high.1))) (only_signed (width - 7) (c ∷ bytes) rest h.3 h.4)
    ∙ ap (λ k. Some (k, rest)) (sym h.5)

top_seven : (width : ℕ) → 7 < width → 2 ^ 7 * 2 ^ (width - 7 - 1) ≡ 2 ^ (width - 1)
top_seven width room = sym (pow-add 2 7 (width - 7 - 1)) ∙ ap (λ k. 2 ^ k) (omega arith)

-- seven bits below a number
mag_more : (width b : ℕ) (m : ℤ) → 7 < width → b < 2 ^ 7 → mag m < 2 ^ (width - 7 - 1)
    → mag (pos (2 ^ 7) *ℤ m +ℤ pos b) < 2 ^ (width - 1)
mag_more width b (pos k) room digit below =
    let next : k + 1 ≤ 2 ^ (width - 7 - 1) = omega arith in
    omega (arith, mul-le-mul_left (2 ^ 7) next, top_seven width room)
mag_more width b (negsuc k) room digit below =
    let next : k + 1 ≤ 2 ^ (width - 7 - 1) = omega arith in
    rw (below_negative k b digit) (omega (arith, mul-le-mul_left (2 ^ 7) next, top_seven width room))

pub range_signed : (width : ℕ) (bytes : List ℕ) (z : ℤ) → 0 < width → EncodesSigned width bytes z
    → (mag z < 2 ^ (width - 1)) × (0 < length bytes) × (7 * length bytes < width + 7)
range_signed width [] z some h = absurd h
range_signed width (b ∷ []) z some (inl h) = (rw (h.2) h.1, omega arith, omega arith)
range_signed width (b ∷ []) z some (inr h) = (rw (h.3, minus b h.1) (omega (arith, h.2)), omega arith, omega arith)
range_signed width (b ∷ c ∷ bytes) z some h =
    let above : 0 < width - 7 = omega (arith, h.2) in
    let high = range_signed (width - 7) (c ∷ bytes) h.3 above h.4 in
    (rw (h.5) (mag_more width (b - 2 ^ 7) h.3 h.2 (omega (arith, h.0, h.1)) high.0), omega arith, omega (arith, high.2, h.2))

-- ---- the shortest encoding

-- a number by its bits
pub joined_bits : (z : ℤ) → pos (2 ^ 7) *ℤ high_bits z +ℤ pos (low_bits z) ≡ z
joined_bits (pos n) = ap pos (omega arith)
joined_bits (negsuc n) =
    let low : 2 ^ 7 - suc (n % 2 ^ 7) < 2 ^ 7 = omega arith in
    below_negative (n / 2 ^ 7) (2 ^ 7 - suc (n % 2 ^ 7)) low ∙ ap negsuc (omega arith)

pub low_below : (z : ℤ) → low_bits z < 2 ^ 7
low_below (pos n) = omega arith
low_below (negsuc n) = omega arith

-- the bits of a number that is made of bits
bits_of : (b : ℕ) (m : ℤ) → b < 2 ^ 7
    → (high_bits (pos (2 ^ 7) *ℤ m +ℤ pos b) ≡ m) × (low_bits (pos (2 ^ 7) *ℤ m +ℤ pos b) ≡ b)
bits_of b (pos k) digit = (ap pos (omega arith), omega arith)
bits_of b (negsuc k) digit = rw (below_negative k b digit) (ap negsuc (omega arith), omega arith)

large_mag : (z : ℤ) → fits_seven_bits z ≡ false → 2 ^ 6 ≤ mag z
large_mag (pos n) large = grind (arith, nat_tests)
large_mag (negsuc n) large = grind (arith, nat_tests)

small_mag : (z : ℤ) → mag z < 2 ^ 6 → fits_seven_bits z ≡ true
small_mag (pos n) small = grind (arith, nat_tests)
small_mag (negsuc n) small = grind (arith, nat_tests)

mag_small : (z : ℤ) → fits_seven_bits z ≡ true → mag z < 2 ^ 6
mag_small (pos n) seven = grind (arith, nat_tests)
mag_small (negsuc n) seven = grind (arith, nat_tests)

-- a last byte has the low bits of a number that fits seven
last_bits : (width b : ℕ) (z : ℤ) → EncodesSigned width (b ∷ []) z → (fits_seven_bits z ≡ true) × (low_bits z ≡ b)
last_bits width b z (inl h) = rw (h.2) (small_mag (pos b) h.0, omega (arith, h.0))
last_bits width b z (inr h) =
    rw (h.3, minus b h.1) (small_mag (negsuc (127 - b)) (omega (arith, h.0)), omega (arith, h.0, h.1))

-- a number that fits seven bits, in a last byte
last_encodes : (width : ℕ) (z : ℤ) → fits_seven_bits z ≡ true → mag z < 2 ^ (width - 1)
    → EncodesSigned width (low_bits z ∷ []) z
last_encodes width (pos n) seven fits =
    let small : n < 2 ^ 6 = mag_small (pos n) seven in
    let low : n % 2 ^ 7 ≡ n = omega arith in
    inl (rw (low) small, rw (low) fits, ap pos (sym low))
last_encodes width (negsuc n) seven fits =
    let small : n < 2 ^ 6 = mag_small (negsuc n) seven in
    let low : 2 ^ 7 - suc (n % 2 ^ 7) ≡ 127 - n = omega arith in
    let last : 127 - n < 2 ^ 7 = omega arith in
    inr (rw (low) (omega arith), rw (low) last, rw (low) (omega arith), rw (low) (sym (minus (127 - n) last ∙ ap negsuc (omega arith))))

pub signed_bytes-last : (more : ℕ) (z : ℤ) → fits_seven_bits z ≡ true → signed_bytes more z ≡ low_bits z ∷ []
unfolding signed_bytes
signed_bytes-last zero z seven = refl
signed_bytes-last (suc more) z seven = rw (seven) refl

pub signed_bytes-more : (more : ℕ) (z : ℤ) → fits_seven_bits z ≡ false
    → signed_bytes (suc more) z ≡ (low_bits z + 2 ^ 7) ∷ signed_bytes more (high_bits z)
unfolding signed_bytes
signed_bytes-more more z large = rw (large) refl

high_mag : (z : ℤ) (j : ℕ) → mag z < 2 ^ (j + 7) → mag (high_bits z) < 2 ^ j
high_mag (pos n) j fits = shr_below n j 7 fits
high_mag (negsuc n) j fits = shr_below n j 7 fits

pub shortest_signed : (width more : ℕ) (z : ℤ) → mag z < 2 ^ (width - 1) → mag z < 2 ^ (6 + 7 * more)
    → EncodesSigned width (signed_bytes more z) z
unfolding signed_bytes
shortest_signed width zero z fits few = last_encodes width z (small_mag z few) fits
shortest_signed width (suc more) z fits few = elim (cases_Bool (fits_seven_bits z)) [
  | inl seven ↦ subst (λ bytes. EncodesSigned width bytes z) (sym (signed_bytes-last (suc more) z seven)) (last_encodes width z seven fits)
  | inr large ↦ elim (cases_lt 7 width) [
    | inl room ↦
        let up : width - 7 - 1 + 7 ≡ width - 1 = omega arith in
        let few_up : 6 + 7 * more + 7 ≡ 6 + 7 * suc more = omega arith in
        let high = shortest_signed (width - 7) more (high_bits z)
        (high_mag z (width - 7 - 1) (rw (up) fits)) (high_mag z (6 + 7 * more) (rw (few_up) few)) in
        let low : low_bits z < 2 ^ 7 = low_below z in
        let back : low_bits z + 2 ^ 7 - 2 ^ 7 ≡ low_bits z = omega arith in
        let value : pos (2 ^ 7) *ℤ high_bits z +ℤ pos (low_bits z + 2 ^ 7 - 2 ^ 7) ≡ z =
        ap (λ k. pos (2 ^ 7) *ℤ high_bits z +ℤ pos k) back ∙ joined_bits z in
        subst (λ bytes. EncodesSigned width bytes z) (sym (signed_bytes-more more z large))
        (subst (λ k. EncodesSigned width ((low_bits z + 2 ^ 7) ∷ signed_bytes more (high_bits z)) k) value
        (encode_more width (low_bits z + 2 ^ 7) (high_bits z) (signed_bytes more (high_bits z)) (omega arith) (omega arith) room high))
    | inr narrow ↦
        let six : width - 1 ≤ 6 = omega arith in
        absurd (omega (arith, pow_mono six, large_mag z large))
  ]
]

pub least_signed : (width more : ℕ) (bytes : List ℕ) (z : ℤ) → EncodesSigned width bytes z
    → length (signed_bytes more z) ≤ length bytes
unfolding signed_bytes
least_signed width more [] z h = absurd h
least_signed width more (b ∷ []) z h = rw (signed_bytes-last more z (last_bits width b z h).0) (omega arith)
least_signed width zero (b ∷ c ∷ bytes) z h = omega arith
least_signed width (suc more) (b ∷ c ∷ bytes) z h = elim (cases_Bool (fits_seven_bits z)) [
  | inl seven ↦ rw (signed_bytes-last (suc more) z seven) (omega arith)
  | inr large ↦
      let digit : b - 2 ^ 7 < 2 ^ 7 = omega (arith, h.0, h.1) in
      let rest : high_bits z ≡ h.3 = ap high_bits h.5 ∙ (bits_of (b - 2 ^ 7) h.3 digit).0 in
      rw (signed_bytes-more more z large) (rw (rest) (omega (arith, least_signed (width - 7) more (c ∷ bytes) h.3 h.4)))
]

pub alone_signed : (width more : ℕ) (bytes : List ℕ) (z : ℤ) → EncodesSigned width bytes z
    → length bytes ≡ length (signed_bytes more z) → bytes ≡ signed_bytes more z
unfolding signed_bytes
alone_signed width more [] z h e = absurd h
alone_signed width more (b ∷ []) z h e =
    let last = last_bits width b z h in ap (λ x. x ∷ []) (sym last.1) ∙ sym (signed_bytes-last more z last.0)
alone_signed width zero (b ∷ c ∷ bytes) z h e = absurd (omega arith)
alone_signed width (suc more) (b ∷ c ∷ bytes) z h e = elim (cases_Bool (fits_seven_bits z)) [
  | inl seven ↦ absurd (omega (arith, e ∙ ap length (signed_bytes-last (suc more) z seven)))
  | inr large ↦
      let digit : b - 2 ^ 7 < 2 ^ 7 = omega (arith, h.0, h.1) in
      let parts = bits_of (b - 2 ^ 7) h.3 digit in
      let rest : high_bits z ≡ h.3 = ap high_bits h.5 ∙ parts.0 in
      let seven : low_bits z ≡ b - 2 ^ 7 = ap low_bits h.5 ∙ parts.1 in
      let low : low_bits z + 2 ^ 7 ≡ b = omega (arith, h.0) in
      let longer : length (b ∷ c ∷ bytes) ≡ suc (length (signed_bytes more (high_bits z))) = e ∙ ap length (signed_bytes-more more z large) in
      let same : length (c ∷ bytes) ≡ length (signed_bytes more h.3) = rw (← rest) (omega (arith, longer)) in
      ap (λ x. b ∷ x) (alone_signed (width - 7) more (c ∷ bytes) h.3 h.4 same)
      ∙ sym (signed_bytes-more more z large ∙ ap (λ x. x ∷ signed_bytes more (high_bits z)) low ∙ ap (λ k. b ∷ signed_bytes more k) rest)
]

signed_bytes-length : (more : ℕ) (z : ℤ)
    → (0 < length (signed_bytes more z)) × (length (signed_bytes more z) ≤ suc more)
unfolding signed_bytes
signed_bytes-length zero z = (omega arith, omega arith)
signed_bytes-length (suc more) z = elim (cases_Bool (fits_seven_bits z)) [
  | inl seven ↦ rw (signed_bytes-last (suc more) z seven) (omega arith, omega arith)
  | inr large ↦ rw (signed_bytes-more more z large) (omega arith, omega (arith, (signed_bytes-length more (high_bits z)).1))
]

-- room for more bytes changes nothing
signed_bytes-room : (more : ℕ) (z : ℤ) → mag z < 2 ^ (6 + 7 * more) → signed_bytes (suc more) z ≡ signed_bytes more z
signed_bytes-room zero z few = signed_bytes-last 1 z (small_mag z few) ∙ sym (signed_bytes-last 0 z (small_mag z few))
signed_bytes-room (suc more) z few = elim (cases_Bool (fits_seven_bits z)) [
  | inl seven ↦ signed_bytes-last (suc (suc more)) z seven ∙ sym (signed_bytes-last (suc more) z seven)
  | inr large ↦
      let few_up : 6 + 7 * more + 7 ≡ 6 + 7 * suc more = omega arith in
      signed_bytes-more (suc more) z large
      ∙ ap (λ rest. (low_bits z + 2 ^ 7) ∷ rest) (signed_bytes-room more (high_bits z) (high_mag z (6 + 7 * more) (rw (few_up) few)))
      ∙ sym (signed_bytes-more more z large)
]

-- the shortest encoding of an s64, a byte at a time
pub s64-last : (z : ℤ) → fits_seven_bits z ≡ true → s64_bytes z ≡ low_bits z ∷ []
unfolding s64_bytes
s64-last z seven = signed_bytes-last 9 z seven

pub s64-more : (z : ℤ) → fits_seven_bits z ≡ false → mag z < 2 ^ 63
    → s64_bytes z ≡ (low_bits z + 2 ^ 7) ∷ s64_bytes (high_bits z)
unfolding s64_bytes
s64-more z large fits =
    signed_bytes-more 8 z large
    ∙ ap (λ rest. (low_bits z + 2 ^ 7) ∷ rest) (sym (signed_bytes-room 8 (high_bits z) (omega (arith, high_mag z 56 fits))))

-- a shift leaves the high bits
shift_is : (z : ℤ) → shr_z z (2 ^ 7) ≡ high_bits z
shift_is (pos n) = refl
shift_is (negsuc n) = refl

pub shifted : (z : ℤ) → mag z < 2 ^ 63 → to_z w64 (of_z w64 (shr_z z (2 ^ 7))) ≡ high_bits z
shifted z fits =
    ap (λ x. to_z w64 (of_z w64 x)) (shift_is z) ∙ to_z-of_z w64 (high_bits z) (record { sfits = omega (arith, high_mag z 56 fits) })

pub s64-length : (z : ℤ) → (0 < length (s64_bytes z)) × (length (s64_bytes z) ≤ 10)
unfolding s64_bytes
s64-length z = signed_bytes-length 9 z
