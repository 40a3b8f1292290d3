-- The encodings of an unsigned number.
use Rattle.std.proofs.Common.{◌≡◌, ℕ, zero, suc, ◌+◌, ◌-◌, ◌*◌, ◌/◌, ◌^◌, ◌%◌, ◌<◌, ◌≤◌, List, [], ◌∷◌, ◌++◌, Some, None, refl, ap, sym, ◌∙◌, arith, pow_mono, pow-add, length, inl, inr, subst}
use Rattle.std.proofs.lemmas.Bool.{cases_lt}
use Rattle.std.proofs.lemmas.Bool.Decides.{nat_tests}
use Rattle.std.proofs.lemmas.Option.{none-some, some_pair_parts}
use Rattle.std.proofs.Math.Nat.{mul-le-mul_left, mul-suc}
use Rattle.std.proofs.lemmas.Nat.{shr_below, mod_below}
use Rattle.std.specs.Option.{option_map}
use Rattle.base.proofs.Options.{map_some}
use Rattle.leb_bytes.specs.Unsigned.{EncodesUnsigned, first_unsigned, unsigned_bytes, u32_bytes}
use Rattle.leb_bytes.proofs.UnsignedSteps.{first-last, first-large, first-long, first-more}

-- a byte with its high bit set, before an encoding of the rest
encode_more : (width b m : ℕ) (bytes : List ℕ) → 2 ^ 7 ≤ b → b < 2 ^ 8 → 7 < width
    → EncodesUnsigned (width - 7) bytes m → EncodesUnsigned width (b ∷ bytes) (2 ^ 7 * m + (b - 2 ^ 7))
encode_more width b m [] more byte room high = absurd high
encode_more width b m (c ∷ bytes) more byte room high = (more, byte, room, m, high, refl)

first-byte : (width b : ℕ) (bytes : List ℕ) → 2 ^ 8 ≤ b → first_unsigned width (b ∷ bytes) ≡ None
first-byte width b bytes large = grind (arith, nat_tests)

pub found_unsigned : (width : ℕ) (input rest : List ℕ) (n : ℕ) → first_unsigned width input ≡ Some (n, rest)
    → (bytes : List ℕ) × EncodesUnsigned width bytes n × (input ≡ bytes ++ rest)
found_unsigned width [] rest n e = absurd (none-some _ e)
found_unsigned width (b ∷ input) rest n e = elim (cases_lt b (2 ^ 7)) [
  | inl last ↦ elim (cases_lt b (2 ^ width)) [
    | inl fits ↦ let parts = some_pair_parts b n input rest (sym (first-last width b input last fits) ∙ e) in
        (b ∷ [], (last, fits, sym parts.0), ap (λ x. b ∷ x) parts.1)
    | inr large ↦ absurd (none-some _ (sym (first-large width b input last large) ∙ e))
  ]
  | inr more ↦ elim (cases_lt b (2 ^ 8)) [
    | inl byte ↦ elim (cases_lt 7 width) [
      | inl room ↦
          let high = map_some (λ (high : ℕ × List ℕ). (2 ^ 7 * high.0 + (b - 2 ^ 7), high.1)) (first_unsigned (width - 7) input) (n, rest)
          (sym (first-more width b input more byte room) ∙ e) in
          let below = found_unsigned (width - 7) input high.0.1 high.0.0 high.1 in
          let value : 2 ^ 7 * high.0.0 + (b - 2 ^ 7) ≡ n = ap (λ (p : ℕ × List ℕ). p.0) high.2 in
          let behind : high.0.1 ≡ rest = ap (λ (p : ℕ × List ℕ). p.1) high.2 in (
            b ∷ below.0,
            subst (λ k. EncodesUnsigned width (b ∷ below.0) k) value (encode_more width b high.0.0 below.0 more byte room below.1),
            ap (λ x. b ∷ x) (below.2 ∙ ap (λ x. below.0 ++ x) behind),
          )
      | inr long ↦ absurd (none-some _ (sym (first-long width b input more long) ∙ e))
    ]
    | inr large ↦ absurd (none-some _ (sym (first-byte width b input large) ∙ e))
  ]
]

pub only_unsigned : (width : ℕ) (bytes rest : List ℕ) (n : ℕ) → EncodesUnsigned width bytes n
    → first_unsigned width (bytes ++ rest) ≡ Some (n, rest)
only_unsigned width [] rest n h = absurd h
only_unsigned width (b ∷ []) rest n h = first-last width b rest h.0 h.1 ∙ ap (λ k. Some (k, rest)) (sym h.2)
only_unsigned width (b ∷ c ∷ bytes) rest n h =
    first-more width b (c ∷ (bytes ++ rest)) h.0 h.1 h.2
    ∙ ap (option_map (λ (high : ℕ × List ℕ). (2 ^ 7 * high.0 + (b - 2 ^ 7), high.1))) (only_unsigned (width - 7) (c ∷ bytes) rest h.3 h.4)
    ∙ ap (λ k. Some (k, rest)) (sym h.5)

-- seven bits more
pub pow_seven : (width : ℕ) → 7 < width → 2 ^ 7 * 2 ^ (width - 7) ≡ 2 ^ width
pow_seven width room = sym (pow-add 2 7 (width - 7)) ∙ ap (λ k. 2 ^ k) (omega arith)

pub range_unsigned : (width : ℕ) (bytes : List ℕ) (n : ℕ) → 0 < width → EncodesUnsigned width bytes n
    → (n < 2 ^ width) × (0 < length bytes) × (7 * length bytes < width + 7)
range_unsigned width [] n some h = absurd h
range_unsigned width (b ∷ []) n some h = (omega (arith, h.1, h.2), omega arith, omega arith)
range_unsigned width (b ∷ c ∷ bytes) n some h =
    let above : 0 < width - 7 = omega (arith, h.2) in
    let high = range_unsigned (width - 7) (c ∷ bytes) h.3 above h.4 in
    let next : h.3 + 1 ≤ 2 ^ (width - 7) = omega (arith, high.0) in
    (omega (arith, mul-le-mul_left (2 ^ 7) next, pow_seven width h.2, h.0, h.1, h.5), omega arith, omega (arith, high.2, h.2))

-- ---- the shortest encoding

pub bytes-last : (more n : ℕ) → n < 2 ^ 7 → unsigned_bytes more n ≡ n ∷ []
unfolding unsigned_bytes
bytes-last zero n last = refl
bytes-last (suc more) n last = grind (arith, nat_tests)

pub bytes-more : (more n : ℕ) → 2 ^ 7 ≤ n
    → unsigned_bytes (suc more) n ≡ (n % 2 ^ 7 + 2 ^ 7) ∷ unsigned_bytes more (n / 2 ^ 7)
unfolding unsigned_bytes
bytes-more more n large = grind (arith, nat_tests)

pub shortest_unsigned : (width more n : ℕ) → n < 2 ^ width → n < 2 ^ (7 * suc more)
    → EncodesUnsigned width (unsigned_bytes more n) n
unfolding unsigned_bytes
shortest_unsigned width zero n fits few = (few, fits, refl)
shortest_unsigned width (suc more) n fits few = elim (cases_lt n (2 ^ 7)) [
  | inl last ↦ subst (λ bytes. EncodesUnsigned width bytes n) (sym (bytes-last (suc more) n last)) (last, fits, refl)
  | inr large ↦ elim (cases_lt 7 width) [
    | inl room ↦
        let up : width - 7 + 7 ≡ width = omega arith in
        let high = shortest_unsigned (width - 7) more (n / 2 ^ 7)
        (shr_below n (width - 7) 7 (rw (up) fits))
        (shr_below n (7 * suc more) 7 (rw (← mul-suc 7 (suc more)) few)) in
        let low : n % 2 ^ 7 < 2 ^ 7 = mod_below n (2 ^ 7) (omega arith) in
        let value : 2 ^ 7 * (n / 2 ^ 7) + (n % 2 ^ 7 + 2 ^ 7 - 2 ^ 7) ≡ n = omega arith in
        subst (λ bytes. EncodesUnsigned width bytes n) (sym (bytes-more more n large))
        (subst (λ k. EncodesUnsigned width ((n % 2 ^ 7 + 2 ^ 7) ∷ unsigned_bytes more (n / 2 ^ 7)) k) value
        (encode_more width (n % 2 ^ 7 + 2 ^ 7) (n / 2 ^ 7) (unsigned_bytes more (n / 2 ^ 7)) (omega arith) (omega arith) room high))
    | inr few ↦ absurd (omega (arith, pow_mono few))
  ]
]

pub least_unsigned : (width more : ℕ) (bytes : List ℕ) (n : ℕ) → EncodesUnsigned width bytes n
    → length (unsigned_bytes more n) ≤ length bytes
unfolding unsigned_bytes
least_unsigned width more [] n h = absurd h
least_unsigned width more (b ∷ []) n h = let last : n < 2 ^ 7 = omega (arith, h.0, h.2) in rw (bytes-last more n last) (omega arith)
least_unsigned width zero (b ∷ c ∷ bytes) n h = omega arith
least_unsigned width (suc more) (b ∷ c ∷ bytes) n h = elim (cases_lt n (2 ^ 7)) [
  | inl last ↦ rw (bytes-last (suc more) n last) (omega arith)
  | inr large ↦
      let rest : n / 2 ^ 7 ≡ h.3 = omega (arith, h.0, h.1, h.5) in
      rw (bytes-more more n large) (rw (rest) (omega (arith, least_unsigned (width - 7) more (c ∷ bytes) h.3 h.4)))
]

pub alone_unsigned : (width more : ℕ) (bytes : List ℕ) (n : ℕ) → EncodesUnsigned width bytes n
    → length bytes ≡ length (unsigned_bytes more n) → bytes ≡ unsigned_bytes more n
unfolding unsigned_bytes
alone_unsigned width more [] n h e = absurd h
alone_unsigned width more (b ∷ []) n h e =
    let last : n < 2 ^ 7 = omega (arith, h.0, h.2) in ap (λ x. x ∷ []) (sym h.2) ∙ sym (bytes-last more n last)
alone_unsigned width zero (b ∷ c ∷ bytes) n h e = absurd (omega arith)
alone_unsigned width (suc more) (b ∷ c ∷ bytes) n h e = elim (cases_lt n (2 ^ 7)) [
  | inl last ↦ absurd (omega (arith, e ∙ ap length (bytes-last (suc more) n last)))
  | inr large ↦
      let rest : n / 2 ^ 7 ≡ h.3 = omega (arith, h.0, h.1, h.5) in
      let low : n % 2 ^ 7 + 2 ^ 7 ≡ b = omega (arith, h.0, h.1, h.5) in
      let longer : length (b ∷ c ∷ bytes) ≡ suc (length (unsigned_bytes more (n / 2 ^ 7))) = e ∙ ap length (bytes-more more n large) in
      let same : length (c ∷ bytes) ≡ length (unsigned_bytes more h.3) = rw (← rest) (omega (arith, longer)) in
      ap (λ x. b ∷ x) (alone_unsigned (width - 7) more (c ∷ bytes) h.3 h.4 same)
      ∙ sym (bytes-more more n large ∙ ap (λ x. x ∷ unsigned_bytes more (n / 2 ^ 7)) low ∙ ap (λ k. b ∷ unsigned_bytes more k) rest)
]

-- room for more bytes changes nothing
bytes-room : (more n : ℕ) → n < 2 ^ (7 * suc more) → unsigned_bytes (suc more) n ≡ unsigned_bytes more n
bytes-room zero n few = bytes-last 1 n few ∙ sym (bytes-last 0 n few)
bytes-room (suc more) n few = elim (cases_lt n (2 ^ 7)) [
  | inl last ↦ bytes-last (suc (suc more)) n last ∙ sym (bytes-last (suc more) n last)
  | inr large ↦
      bytes-more (suc more) n large
      ∙ ap (λ rest. (n % 2 ^ 7 + 2 ^ 7) ∷ rest) (bytes-room more (n / 2 ^ 7) (shr_below n (7 * suc more) 7 (rw (← mul-suc 7 (suc more)) few)))
      ∙ sym (bytes-more more n large)
]

bytes-length : (more n : ℕ) → (0 < length (unsigned_bytes more n)) × (length (unsigned_bytes more n) ≤ suc more)
unfolding unsigned_bytes
bytes-length zero n = (omega arith, omega arith)
bytes-length (suc more) n = elim (cases_lt n (2 ^ 7)) [
  | inl last ↦ rw (bytes-last (suc more) n last) (omega arith, omega arith)
  | inr large ↦ rw (bytes-more more n large) (omega arith, omega (arith, (bytes-length more (n / 2 ^ 7)).1))
]

-- the shortest encoding of a u32, a byte at a time
pub u32-last : (n : ℕ) → n < 2 ^ 7 → u32_bytes n ≡ n ∷ []
unfolding u32_bytes
u32-last n last = bytes-last 4 n last

pub u32-more : (n : ℕ) → 2 ^ 7 ≤ n → n < 2 ^ 32 → u32_bytes n ≡ (n % 2 ^ 7 + 2 ^ 7) ∷ u32_bytes (n / 2 ^ 7)
unfolding u32_bytes
u32-more n large fits =
    bytes-more 3 n large ∙ ap (λ rest. (n % 2 ^ 7 + 2 ^ 7) ∷ rest) (sym (bytes-room 3 (n / 2 ^ 7) (omega arith)))

pub u32-length : (n : ℕ) → (0 < length (u32_bytes n)) × (length (u32_bytes n) ≤ 5)
unfolding u32_bytes
u32-length n = bytes-length 4 n
