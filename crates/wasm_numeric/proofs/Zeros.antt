-- The kit's counts of zeros are by the greatest exponents.
use Rattle.std.proofs.Common.{◌≡◌, ◌≢◌, ℕ, zero, suc, ◌*◌, ◌%◌, ◌^◌, ◌<◌, ◌≤◌, Bool, true, false, nat_le, ◌==◌, refl, sym, ◌∙◌, ap, subst, arith, inl, inr, eq-eqb}
use Rattle.std.proofs.Math.Nat.{eq-or-lt_of_le}
use Rattle.std.proofs.Math.Pow.{pow_mono}
use Rattle.std.specs.Int.{Width, trailing_zeros}
use mir.Val.{bits}
use Rattle.std.specs.Int.Count.{count_leading_zeros, count_trailing_zeros}
use Rattle.std.proofs.lemmas.Bool.{le-leb, lt-leb, ne_eqb}
use Rattle.std.proofs.lemmas.Nat.{leading_top, pow_pos}
use Rattle.std.proofs.lemmas.Nat.Bits.{bit_at-trailing_zeros}
use Rattle.wasm_numeric.specs.Integer.{greatest_below, sum_below, number_of_bits, bit, clz, ctz}
use Rattle.wasm_numeric.proofs.Bitwise.{number_of_bits-bit}

-- the greatest i below n that passes the test
greatest_below-is : (n j : ℕ) (test : ℕ → Bool) → j < n → test j ≡ true → ((i : ℕ) → j < i → test i ≡ false)
    → greatest_below n test ≡ j
greatest_below-is zero j test q passes fails = absurd (omega arith)
greatest_below-is (suc n) j test q passes fails =
    elim (eq-or-lt_of_le (let here : j ≤ n = omega arith in here)) [
      | inl same ↦
          (let here : test n ≡ true = subst (λ x. test x ≡ true) same passes in
          rw here (sym same))
      | inr less ↦
          (let above : test n ≡ false = fails n less in
          rw above (greatest_below-is n j test less passes fails))
    ]

sum_below-zero : (n : ℕ) (f : ℕ → ℕ) → ((i : ℕ) → i < n → f i ≡ 0) → sum_below n f ≡ 0
sum_below-zero zero f none = refl
sum_below-zero (suc n) f none =
    let rest : sum_below n f ≡ 0 = sum_below-zero n f (λ i h. none i (omega arith)) in
    let last : f n ≡ 0 = none n (omega arith) in
    omega arith

sum_below-at_least : (n t : ℕ) (f : ℕ → ℕ) → t < n → f t ≤ sum_below n f
sum_below-at_least zero t f h = absurd (omega arith)
sum_below-at_least (suc n) t f h =
    elim (eq-or-lt_of_le (let here : t ≤ n = omega arith in here)) [
      | inl same ↦
          (let last : f t ≡ f n = ap f same in omega arith)
      | inr less ↦
          (let before : f t ≤ sum_below n f = sum_below-at_least n t f less in omega arith)
    ]

leading_zeros_of_zero : (w : ℕ) → count_leading_zeros w 0 ≡ w
unfolding count_leading_zeros
leading_zeros_of_zero zero = refl
leading_zeros_of_zero (suc w) = refl

nonzero : (a : ℕ) → (suc a == 0) ≡ false
nonzero a = ne_eqb (suc a) 0 (λ e. omega arith)

pub clz_is : (w a : ℕ) → a < 2 ^ w → clz w a ≡ count_leading_zeros w a
clz_is w zero p = sym (leading_zeros_of_zero w)
clz_is w (suc a) p =
    let (j, left, low, high) = leading_top w (suc a) (omega arith) p in
    let greatest : greatest_below w (λ i. nat_le (2 ^ i) (suc a)) ≡ j =
    greatest_below-is w j (λ i. nat_le (2 ^ i) (suc a)) (omega (arith, left)) (le-leb (2 ^ j) (suc a) low)
    (λ i above. lt-leb (2 ^ i) (suc a) (omega (arith, high, pow_mono (let next : suc j ≤ i = omega arith in next)))) in
    rw (nonzero a) (omega (arith, left))

trailing_zeros_of_zero : (w : ℕ) → count_trailing_zeros w 0 ≡ w
unfolding count_trailing_zeros
trailing_zeros_of_zero zero = refl
trailing_zeros_of_zero (suc w) = ap suc (trailing_zeros_of_zero w)

-- 2 ^ i divides a up to the lowest 1, and not past it
divides : (a i : ℕ) → ((k : ℕ) → k < i → bit a k ≡ 0) → a % 2 ^ i ≡ 0
divides a i none =
    sym (number_of_bits-bit i a)
    ∙ sum_below-zero i (λ k. bit a k * 2 ^ k) (λ k h. ap (λ x. x * 2 ^ k) (none k h) ∙ omega arith)

divides_not : (a t i : ℕ) → t < i → bit a t ≡ 1 → a % 2 ^ i ≢ 0
divides_not a t i less one =
    let part : bit a t * 2 ^ t ≤ number_of_bits i (bit a) = sum_below-at_least i t (λ k. bit a k * 2 ^ k) less in
    let here : bit a t * 2 ^ t ≡ 1 * 2 ^ t = ap (λ x. x * 2 ^ t) one in
    λ gone. omega (arith, number_of_bits-bit i a, pow_pos t)

pub ctz_is : (w : Width) (a : ℕ) → a < 2 ^ bits w → ctz (bits w) a ≡ trailing_zeros w a
ctz_is w zero p = sym (trailing_zeros_of_zero (bits w))
ctz_is w (suc a) p =
    let (within, one, none) = bit_at-trailing_zeros w (suc a) (omega arith) p in
    let lowest = trailing_zeros w (suc a) in
    rw (nonzero a)
    (greatest_below-is (bits w) lowest (λ i. suc a % 2 ^ i == 0) within
    (eq-eqb (suc a % 2 ^ lowest) 0 (divides (suc a) lowest none))
    (λ i above. ne_eqb (suc a % 2 ^ i) 0 (divides_not (suc a) lowest i above one)))
