-- The kit's bitwise operators and its count of ones are the sums over bits.
use Rattle.std.proofs.Common.{◌≡◌, ℕ, zero, suc, ◌+◌, ◌*◌, ◌/◌, ◌%◌, ◌^◌, ◌<◌, min, max, bit_and, bit_or, bit_xor, refl, sym, ◌∙◌, ap, ap₂, arith}
use Rattle.std.proofs.Math.Nat.{mod-lt, mod-eq_of_lt, mod-one}
use Rattle.std.proofs.Math.Numerals.{one-add}
use Rattle.std.specs.Int.Count.{ones}
use Rattle.std.proofs.lemmas.Nat.{mod-pow-add, or_lt, xor_lt, and_le_l, ones_cat, pow_pos}
use Rattle.std.proofs.lemmas.Nat.Bits.{bit_at_and, bit_at_or, bit_at_xor}
use Rattle.wasm_numeric.specs.Integer.{sum_below, number_of_bits, bit}

pub sum_below-same : (n : ℕ) (f g : ℕ → ℕ) → ((i : ℕ) → f i ≡ g i) → sum_below n f ≡ sum_below n g
sum_below-same zero f g same = refl
sum_below-same (suc n) f g same = ap₂ (λ x y. x + y) (sum_below-same n f g same) (same n)

-- one bit more
next_bit : (c n : ℕ) → c % 2 ^ suc n ≡ c % 2 ^ n + bit c n * 2 ^ n
next_bit c n = ap (λ k. c % 2 ^ k) (sym (one-add n)) ∙ mod-pow-add c 1 n ∙ omega arith

-- a number is the sum of its bits
pub number_of_bits-bit : (n c : ℕ) → number_of_bits n (bit c) ≡ c % 2 ^ n
number_of_bits-bit zero c = sym (mod-one c)
number_of_bits-bit (suc n) c = ap (λ x. x + bit c n * 2 ^ n) (number_of_bits-bit n c) ∙ sym (next_bit c n)

below_two : (x : ℕ) → x % 2 < 2
below_two x = omega arith

product_of_bits : (x y : ℕ) → x < 2 → y < 2 → x * y ≡ min x y
product_of_bits zero y p q = grind arith
product_of_bits (suc x) y p q = grind arith

-- a number below 2 ^ n whose bits are f is the sum of f
sum_is : (n c : ℕ) (f : ℕ → ℕ) → c < 2 ^ n → ((i : ℕ) → f i ≡ bit c i) → number_of_bits n f ≡ c
sum_is n c f small same =
    sum_below-same n (λ i. f i * 2 ^ i) (λ i. bit c i * 2 ^ i) (λ i. ap (λ x. x * 2 ^ i) (same i))
    ∙ number_of_bits-bit n c ∙ mod-eq_of_lt small

pub and_is : (n a b : ℕ) → a < 2 ^ n → number_of_bits n (λ i. bit a i * bit b i) ≡ bit_and a b
and_is n a b p =
    sum_is n (bit_and a b) (λ i. bit a i * bit b i) (omega (arith, and_le_l a b))
    (λ i. product_of_bits (bit a i) (bit b i) (below_two (a / 2 ^ i)) (below_two (b / 2 ^ i)) ∙ sym (bit_at_and a b i))

pub or_is : (n a b : ℕ) → a < 2 ^ n → b < 2 ^ n → number_of_bits n (λ i. max (bit a i) (bit b i)) ≡ bit_or a b
or_is n a b p q =
    sum_is n (bit_or a b) (λ i. max (bit a i) (bit b i)) (or_lt n a b p q) (λ i. sym (bit_at_or a b i))

pub xor_is : (n a b : ℕ) → a < 2 ^ n → b < 2 ^ n → number_of_bits n (λ i. (bit a i + bit b i) % 2) ≡ bit_xor a b
xor_is n a b p q =
    sum_is n (bit_xor a b) (λ i. (bit a i + bit b i) % 2) (xor_lt n a b p q) (λ i. sym (bit_at_xor a b i))

-- a bit has as many ones as it says
ones_of_bit : (x : ℕ) → x < 2 → ones x ≡ x
unfolding ones
ones_of_bit zero p = refl
ones_of_bit (suc zero) p = refl
ones_of_bit (suc (suc x)) p = absurd (omega arith)

ones_below : (n a : ℕ) → sum_below n (bit a) ≡ ones (a % 2 ^ n)
ones_below zero a = sym (ones_of_bit 0 (omega arith)) ∙ ap ones (sym (mod-one a))
ones_below (suc n) a =
    ap₂ (λ x y. x + y) (ones_below n a) (sym (ones_of_bit (bit a n) (below_two (a / 2 ^ n))))
    ∙ (let swap : ones (a % 2 ^ n) + ones (bit a n) ≡ ones (bit a n) + ones (a % 2 ^ n) = omega arith in swap)
    ∙ sym (ones_cat n (bit a n) (a % 2 ^ n) (mod-lt a (pow_pos n)))
    ∙ ap ones ((let turn : bit a n * 2 ^ n + a % 2 ^ n ≡ a % 2 ^ n + bit a n * 2 ^ n = omega arith in turn) ∙ sym (next_bit a n))

pub popcnt_is : (n a : ℕ) → a < 2 ^ n → sum_below n (bit a) ≡ ones a
popcnt_is n a p = ones_below n a ∙ ap ones (mod-eq_of_lt p)
