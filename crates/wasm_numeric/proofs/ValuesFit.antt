-- What an operation computes of values that fit their type fits the type of the result.
use Rattle.std.proofs.Common.{◌≡◌, ℕ, zero, suc, ◌+◌, ◌-◌, ◌*◌, ◌/◌, ◌%◌, ◌^◌, ◌<◌, ◌≤◌, max, Bool, true, false, ◌==◌, if◌then◌else◌, not, nat_le, nat_lt, ◌&&◌, ℤ, pos, negsuc, IfOk, sym, subst, arith, inl, inr}
use Rattle.std.specs.Prelude.{int_lt, int_le}
use Rattle.std.proofs.Math.Nat.{mod-lt, mod-le, div-le_self, mul-le-mul_right, pow-suc}
use Rattle.std.proofs.Math.Pow.{pow_mono}
use Rattle.std.proofs.lemmas.Bool.{cases_eq, eq-eqb, ne_eqb}
use Rattle.std.proofs.lemmas.Nat.{pow_pos, or_lt}
use Rattle.base.specs.declared.opcodes.TheConstants.{I32_WRAP_I64, I64_EXTEND_I32_S}
use Rattle.wasm_numeric.specs.declared.operation.UnaryOp.{UnaryOp}
use Rattle.wasm_numeric.specs.declared.operation.UnaryOp.TheVariants.{Clz, Ctz, Popcnt, Extend8S, Extend16S, Extend32S}
use Rattle.wasm_numeric.specs.declared.operation.BinaryOp.{BinaryOp}
use Rattle.wasm_numeric.specs.declared.operation.BinaryOp.TheVariants.{Add, Sub, Mul, DivS, DivU, RemS, RemU, And, Or, Xor, Shl, ShrS, ShrU, Rotl, Rotr}
use Rattle.wasm_numeric.specs.declared.operation.CompareOp.{CompareOp}
use Rattle.wasm_numeric.specs.declared.operation.CompareOp.TheVariants.{Eq, Ne, LtS, LtU, GtS, GtU, LeS, LeU, GeS, GeU}
use Rattle.wasm_numeric.specs.Laws.{ResultsFit}
use Rattle.wasm_numeric.specs.Integer.{truth, compare_value, sum_below, greatest_below, modulo, signed, quotient, remainder, floor_quotient, bit, number_of_bits, rotl_by, BinaryValue, Bits, DivideByZero, Overflow, binary_value, unary_value, wrap, extend_s}
use Rattle.wasm_numeric.specs.Opcode.{Binary, kind_of, width, width_of, result_of, unary_op_of, binary_op_of, compare_op_of, unary_of, binary_of, convert_of, answer_of}
use Rattle.wasm_numeric.proofs.OpcodeTable.{unary_result, binary_result, binary_wide, ConvertWidths, convert_result}
use Rattle.wasm_numeric.proofs.Rotations.{rotl_is}

pub modulo_fits : (w : ℕ) (z : ℤ) → modulo w z < 2 ^ w
modulo_fits w (pos n) = mod-lt n (pow_pos w)
modulo_fits w (negsuc n) = omega (arith, pow_pos w)

number_of_bits_fits : (n : ℕ) (bits : ℕ → ℕ) → ((i : ℕ) → bits i ≤ 1) → number_of_bits n bits < 2 ^ n
number_of_bits_fits zero bits one = omega arith
number_of_bits_fits (suc n) bits one =
    let low : number_of_bits n bits < 2 ^ n = number_of_bits_fits n bits one in
    let high : bits n * 2 ^ n ≤ 1 * 2 ^ n = mul-le-mul_right (2 ^ n) (one n) in
    omega (arith, pow-suc 2 n)

rotl_by_fits : (w a k : ℕ) → k < w → a < 2 ^ w → rotl_by w a k < 2 ^ w
rotl_by_fits w a k below p =
    subst (λ n. n < 2 ^ w) (sym (rotl_is w a k below p))
    (or_lt w ((a * 2 ^ k) % 2 ^ w) (a / 2 ^ ((w - k) % w)) (mod-lt (a * 2 ^ k) (pow_pos w))
    (omega (arith, div-le_self a (2 ^ ((w - k) % w)))))

sum_of_bits : (n a : ℕ) → sum_below n (bit a) ≤ n
sum_of_bits zero a = omega arith
sum_of_bits (suc n) a = omega (arith, sum_of_bits n a)

greatest_below-le : (n : ℕ) (test : ℕ → Bool) → greatest_below n test ≤ n
greatest_below-le zero test = omega arith
greatest_below-le (suc n) test =
    let rest : greatest_below n test ≤ n = greatest_below-le n test in
    elim (test n) as (λ found. (if found then n else greatest_below n test) ≤ suc n) [ true ↦ omega arith | false ↦ omega arith ]

width_fits : (w : ℕ) → w < 2 ^ w
width_fits zero = omega arith
width_fits (suc w) = omega (arith, width_fits w, pow-suc 2 w)

count_fits : (w a n : ℕ) → n ≤ w → (if a == 0 then w else n) < 2 ^ w
count_fits w a n within =
    let room : w < 2 ^ w = width_fits w in
    elim (a == 0) as (λ zero'. (if zero' then w else n) < 2 ^ w) [ true ↦ room | false ↦ omega arith ]

pub unary_value_fits : (operation : UnaryOp) (w a : ℕ) → unary_value operation w a < 2 ^ w
unary_value_fits Clz w a = count_fits w a (w - 1 - greatest_below w (λ i. nat_le (2 ^ i) a)) (omega arith)
unary_value_fits Ctz w a =
    count_fits w a (greatest_below w (λ i. a % 2 ^ i == 0)) (greatest_below-le w (λ i. a % 2 ^ i == 0))
unary_value_fits Popcnt w a = omega (arith, sum_of_bits w a, width_fits w)
unary_value_fits Extend8S w a = modulo_fits w (signed 8 (a % 2 ^ 8))
unary_value_fits Extend16S w a = modulo_fits w (signed 16 (a % 2 ^ 16))
unary_value_fits Extend32S w a = modulo_fits w (signed 32 (a % 2 ^ 32))

-- the value, if there is one, has w bits
abbrev pub FitsIn : ℕ → BinaryValue → Type 0
FitsIn w (Bits n) = n < 2 ^ w
FitsIn w DivideByZero = Unit {0}
FitsIn w Overflow = Unit {0}

or_divide : (w : ℕ) (test : Bool) (v : BinaryValue) → FitsIn w v → FitsIn w (if test then DivideByZero else v)
or_divide w true v p = tt
or_divide w false v p = p

or_overflow : (w : ℕ) (test : Bool) (v : BinaryValue) → FitsIn w v → FitsIn w (if test then Overflow else v)
or_overflow w true v p = tt
or_overflow w false v p = p

one_bit : (x : ℕ) → x % 2 ≤ 1
one_bit x = omega arith

both_bits : (x y : ℕ) → x ≤ 1 → y ≤ 1 → x * y ≤ 1
both_bits zero y p q = grind arith
both_bits (suc x) y p q = grind arith

pub binary_value_fits : (operation : BinaryOp) (w a b : ℕ) → 0 < w → a < 2 ^ w → FitsIn w (binary_value operation w a b)
binary_value_fits Add w a b wide p = mod-lt (a + b) (pow_pos w)
binary_value_fits Sub w a b wide p = mod-lt (a + (2 ^ w - b)) (pow_pos w)
binary_value_fits Mul w a b wide p = mod-lt (a * b) (pow_pos w)
binary_value_fits DivS w a b wide p =
    or_divide w (b == 0) (if a == 2 ^ (w - 1) && b == 2 ^ w - 1 then Overflow else Bits (modulo w (quotient (signed w a) (signed w b))))
    (or_overflow w (a == 2 ^ (w - 1) && b == 2 ^ w - 1) (Bits (modulo w (quotient (signed w a) (signed w b))))
    (modulo_fits w (quotient (signed w a) (signed w b))))
binary_value_fits DivU w a b wide p = or_divide w (b == 0) (Bits (a / b)) (omega (arith, div-le_self a b))
binary_value_fits RemS w a b wide p =
    or_divide w (b == 0) (Bits (modulo w (remainder (signed w a) (signed w b)))) (modulo_fits w (remainder (signed w a) (signed w b)))
binary_value_fits RemU w a b wide p = or_divide w (b == 0) (Bits (a % b)) (omega (arith, mod-le a b))
binary_value_fits And w a b wide p =
    number_of_bits_fits w (λ i. bit a i * bit b i) (λ i. both_bits (bit a i) (bit b i) (one_bit (a / 2 ^ i)) (one_bit (b / 2 ^ i)))
binary_value_fits Or w a b wide p =
    number_of_bits_fits w (λ i. max (bit a i) (bit b i)) (λ i. omega (arith, one_bit (a / 2 ^ i), one_bit (b / 2 ^ i)))
binary_value_fits Xor w a b wide p =
    number_of_bits_fits w (λ i. (bit a i + bit b i) % 2) (λ i. one_bit (bit a i + bit b i))
binary_value_fits Shl w a b wide p = mod-lt (a * 2 ^ (b % w)) (pow_pos w)
binary_value_fits ShrS w a b wide p = modulo_fits w (floor_quotient (signed w a) (2 ^ (b % w)))
binary_value_fits ShrU w a b wide p = omega (arith, div-le_self a (2 ^ (b % w)))
binary_value_fits Rotl w a b wide p = rotl_by_fits w a (b % w) (mod-lt b wide) p
binary_value_fits Rotr w a b wide p = rotl_by_fits w a ((w - b % w) % w) (mod-lt (w - b % w) wide) p

-- the result of a call
pub fits_answer : (w : ℕ) (v : BinaryValue) → FitsIn w v → IfOk (answer_of v) (λ n. n < 2 ^ w)
fits_answer w (Bits n) p = p
fits_answer w DivideByZero p = tt
fits_answer w Overflow p = tt

-- ---- tests and comparisons

truth_small : (b : Bool) → truth b ≤ 1
truth_small true = omega arith
truth_small false = omega arith

compare_small : (operation : CompareOp) (w a b : ℕ) → compare_value operation w a b ≤ 1
compare_small Eq w a b = truth_small (a == b)
compare_small Ne w a b = truth_small (not (a == b))
compare_small LtS w a b = truth_small (int_lt (signed w a) (signed w b))
compare_small LtU w a b = truth_small (nat_lt a b)
compare_small GtS w a b = truth_small (int_lt (signed w b) (signed w a))
compare_small GtU w a b = truth_small (nat_lt b a)
compare_small LeS w a b = truth_small (int_le (signed w a) (signed w b))
compare_small LeU w a b = truth_small (nat_le a b)
compare_small GeS w a b = truth_small (int_le (signed w b) (signed w a))
compare_small GeU w a b = truth_small (nat_le b a)

-- ---- by opcode

pub binary_fits : (op a b : ℕ) → kind_of op ≡ Binary → a < 2 ^ width_of op
    → FitsIn (width (result_of op)) (binary_of op a b)
binary_fits op a b is p =
    subst (λ w. FitsIn w (binary_of op a b)) (sym (binary_result op is))
    (binary_value_fits (binary_op_of op) (width_of op) a b (binary_wide op is) p)

-- for an opcode, the width of its operand and that of its result
convert_by_widths : (op a w r : ℕ) → ConvertWidths w r op → a < 2 ^ w → convert_of op a < 2 ^ r
convert_by_widths op a w r widths p =
    elim (cases_eq op I32_WRAP_I64) [
      | inl wraps ↦
          rw (eq-eqb op I32_WRAP_I64 wraps)
          (subst (λ k. wrap a < 2 ^ k) (sym (widths.wraps wraps)) (mod-lt a (pow_pos 32)))
      | inr keeps ↦
          rw (ne_eqb op I32_WRAP_I64 keeps)
          (elim (cases_eq op I64_EXTEND_I32_S) [
            | inl extends ↦
                rw (eq-eqb op I64_EXTEND_I32_S extends)
                (subst (λ k. extend_s a < 2 ^ k) (sym (widths.extends extends)) (modulo_fits 64 (signed 32 a)))
            | inr same ↦
                rw (ne_eqb op I64_EXTEND_I32_S same) (omega (arith, p, pow_mono (widths.keeps keeps)))
          ])
    ]

pub results_fit : ResultsFit
results_fit = record {
  test = λ op a. truth_small (a == 0);
  compare = λ op a b. compare_small (compare_op_of op) (width_of op) a b;
  unary = λ op a is.
      subst (λ w. unary_of op a < 2 ^ w) (sym (unary_result op is))
      (unary_value_fits (unary_op_of op) (width_of op) a);
  binary = λ op a b n is p value. subst (FitsIn (width (result_of op))) value (binary_fits op a b is p);
  convert = λ op a is p. convert_by_widths op a (width_of op) (width (result_of op)) (convert_result op is) p;
}
