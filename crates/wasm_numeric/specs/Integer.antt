-- What the integer operations compute (Core 1.0, 4.3.2; conversions 4.3.4; sign extensions: Core 2.0, 4.3.2). A value
-- of w bits is a number below 2 ^ w.
use Rattle.std.specs.Prelude.{ℕ, zero, suc, ◌+◌, ◌-◌, ◌*◌, ◌/◌, ◌%◌, ◌^◌, max, Bool, true, false, not, ◌&&◌, if◌then◌else◌, nat_lt, nat_le, ◌==◌, ℤ, pos, negsuc, ◌-ℤ◌, neg_ℤ, unsigned_abs, int_lt, int_le}
use Rattle.wasm_numeric.specs.declared.operation.UnaryOp.{UnaryOp}
use Rattle.wasm_numeric.specs.declared.operation.UnaryOp.TheVariants.{Clz, Ctz, Popcnt, Extend8S, Extend16S, Extend32S}
use Rattle.wasm_numeric.specs.declared.operation.BinaryOp.{BinaryOp}
use Rattle.wasm_numeric.specs.declared.operation.BinaryOp.TheVariants.{Add, Sub, Mul, DivS, DivU, RemS, RemU, And, Or, Xor, Shl, ShrS, ShrU, Rotl, Rotr}
use Rattle.wasm_numeric.specs.declared.operation.CompareOp.{CompareOp}
use Rattle.wasm_numeric.specs.declared.operation.CompareOp.TheVariants.{Eq, Ne, LtS, LtU, GtS, GtU, LeS, LeU, GeS, GeU}

-- ---- words

-- f 0 + f 1 + .. + f (n - 1)
abbrev pub sum_below : ℕ → (ℕ → ℕ) → ℕ
sum_below zero f = 0
sum_below (suc n) f = sum_below n f + f n

-- the greatest i below n that passes the test, or 0
abbrev pub greatest_below : ℕ → (ℕ → Bool) → ℕ
greatest_below zero test = 0
greatest_below (suc n) test = if test n then n else greatest_below n test

-- "Boolean interpretation": 1 for true and 0 for false
abbrev pub truth : Bool → ℕ
truth true = 1
truth false = 0

-- "sign interpretation": a, or a - 2 ^ w if a is at least half of 2 ^ w
abbrev pub signed : (w a : ℕ) → ℤ
signed w a = if nat_lt a (2 ^ (w - 1)) then pos a else pos a -ℤ pos (2 ^ w)

-- z modulo 2 ^ w; `negsuc n` is -(n + 1)
abbrev pub modulo : (w : ℕ) (z : ℤ) → ℕ
modulo w (pos n) = n % 2 ^ w
modulo w (negsuc n) = 2 ^ w - 1 - n % 2 ^ w

abbrev pub is_negative : ℤ → Bool
is_negative (pos n) = false
is_negative (negsuc n) = true

-- m, or -m if the test is true
abbrev pub negated_if : Bool → ℕ → ℤ
negated_if false m = pos m
negated_if true m = neg_ℤ (pos m)

abbrev pub differ : Bool → Bool → Bool
differ false b = b
differ true b = not b

-- x / y cut towards zero, for a y other than 0
abbrev pub quotient : (x y : ℤ) → ℤ
quotient x y = negated_if (differ (is_negative x) (is_negative y)) (unsigned_abs x / unsigned_abs y)

-- the remainder of x / y cut towards zero, with the sign of x
abbrev pub remainder : (x y : ℤ) → ℤ
remainder x y = negated_if (is_negative x) (unsigned_abs x % unsigned_abs y)

-- the greatest integer that is at most z / n; `negsuc m` is -(m + 1)
abbrev pub floor_quotient : (z : ℤ) (n : ℕ) → ℤ
floor_quotient (pos m) n = pos (m / n)
floor_quotient (negsuc m) n = negsuc (m / n)

-- bit i of a
abbrev pub bit : (a i : ℕ) → ℕ
bit a i = a / 2 ^ i % 2

-- the number of w bits whose bit i is `bits i`
abbrev pub number_of_bits : (w : ℕ) (bits : ℕ → ℕ) → ℕ
number_of_bits w bits = sum_below w (λ i. bits i * 2 ^ i)

-- ---- operations on two values

-- what a binary operation computes: a value, or why it is undefined
pub data BinaryValue : Type 0 where
  Bits : ℕ → BinaryValue
  DivideByZero : BinaryValue
  Overflow : BinaryValue

-- "idiv_s", at w bits
abbrev pub div_s : (w a b : ℕ) → BinaryValue
div_s w a b =
    if b == 0 then DivideByZero
    else if a == 2 ^ (w - 1) && b == 2 ^ w - 1 then Overflow
    else Bits (modulo w (quotient (signed w a) (signed w b)))

-- "idiv_u"
abbrev pub div_u : (w a b : ℕ) → BinaryValue
div_u w a b = if b == 0 then DivideByZero else Bits (a / b)

-- "irem_s": 0 if `div_s` overflows, since 1 divides every number
abbrev pub rem_s : (w a b : ℕ) → BinaryValue
rem_s w a b = if b == 0 then DivideByZero else Bits (modulo w (remainder (signed w a) (signed w b)))

-- "irem_u"
abbrev pub rem_u : (w a b : ℕ) → BinaryValue
rem_u w a b = if b == 0 then DivideByZero else Bits (a % b)

-- "irotl" by k bits, for a k below w
abbrev pub rotl_by : (w a k : ℕ) → ℕ
rotl_by w a k = (a * 2 ^ k) % 2 ^ w + a / 2 ^ (w - k)

-- what each operation computes of a and b, at w bits
abbrev pub binary_value : BinaryOp → (w a b : ℕ) → BinaryValue
binary_value Add w a b = Bits ((a + b) % 2 ^ w)
binary_value Sub w a b = Bits ((a + (2 ^ w - b)) % 2 ^ w)
binary_value Mul w a b = Bits ((a * b) % 2 ^ w)
binary_value DivS w a b = div_s w a b
binary_value DivU w a b = div_u w a b
binary_value RemS w a b = rem_s w a b
binary_value RemU w a b = rem_u w a b
binary_value And w a b = Bits (number_of_bits w (λ i. bit a i * bit b i))
binary_value Or w a b = Bits (number_of_bits w (λ i. max (bit a i) (bit b i)))
binary_value Xor w a b = Bits (number_of_bits w (λ i. (bit a i + bit b i) % 2))
binary_value Shl w a b = Bits ((a * 2 ^ (b % w)) % 2 ^ w)
binary_value ShrS w a b = Bits (modulo w (floor_quotient (signed w a) (2 ^ (b % w))))
binary_value ShrU w a b = Bits (a / 2 ^ (b % w))
binary_value Rotl w a b = Bits (rotl_by w a (b % w))
binary_value Rotr w a b = Bits (rotl_by w a ((w - b % w) % w))

-- ---- operations on one value

-- "iclz": the zeros above the highest 1, or w
abbrev pub clz : (w a : ℕ) → ℕ
clz w a = if a == 0 then w else w - 1 - greatest_below w (λ i. nat_le (2 ^ i) a)

-- "ictz": the zeros below the lowest 1, or w
abbrev pub ctz : (w a : ℕ) → ℕ
ctz w a = if a == 0 then w else greatest_below w (λ i. a % 2 ^ i == 0)

-- "iextend_s": the lowest `low` bits of a with their sign, as a number of w bits
abbrev pub extended : (low w a : ℕ) → ℕ
extended low w a = modulo w (signed low (a % 2 ^ low))

-- what each operation computes of a, at w bits
abbrev pub unary_value : UnaryOp → (w a : ℕ) → ℕ
unary_value Clz w a = clz w a
unary_value Ctz w a = ctz w a
unary_value Popcnt w a = sum_below w (λ i. bit a i)
unary_value Extend8S w a = extended 8 w a
unary_value Extend16S w a = extended 16 w a
unary_value Extend32S w a = extended 32 w a

-- ---- tests, which give 1 or 0

-- "ieqz"
abbrev pub eqz : ℕ → ℕ
eqz a = truth (a == 0)

-- what each comparison gives at a and b, at w bits
abbrev pub compare_value : CompareOp → (w a b : ℕ) → ℕ
compare_value Eq w a b = truth (a == b)
compare_value Ne w a b = truth (not (a == b))
compare_value LtS w a b = truth (int_lt (signed w a) (signed w b))
compare_value LtU w a b = truth (nat_lt a b)
compare_value GtS w a b = truth (int_lt (signed w b) (signed w a))
compare_value GtU w a b = truth (nat_lt b a)
compare_value LeS w a b = truth (int_le (signed w a) (signed w b))
compare_value LeU w a b = truth (nat_le a b)
compare_value GeS w a b = truth (int_le (signed w b) (signed w a))
compare_value GeU w a b = truth (nat_le b a)

-- ---- conversions (Core 1.0, 4.3.4)

-- "wrap", from 64 bits to 32
abbrev pub wrap : ℕ → ℕ
wrap a = a % 2 ^ 32

-- "extend_s", from 32 bits to 64
abbrev pub extend_s : ℕ → ℕ
extend_s a = modulo 64 (signed 32 a)
