-- A numeric instruction that is not refused gives a value of its type, or traps. Its rows in the two tables of
-- opcodes agree, which is computed over all opcodes.
use Rattle.std.proofs.Common.{◌≡◌, ℕ, ◌^◌, ◌<◌, ◌≤◌, List, [], ◌∷◌, Option, Some, None, Bool, true, false, ◌&&◌, cond, refl, sym, subst, arith}
use Rattle.std.specs.Prelude.{nat_lt, nat_le, reverse}
use Rattle.std.specs.List.{list_all}
use Rattle.std.proofs.lemmas.Bool.{ltb-true, leb-true}
use Rattle.wasm_syntax.proofs.ValTypes.{type_same, types_same}
use Rattle.base.proofs.Booleans.{and_parts, all_below, passes_below}
use Rattle.wasm_syntax.specs.declared.values.ValType.{ValType}
use Rattle.wasm_syntax.specs.declared.values.ValType.TheVariants.{I32, I64, F32, F64}
use Rattle.wasm_syntax.specs.declared.values.Val.{Val}
use Rattle.wasm_syntax.specs.declared.profile.Feature.{Feature}
use Rattle.wasm_syntax.specs.Alike.{same_type, same_types}
use Rattle.wasm_syntax.specs.Opcodes.{is_from, Shape, Row, row_of as shape_among, numeric_rows, numeric_shape}
use Rattle.wasm_syntax.specs.Profile.{feature_of}
use Rattle.wasm_numeric.specs.Integer.{BinaryValue, Bits, DivideByZero, Overflow}
use Rattle.wasm_numeric.specs.Laws.{ResultsFit}
use Rattle.wasm_numeric.specs.Opcode.{NumType, I32 as N32, I64 as N64, F32 as NF32, F64 as NF64, Kind, Test, Compare, Unary, Binary, Convert, FloatComparison, FloatArithmetic, FloatConversion, NotNumeric, width, kind_of, row_of, test_of, compare_of, unary_of, binary_of, convert_of}
use Rattle.history_spec.specs.Numeric.{NumericValue, Computed, Undefined, Unsupported, of_binary, of_one, of_two, numeric_value}
use Rattle.type_safety.specs.Values.{count_of, AreValues}

-- ---- the two tables agree

abbrev val_type : NumType → ValType
val_type N32 = I32
val_type N64 = I64
val_type NF32 = F32
val_type NF64 = F64

abbrev takes_one : (operand result : NumType) → Shape → Bool
takes_one operand result shape =
    same_types shape.operands (val_type operand ∷ []) && same_type shape.result (val_type result)

abbrev takes_two : (operand result : NumType) → Shape → Bool
takes_two operand result shape =
    same_types shape.operands (val_type operand ∷ val_type operand ∷ []) && same_type shape.result (val_type result)

abbrev agree : Kind → (operand result : NumType) → Shape → Bool
agree Test operand result shape = takes_one operand result shape
agree Compare operand result shape = takes_two operand result shape
agree Unary operand result shape = takes_one operand result shape
agree Binary operand result shape = takes_two operand result shape
agree Convert operand result shape = takes_one operand result shape
agree kind operand result shape = false

abbrev agrees_as : ℕ → Option Shape → Option Feature → Bool
agrees_as op None feature = true
agrees_as op (Some shape) None = agree (kind_of op) (row_of op).operand (row_of op).result shape
agrees_as op (Some shape) (Some feature) = true

abbrev agrees : ℕ → Bool
agrees op = agrees_as op (numeric_shape op) (feature_of op)

all_agree : all_below 256 agrees ≡ true
all_agree = refl

-- an opcode with a row is a byte

pub below_high : (rows : List Row) (op : ℕ) (shape : Shape) → list_all (λ row. nat_lt row.high 256) rows ≡ true
    → shape_among rows op ≡ Some shape → op < 256
below_high [] op shape all is = cc
below_high (row ∷ rows) op shape all is = by (is_from row.low row.high op) refl (below_high rows op shape p.1)
  where
    p : (nat_lt row.high 256 ≡ true) × (list_all (λ r. nat_lt r.high 256) rows ≡ true)
    p = and_parts (nat_lt row.high 256) (list_all (λ r. nat_lt r.high 256) rows) all

    by : (b : Bool) → is_from row.low row.high op ≡ b → (shape_among rows op ≡ Some shape → op < 256) → op < 256
    by true e later =
        let q = and_parts (nat_le row.low op) (nat_le op row.high) e in
        let high : row.high < 256 = ltb-true row.high 256 p.0 in
        let within : op ≤ row.high = leb-true op row.high q.1 in
        omega arith
    by false e later = later (subst (λ b. cond b (Some row.shape) (shape_among rows op) ≡ Some shape) e is)

agree_at : (op : ℕ) (shape : Shape) → numeric_shape op ≡ Some shape → feature_of op ≡ None
    → agree (kind_of op) (row_of op).operand (row_of op).result shape ≡ true
agree_at op shape is supported =
    let below : op < 256 = below_high numeric_rows op shape refl is in
    let passes : agrees op ≡ true = passes_below 256 agrees all_agree op below in
    subst (λ f. agrees_as op (Some shape) f ≡ true) supported
    (subst (λ o. agrees_as op o (feature_of op) ≡ true) is passes)

-- ---- values

count_is : (n : ℕ) (t : NumType) → count_of n (val_type t) ≡ 2 ^ width t
count_is n N32 = refl
count_is n N64 = refl
count_is n NF32 = refl
count_is n NF64 = refl

one_below : (t : NumType) → 1 < 2 ^ width t
one_below N32 = omega arith
one_below N64 = omega arith
one_below NF32 = omega arith
one_below NF64 = omega arith

-- the result is a value of the type, or a trap
abbrev pub IsNumber : ℕ → ValType → NumericValue → Type 0
IsNumber n t (Computed bits) = bits < count_of n t
IsNumber n t (Undefined kind) = Unit {0}
IsNumber n t Unsupported = ⊥

binary_number : (n : ℕ) (t : NumType) (value : BinaryValue) → ((bits : ℕ) → value ≡ Bits bits → bits < 2 ^ width t)
    → IsNumber n (val_type t) (of_binary value)
binary_number n t (Bits bits) fits = subst (λ k. bits < k) (sym (count_is n t)) (fits bits refl)
binary_number n t DivideByZero fits = tt
binary_number n t Overflow fits = tt

module _ (laws : ResultsFit) (n op : ℕ) where
  abbrev operand : NumType
  operand = (row_of op).operand

  abbrev result : NumType
  result = (row_of op).result

  -- the results of operations with one operand and with two, by kind
  one_number : (k : Kind) → kind_of op ≡ k → (shape : Shape) → takes_one operand result shape ≡ true
      → ((a : ℕ) → a < 2 ^ width operand → IsNumber n (val_type result) (of_one k op a))
      → (operands : List Val) → AreValues n shape.operands operands
      → IsNumber n shape.result (numeric_value op operands)
  one_number k is shape agree' value operands p =
      let q = and_parts (same_types shape.operands (val_type operand ∷ [])) (same_type shape.result (val_type result))
      agree' in
      let types = types_same shape.operands (val_type operand ∷ []) q.0 in
      let to = type_same shape.result (val_type result) q.1 in
      subst (λ t. IsNumber n t (numeric_value op operands)) (sym to)
      (by operands (subst (λ ts. AreValues n ts operands) types p))
    where
      by : (vs : List Val) → AreValues n (val_type operand ∷ []) vs → IsNumber n (val_type result) (numeric_value op vs)
      by [] h = absurd h
      by (a ∷ []) h = subst (λ kind. IsNumber n (val_type result) (of_one kind op a.bits)) (sym is)
          (value a.bits (subst (λ c. a.bits < c) (count_is n operand) h.0.in_range))
      by (a ∷ b ∷ vs) h = absurd h.1

  two_number : (k : Kind) → kind_of op ≡ k → (shape : Shape) → takes_two operand result shape ≡ true
      → ((a b : ℕ) → a < 2 ^ width operand → IsNumber n (val_type result) (of_two k op a b))
      → (operands : List Val) → AreValues n shape.operands operands
      → IsNumber n shape.result (numeric_value op operands)
  two_number k is shape agree' value operands p =
      let q = and_parts (same_types shape.operands (val_type operand ∷ val_type operand ∷ []))
      (same_type shape.result (val_type result)) agree' in
      let types = types_same shape.operands (val_type operand ∷ val_type operand ∷ []) q.0 in
      let to = type_same shape.result (val_type result) q.1 in
      subst (λ t. IsNumber n t (numeric_value op operands)) (sym to)
      (by operands (subst (λ ts. AreValues n ts operands) types p))
    where
      by : (vs : List Val) → AreValues n (val_type operand ∷ val_type operand ∷ []) vs
          → IsNumber n (val_type result) (numeric_value op vs)
      by [] h = absurd h
      by (a ∷ []) h = absurd h.1
      by (a ∷ b ∷ []) h = subst (λ kind. IsNumber n (val_type result) (of_two kind op a.bits b.bits)) (sym is)
          (value a.bits b.bits (subst (λ c. a.bits < c) (count_is n operand) h.0.in_range))
      by (a ∷ b ∷ c ∷ vs) h = absurd h.1.1

  small : (bits : ℕ) → bits ≤ 1 → bits < count_of n (val_type result)
  small bits h = subst (λ c. bits < c) (sym (count_is n result)) (omega (arith, one_below result))

  in_width : (bits : ℕ) → bits < 2 ^ width result → bits < count_of n (val_type result)
  in_width bits h = subst (λ c. bits < c) (sym (count_is n result)) h

  by_kind : (k : Kind) → kind_of op ≡ k → (shape : Shape) → agree k operand result shape ≡ true
      → (operands : List Val) → AreValues n shape.operands operands
      → IsNumber n shape.result (numeric_value op operands)
  by_kind Test is shape agree' = one_number Test is shape agree' (λ a h. small (test_of op a) (laws.test op a))
  by_kind Compare is shape agree' =
      two_number Compare is shape agree' (λ a b h. small (compare_of op a b) (laws.compare op a b))
  by_kind Unary is shape agree' =
      one_number Unary is shape agree' (λ a h. in_width (unary_of op a) (laws.unary op a is))
  by_kind Binary is shape agree' =
      two_number Binary is shape agree'
      (λ a b h. binary_number n result (binary_of op a b) (λ bits e. laws.binary op a b bits is h e))
  by_kind Convert is shape agree' =
      one_number Convert is shape agree' (λ a h. in_width (convert_of op a) (laws.convert op a is h))
  by_kind FloatComparison is shape agree' = cc
  by_kind FloatArithmetic is shape agree' = cc
  by_kind FloatConversion is shape agree' = cc
  by_kind NotNumeric is shape agree' = cc

  pub number_fine : (shape : Shape) → numeric_shape op ≡ Some shape → feature_of op ≡ None
      → (operands : List Val) → AreValues n shape.operands operands
      → IsNumber n shape.result (numeric_value op operands)
  number_fine shape is supported = by_kind (kind_of op) refl shape (agree_at op shape is supported)

-- the operands of a numeric instruction are of one type
one_reversed : (operand result : NumType) (shape : Shape) → takes_one operand result shape ≡ true
    → reverse shape.operands ≡ shape.operands
one_reversed operand result shape h =
    let q = and_parts (same_types shape.operands (val_type operand ∷ [])) (same_type shape.result (val_type result))
    h in
    subst (λ ts. reverse ts ≡ ts) (sym (types_same shape.operands (val_type operand ∷ []) q.0)) refl

two_reversed : (operand result : NumType) (shape : Shape) → takes_two operand result shape ≡ true
    → reverse shape.operands ≡ shape.operands
two_reversed operand result shape h =
    let q = and_parts (same_types shape.operands (val_type operand ∷ val_type operand ∷ []))
    (same_type shape.result (val_type result)) h in
    subst (λ ts. reverse ts ≡ ts) (sym (types_same shape.operands (val_type operand ∷ val_type operand ∷ []) q.0)) refl

reversed_as : (k : Kind) (operand result : NumType) (shape : Shape) → agree k operand result shape ≡ true
    → reverse shape.operands ≡ shape.operands
reversed_as Test operand result shape h = one_reversed operand result shape h
reversed_as Compare operand result shape h = two_reversed operand result shape h
reversed_as Unary operand result shape h = one_reversed operand result shape h
reversed_as Binary operand result shape h = two_reversed operand result shape h
reversed_as Convert operand result shape h = one_reversed operand result shape h
reversed_as k operand result shape h = cc

pub operands_reversed : (op : ℕ) (shape : Shape) → numeric_shape op ≡ Some shape → feature_of op ≡ None
    → reverse shape.operands ≡ shape.operands
operands_reversed op shape is supported =
    reversed_as (kind_of op) (row_of op).operand (row_of op).result shape (agree_at op shape is supported)
