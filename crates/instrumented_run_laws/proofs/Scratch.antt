-- The added locals of an instrumented function.
use Rattle.std.proofs.Common.{◌≡◌, ℕ, zero, suc, ◌+◌, List, [], ◌∷◌, ◌++◌, length, Some, slice_get, slice_set, refl, ap, arith}
use Rattle.base.proofs.Lists.{get_after_by}
use Rattle.wasm_syntax.specs.declared.values.ValType.{ValType}
use Rattle.wasm_syntax.specs.declared.values.ValType.TheVariants.{I32, I64, F32, F64, FuncRef}
use Rattle.wasm_syntax.specs.declared.values.Val.{Val}
use Rattle.record_replay_spec.specs.Insertions.{Site, address_local, value_local}
use Rattle.instrumented_run_laws.proofs.PieceSteps.{typed}

-- the bits in the added locals: an address or an index, and a value of each type
pub record Scratch : Type 0 where
  pub address : ℕ
  pub in_i32 : ℕ
  pub in_i64 : ℕ
  pub in_f32 : ℕ
  pub in_f64 : ℕ

abbrev pub scratch_values : Scratch → List Val
scratch_values x =
    typed I32 x.address ∷ typed I32 x.in_i32 ∷ typed I64 x.in_i64 ∷ typed F32 x.in_f32 ∷ typed F64 x.in_f64 ∷ []

abbrev pub with_address : Scratch → ℕ → Scratch
with_address x bits = record x { address = bits }

abbrev pub with_value : ValType → Scratch → ℕ → Scratch
with_value I32 x bits = record x { in_i32 = bits }
with_value I64 x bits = record x { in_i64 = bits }
with_value F32 x bits = record x { in_f32 = bits }
with_value F64 x bits = record x { in_f64 = bits }
with_value FuncRef x bits = record x { in_i32 = bits }

abbrev pub value_in : ValType → Scratch → ℕ
value_in I32 x = x.in_i32
value_in I64 x = x.in_i64
value_in F32 x = x.in_f32
value_in F64 x = x.in_f64
value_in FuncRef x = x.in_i32

-- a type of a value in an input module
abbrev pub IsNumber : ValType → Type 0
IsNumber FuncRef = ⊥
IsNumber ty = Unit {0}

-- an item set in the second part
pub set_after_by : {A : Type 0} (xs ys : List A) (i j : ℕ) (v : A) → i ≡ length xs + j
    → slice_set (xs ++ ys) i v ≡ xs ++ slice_set ys j v
set_after_by [] ys i j v e = let same : i ≡ j = omega (arith, e) in ap (λ at. slice_set ys at v) same
set_after_by (x ∷ xs) ys zero j v e = absurd (omega (arith, e))
set_after_by (x ∷ xs) ys (suc i) j v e = ap (λ l. x ∷ l) (set_after_by xs ys i j v (omega (arith, e)))

module _ (s : Site) (own : List Val) (whole : s.locals ≡ length own) (x : Scratch) where
  pub address_there : slice_get (own ++ scratch_values x) (address_local s) ≡ Some (typed I32 x.address)
  address_there = get_after_by own (scratch_values x) (address_local s) 0 (omega (arith, whole))

  pub address_set : (bits : ℕ) → slice_set (own ++ scratch_values x) (address_local s) (typed I32 bits)
      ≡ own ++ scratch_values (with_address x bits)
  address_set bits = set_after_by own (scratch_values x) (address_local s) 0 (typed I32 bits) (omega (arith, whole))

  pub value_there : (ty : ValType) → IsNumber ty
      → slice_get (own ++ scratch_values x) (value_local s ty) ≡ Some (typed ty (value_in ty x))
  value_there I32 is = get_after_by own (scratch_values x) (s.locals + 1) 1 (ap (λ l. l + 1) whole)
  value_there I64 is = get_after_by own (scratch_values x) (s.locals + 2) 2 (ap (λ l. l + 2) whole)
  value_there F32 is = get_after_by own (scratch_values x) (s.locals + 3) 3 (ap (λ l. l + 3) whole)
  value_there F64 is = get_after_by own (scratch_values x) (s.locals + 4) 4 (ap (λ l. l + 4) whole)
  value_there FuncRef is = absurd is

  pub value_set : (ty : ValType) (bits : ℕ) → IsNumber ty
      → slice_set (own ++ scratch_values x) (value_local s ty) (typed ty bits)
      ≡ own ++ scratch_values (with_value ty x bits)
  value_set I32 bits is =
      set_after_by own (scratch_values x) (s.locals + 1) 1 (typed I32 bits) (ap (λ l. l + 1) whole)
  value_set I64 bits is =
      set_after_by own (scratch_values x) (s.locals + 2) 2 (typed I64 bits) (ap (λ l. l + 2) whole)
  value_set F32 bits is =
      set_after_by own (scratch_values x) (s.locals + 3) 3 (typed F32 bits) (ap (λ l. l + 3) whole)
  value_set F64 bits is =
      set_after_by own (scratch_values x) (s.locals + 4) 4 (typed F64 bits) (ap (λ l. l + 4) whole)
  value_set FuncRef bits is = absurd is

-- a local holds the value to which it was set
pub value_kept : (ty : ValType) (x : Scratch) (bits : ℕ) → value_in ty (with_value ty x bits) ≡ bits
value_kept I32 x bits = refl
value_kept I64 x bits = refl
value_kept F32 x bits = refl
value_kept F64 x bits = refl
value_kept FuncRef x bits = refl
