-- The shortest encodings of values, names, types and instructions.
use Rattle.std.proofs.Common.{ℕ, ◌<◌, ◌^◌, List, [], ◌∷◌, ◌++◌, length, true, false, Option, Some, None, refl, ap, arith}
use Rattle.std.specs.Prelude.{IsUtf8}
use Rattle.std.specs.Int.{w32, w64, to_le_bytes}
use Rattle.std.specs.List.{AllByRecursion}
use Rattle.leb_bytes.specs.Unsigned.{EncodesU32, u32_bytes}
use Rattle.leb_bytes.specs.Signed.{EncodesI32, EncodesI64, i32_bytes, i64_bytes}
use Rattle.wasm_syntax.specs.declared.forms.Form.{Form}
use Rattle.wasm_syntax.specs.declared.values.ValType.{ValType}
use Rattle.wasm_syntax.specs.declared.values.ValType.TheVariants.{I32, I64, F32, F64, FuncRef}
use Rattle.wasm_syntax.specs.declared.signatures.GlobalType.{GlobalType}
use Rattle.wasm_syntax.specs.declared.instructions.MemArg.{MemArg}
use Rattle.wasm_syntax.specs.declared.instructions.Instr.TheVariants.{Unreachable, Nop, Block, Loop, If, Else, End, Br, BrIf, BrTable, Return, Call, CallIndirect, Drop, Select, LocalGet, LocalSet, LocalTee, GlobalGet, GlobalSet, Load, Store, MemorySize, MemoryGrow, MemoryCopy, MemoryFill, Const, Numeric, RefNull, RefFunc, TableSet, TableGrow, TableSize}
use Rattle.wasm_syntax.specs.Encoding.Grammar.{Grammar, Exactly, Raw, Marked, ◌then◌, VectorOf}
use Rattle.wasm_syntax.specs.Encoding.Types.{EncodesF32, EncodesF64, EncodesBytes, EncodesIndices, EncodesName, EncodesValType, EncodesBlockType, EncodesFuncType, EncodesBounds, EncodesLimits, EncodesTableType, EncodesMutability, EncodesGlobalType}
use Rattle.wasm_syntax.specs.Encoding.Instructions.{IsReplay, EncodesConst, Prefixed, EncodesInstr, EncodesExpr}
use Rattle.wasm_syntax.specs.Encoding.Encodable.{FitsU32, FitsValType, FitsBlockType, FitsFuncType, FitsBounds, FitsLimits, FitsConst, FitsMemArg, FitsInstr, FitsBody}
use Rattle.wasm_syntax.specs.Encoding.Shortest.{sized_bytes, vector_bytes, val_type_bytes, block_type_bytes, func_type_bytes, bounds_bytes, limits_bytes, table_type_bytes, mutability_byte, global_type_bytes, const_bytes, access_bytes, instr_bytes, body_bytes}
use Rattle.wasm_syntax.proofs.Encoding.Numbers.{NumberLaws}
use Rattle.wasm_syntax.proofs.Encoding.Writing.{IsBest, IsWrittenBy, exactly_best, raw_best, marked_best, under_best, then_best, each_best, u32_best, sized_best, vector_best, u32_some, refit, none_best}

-- ---- floats, bytes and names

pub f32_best : IsWrittenBy EncodesF32 (λ bits. bits < 2 ^ 32) (to_le_bytes w32)
f32_best bits = record {
  encodes = λ fits few. record { in_range = fits; little_endian = refl };
  fits = λ bytes h. h.in_range;
  least = λ bytes h. omega (arith, ap length h.little_endian);
}

pub f64_best : IsWrittenBy EncodesF64 (λ bits. bits < 2 ^ 64) (to_le_bytes w64)
f64_best bits = record {
  encodes = λ fits few. record { in_range = fits; little_endian = refl };
  fits = λ bytes h. h.in_range;
  least = λ bytes h. omega (arith, ap length h.little_endian);
}

module _ (laws : NumberLaws) where
  pub bytes_best : IsWrittenBy EncodesBytes (λ content. Unit {0}) sized_bytes
  bytes_best = sized_best laws Raw (λ content. Unit {0}) (λ content. content) raw_best

  pub name_best : IsWrittenBy EncodesName (λ name. IsUtf8 name) sized_bytes
  name_best name = record {
    encodes = λ text few. record { is_text = text; encoded = (bytes_best name).encodes tt few };
    fits = λ bytes h. h.is_text;
    least = λ bytes h. (bytes_best name).least bytes h.encoded;
  }

  pub indices_best : IsWrittenBy EncodesIndices (AllByRecursion FitsU32) (vector_bytes u32_bytes)
  indices_best = vector_best laws EncodesU32 FitsU32 u32_bytes u32_some (u32_best laws)

-- ---- types

pub val_type_best : IsWrittenBy EncodesValType FitsValType val_type_bytes
val_type_best I32 = exactly_best (0x7F ∷ [])
val_type_best I64 = exactly_best (0x7E ∷ [])
val_type_best F32 = exactly_best (0x7D ∷ [])
val_type_best F64 = exactly_best (0x7C ∷ [])
val_type_best FuncRef = none_best (0x70 ∷ [])

pub block_type_best : IsWrittenBy EncodesBlockType FitsBlockType block_type_bytes
block_type_best None = exactly_best (0x40 ∷ [])
block_type_best (Some ty) = val_type_best ty

mutability_best : IsWrittenBy EncodesMutability (λ mutable. Unit {0}) (λ mutable. mutability_byte mutable ∷ [])
mutability_best false = exactly_best (0x00 ∷ [])
mutability_best true = exactly_best (0x01 ∷ [])

pub global_type_best : IsWrittenBy EncodesGlobalType (λ (ty : GlobalType). FitsValType ty.ty) global_type_bytes
unfolding global_type_bytes
global_type_best ty =
    refit (λ bytes. EncodesGlobalType bytes ty) (val_type_bytes ty.ty ++ mutability_byte ty.mutable ∷ [])
    (λ fits. (fits, tt)) (λ both. both.0)
    (then_best EncodesValType EncodesMutability FitsValType (λ mutable. Unit {0}) val_type_bytes (λ mutable. mutability_byte mutable ∷ [])
    val_type_best mutability_best ty.ty ty.mutable)

module _ (laws : NumberLaws) where
  types_best : IsWrittenBy (VectorOf EncodesValType) (AllByRecursion FitsValType) (vector_bytes val_type_bytes)
  types_best = vector_best laws EncodesValType FitsValType val_type_bytes (λ ty. omega arith) val_type_best

  pub func_type_best : IsWrittenBy EncodesFuncType FitsFuncType func_type_bytes
  unfolding func_type_bytes
  func_type_best ty =
      marked_best 0x60 (VectorOf EncodesValType then VectorOf EncodesValType)
      (λ (p : List ValType × List ValType). AllByRecursion FitsValType p.0 × AllByRecursion FitsValType p.1)
      (λ (p : List ValType × List ValType). vector_bytes val_type_bytes p.0 ++ vector_bytes val_type_bytes p.1)
      (λ (p : List ValType × List ValType). then_best (VectorOf EncodesValType) (VectorOf EncodesValType)
      (AllByRecursion FitsValType) (AllByRecursion FitsValType)
      (vector_bytes val_type_bytes) (vector_bytes val_type_bytes) types_best types_best p.0 p.1)
      (ty.params, ty.results)

  -- two numbers
  pub two_best : IsWrittenBy (EncodesU32 then EncodesU32) (λ (p : ℕ × ℕ). FitsU32 p.0 × FitsU32 p.1) (λ (p : ℕ × ℕ). u32_bytes p.0 ++ u32_bytes p.1)
  two_best p = then_best EncodesU32 EncodesU32 FitsU32 FitsU32 u32_bytes u32_bytes (u32_best laws) (u32_best laws) p.0 p.1

  bounds_best : (least : ℕ) (most : Option ℕ)
      → IsBest (λ bytes. EncodesBounds bytes least most) (FitsBounds least most) (bounds_bytes least most)
  bounds_best least None = marked_best 0x00 EncodesU32 FitsU32 u32_bytes (u32_best laws) least
  bounds_best least (Some most) =
      marked_best 0x01 (EncodesU32 then EncodesU32) (λ (p : ℕ × ℕ). FitsU32 p.0 × FitsU32 p.1)
      (λ (p : ℕ × ℕ). u32_bytes p.0 ++ u32_bytes p.1) two_best (least, most)

  pub limits_best : IsWrittenBy EncodesLimits FitsLimits limits_bytes
  unfolding limits_bytes
  limits_best limits = bounds_best limits.min limits.max

  pub table_type_best : IsWrittenBy EncodesTableType FitsLimits table_type_bytes
  table_type_best = marked_best 0x70 EncodesLimits FitsLimits limits_bytes limits_best

  -- ---- instructions

  const_best : (ty : ValType) (bits : ℕ)
      → IsBest (λ bytes. EncodesConst bytes ty bits) (FitsConst ty bits) (const_bytes ty bits)
  unfolding const_bytes
  const_best I32 bits = marked_best 0x41 EncodesI32 (λ n. n < 2 ^ 32) i32_bytes (λ n. record {
    encodes = λ fits few. laws.i32_shortest.encodes n fits;
    fits = λ bytes h. h.in_range;
    least = λ bytes h. laws.i32_shortest.least bytes n h;
  }) bits
  const_best I64 bits = marked_best 0x42 EncodesI64 (λ n. n < 2 ^ 64) i64_bytes (λ n. record {
    encodes = λ fits few. laws.i64_shortest.encodes n fits;
    fits = λ bytes h. h.in_range;
    least = λ bytes h. laws.i64_shortest.least bytes n h;
  }) bits
  const_best F32 bits = marked_best 0x43 EncodesF32 (λ n. n < 2 ^ 32) (to_le_bytes w32) f32_best bits
  const_best F64 bits = marked_best 0x44 EncodesF64 (λ n. n < 2 ^ 64) (to_le_bytes w64) f64_best bits
  const_best FuncRef bits = none_best []

  access_best : (access : MemArg)
      → IsBest (λ bytes. Marked access.op (EncodesU32 then EncodesU32) bytes (access.align, access.offset)) (FitsMemArg access) (access_bytes access)
  access_best access =
      marked_best access.op (EncodesU32 then EncodesU32) (λ (p : ℕ × ℕ). FitsU32 p.0 × FitsU32 p.1) (λ (p : ℕ × ℕ). u32_bytes p.0 ++ u32_bytes p.1) two_best
      (access.align, access.offset)

  indexed : (mark n : ℕ) → IsBest (λ bytes. Marked mark EncodesU32 bytes n) (FitsU32 n) (mark ∷ u32_bytes n)
  indexed mark n = marked_best mark EncodesU32 FitsU32 u32_bytes (u32_best laws) n

  typed : (mark : ℕ) (ty : Option ValType)
      → IsBest (λ bytes. Marked mark EncodesBlockType bytes ty) (FitsBlockType ty) (mark ∷ block_type_bytes ty)
  typed mark ty = marked_best mark EncodesBlockType FitsBlockType block_type_bytes block_type_best ty

  -- an instruction of the prefix
  prefixed : {A : Type 0} (number : ℕ) (E : Grammar A) (Fits : A → Type 0) (write : A → List ℕ) → FitsU32 number → IsWrittenBy E Fits write
      → (x : A) → IsBest (λ bytes. Prefixed number E bytes x) (Fits x) (0xFC ∷ (u32_bytes number ++ write x))
  prefixed {A} number E Fits write small best x =
      refit (λ bytes. Prefixed number E bytes x) (0xFC ∷ (u32_bytes number ++ write x)) (λ fits. (small, fits)) (λ both. both.1)
      (marked_best 0xFC (EncodesU32 then E) (λ (p : ℕ × A). FitsU32 p.0 × Fits p.1) (λ (p : ℕ × A). u32_bytes p.0 ++ write p.1)
      (λ (p : ℕ × A). then_best EncodesU32 E FitsU32 Fits u32_bytes write (u32_best laws) best p.0 p.1)
      (number, x))

  prefixed_exactly : (number : ℕ) (word : List ℕ) → FitsU32 number
      → IsBest (λ bytes. Prefixed number (Exactly word) bytes tt) (Unit {0}) (0xFC ∷ (u32_bytes number ++ word))
  prefixed_exactly number word small =
      prefixed number (Exactly word) (λ it. Unit {0}) (λ it. word) small (λ it. exactly_best word) tt

  -- one with a table, in the form of replay binaries
  prefixed_table : (form : Form) (number table : ℕ) → FitsU32 number
      → IsBest (λ bytes. IsReplay form × Prefixed number EncodesU32 bytes table) (IsReplay form × FitsU32 table) (0xFC ∷ (u32_bytes number ++ u32_bytes table))
  prefixed_table form number table small =
      under_best (λ bytes. Prefixed number EncodesU32 bytes table) (FitsU32 table) (0xFC ∷ (u32_bytes number ++ u32_bytes table))
      (prefixed number EncodesU32 FitsU32 u32_bytes small (u32_best laws) table)

  pub instr_best : (form : Form) → IsWrittenBy (EncodesInstr form) (FitsInstr form) instr_bytes
  unfolding instr_bytes
  instr_best form Unreachable = exactly_best (0x00 ∷ [])
  instr_best form Nop = exactly_best (0x01 ∷ [])
  instr_best form (Block ty) = typed 0x02 ty
  instr_best form (Loop ty) = typed 0x03 ty
  instr_best form (If ty) = typed 0x04 ty
  instr_best form Else = exactly_best (0x05 ∷ [])
  instr_best form End = exactly_best (0x0B ∷ [])
  instr_best form (Br label) = indexed 0x0C label
  instr_best form (BrIf label) = indexed 0x0D label
  instr_best form (BrTable labels default) =
      marked_best 0x0E (EncodesIndices then EncodesU32) (λ (p : List ℕ × ℕ). AllByRecursion FitsU32 p.0 × FitsU32 p.1)
      (λ (p : List ℕ × ℕ). vector_bytes u32_bytes p.0 ++ u32_bytes p.1)
      (λ (p : List ℕ × ℕ). then_best EncodesIndices EncodesU32 (AllByRecursion FitsU32) FitsU32
      (vector_bytes u32_bytes) u32_bytes (indices_best laws) (u32_best laws) p.0 p.1) (labels, default)
  instr_best form Return = exactly_best (0x0F ∷ [])
  instr_best form (Call func) = indexed 0x10 func
  instr_best form (CallIndirect ty) =
      refit (λ bytes. EncodesInstr form bytes (CallIndirect ty)) (0x11 ∷ (u32_bytes ty ++ 0x00 ∷ [])) (λ fits. (fits, tt)) (λ both. both.0)
      (marked_best 0x11 (EncodesU32 then Exactly (0x00 ∷ [])) (λ (p : ℕ × Unit {0}). FitsU32 p.0 × Unit {0}) (λ (p : ℕ × Unit {0}). u32_bytes p.0 ++ 0x00 ∷ [])
      (λ (p : ℕ × Unit {0}). then_best EncodesU32 (Exactly (0x00 ∷ [])) FitsU32 (λ it. Unit {0}) u32_bytes
      (λ it. 0x00 ∷ []) (u32_best laws) (λ it. exactly_best (0x00 ∷ [])) p.0 p.1) (ty, tt))
  instr_best form Drop = exactly_best (0x1A ∷ [])
  instr_best form Select = exactly_best (0x1B ∷ [])
  instr_best form (LocalGet local) = indexed 0x20 local
  instr_best form (LocalSet local) = indexed 0x21 local
  instr_best form (LocalTee local) = indexed 0x22 local
  instr_best form (GlobalGet global) = indexed 0x23 global
  instr_best form (GlobalSet global) = indexed 0x24 global
  instr_best form (Load access) =
      under_best (λ bytes. Marked access.op (EncodesU32 then EncodesU32) bytes (access.align, access.offset))
      (FitsMemArg access) (access_bytes access) (access_best access)
  instr_best form (Store access) =
      under_best (λ bytes. Marked access.op (EncodesU32 then EncodesU32) bytes (access.align, access.offset))
      (FitsMemArg access) (access_bytes access) (access_best access)
  instr_best form MemorySize = exactly_best (0x3F ∷ 0x00 ∷ [])
  instr_best form MemoryGrow = exactly_best (0x40 ∷ 0x00 ∷ [])
  instr_best form MemoryCopy = prefixed_exactly 10 (0x00 ∷ 0x00 ∷ []) (omega arith)
  instr_best form MemoryFill = prefixed_exactly 11 (0x00 ∷ []) (omega arith)
  instr_best form (Const value) = const_best value.ty value.bits
  instr_best form (Numeric op) =
      refit (λ bytes. EncodesInstr form bytes (Numeric op)) (op ∷ []) (λ fits. (fits, tt)) (λ both. both.0)
      (under_best (λ bytes. Exactly (op ∷ []) bytes tt) (Unit {0}) (op ∷ []) (exactly_best (op ∷ [])))
  instr_best form (TableSet table) = under_best (λ bytes. Marked 0x26 EncodesU32 bytes table) (FitsU32 table) (0x26 ∷ u32_bytes table) (indexed 0x26 table)
  instr_best form RefNull =
      refit (λ bytes. EncodesInstr form bytes RefNull) (0xD0 ∷ 0x70 ∷ []) (λ fits. (fits, tt)) (λ both. both.0)
      (under_best (λ bytes. Exactly (0xD0 ∷ 0x70 ∷ []) bytes tt) (Unit {0}) (0xD0 ∷ 0x70 ∷ []) (exactly_best (0xD0 ∷ 0x70 ∷ [])))
  instr_best form (RefFunc func) = under_best (λ bytes. Marked 0xD2 EncodesU32 bytes func) (FitsU32 func) (0xD2 ∷ u32_bytes func) (indexed 0xD2 func)
  instr_best form (TableGrow table) = prefixed_table form 15 table (omega arith)
  instr_best form (TableSize table) = prefixed_table form 16 table (omega arith)

  pub body_best : (form : Form) → IsWrittenBy (EncodesExpr form) (FitsBody form) body_bytes
  body_best form body =
      let is = each_best (EncodesInstr form) (FitsInstr form) instr_bytes (instr_best form) body in
      record {
        encodes = λ fits few. record { instructions = is.encodes fits.instructions few; nest = fits.nest; is_body = fits.is_body };
        fits = λ bytes h. record { instructions = is.fits bytes h.instructions; nest = h.nest; is_body = h.is_body };
        least = λ bytes h. is.least bytes h.instructions;
      }
