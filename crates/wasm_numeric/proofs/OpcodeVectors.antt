-- Rows of the table of opcodes (Core 1.0, 5.4.5; Core 2.0, 5.4.7), by the standard's numbers, so that a name with a
-- wrong number is found.
-- These are examples, which the check computes.
use Rattle.std.proofs.Common.{◌≡◌, ℕ, List, [], ◌∷◌, refl}
use Rattle.std.specs.Prelude.{map}
use Rattle.wasm_numeric.specs.Opcode.{NumType, I32, I64, F32, F64, Kind, Test, Compare, Unary, Binary, Convert, FloatComparison, FloatArithmetic, FloatConversion, NotNumeric, kind_of, operands_of, result_of}

-- the first and the last opcode of each group, and their neighbours, `f64.const` and an opcode without an instruction
abbrev kinds : List (ℕ × Kind)
kinds =
    (0x44, NotNumeric) ∷ (0x45, Test) ∷ (0x46, Compare) ∷ (0x4F, Compare) ∷ (0x50, Test) ∷ (0x5A, Compare)
    ∷ (0x5B, FloatComparison) ∷ (0x66, FloatComparison) ∷ (0x67, Unary) ∷ (0x69, Unary) ∷ (0x6A, Binary)
    ∷ (0x8A, Binary) ∷ (0x8B, FloatArithmetic) ∷ (0xA6, FloatArithmetic) ∷ (0xA7, Convert) ∷ (0xA8, FloatConversion)
    ∷ (0xAD, Convert) ∷ (0xBB, FloatConversion) ∷ (0xBF, Convert) ∷ (0xC0, Unary)
    ∷ (0xC1, Unary) ∷ (0xC2, Unary) ∷ (0xC4, Unary) ∷ (0xC5, NotNumeric)
    ∷ []

kinds_hold : map (λ (row : ℕ × Kind). kind_of row.0) kinds ≡ map (λ (row : ℕ × Kind). row.1) kinds
kinds_hold = refl

-- `i32.eqz`, `i64.eqz`, `f64.eq`, `i64.clz`, `i64.rotr`, `f32.abs`, `f64.copysign`, and the conversions, whose names say
-- both types: `i32.wrap_i64`, `i32.trunc_f32_s` .. and the sign extensions
abbrev types : List (ℕ × List NumType × NumType)
types =
    (0x45, I32 ∷ [], I32) ∷ (0x50, I64 ∷ [], I32) ∷ (0x61, F64 ∷ F64 ∷ [], I32) ∷ (0x79, I64 ∷ [], I64)
    ∷ (0x8A, I64 ∷ I64 ∷ [], I64) ∷ (0x8B, F32 ∷ [], F32) ∷ (0xA6, F64 ∷ F64 ∷ [], F64) ∷ (0xA7, I64 ∷ [], I32)
    ∷ (0xA8, F32 ∷ [], I32) ∷ (0xA9, F32 ∷ [], I32) ∷ (0xAA, F64 ∷ [], I32) ∷ (0xAB, F64 ∷ [], I32)
    ∷ (0xAC, I32 ∷ [], I64) ∷ (0xAD, I32 ∷ [], I64) ∷ (0xAE, F32 ∷ [], I64) ∷ (0xAF, F32 ∷ [], I64)
    ∷ (0xB0, F64 ∷ [], I64) ∷ (0xB1, F64 ∷ [], I64) ∷ (0xB2, I32 ∷ [], F32) ∷ (0xB3, I32 ∷ [], F32)
    ∷ (0xB4, I64 ∷ [], F32) ∷ (0xB5, I64 ∷ [], F32) ∷ (0xB6, F64 ∷ [], F32) ∷ (0xB7, I32 ∷ [], F64)
    ∷ (0xB8, I32 ∷ [], F64) ∷ (0xB9, I64 ∷ [], F64) ∷ (0xBA, I64 ∷ [], F64) ∷ (0xBB, F32 ∷ [], F64)
    ∷ (0xBC, F32 ∷ [], I32) ∷ (0xBD, F64 ∷ [], I64) ∷ (0xBE, I32 ∷ [], F32) ∷ (0xBF, I64 ∷ [], F64)
    ∷ (0xC0, I32 ∷ [], I32) ∷ (0xC1, I32 ∷ [], I32) ∷ (0xC2, I64 ∷ [], I64) ∷ (0xC3, I64 ∷ [], I64)
    ∷ (0xC4, I64 ∷ [], I64)
    ∷ []

types_hold :
    map {B = List NumType × NumType} (λ row. (operands_of row.0, result_of row.0)) types
    ≡ map {B = List NumType × NumType} (λ row. (row.1, row.2)) types
types_hold = refl
