-- The types of the opcodes by the standard's table of names (Core 1.0, 5.4 and 7.7; Core 2.0, 5.4.7), and their
-- classes in the accepted profile.
-- These are examples, which the check computes.
use Rattle.std.proofs.Common.{◌≡◌, ℕ, List, [], ◌∷◌, ◌++◌, Option, Some, None, Bool, true, false, map, refl}
use Rattle.wasm_syntax.specs.declared.values.ValType.{ValType}
use Rattle.wasm_syntax.specs.declared.values.ValType.TheVariants.{I32, I64, F32, F64}
use Rattle.wasm_syntax.specs.declared.profile.Feature.{Feature}
use Rattle.wasm_syntax.specs.declared.profile.Feature.TheVariants.{FloatComparison, FloatArithmetic, FloatConversion}
use Rattle.wasm_syntax.specs.Opcodes.{Access, numeric_shape, load_of, store_of}
use Rattle.wasm_syntax.specs.Profile.{feature_of}

-- an opcode with its operands, its result and its class
record Numeric : Type 0 where
  op : ℕ
  operands : List ValType
  result : ValType
  feature : Option Feature

abbrev plain : ℕ → List ValType → ValType → Numeric
plain op operands result = record { op = op; operands = operands; result = result; feature = None }

abbrev float : Feature → ℕ → List ValType → ValType → Numeric
float feature op operands result = record { op = op; operands = operands; result = result; feature = Some feature }

-- opcodes of one type and class
abbrev all_of : (ℕ → List ValType → ValType → Numeric) → List ℕ → List ValType → ValType → List Numeric
all_of make ops operands result = map (λ op. make op operands result) ops

-- `i32.eqz` to `i64.extend32_s`
abbrev numeric_names : List Numeric
numeric_names =
    -- `i32.eqz`, `i32.eq`, `i32.ne` .. `i32.ge_u`
    all_of plain (0x45 ∷ []) (I32 ∷ []) I32
    ++ all_of plain (0x46 ∷ 0x47 ∷ 0x48 ∷ 0x49 ∷ 0x4A ∷ 0x4B ∷ 0x4C ∷ 0x4D ∷ 0x4E ∷ 0x4F ∷ []) (I32 ∷ I32 ∷ []) I32
    -- `i64.eqz`, `i64.eq`, `i64.ne` .. `i64.ge_u`
    ++ all_of plain (0x50 ∷ []) (I64 ∷ []) I32
    ++ all_of plain (0x51 ∷ 0x52 ∷ 0x53 ∷ 0x54 ∷ 0x55 ∷ 0x56 ∷ 0x57 ∷ 0x58 ∷ 0x59 ∷ 0x5A ∷ []) (I64 ∷ I64 ∷ []) I32
    -- `f32.eq`, `f32.ne`, `f32.lt` .. `f32.ge`
    ++ all_of (float FloatComparison) (0x5B ∷ 0x5C ∷ 0x5D ∷ 0x5E ∷ 0x5F ∷ 0x60 ∷ []) (F32 ∷ F32 ∷ []) I32
    -- `f64.eq`, `f64.ne`, `f64.lt` .. `f64.ge`
    ++ all_of (float FloatComparison) (0x61 ∷ 0x62 ∷ 0x63 ∷ 0x64 ∷ 0x65 ∷ 0x66 ∷ []) (F64 ∷ F64 ∷ []) I32
    -- `i32.clz`, `i32.ctz`, `i32.popcnt` .. `i32.rotr`
    ++ all_of plain (0x67 ∷ 0x68 ∷ 0x69 ∷ []) (I32 ∷ []) I32
    ++ all_of plain (0x6A ∷ 0x6B ∷ 0x6C ∷ 0x6D ∷ 0x6E ∷ 0x6F ∷ 0x70 ∷ 0x71 ∷ 0x72 ∷ 0x73 ∷ 0x74 ∷ 0x75
    ∷ 0x76 ∷ 0x77 ∷ 0x78 ∷ []) (I32 ∷ I32 ∷ []) I32
    -- `i64.clz`, `i64.ctz`, `i64.popcnt` .. `i64.rotr`
    ++ all_of plain (0x79 ∷ 0x7A ∷ 0x7B ∷ []) (I64 ∷ []) I64
    ++ all_of plain (0x7C ∷ 0x7D ∷ 0x7E ∷ 0x7F ∷ 0x80 ∷ 0x81 ∷ 0x82 ∷ 0x83 ∷ 0x84 ∷ 0x85 ∷ 0x86 ∷ 0x87
    ∷ 0x88 ∷ 0x89 ∷ 0x8A ∷ []) (I64 ∷ I64 ∷ []) I64
    -- `f32.abs`, `f32.neg`, `f32.ceil` .. `f32.copysign`
    ++ all_of (float FloatArithmetic) (0x8B ∷ 0x8C ∷ 0x8D ∷ 0x8E ∷ 0x8F ∷ 0x90 ∷ 0x91 ∷ []) (F32 ∷ []) F32
    ++ all_of (float FloatArithmetic) (0x92 ∷ 0x93 ∷ 0x94 ∷ 0x95 ∷ 0x96 ∷ 0x97 ∷ 0x98 ∷ []) (F32 ∷ F32 ∷ []) F32
    -- `f64.abs`, `f64.neg`, `f64.ceil` .. `f64.copysign`
    ++ all_of (float FloatArithmetic) (0x99 ∷ 0x9A ∷ 0x9B ∷ 0x9C ∷ 0x9D ∷ 0x9E ∷ 0x9F ∷ []) (F64 ∷ []) F64
    ++ all_of (float FloatArithmetic) (0xA0 ∷ 0xA1 ∷ 0xA2 ∷ 0xA3 ∷ 0xA4 ∷ 0xA5 ∷ 0xA6 ∷ []) (F64 ∷ F64 ∷ []) F64
    -- `i32.wrap_i64`, `i32.trunc_f32_s`, `i32.trunc_f32_u` .. `f64.reinterpret_i64`
    ++ all_of plain (0xA7 ∷ []) (I64 ∷ []) I32
    ++ all_of (float FloatConversion) (0xA8 ∷ 0xA9 ∷ []) (F32 ∷ []) I32
    ++ all_of (float FloatConversion) (0xAA ∷ 0xAB ∷ []) (F64 ∷ []) I32
    ++ all_of plain (0xAC ∷ 0xAD ∷ []) (I32 ∷ []) I64
    ++ all_of (float FloatConversion) (0xAE ∷ 0xAF ∷ []) (F32 ∷ []) I64
    ++ all_of (float FloatConversion) (0xB0 ∷ 0xB1 ∷ []) (F64 ∷ []) I64
    ++ all_of (float FloatConversion) (0xB2 ∷ 0xB3 ∷ []) (I32 ∷ []) F32
    ++ all_of (float FloatConversion) (0xB4 ∷ 0xB5 ∷ []) (I64 ∷ []) F32
    ++ all_of (float FloatConversion) (0xB6 ∷ []) (F64 ∷ []) F32
    ++ all_of (float FloatConversion) (0xB7 ∷ 0xB8 ∷ []) (I32 ∷ []) F64
    ++ all_of (float FloatConversion) (0xB9 ∷ 0xBA ∷ []) (I64 ∷ []) F64
    ++ all_of (float FloatConversion) (0xBB ∷ []) (F32 ∷ []) F64
    ++ all_of plain (0xBC ∷ []) (F32 ∷ []) I32
    ++ all_of plain (0xBD ∷ []) (F64 ∷ []) I64
    ++ all_of plain (0xBE ∷ []) (I32 ∷ []) F32
    ++ all_of plain (0xBF ∷ []) (I64 ∷ []) F64
    -- `i32.extend8_s`, `i32.extend16_s`, `i64.extend8_s`, `i64.extend16_s`, `i64.extend32_s`
    ++ all_of plain (0xC0 ∷ 0xC1 ∷ []) (I32 ∷ []) I32
    ++ all_of plain (0xC2 ∷ 0xC3 ∷ 0xC4 ∷ []) (I64 ∷ []) I64

shapes_agree : map (λ (n : Numeric). numeric_shape n.op) numeric_names
    ≡ map (λ (n : Numeric). Some (record { operands = n.operands; result = n.result })) numeric_names
shapes_agree = refl

classes_agree : map (λ (n : Numeric). feature_of n.op) numeric_names ≡ map (λ (n : Numeric). n.feature) numeric_names
classes_agree = refl

no_others : map numeric_shape (0x44 ∷ 0xC5 ∷ 0xFF ∷ []) ≡ None ∷ None ∷ None ∷ []
no_others = refl

-- an access of a type, a width in bytes, and with a sign or not
abbrev access : ValType × ℕ × Bool → Option Access
access row = Some (record { ty = row.0; width = row.1; signed = row.2 })

-- `i32.load`, `i64.load`, `f32.load`, `f64.load`, `i32.load8_s`, `i32.load8_u`, `i32.load16_s`, `i32.load16_u`,
-- `i64.load8_s`, `i64.load8_u`, `i64.load16_s`, `i64.load16_u`, `i64.load32_s`, `i64.load32_u`
loads_agree : map load_of (0x28 ∷ 0x29 ∷ 0x2A ∷ 0x2B ∷ 0x2C ∷ 0x2D ∷ 0x2E ∷ 0x2F ∷ 0x30 ∷ 0x31 ∷ 0x32 ∷ 0x33 ∷ 0x34 ∷ 0x35 ∷ []) ≡ map access (
    (I32, 4, false) ∷ (I64, 8, false) ∷ (F32, 4, false) ∷ (F64, 8, false) ∷ (I32, 1, true)
    ∷ (I32, 1, false) ∷ (I32, 2, true) ∷ (I32, 2, false) ∷ (I64, 1, true) ∷ (I64, 1, false)
    ∷ (I64, 2, true) ∷ (I64, 2, false) ∷ (I64, 4, true) ∷ (I64, 4, false) ∷ [])
loads_agree = refl

-- `i32.store`, `i64.store`, `f32.store`, `f64.store`, `i32.store8`, `i32.store16`, `i64.store8`, `i64.store16`, `i64.store32`
stores_agree : map store_of (0x36 ∷ 0x37 ∷ 0x38 ∷ 0x39 ∷ 0x3A ∷ 0x3B ∷ 0x3C ∷ 0x3D ∷ 0x3E ∷ []) ≡ map access (
    (I32, 4, false) ∷ (I64, 8, false) ∷ (F32, 4, false) ∷ (F64, 8, false) ∷ (I32, 1, false)
    ∷ (I32, 2, false) ∷ (I64, 1, false) ∷ (I64, 2, false) ∷ (I64, 4, false) ∷ [])
stores_agree = refl

no_other_loads : map load_of (0x27 ∷ 0x36 ∷ []) ≡ None ∷ None ∷ []
no_other_loads = refl

no_other_stores : map store_of (0x35 ∷ 0x3F ∷ []) ≡ None ∷ None ∷ []
no_other_stores = refl
