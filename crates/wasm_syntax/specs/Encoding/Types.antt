-- Which bytes encode values, types and names (Core 1.0, 5.2 and 5.3).
use Rattle.std.specs.Prelude.{◌≡◌, ℕ, ◌^◌, ◌<◌, List, [], ◌∷◌, Option, Some, None, Bool, true, false, IsUtf8}
use Rattle.std.specs.Int.{w32, w64, to_le_bytes}
use Rattle.leb_bytes.specs.Unsigned.{EncodesU32}
use Rattle.base.specs.declared.marks.TheConstants.{TYPE_I32, TYPE_I64, TYPE_F32, TYPE_F64, TYPE_EMPTY, TYPE_FUNC, LIMITS_MIN, LIMITS_MIN_MAX, TYPE_FUNCREF, MUTABILITY_CONST, MUTABILITY_VAR}
use Rattle.wasm_syntax.specs.Encoding.Grammar.{Raw, Marked, ◌then◌, Sized, VectorOf}
use Rattle.wasm_syntax.specs.declared.values.ValType.{ValType}
use Rattle.wasm_syntax.specs.declared.values.ValType.TheVariants.{I32, I64, F32, F64, FuncRef}
use Rattle.wasm_syntax.specs.declared.signatures.FuncType.{FuncType}
use Rattle.wasm_syntax.specs.declared.signatures.Limits.{Limits}
use Rattle.wasm_syntax.specs.declared.signatures.GlobalType.{GlobalType}

-- the bits of an f32 and of an f64, the lowest byte first (Core 1.0, 5.2.3)
pub record EncodesF32 (bytes : List ℕ) (bits : ℕ) : Type 0 where
  pub in_range : bits < 2 ^ 32
  pub little_endian : bytes ≡ to_le_bytes w32 bits

pub record EncodesF64 (bytes : List ℕ) (bits : ℕ) : Type 0 where
  pub in_range : bits < 2 ^ 64
  pub little_endian : bytes ≡ to_le_bytes w64 bits

-- a vector of bytes (Core 1.0, 5.1.3 and 5.2.1): a u32 that counts them, and that many
abbrev pub EncodesBytes : List ℕ → List ℕ → Type 0
EncodesBytes = Sized Raw

-- a vector of indices (Core 1.0, 5.1.3 and 5.5.1)
abbrev pub EncodesIndices : List ℕ → List ℕ → Type 0
EncodesIndices = VectorOf EncodesU32

-- a name: a vector of bytes that is UTF-8 (Core 1.0, 5.2.4)
pub record EncodesName (bytes name : List ℕ) : Type 0 where
  pub is_text : IsUtf8 name
  pub encoded : EncodesBytes bytes name

-- a value type (Core 1.0, 5.3.1)
abbrev pub EncodesValType : List ℕ → ValType → Type 0
EncodesValType bytes I32 = bytes ≡ TYPE_I32 ∷ []
EncodesValType bytes I64 = bytes ≡ TYPE_I64 ∷ []
EncodesValType bytes F32 = bytes ≡ TYPE_F32 ∷ []
EncodesValType bytes F64 = bytes ≡ TYPE_F64 ∷ []
EncodesValType bytes FuncRef = ⊥

-- the type of a block: no result, or one (Core 1.0, 5.3.2)
abbrev pub EncodesBlockType : List ℕ → Option ValType → Type 0
EncodesBlockType bytes None = bytes ≡ TYPE_EMPTY ∷ []
EncodesBlockType bytes (Some ty) = EncodesValType bytes ty

-- a function type (Core 1.0, 5.3.3)
abbrev pub EncodesFuncType : List ℕ → FuncType → Type 0
EncodesFuncType bytes ty =
    Marked TYPE_FUNC (VectorOf EncodesValType then VectorOf EncodesValType) bytes (ty.params, ty.results)

-- limits, without a maximum or with one (Core 1.0, 5.3.4); those of a memory are its type (5.3.5)
abbrev pub EncodesBounds : List ℕ → ℕ → Option ℕ → Type 0
EncodesBounds bytes least None = Marked LIMITS_MIN EncodesU32 bytes least
EncodesBounds bytes least (Some most) = Marked LIMITS_MIN_MAX (EncodesU32 then EncodesU32) bytes (least, most)

abbrev pub EncodesLimits : List ℕ → Limits → Type 0
EncodesLimits bytes limits = EncodesBounds bytes limits.min limits.max

-- a table type (Core 1.0, 5.3.6)
abbrev pub EncodesTableType : List ℕ → Limits → Type 0
EncodesTableType = Marked TYPE_FUNCREF EncodesLimits

-- a global type (Core 1.0, 5.3.7)
abbrev pub EncodesMutability : List ℕ → Bool → Type 0
EncodesMutability bytes false = bytes ≡ MUTABILITY_CONST ∷ []
EncodesMutability bytes true = bytes ≡ MUTABILITY_VAR ∷ []

abbrev pub EncodesGlobalType : List ℕ → GlobalType → Type 0
EncodesGlobalType bytes ty = (EncodesValType then EncodesMutability) bytes (ty.ty, ty.mutable)
