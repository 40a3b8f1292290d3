-- Tests of types for equality, and the bytes that encode types.
use Rattle.std.specs.Prelude.{ℕ, List, [], ◌∷◌, Bool, true, false, ◌&&◌, nat_eq}
use Rattle.base.specs.declared.marks.TheConstants.{TYPE_I32, TYPE_I64, TYPE_F32, TYPE_F64, TYPE_FUNCREF}
use Rattle.wasm_syntax.specs.declared.values.ValType.{ValType}
use Rattle.wasm_syntax.specs.declared.values.ValType.TheVariants.{I32, I64, F32, F64, FuncRef}
use Rattle.wasm_syntax.specs.declared.signatures.FuncType.{FuncType}

-- the byte that encodes a value type (Core 1.0, 5.3.1; for references Core 2.0, 5.3.3)
abbrev pub type_byte : ValType → ℕ
type_byte I32 = TYPE_I32
type_byte I64 = TYPE_I64
type_byte F32 = TYPE_F32
type_byte F64 = TYPE_F64
type_byte FuncRef = TYPE_FUNCREF

-- whether value types are equal
abbrev pub same_type : ValType → ValType → Bool
same_type a b = nat_eq (type_byte a) (type_byte b)

abbrev pub same_types : List ValType → List ValType → Bool
same_types [] [] = true
same_types [] (b ∷ bs) = false
same_types (a ∷ rest) [] = false
same_types (a ∷ rest) (b ∷ bs) = same_type a b && same_types rest bs

-- whether function types are equal in structure
abbrev pub same_signature : FuncType → FuncType → Bool
same_signature a b = same_types a.params b.params && same_types a.results b.results
