-- What opcodes take and give: the types of numeric instructions (Core 1.0, 3.3.1 and 5.4.5; Core 2.0, 5.4.7), and the
-- type, width and sign of loads and stores (Core 1.0, 3.3.4 and 5.4.4).
use Rattle.std.specs.Prelude.{ℕ, ◌-◌, List, [], ◌∷◌, Option, Some, None, Bool, true, false, cond, ◌&&◌, nat_le, slice_get, replicate}
use Rattle.base.specs.declared.opcodes.TheConstants.{I32_LOAD, I64_LOAD32_U, I32_STORE, I64_STORE32}
use Rattle.base.specs.OpcodeTable as opcodes
use Rattle.wasm_syntax.specs.declared.values.ValType.{ValType}
use Rattle.wasm_syntax.specs.declared.values.ValType.TheVariants.{I32, I64, F32, F64}

-- whether the opcode is in the range from `low` to `high`
abbrev pub is_from : ℕ → ℕ → ℕ → Bool
is_from low high op = nat_le low op && nat_le op high

-- the operands, the first pushed first, and the result of a numeric instruction
pub record Shape : Type 0 where
  pub operands : List ValType
  pub result : ValType

-- a range of opcodes, with the shape of each
pub record Row : Type 0 where
  pub low : ℕ
  pub high : ℕ
  pub shape : Shape

-- the shape of the first of the rows whose range holds the opcode
abbrev pub row_of : List Row → ℕ → Option Shape
row_of [] op = None
row_of (row ∷ rows) op = cond (is_from row.low row.high op) (Some row.shape) (row_of rows op)

abbrev pub row : ℕ → ℕ → Shape → Row
row low high shape = record { low = low; high = high; shape = shape }

-- the value type of a number type
abbrev pub val_type : opcodes.NumType → ValType
val_type opcodes.I32 = I32
val_type opcodes.I64 = I64
val_type opcodes.F32 = F32
val_type opcodes.F64 = F64

-- the operands and the result of the instructions of a row
abbrev pub shape_of : opcodes.Row → Shape
shape_of r = record { operands = replicate r.arity (val_type r.operand); result = val_type r.result }

abbrev pub shapes_of : List opcodes.Row → List Row
shapes_of [] = []
shapes_of (r ∷ rs) = row r.first r.last (shape_of r) ∷ shapes_of rs

-- the numeric opcodes, 0x45 to 0xC4
abbrev pub numeric_rows : List Row
numeric_rows = shapes_of opcodes.rows

-- the types of the operands and of the result of a numeric opcode, or None for another opcode (Core 1.0, 3.3.1 and
-- 5.4.5; Core 2.0, 5.4.7)
abbrev pub numeric_shape : ℕ → Option Shape
numeric_shape = row_of numeric_rows

-- an access to memory: the type of its value, the number of bytes that it reads or writes, and whether a load
-- extends the sign
pub record Access : Type 0 where
  pub ty : ValType
  pub width : ℕ
  pub signed : Bool

abbrev pub access : ValType → ℕ → Bool → Access
access ty width signed = record { ty = ty; width = width; signed = signed }

-- the loads, 0x28 to 0x35
abbrev pub load_table : List Access
load_table =
    access I32 4 false ∷ access I64 8 false ∷ access F32 4 false ∷ access F64 8 false
    ∷ access I32 1 true ∷ access I32 1 false ∷ access I32 2 true ∷ access I32 2 false
    ∷ access I64 1 true ∷ access I64 1 false ∷ access I64 2 true ∷ access I64 2 false
    ∷ access I64 4 true ∷ access I64 4 false ∷ []

-- the stores, 0x36 to 0x3E
abbrev pub store_table : List Access
store_table =
    access I32 4 false ∷ access I64 8 false ∷ access F32 4 false ∷ access F64 8 false
    ∷ access I32 1 false ∷ access I32 2 false
    ∷ access I64 1 false ∷ access I64 2 false ∷ access I64 4 false ∷ []

-- the type, width and sign of the load with an opcode, or None for another opcode (Core 1.0, 3.3.4 and 5.4.4)
abbrev pub load_of : ℕ → Option Access
load_of op = cond (is_from I32_LOAD I64_LOAD32_U op) (slice_get load_table (op - I32_LOAD)) None

-- the type and width of the store with an opcode, or None for another opcode (Core 1.0, 3.3.4 and 5.4.4)
abbrev pub store_of : ℕ → Option Access
store_of op = cond (is_from I32_STORE I64_STORE32 op) (slice_get store_table (op - I32_STORE)) None
