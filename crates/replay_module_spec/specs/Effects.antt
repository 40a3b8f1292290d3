-- The effects of a segment as instructions. Addresses, indices and values are constants.
use Rattle.std.specs.Prelude.{ℕ, ◌+◌, ◌/◌, ◌%◌, List, [], ◌∷◌, ◌++◌, length, take, drop, replicate, Option, Some, None}
use Rattle.base.specs.declared.opcodes.TheConstants.{I32_SUB, I32_STORE, I32_STORE8, I32_STORE16, I64_STORE}
use Rattle.wasm_syntax.specs.declared.values.ValType.{ValType}
use Rattle.wasm_syntax.specs.declared.values.ValType.TheVariants.{I32, I64}
use Rattle.wasm_syntax.specs.declared.instructions.Instr.{Instr}
use Rattle.wasm_syntax.specs.declared.instructions.Instr.TheVariants.{Drop, GlobalSet, Store, MemorySize, MemoryGrow, Const, Numeric, RefNull, RefFunc, TableSet, TableGrow, TableSize}
use Rattle.trace_model.specs.declared.tapes.Effect.{Effect}
use Rattle.trace_model.specs.declared.tapes.Effect.TheVariants.{Grow, Table, Bytes, Entry, Global}
use Rattle.history_spec.specs.Code.{i32_value}
use Rattle.history_spec.specs.Store.{number_of}

abbrev pub i32_const : ℕ → Instr
i32_const bits = Const (i32_value bits)

-- ---- bytes

-- the number of bytes that a store writes
pub data Width : Type 0 where
  Eight : Width
  Four : Width
  Two : Width
  One : Width

abbrev pub byte_count : Width → ℕ
byte_count Eight = 8
byte_count Four = 4
byte_count Two = 2
byte_count One = 1

-- the widths of the stores that write this number of bytes: as many eights as fit, and then a four, a two and a
-- one, if the rest needs them
abbrev pub store_widths : ℕ → List Width
store_widths count =
    replicate (count / 8) Eight
    ++ (replicate (count / 4 % 2) Four ++ (replicate (count / 2 % 2) Two ++ replicate (count % 2) One))

-- the type of the value that a store takes, and its opcode
abbrev pub store_type : Width → ValType
store_type Eight = I64
store_type width = I32

abbrev pub store_opcode : Width → ℕ
store_opcode Eight = I64_STORE
store_opcode Four = I32_STORE
store_opcode Two = I32_STORE16
store_opcode One = I32_STORE8

-- a store of a number at an address
abbrev pub store_code : Width → (address number : ℕ) → List Instr
store_code width address number =
    i32_const address
    ∷ Const (record { ty = store_type width; bits = number })
    ∷ Store (record { op = store_opcode width; align = 0; offset = 0 }) ∷ []

-- stores of these widths, of the bytes from an address on
abbrev pub stores_code : List Width → (address : ℕ) → List ℕ → List Instr
stores_code [] address bytes = []
stores_code (width ∷ widths) address bytes =
    store_code width address (number_of (take (byte_count width) bytes))
    ++ stores_code widths (address + byte_count width) (drop (byte_count width) bytes)

-- ---- effects

-- a reference to a function, or a null reference
abbrev pub reference_code : Option ℕ → Instr
reference_code None = RefNull
reference_code (Some func) = RefFunc func

-- an effect; the memory and the table grow by what they lack of their new sizes
abbrev pub effect_code : Effect → List Instr
effect_code (Grow pages) = i32_const pages ∷ MemorySize ∷ Numeric I32_SUB ∷ MemoryGrow ∷ Drop ∷ []
effect_code (Table size) =
    RefNull ∷ i32_const size ∷ TableSize 0 ∷ Numeric I32_SUB ∷ TableGrow 0 ∷ Drop ∷ []
effect_code (Bytes addr bytes) = stores_code (store_widths (length bytes)) addr bytes
effect_code (Entry index func) = i32_const index ∷ reference_code func ∷ TableSet 0 ∷ []
effect_code (Global global value) = Const value ∷ GlobalSet global ∷ []
