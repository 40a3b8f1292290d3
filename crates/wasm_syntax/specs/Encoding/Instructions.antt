-- Which bytes encode instructions and expressions (Core 1.0, 5.4; Core 2.0, 5.4.2 and 5.4.5 to 5.4.7).
use Rattle.std.specs.Prelude.{ℕ, List, [], ◌∷◌, IsTrue}
use Rattle.leb_bytes.specs.Unsigned.{EncodesU32}
use Rattle.leb_bytes.specs.Signed.{EncodesI32, EncodesI64}
use Rattle.base.specs.declared.opcodes.TheConstants.{I32_LOAD, I64_LOAD32_U, I32_STORE, I64_STORE32, I32_EQZ, I64_EXTEND32_S, REF_NULL, UNREACHABLE, NOP, ELSE, END, RETURN, DROP, SELECT, MEMORY_SIZE, MEMORY_GROW, I32_CONST, I64_CONST, F32_CONST, F64_CONST, BLOCK, LOOP, IF, BR, BR_IF, BR_TABLE, CALL, CALL_INDIRECT, LOCAL_GET, LOCAL_SET, LOCAL_TEE, GLOBAL_GET, GLOBAL_SET, TABLE_SET, REF_FUNC, PREFIX, MEMORY_COPY, MEMORY_FILL, TABLE_GROW, TABLE_SIZE}
use Rattle.base.specs.declared.marks.TheConstants.{TYPE_FUNCREF}
use Rattle.wasm_syntax.specs.Nest.{Nest, IsBody}
use Rattle.wasm_syntax.specs.Opcodes.{is_from}
use Rattle.wasm_syntax.specs.Encoding.Grammar.{Grammar, Exactly, Marked, ◌then◌, Each}
use Rattle.wasm_syntax.specs.Encoding.Types.{EncodesF32, EncodesF64, EncodesIndices, EncodesBlockType}
use Rattle.wasm_syntax.specs.declared.forms.Form.{Form}
use Rattle.wasm_syntax.specs.declared.forms.Form.TheVariants as forms
use Rattle.wasm_syntax.specs.declared.values.ValType.{ValType}
use Rattle.wasm_syntax.specs.declared.values.ValType.TheVariants.{I32, I64, F32, F64, FuncRef}
use Rattle.wasm_syntax.specs.declared.instructions.Instr.{Instr}
use Rattle.wasm_syntax.specs.declared.instructions.Instr.TheVariants.{Unreachable, Nop, Block, Loop, If, Else, End, Br, BrIf, BrTable, Return, Call, CallIndirect, Drop, Select, LocalGet, LocalSet, LocalTee, GlobalGet, GlobalSet, Load, Store, MemorySize, MemoryGrow, MemoryCopy, MemoryFill, Const, Numeric, RefNull, RefFunc, TableSet, TableGrow, TableSize}

-- the form of replay binaries
abbrev pub IsReplay : Form → Type 0
IsReplay forms.Core = ⊥
IsReplay forms.Replay = Unit {0}

-- a constant: its opcode, and its bits (Core 1.0, 5.4.5)
abbrev pub EncodesConst : List ℕ → ValType → ℕ → Type 0
EncodesConst bytes I32 bits = Marked I32_CONST EncodesI32 bytes bits
EncodesConst bytes I64 bits = Marked I64_CONST EncodesI64 bytes bits
EncodesConst bytes F32 bits = Marked F32_CONST EncodesF32 bytes bits
EncodesConst bytes F64 bits = Marked F64_CONST EncodesF64 bytes bits
EncodesConst bytes FuncRef bits = ⊥

-- an instruction of the prefix and a number, which has as many bytes as a u32 may have; then its operands (Core 2.0,
-- 5.4.5 and 5.4.6)
abbrev pub Prefixed : {A : Type 0} → ℕ → Grammar A → Grammar A
Prefixed number E bytes x = Marked PREFIX (EncodesU32 then E) bytes (number, x)

-- One instruction of a flat body (Core 1.0, 5.4.1 to 5.4.5); the body of a block, its `Else` and its `End` are
-- instructions of their own here. The numeric ones up to the sign extensions: Core 2.0, 5.4.7; `memory.copy` and
-- `memory.fill`: 5.4.6; the last five: 5.4.2 and 5.4.5.
abbrev pub EncodesInstr : Form → List ℕ → Instr → Type 0
EncodesInstr form bytes Unreachable = Exactly (UNREACHABLE ∷ []) bytes tt
EncodesInstr form bytes Nop = Exactly (NOP ∷ []) bytes tt
EncodesInstr form bytes (Block ty) = Marked BLOCK EncodesBlockType bytes ty
EncodesInstr form bytes (Loop ty) = Marked LOOP EncodesBlockType bytes ty
EncodesInstr form bytes (If ty) = Marked IF EncodesBlockType bytes ty
EncodesInstr form bytes Else = Exactly (ELSE ∷ []) bytes tt
EncodesInstr form bytes End = Exactly (END ∷ []) bytes tt
EncodesInstr form bytes (Br label) = Marked BR EncodesU32 bytes label
EncodesInstr form bytes (BrIf label) = Marked BR_IF EncodesU32 bytes label
EncodesInstr form bytes (BrTable labels default) =
    Marked BR_TABLE (EncodesIndices then EncodesU32) bytes (labels, default)
EncodesInstr form bytes Return = Exactly (RETURN ∷ []) bytes tt
EncodesInstr form bytes (Call func) = Marked CALL EncodesU32 bytes func
EncodesInstr form bytes (CallIndirect ty) = Marked CALL_INDIRECT (EncodesU32 then Exactly (0x00 ∷ [])) bytes (ty, tt)
EncodesInstr form bytes Drop = Exactly (DROP ∷ []) bytes tt
EncodesInstr form bytes Select = Exactly (SELECT ∷ []) bytes tt
EncodesInstr form bytes (LocalGet local) = Marked LOCAL_GET EncodesU32 bytes local
EncodesInstr form bytes (LocalSet local) = Marked LOCAL_SET EncodesU32 bytes local
EncodesInstr form bytes (LocalTee local) = Marked LOCAL_TEE EncodesU32 bytes local
EncodesInstr form bytes (GlobalGet global) = Marked GLOBAL_GET EncodesU32 bytes global
EncodesInstr form bytes (GlobalSet global) = Marked GLOBAL_SET EncodesU32 bytes global
EncodesInstr form bytes (Load access) =
    IsTrue (is_from I32_LOAD I64_LOAD32_U access.op)
    × Marked access.op (EncodesU32 then EncodesU32) bytes (access.align, access.offset)
EncodesInstr form bytes (Store access) =
    IsTrue (is_from I32_STORE I64_STORE32 access.op)
    × Marked access.op (EncodesU32 then EncodesU32) bytes (access.align, access.offset)
EncodesInstr form bytes MemorySize = Exactly (MEMORY_SIZE ∷ 0x00 ∷ []) bytes tt
EncodesInstr form bytes MemoryGrow = Exactly (MEMORY_GROW ∷ 0x00 ∷ []) bytes tt
EncodesInstr form bytes MemoryCopy = Prefixed MEMORY_COPY (Exactly (0x00 ∷ 0x00 ∷ [])) bytes tt
EncodesInstr form bytes MemoryFill = Prefixed MEMORY_FILL (Exactly (0x00 ∷ [])) bytes tt
EncodesInstr form bytes (Const value) = EncodesConst bytes value.ty value.bits
EncodesInstr form bytes (Numeric op) = IsTrue (is_from I32_EQZ I64_EXTEND32_S op) × Exactly (op ∷ []) bytes tt
EncodesInstr form bytes (TableSet table) = IsReplay form × Marked TABLE_SET EncodesU32 bytes table
EncodesInstr form bytes RefNull = IsReplay form × Exactly (REF_NULL ∷ TYPE_FUNCREF ∷ []) bytes tt
EncodesInstr form bytes (RefFunc func) = IsReplay form × Marked REF_FUNC EncodesU32 bytes func
EncodesInstr form bytes (TableGrow table) = IsReplay form × Prefixed TABLE_GROW EncodesU32 bytes table
EncodesInstr form bytes (TableSize table) = IsReplay form × Prefixed TABLE_SIZE EncodesU32 bytes table

-- An expression (Core 1.0, 5.4.6): instructions up to its own `End`, which are a nest of blocks, so that each block has
-- its `End` and only an `if` has an `Else` (5.4.1).
pub record EncodesExpr (form : Form) (bytes : List ℕ) (body : List Instr) : Type 0 where
  pub instructions : Each (EncodesInstr form) bytes body
  pub nest : Nest
  pub is_body : IsBody nest body
