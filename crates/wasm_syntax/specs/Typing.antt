-- The typing of instructions (Core 1.0, 3.3; Core 2.0, 3.3) on nested bodies. An operand stack is a list of types, the
-- top first.
use Rattle.std.specs.Prelude.{◌≡◌, ℕ, ◌^◌, List, [], ◌∷◌, ◌++◌, length, reverse, Option, Some, None, Bool, true, false, cond, ◌&&◌, IsTrue, nat_eq, nat_lt, nat_le, is_some, slice_get, option_map, option_and_then, All}
use Rattle.std.specs.List.{list_any}
use Rattle.wasm_syntax.specs.declared.values.ValType.{ValType}
use Rattle.wasm_syntax.specs.declared.values.ValType.TheVariants.{I32, I64, F32, F64, FuncRef}
use Rattle.wasm_syntax.specs.declared.values.Val.{Val}
use Rattle.wasm_syntax.specs.declared.signatures.FuncType.{FuncType}
use Rattle.wasm_syntax.specs.declared.signatures.Limits.{Limits}
use Rattle.wasm_syntax.specs.declared.signatures.GlobalType.{GlobalType}
use Rattle.wasm_syntax.specs.declared.instructions.MemArg.{MemArg}
use Rattle.wasm_syntax.specs.declared.instructions.Instr.{Instr}
use Rattle.wasm_syntax.specs.declared.instructions.Instr.TheVariants.{Unreachable, Nop, Br, BrIf, BrTable, Return, Call, CallIndirect, Drop, Select, LocalGet, LocalSet, LocalTee, GlobalGet, GlobalSet, Load, Store, MemorySize, MemoryGrow, MemoryCopy, MemoryFill, Const, Numeric, RefNull, RefFunc, TableSet, TableGrow, TableSize}
use Rattle.wasm_syntax.specs.Nest.{Nest, Empty, Plain, InBlock, InLoop, InIf, InIfElse}
use Rattle.wasm_syntax.specs.Opcodes.{numeric_shape, Access, load_of, store_of}

-- what is known at an instruction (Core 1.0, 3.1.1), the functions by their type indices,
-- the labels with the innermost first; the functions that bodies may refer to (Core 2.0, 3.1.1)
pub record Context : Type 0 where
  pub types : List FuncType
  pub funcs : List ℕ
  pub tables : List Limits
  pub memories : List Limits
  pub globals : List GlobalType
  pub locals : List ValType
  pub labels : List (List ValType)
  pub results : List ValType
  pub declared : List ℕ

-- whether a type is a number type (Core 1.0, 2.3.1), not a reference type
abbrev pub is_number : ValType → Bool
is_number FuncRef = false
is_number t = true

-- the number of bits of a value of a number type (Core 1.0, 4.2.1)
abbrev pub bits_of : ValType → ℕ
bits_of I32 = 32
bits_of I64 = 64
bits_of F32 = 32
bits_of F64 = 64
bits_of FuncRef = 0

-- whether a value is of a number type and in its range
abbrev pub is_constant : Val → Bool
is_constant v = is_number v.ty && nat_lt v.bits (2 ^ bits_of v.ty)

-- the type of a plain instruction, which is what it does to the stack (Core 1.0, 3.1.2): it takes
-- operands and gives results; takes one value of any type; takes a condition and two numbers of one type, and gives
-- one; takes operands and leads elsewhere; takes an index and what all of the labels take, and leads to one of them
pub data InstrType : Type 0 where
  Moves : (operands results : List ValType) → InstrType
  Drops : InstrType
  Selects : InstrType
  Leaves : (operands : List ValType) → InstrType
  Switches : (labels : List ℕ) → InstrType

-- a type under a condition
abbrev pub if_true : Bool → InstrType → Option InstrType
if_true b ty = cond b (Some ty) None

-- a call of a function of this type, the last argument on top (Core 1.0, 3.3.5.10)
abbrev pub call_of : FuncType → InstrType
call_of ty = Moves (reverse ty.params) (reverse ty.results)

-- a call by an index into the table, which is on top (Core 1.0, 3.3.5.11)
abbrev pub indirect_of : FuncType → InstrType
indirect_of ty = Moves (I32 ∷ reverse ty.params) (reverse ty.results)

-- the type of `global.set`, if the global is mutable (Core 1.0, 3.3.3.5)
abbrev pub set_of : GlobalType → Option InstrType
set_of global = if_true global.mutable (Moves (global.ty ∷ []) [])

-- whether the alignment of an access is at most its width (Core 1.0, 3.3.4.1 to 3.3.4.4)
abbrev pub is_aligned : MemArg → Access → Bool
is_aligned arg access = nat_le (2 ^ arg.align) access.width

abbrev pub load_type : MemArg → Access → Option InstrType
load_type arg access = if_true (is_aligned arg access) (Moves (I32 ∷ []) (access.ty ∷ []))

abbrev pub store_type : MemArg → Access → Option InstrType
store_type arg access = if_true (is_aligned arg access) (Moves (access.ty ∷ I32 ∷ []) [])

-- whether there is a table of this index (Core 1.0, 3.3.5.11; Core 2.0, 3.3.6)
abbrev pub has_table : Context → ℕ → Bool
has_table ctx x = is_some (slice_get ctx.tables x)

-- whether there is a memory (Core 1.0, 3.3.4; Core 2.0, 3.3.7)
abbrev pub has_memory : Context → Bool
has_memory ctx = is_some (slice_get ctx.memories 0)

-- whether bodies may refer to the function (Core 2.0, 3.3.2.3)
abbrev pub is_declared : Context → ℕ → Bool
is_declared ctx f = nat_lt f (length ctx.funcs) && list_any (nat_eq f) ctx.declared

-- the type of a function
abbrev pub func_at : Context → ℕ → Option FuncType
func_at ctx f = option_and_then (slice_get ctx.types) (slice_get ctx.funcs f)

-- the type of each plain instruction, if it has one (Core 1.0, 3.3.1 to 3.3.5; Core 2.0,
-- 3.3.1, 3.3.2, 3.3.6 and 3.3.7). The operands of a numeric instruction are of one type, so either may be on top
abbrev pub instr_type : Context → Instr → Option InstrType
instr_type ctx Unreachable = Some (Leaves [])
instr_type ctx Nop = Some (Moves [] [])
instr_type ctx (Br l) = option_map Leaves (slice_get ctx.labels l)
instr_type ctx (BrIf l) = option_map (λ label. Moves (I32 ∷ label) label) (slice_get ctx.labels l)
instr_type ctx (BrTable ls l) = Some (Switches (ls ++ l ∷ []))
instr_type ctx Return = Some (Leaves ctx.results)
instr_type ctx (Call f) = option_map call_of (func_at ctx f)
instr_type ctx (CallIndirect t) = cond (has_table ctx 0) (option_map indirect_of (slice_get ctx.types t)) None
instr_type ctx Drop = Some Drops
instr_type ctx Select = Some Selects
instr_type ctx (LocalGet x) = option_map (λ t. Moves [] (t ∷ [])) (slice_get ctx.locals x)
instr_type ctx (LocalSet x) = option_map (λ t. Moves (t ∷ []) []) (slice_get ctx.locals x)
instr_type ctx (LocalTee x) = option_map (λ t. Moves (t ∷ []) (t ∷ [])) (slice_get ctx.locals x)
instr_type ctx (GlobalGet x) = option_map (λ g. Moves [] (g.ty ∷ [])) (slice_get ctx.globals x)
instr_type ctx (GlobalSet x) = option_and_then set_of (slice_get ctx.globals x)
instr_type ctx (Load arg) = cond (has_memory ctx) (option_and_then (load_type arg) (load_of arg.op)) None
instr_type ctx (Store arg) = cond (has_memory ctx) (option_and_then (store_type arg) (store_of arg.op)) None
instr_type ctx MemorySize = if_true (has_memory ctx) (Moves [] (I32 ∷ []))
instr_type ctx MemoryGrow = if_true (has_memory ctx) (Moves (I32 ∷ []) (I32 ∷ []))
instr_type ctx MemoryCopy = if_true (has_memory ctx) (Moves (I32 ∷ I32 ∷ I32 ∷ []) [])
instr_type ctx MemoryFill = if_true (has_memory ctx) (Moves (I32 ∷ I32 ∷ I32 ∷ []) [])
instr_type ctx (Const v) = if_true (is_constant v) (Moves [] (v.ty ∷ []))
instr_type ctx (Numeric op) = option_map (λ shape. Moves shape.operands (shape.result ∷ [])) (numeric_shape op)
instr_type ctx RefNull = Some (Moves [] (FuncRef ∷ []))
instr_type ctx (RefFunc f) = if_true (is_declared ctx f) (Moves [] (FuncRef ∷ []))
instr_type ctx (TableSet x) = if_true (has_table ctx x) (Moves (FuncRef ∷ I32 ∷ []) [])
instr_type ctx (TableGrow x) = if_true (has_table ctx x) (Moves (I32 ∷ FuncRef ∷ []) (I32 ∷ []))
instr_type ctx (TableSize x) = if_true (has_table ctx x) (Moves [] (I32 ∷ []))
instr_type ctx other = None

-- the operands are on top of the stack before, and the results take their place on the stack after
pub record IsMove (operands results before after : List ValType) : Type 0 where
  pub below : List ValType
  pub had : before ≡ operands ++ below
  pub left : after ≡ results ++ below

-- one value is dropped (Core 1.0, 3.3.2.1)
pub record IsDrop (before after : List ValType) : Type 0 where
  pub ty : ValType
  pub had : before ≡ ty ∷ after

-- one of two numbers is selected (Core 1.0, 3.3.2.2)
pub record IsSelect (before after : List ValType) : Type 0 where
  pub ty : ValType
  pub below : List ValType
  pub number : IsTrue (is_number ty)
  pub had : before ≡ I32 ∷ ty ∷ ty ∷ below
  pub left : after ≡ ty ∷ below

-- the operands are on top
pub record IsOnTop (operands before : List ValType) : Type 0 where
  pub below : List ValType
  pub had : before ≡ operands ++ below

-- the labels take the same types, which are on top below the index (Core 1.0, 3.3.5.8)
pub record IsSwitch (labels : List (List ValType)) (targets : List ℕ) (before : List ValType) : Type 0 where
  pub label : List ValType
  pub each : All (λ l. slice_get labels l ≡ Some label) targets
  pub stands : IsOnTop (I32 ∷ label) before

-- an instruction of a type leads from one stack to another; if it leads elsewhere, to any stack (Core 1.0, 3.3.5)
abbrev pub Leads : Context → Option InstrType → List ValType → List ValType → Type 0
Leads ctx None before after = ⊥
Leads ctx (Some (Moves operands results)) before after = IsMove operands results before after
Leads ctx (Some Drops) before after = IsDrop before after
Leads ctx (Some Selects) before after = IsSelect before after
Leads ctx (Some (Leaves operands)) before after = IsOnTop operands before
Leads ctx (Some (Switches targets)) before after = IsSwitch ctx.labels targets before

-- the results of a block (Core 1.0, 2.4.5)
abbrev pub results_of : Option ValType → List ValType
results_of None = []
results_of (Some t) = t ∷ []

-- whether a block's result is a number, or it has no result
abbrev pub is_block_type : Option ValType → Bool
is_block_type None = true
is_block_type (Some t) = is_number t

-- the context within a block whose label takes these types
abbrev pub inside : List ValType → Context → Context
inside label ctx = record ctx { labels = label ∷ ctx.labels }

-- a block's body begins with no operands, and leaves the block's results (Core 1.0, 3.3.5.3 to 3.3.5.5);
-- a missing `else` is an empty one. A sequence is typed through the stacks between its instructions
-- (Core 1.0, 3.3.6)
abbrev pub IsTyped : Context → Nest → List ValType → List ValType → Type 0
IsTyped ctx Empty before after = before ≡ after
IsTyped ctx (Plain i rest) before after =
    (middle : List ValType) × Leads ctx (instr_type ctx i) before middle × IsTyped ctx rest middle after
IsTyped ctx (InBlock ty body rest) before after =
    IsTrue (is_block_type ty)
    × IsTyped (inside (results_of ty) ctx) body [] (results_of ty)
    × IsTyped ctx rest (results_of ty ++ before) after
IsTyped ctx (InLoop ty body rest) before after =
    IsTrue (is_block_type ty)
    × IsTyped (inside [] ctx) body [] (results_of ty)
    × IsTyped ctx rest (results_of ty ++ before) after
IsTyped ctx (InIf ty body rest) before after =
    (below : List ValType) × (before ≡ I32 ∷ below)
    × IsTrue (is_block_type ty)
    × IsTyped (inside (results_of ty) ctx) body [] (results_of ty)
    × ([] ≡ results_of ty)
    × IsTyped ctx rest (results_of ty ++ below) after
IsTyped ctx (InIfElse ty body other rest) before after =
    (below : List ValType) × (before ≡ I32 ∷ below)
    × IsTrue (is_block_type ty)
    × IsTyped (inside (results_of ty) ctx) body [] (results_of ty)
    × IsTyped (inside (results_of ty) ctx) other [] (results_of ty)
    × IsTyped ctx rest (results_of ty ++ below) after
