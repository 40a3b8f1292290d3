-- The cost of generated instructions: their bytes, and for a reference to a function the bytes of its declaration.
use Rattle.std.proofs.Common.{◌≡◌, ℕ, zero, suc, ◌+◌, ◌*◌, ◌≤◌, List, [], ◌∷◌, ◌++◌, length, map, None, refl, arith}
use Rattle.std.specs.Prelude.{replicate}
use Rattle.std.proofs.lemmas.List.{length-append}
use Rattle.leb_bytes.specs.Unsigned.{u32_bytes}
use Rattle.wasm_syntax.specs.declared.values.Val.{Val}
use Rattle.wasm_syntax.specs.declared.instructions.MemArg.{MemArg}
use Rattle.wasm_syntax.specs.declared.instructions.Instr.{Instr}
use Rattle.wasm_syntax.specs.declared.instructions.Instr.TheVariants.{Unreachable, Block, End, BrTable, Return, Call, Drop, LocalGet, LocalTee, GlobalGet, GlobalSet, Store, MemorySize, MemoryGrow, Const, Numeric, RefNull, RefFunc, TableSet, TableGrow, TableSize}
use Rattle.base.specs.declared.opcodes.TheConstants.{TABLE_GROW, TABLE_SIZE}
use Rattle.wasm_syntax.specs.Encoding.Shortest.{instr_bytes, vector_bytes}
use Rattle.wasm_syntax.proofs.ItemLists.{u32_most, items, items_cons, items_nil, vector_length, const_most}

-- ---- instructions

-- a function to which an instruction refers is declared once, by an index of at most 5 bytes
abbrev pub marks : Instr → ℕ
marks (RefFunc func) = 5
marks i = 0

unfoldable pub cost : Instr → ℕ
cost i = length (instr_bytes i) + marks i

pub cost_is : (i : Instr) → cost i ≡ length (instr_bytes i) + marks i
unfolding cost
cost_is i = refl

pub const_cost : (value : Val) → cost (Const value) ≤ 11
unfolding cost instr_bytes
const_cost value = let most = const_most value.ty value.bits in omega (arith, most)

-- instructions without immediates, or with one byte of them
pub record FixedCosts : Type 0 where
  pub block : cost (Block None) ≡ 2
  pub unreachable : cost Unreachable ≡ 1
  pub ends : cost End ≡ 1
  pub returns : cost Return ≡ 1
  pub drop : cost Drop ≡ 1
  pub memory_size : cost MemorySize ≡ 2
  pub memory_grow : cost MemoryGrow ≡ 2
  pub ref_null : cost RefNull ≡ 2

pub fixed : FixedCosts
unfolding cost instr_bytes
fixed =
    record {
      block = refl;
      unreachable = refl;
      ends = refl;
      returns = refl;
      drop = refl;
      memory_size = refl;
      memory_grow = refl;
      ref_null = refl;
    }

-- instructions with an index
pub record IndexCosts (index : ℕ) : Type 0 where
  pub call : cost (Call index) ≤ 6
  pub local_get : cost (LocalGet index) ≤ 6
  pub local_tee : cost (LocalTee index) ≤ 6
  pub global_get : cost (GlobalGet index) ≤ 6
  pub global_set : cost (GlobalSet index) ≤ 6
  pub table_set : cost (TableSet index) ≤ 6

pub at_index : (index : ℕ) → IndexCosts index
unfolding cost instr_bytes
at_index index =
    record {
      call = omega (arith, u32_most index);
      local_get = omega (arith, u32_most index);
      local_tee = omega (arith, u32_most index);
      global_get = omega (arith, u32_most index);
      global_set = omega (arith, u32_most index);
      table_set = omega (arith, u32_most index);
    }

pub numeric_cost : (op : ℕ) → cost (Numeric op) ≡ 1
unfolding cost instr_bytes
numeric_cost op = refl

pub ref_func_cost : (func : ℕ) → cost (RefFunc func) ≤ 11
unfolding cost instr_bytes
ref_func_cost func = omega (arith, u32_most func)

pub table_size_cost : (table : ℕ) → cost (TableSize table) ≤ 11
unfolding cost instr_bytes
table_size_cost table =
    omega (arith, length-append (u32_bytes TABLE_SIZE) (u32_bytes table), u32_most TABLE_SIZE, u32_most table)

pub table_grow_cost : (table : ℕ) → cost (TableGrow table) ≤ 11
unfolding cost instr_bytes
table_grow_cost table =
    omega (arith, length-append (u32_bytes TABLE_GROW) (u32_bytes table), u32_most TABLE_GROW, u32_most table)

pub store_cost : (access : MemArg) → cost (Store access) ≤ 11
unfolding cost instr_bytes
store_cost access = omega (
  arith,
  length-append (u32_bytes access.align) (u32_bytes access.offset),
  u32_most access.align,
  u32_most access.offset,
)

pub indices_most : (indices : List ℕ) → items u32_bytes indices ≤ 5 * length indices
indices_most [] = omega (arith, items_nil u32_bytes)
indices_most (index ∷ indices) =
    omega (arith, items_cons u32_bytes index indices, u32_most index, indices_most indices)

pub br_table_cost : (labels : List ℕ) (default : ℕ) → cost (BrTable labels default) ≤ 11 + 5 * length labels
unfolding cost instr_bytes
br_table_cost labels default = omega (
  arith,
  length-append (vector_bytes u32_bytes labels) (u32_bytes default),
  vector_length u32_bytes labels,
  u32_most (length labels),
  indices_most labels,
  u32_most default,
)

-- ---- sequences of instructions

-- the sum of the costs of items
abbrev pub total : {A : Type 0} → (A → ℕ) → List A → ℕ
total each [] = 0
total each (x ∷ xs) = each x + total each xs

pub total_append : {A : Type 0} (each : A → ℕ) (first later : List A)
    → total each (first ++ later) ≡ total each first + total each later
total_append each [] later = omega arith
total_append each (x ∷ first) later = let e = total_append each first later in omega (arith, e)

abbrev pub total_cost : List Instr → ℕ
total_cost is = total cost is

pub cost_append : (first later : List Instr) → total_cost (first ++ later) ≡ total_cost first + total_cost later
cost_append first later = total_append cost first later

pub constants_cost : (values : List Val) → total_cost (map Const values) ≤ 11 * length values
constants_cost [] = omega arith
constants_cost (value ∷ values) = let later = constants_cost values in omega (arith, later, const_cost value)

pub drops_cost : (count : ℕ) → total_cost (replicate count Drop) ≡ count
drops_cost zero = refl
drops_cost (suc count) = let later = drops_cost count in omega (arith, later, fixed.drop)
