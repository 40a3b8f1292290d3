-- How long the instructions of the prefix are: each of their numbers takes a byte.
use Rattle.std.proofs.Common.{◌≡◌, ◌⊎◌, ℕ, suc, ◌+◌, ◌≤◌, length, refl, inl, inr, arith}
use Rattle.leb_bytes.specs.Unsigned.{unsigned_bytes, u32_bytes}
use Rattle.wasm_encode.specs.Lengths.{at_most_u64}
use Rattle.wasm_syntax.specs.Encoding.Shortest.{instr_bytes}
use Rattle.wasm_syntax.specs.declared.instructions.Instr.{Instr}
use Rattle.wasm_syntax.specs.declared.instructions.Instr.TheVariants.{MemoryCopy, MemoryFill, TableGrow, TableSize}

pub copy_length : (item : Instr) → item ≡ MemoryCopy → 4 ≡ at_most_u64 (length (instr_bytes item))
unfolding instr_bytes u32_bytes unsigned_bytes
copy_length item is = rw is refl

pub fill_length : (item : Instr) → item ≡ MemoryFill → 3 ≡ at_most_u64 (length (instr_bytes item))
unfolding instr_bytes u32_bytes unsigned_bytes
fill_length item is = rw is refl

grow_count : (table : ℕ) → length (instr_bytes (TableGrow table)) ≡ suc (suc (length (u32_bytes table)))
unfolding instr_bytes u32_bytes unsigned_bytes
grow_count table = refl

size_count : (table : ℕ) → length (instr_bytes (TableSize table)) ≡ suc (suc (length (u32_bytes table)))
unfolding instr_bytes u32_bytes unsigned_bytes
size_count table = refl

pub indexed_length : (item : Instr) (table bytes : ℕ) → bytes ≡ length (u32_bytes table) → bytes ≤ 5
    → (item ≡ TableGrow table) ⊎ (item ≡ TableSize table) → 2 + bytes ≡ at_most_u64 (length (instr_bytes item))
indexed_length item table bytes same few (inl is) = rw is (omega (arith, grow_count table, same, few))
indexed_length item table bytes same few (inr is) = rw is (omega (arith, size_count table, same, few))
