-- The segments of a state: runs of table entries that name functions, and blocks of bytes within the memory.
use Rattle.std.proofs.Common.{◌≡◌, ℕ, zero, suc, ◌+◌, ◌*◌, ◌/◌, ◌<◌, ◌≤◌, List, [], ◌∷◌, length, take, drop, Option, Some, None, refl, arith}
use Rattle.std.specs.Prelude.{All, IfSome}
use Rattle.std.specs.List.{AllByRecursion}
use Rattle.std.proofs.lemmas.List.{length-take}
use Rattle.std.proofs.lemmas.List.Elements.{All-drop, All-from_recursion, All-take, recursion_from_All}
use Rattle.std.proofs.Math.Nat.{min-le_left, mul-div-le}
use Rattle.wasm_syntax.specs.declared.modules.DataSeg.{DataSeg}
use Rattle.rest_spec.specs.StateSegments.{FuncRun, block_segments, block_size, data_segments, func_runs, offset_at, with_block, with_byte, with_func, with_segment, without_last_zeros, zeros_before}
use Rattle.state_laws.proofs.Bytes.{block_bytes, block_parts}

-- ---- element segments

-- a run begins at an entry of a table of this size, and its entries name functions
pub record IsStateRun (funcs size : ℕ) (run : FuncRun) : Type 0 where
  pub place : run.index < size
  pub there : AllByRecursion (λ f. f < funcs) run.funcs

module _ (funcs size : ℕ) where
  func_added : (index func : ℕ) → index < size → func < funcs → (entries : List (Option ℕ)) (runs : List FuncRun)
      → AllByRecursion (IsStateRun funcs size) runs
      → AllByRecursion (IsStateRun funcs size) (with_func index func entries runs)
  func_added index func low named [] runs all = (record { place = low; there = (named, tt) }, all)
  func_added index func low named (None ∷ entries) runs all = (record { place = low; there = (named, tt) }, all)
  func_added index func low named (Some next ∷ entries) [] all = (record { place = low; there = (named, tt) }, all)
  func_added index func low named (Some next ∷ entries) (run ∷ runs) all =
      (record { place = low; there = (named, all.0.there) }, all.1)

  pub runs_are : (index : ℕ) (entries : List (Option ℕ)) → index + length entries ≤ size
      → AllByRecursion (λ entry. IfSome entry (λ func. func < funcs)) entries
      → AllByRecursion (IsStateRun funcs size) (func_runs index entries)
  runs_are index [] within all = tt
  runs_are index (None ∷ entries) within all = runs_are (suc index) entries (omega (arith, within)) all.1
  runs_are index (Some func ∷ entries) within all =
      func_added index func (omega (arith, within)) all.0 entries (func_runs (suc index) entries)
      (runs_are (suc index) entries (omega (arith, within)) all.1)

-- ---- bytes

abbrev pub IsByte : ℕ → Type 0
IsByte byte = byte < 256

byte_added : (byte : ℕ) (later : List ℕ) → IsByte byte → AllByRecursion IsByte later
    → AllByRecursion IsByte (with_byte byte later)
byte_added zero [] low all = tt
byte_added zero (next ∷ later) low all = (low, all)
byte_added (suc byte) later low all = (low, all)

trimmed_bytes : (bytes : List ℕ) → AllByRecursion IsByte bytes → AllByRecursion IsByte (without_last_zeros bytes)
trimmed_bytes [] all = tt
trimmed_bytes (byte ∷ bytes) all = byte_added byte (without_last_zeros bytes) all.0 (trimmed_bytes bytes all.1)

drop_all : (n : ℕ) (bytes : List ℕ) → AllByRecursion IsByte bytes → AllByRecursion IsByte (drop n bytes)
drop_all n bytes all =
    recursion_from_All IsByte (drop n bytes) (All-drop IsByte n bytes (All-from_recursion IsByte bytes all))

take_all : (n : ℕ) (bytes : List ℕ) → AllByRecursion IsByte bytes → AllByRecursion IsByte (take n bytes)
take_all n bytes all =
    recursion_from_All IsByte (take n bytes) (All-take IsByte n bytes (All-from_recursion IsByte bytes all))

-- ---- data segments

-- a segment of the memory, at a constant place up to the end of the blocks, with the bytes of one block at most
pub record IsStateBlock (most limit : ℕ) (segment : DataSeg) : Type 0 where
  pub memory : segment.memory ≡ 0
  pub place : ℕ
  pub offset : segment.offset ≡ offset_at place
  pub low : place ≤ limit
  pub some : 0 < limit
  pub bytes : AllByRecursion IsByte segment.bytes
  pub short : length segment.bytes ≤ most

module _ (size limit : ℕ) (few : size ≤ block_size) where
  segment_added : (place : ℕ) (bytes : List ℕ) (later : List DataSeg) → place ≤ limit → 0 < limit
      → AllByRecursion IsByte bytes → length bytes ≤ size → AllByRecursion (IsStateBlock size limit) later
      → AllByRecursion (IsStateBlock size limit) (with_segment place bytes later)
  segment_added place [] later low some all short rest = rest
  segment_added place (byte ∷ bytes) later low some all short rest = (
    record { memory = refl; place = place; offset = refl; low = low; some = some; bytes = all; short = short },
    rest,
  )

  block_added : (address : ℕ) (block : List ℕ) (later : List DataSeg) → address + size ≤ limit → 0 < limit
      → AllByRecursion IsByte block → length block ≤ size → AllByRecursion (IsStateBlock size limit) later
      → AllByRecursion (IsStateBlock size limit) (with_block address block later)
  block_added address block later low some all short rest =
      let parts = (block_parts block).size in
      segment_added (address + zeros_before block) (block_bytes block) later (omega (arith, low, short, parts)) some
      (trimmed_bytes (drop (zeros_before block) block) (drop_all (zeros_before block) block all))
      (omega (arith, short, parts)) rest

  pub blocks_are : (count address : ℕ) (bytes : List ℕ) → address + block_size * count ≤ limit
      → AllByRecursion IsByte bytes → AllByRecursion (IsStateBlock size limit) (block_segments size count address bytes)
  blocks_are zero address bytes low all = tt
  blocks_are (suc count) address bytes low all =
      block_added address (take size bytes) (block_segments size count (address + size) (drop size bytes))
      (omega (arith, low, few)) (omega (arith, low)) (take_all size bytes all)
      (omega (arith, length-take size bytes, min-le_left size (length bytes)))
      (blocks_are count (address + size) (drop size bytes) (omega (arith, low, few)) (drop_all size bytes all))

-- the segments of a memory
pub datas_are : (bytes : List ℕ) → All IsByte bytes
    → AllByRecursion (IsStateBlock block_size (length bytes)) (data_segments bytes)
datas_are bytes all =
    blocks_are block_size (length bytes) (omega arith) (length bytes / block_size) 0 bytes
    (let most = mul-div-le (length bytes) block_size in omega (arith, most)) (recursion_from_All IsByte bytes all)
