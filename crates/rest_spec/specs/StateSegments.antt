-- The data and element segments of a known state.
use Rattle.std.specs.Prelude.{ℕ, zero, suc, ◌+◌, ◌/◌, List, [], ◌∷◌, length, take, drop, map, Option, Some, None}
use Rattle.wasm_syntax.specs.declared.instructions.Instr.{Instr}
use Rattle.wasm_syntax.specs.declared.instructions.Instr.TheVariants.{End, Const}
use Rattle.wasm_syntax.specs.declared.modules.DataSeg.{DataSeg}
use Rattle.wasm_syntax.specs.declared.modules.ElemSeg.{ElemSeg}
use Rattle.wasm_syntax.specs.declared.modules.ElemSeg.TheVariants.{Active}
use Rattle.history_spec.specs.Code.{i32_value}

-- the offset of a segment, as a constant (Core 1.0, 3.3.7)
abbrev pub offset_at : ℕ → List Instr
offset_at place = Const (i32_value place) ∷ End ∷ []

-- ---- data segments (Core 1.0, 2.5.8)

-- the number of bytes of a block
abbrev pub block_size : ℕ
block_size = 4096

-- the number of zeros with which bytes begin
abbrev pub zeros_before : List ℕ → ℕ
zeros_before [] = 0
zeros_before (zero ∷ bytes) = suc (zeros_before bytes)
zeros_before (suc byte ∷ bytes) = 0

-- bytes with one more in front, unless it is zero and the only one
abbrev pub with_byte : ℕ → List ℕ → List ℕ
with_byte zero [] = []
with_byte zero (next ∷ later) = zero ∷ next ∷ later
with_byte (suc byte) later = suc byte ∷ later

-- bytes without the zeros at their end
abbrev pub without_last_zeros : List ℕ → List ℕ
without_last_zeros [] = []
without_last_zeros (byte ∷ bytes) = with_byte byte (without_last_zeros bytes)

-- the segments with the one of these bytes at an address in front, unless there are no bytes
abbrev pub with_segment : (address : ℕ) → List ℕ → List DataSeg → List DataSeg
with_segment address [] later = later
with_segment address (byte ∷ bytes) later =
    record { memory = 0; offset = offset_at address; bytes = byte ∷ bytes } ∷ later

-- the segments with the one of a block at an address in front, from its first byte other than zero to its last, unless
-- all its bytes are zero
abbrev pub with_block : (address : ℕ) → List ℕ → List DataSeg → List DataSeg
with_block address block later =
    with_segment (address + zeros_before block) (without_last_zeros (drop (zeros_before block) block)) later

-- the segments of a number of blocks of a size, from an address on
abbrev pub block_segments : (size count address : ℕ) → List ℕ → List DataSeg
block_segments size zero address bytes = []
block_segments size (suc count) address bytes =
    with_block address (take size bytes) (block_segments size count (address + size) (drop size bytes))

-- the segments of a memory with these bytes, which are whole blocks
abbrev pub data_segments : List ℕ → List DataSeg
data_segments bytes = block_segments block_size (length bytes / block_size) 0 bytes

-- ---- element segments (Core 1.0, 2.5.7)

-- a run of table entries that are there, from an index on
pub record FuncRun : Type 0 where
  pub index : ℕ
  pub funcs : List ℕ

-- the runs with a function in front, before these entries, whose runs they are: it belongs to the first run if the next
-- entry is there, else it is a run by itself
abbrev pub with_func : (index func : ℕ) → List (Option ℕ) → List FuncRun → List FuncRun
with_func index func (Some next ∷ entries) (run ∷ runs) =
    record { index = index; funcs = func ∷ run.funcs } ∷ runs
with_func index func entries runs = record { index = index; funcs = func ∷ [] } ∷ runs

-- the longest runs of entries that are there, from an index on
abbrev pub func_runs : (index : ℕ) → List (Option ℕ) → List FuncRun
func_runs index [] = []
func_runs index (None ∷ entries) = func_runs (suc index) entries
func_runs index (Some func ∷ entries) = with_func index func entries (func_runs (suc index) entries)

-- the segment of a run
abbrev pub run_segment : FuncRun → ElemSeg
run_segment run = Active 0 (offset_at run.index) run.funcs

-- the segments of a table with these entries
abbrev pub elem_segments : List (Option ℕ) → List ElemSeg
elem_segments entries = map run_segment (func_runs 0 entries)
