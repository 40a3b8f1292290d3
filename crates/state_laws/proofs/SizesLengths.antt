-- How many bytes the parts of the module that begins in a state take in its shortest encoding.
use Rattle.std.proofs.Common.{ℕ, zero, suc, ◌+◌, ◌*◌, ◌≤◌, List, [], ◌∷◌, length, take, drop, map, Option, Some, None, Bool, true, false, cond, sym, subst, arith}
use Rattle.std.specs.List.{AllByRecursion}
use Rattle.leb_bytes.specs.Unsigned.{u32_bytes}
use Rattle.wasm_syntax.specs.declared.values.Val.{Val}
use Rattle.wasm_syntax.specs.declared.signatures.Limits.{Limits}
use Rattle.wasm_syntax.specs.declared.instructions.Instr.TheVariants.{Const, End}
use Rattle.wasm_syntax.specs.declared.modules.DataSeg.{DataSeg}
use Rattle.wasm_syntax.specs.declared.modules.Global.{Global}
use Rattle.wasm_syntax.specs.Encoding.Shortest.{body_bytes, data_bytes, elem_bytes, global_bytes, limits_bytes, table_type_bytes}
use Rattle.wasm_syntax.proofs.ItemLists.{items, items_cons, items_nil, sized_length, u32_most, vector_length}
use Rattle.history_spec.specs.Code.{i32_value}
use Rattle.rest_spec.specs.StateModules.{state_global, state_globals}
use Rattle.rest_spec.specs.StateSegments.{FuncRun, block_segments, block_size, func_runs, offset_at, run_segment, with_func, with_segment, without_last_zeros, zeros_before}
use Rattle.replay_encoding_laws.proofs.Instructions.{indices_most}
use Rattle.replay_encoding_laws.proofs.Modules.{active_length, constant_most, data_length, global_length, limits_most}
use Rattle.state_laws.proofs.ValidSegments.{IsStateBlock}

-- ---- element segments

-- what runs weigh: their bytes, and 16 for each in the bound of a replay module
abbrev pub runs_weight : List FuncRun → ℕ
runs_weight [] = 0
runs_weight (run ∷ runs) = 38 + 5 * length run.funcs + runs_weight runs

func_weight : (index func : ℕ) (entries : List (Option ℕ)) (runs : List FuncRun)
    → runs_weight (with_func index func entries runs) ≤ 43 + runs_weight runs
func_weight index func [] runs = omega arith
func_weight index func (None ∷ entries) runs = omega arith
func_weight index func (Some next ∷ entries) [] = omega arith
func_weight index func (Some next ∷ entries) (run ∷ runs) = omega arith

pub runs_few : (index : ℕ) (entries : List (Option ℕ)) → runs_weight (func_runs index entries) ≤ 43 * length entries
runs_few index [] = omega arith
runs_few index (None ∷ entries) = let later = runs_few (suc index) entries in omega (arith, later)
runs_few index (Some func ∷ entries) =
    let later = runs_few (suc index) entries in
    let own = func_weight index func entries (func_runs (suc index) entries) in
    omega (arith, later, own)

run_length : (run : FuncRun) → length (elem_bytes (run_segment run)) ≤ 22 + 5 * length run.funcs
run_length run = omega (
  arith,
  active_length 0 (offset_at run.index) run.funcs,
  u32_most 0,
  constant_most (i32_value run.index),
  vector_length u32_bytes run.funcs,
  u32_most (length run.funcs),
  indices_most run.funcs,
)

pub runs_length : (runs : List FuncRun)
    → items elem_bytes (map run_segment runs) + 16 * length (map run_segment runs) ≤ runs_weight runs
runs_length [] = omega (arith, items_nil elem_bytes)
runs_length (run ∷ runs) = omega (
  arith,
  items_cons elem_bytes (run_segment run) (map run_segment runs),
  run_length run,
  runs_length runs,
)

-- ---- data segments

block_length : (most limit : ℕ) (segment : DataSeg) → IsStateBlock most limit segment
    → length (data_bytes segment) ≤ 22 + most
block_length most limit segment is =
    let short = is.short in
    let offset : length (body_bytes segment.offset) ≤ 12 =
    subst (λ body. length (body_bytes body) ≤ 12) (sym is.offset) (constant_most (i32_value is.place)) in
    omega (
      arith,
      short,
      offset,
      data_length segment,
      u32_most segment.memory,
      sized_length segment.bytes,
      u32_most (length segment.bytes),
    )

pub blocks_length : (limit : ℕ) (segments : List DataSeg) → AllByRecursion (IsStateBlock block_size limit) segments
    → items data_bytes segments + 16 * length segments ≤ 4134 * length segments
blocks_length limit [] all = omega (arith, items_nil data_bytes)
blocks_length limit (segment ∷ segments) all = omega (
  arith,
  items_cons data_bytes segment segments,
  block_length block_size limit segment all.0,
  blocks_length limit segments all.1,
)

one_more : (place : ℕ) (bytes : List ℕ) (later : List DataSeg)
    → length (with_segment place bytes later) ≤ 1 + length later
one_more place [] later = omega arith
one_more place (byte ∷ bytes) later = omega arith

-- there are no more segments than blocks
pub blocks_few : (size count address : ℕ) (bytes : List ℕ) → length (block_segments size count address bytes) ≤ count
blocks_few size zero address bytes = omega arith
blocks_few size (suc count) address bytes =
    let block = take size bytes in
    let rest = block_segments size count (address + size) (drop size bytes) in
    let own = one_more (address + zeros_before block) (without_last_zeros (drop (zeros_before block) block)) rest in
    let later = blocks_few size count (address + size) (drop size bytes) in
    omega (arith, own, later)

-- ---- globals

global_longer : (g : Global) (value : Val) → length (global_bytes (state_global g value)) ≤ length (global_bytes g) + 12
global_longer g value = by g.ty.mutable
  where
    by : (b : Bool) → length (global_bytes (cond b (record g { init = Const value ∷ End ∷ [] }) g))
        ≤ length (global_bytes g) + 12
    by true = omega (
      arith,
      global_length (record g { init = Const value ∷ End ∷ [] }),
      global_length g,
      constant_most value,
    )
    by false = omega arith

pub globals_longer : (globals : List Global) (values : List Val)
    → items global_bytes (state_globals globals values) ≤ items global_bytes globals + 12 * length globals
globals_longer [] values = omega (arith, items_nil global_bytes)
globals_longer (g ∷ globals) [] = omega arith
globals_longer (g ∷ globals) (value ∷ values) = omega (
  arith,
  items_cons global_bytes (state_global g value) (state_globals globals values),
  items_cons global_bytes g globals,
  global_longer g value,
  globals_longer globals values,
)

-- ---- limits

-- one item at most takes no more bytes than an item does
one_item : {A : Type 0} (write : A → List ℕ) (most : ℕ) → ((x : A) → length (write x) ≤ most) → (xs : List A)
    → length xs ≤ 1 → items write xs ≤ most
one_item write most each [] one = omega (arith, items_nil write)
one_item write most each (x ∷ []) one = omega (arith, items_cons write x [], items_nil write, each x)
one_item write most each (x ∷ y ∷ xs) one = absurd (omega (arith, one))

pub table_length : (tables : List Limits) → length tables ≤ 1 → items table_type_bytes tables ≤ 12
table_length = one_item table_type_bytes 12 (λ limits. omega (arith, limits_most limits))

pub memory_length : (memories : List Limits) → length memories ≤ 1 → items limits_bytes memories ≤ 11
memory_length = one_item limits_bytes 11 limits_most
