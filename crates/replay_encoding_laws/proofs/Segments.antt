-- The cost of the code of segments.
use Rattle.std.proofs.Common.{◌≡◌, ℕ, ◌+◌, ◌*◌, ◌/◌, ◌%◌, ◌≤◌, List, [], ◌∷◌, ◌++◌, length, map, Option, Some, None, refl, arith, slice_get, option_and_then}
use Rattle.std.specs.Prelude.{All, drop, replicate, sum_by, take}
use Rattle.std.proofs.lemmas.List.{length-append, length-replicate}
use Rattle.std.proofs.lemmas.List.Sums.{sum_by-cons}
use Rattle.base.proofs.Lists.{all_at}
use Rattle.base.specs.declared.opcodes.TheConstants.{I32_SUB}
use Rattle.wasm_syntax.specs.declared.signatures.FuncType.{FuncType}
use Rattle.wasm_syntax.specs.declared.instructions.Instr.{Instr}
use Rattle.wasm_syntax.specs.declared.instructions.Instr.TheVariants.{Call, Const}
use Rattle.wasm_syntax.specs.declared.modules.Module.{Module}
use Rattle.wasm_syntax.specs.Index.{func_indices, func_type}
use Rattle.wasm_syntax.specs.Validity.{IsFuncType}
use Rattle.trace_model.specs.declared.tapes.Effect.{Effect}
use Rattle.trace_model.specs.declared.tapes.Effect.TheVariants.{Grow, Table, Bytes, Entry, Global}
use Rattle.trace_model.specs.declared.tapes.Next.{Next}
use Rattle.trace_model.specs.declared.tapes.Next.TheVariants.{Call as Calls, Return as Returns, End as Ends, Trap as Traps}
use Rattle.trace_model.specs.declared.tapes.Segment.{Segment}
use Rattle.trace_model.specs.Weight.{effect_weight, next_weight}
use Rattle.history_spec.specs.Code.{i32_value}
use Rattle.history_spec.specs.Store.{number_of}
use Rattle.replay_module_spec.specs.Effects.{Width, Eight, Four, Two, One, byte_count, effect_code, store_opcode, store_type, store_widths, stores_code}
use Rattle.replay_module_spec.specs.Segments.{drops, effects_code, next_code, segments_code}
use Rattle.replay_encoding_laws.proofs.Instructions.{total_cost, cost_append, const_cost, constants_cost, drops_cost, numeric_cost, ref_func_cost, store_cost, table_grow_cost, table_size_cost, at_index, fixed}
use Rattle.replay_encoding_laws.proofs.Plans.{segments_cost}

-- ---- effects

stores_most : (widths : List Width) (addr : ℕ) (bytes : List ℕ) → total_cost (stores_code widths addr bytes) ≤ 33 * length widths
stores_most [] addr bytes = omega arith
stores_most (width ∷ widths) addr bytes =
    let number = number_of (take (byte_count width) bytes) in
    let later = stores_most widths (addr + byte_count width) (drop (byte_count width) bytes) in
    omega (
      arith,
      const_cost (i32_value addr),
      const_cost (record { ty = store_type width; bits = number }),
      store_cost (record { op = store_opcode width; align = 0; offset = 0 }),
      later,
    )

widths_most : (count : ℕ) → length (store_widths count) ≤ count
widths_most count =
    let eights = replicate (count / 8) Eight in
    let fours = replicate (count / 4 % 2) Four in
    let twos = replicate (count / 2 % 2) Two in
    let ones = replicate (count % 2) One in
    omega (
      arith,
      length-append eights (fours ++ (twos ++ ones)),
      length-append fours (twos ++ ones),
      length-append twos ones,
      length-replicate (count / 8) Eight,
      length-replicate (count / 4 % 2) Four,
      length-replicate (count / 2 % 2) Two,
      length-replicate (count % 2) One,
    )

effect_most : (effect : Effect) → total_cost (effect_code effect) ≤ 40 * effect_weight effect
effect_most (Grow pages) =
    omega (arith, const_cost (i32_value pages), fixed.memory_size, numeric_cost I32_SUB, fixed.memory_grow, fixed.drop)
effect_most (Table size) = omega (
  arith,
  fixed.ref_null,
  const_cost (i32_value size),
  table_size_cost 0,
  numeric_cost I32_SUB,
  table_grow_cost 0,
  fixed.drop,
)
effect_most (Bytes addr bytes) =
    omega (arith, stores_most (store_widths (length bytes)) addr bytes, widths_most (length bytes))
effect_most (Entry index None) = omega (arith, const_cost (i32_value index), fixed.ref_null, (at_index 0).table_set)
effect_most (Entry index (Some func)) =
    omega (arith, const_cost (i32_value index), ref_func_cost func, (at_index 0).table_set)
effect_most (Global global value) = omega (arith, const_cost value, (at_index global).global_set)

effects_most : (effects : List Effect) → total_cost (effects_code effects) ≤ 40 * sum_by effect_weight effects
effects_most [] = omega arith
effects_most (effect ∷ effects) =
    let both : total_cost (effects_code (effect ∷ effects)) ≡ total_cost (effect_code effect) + total_cost (effects_code effects) =
    cost_append (effect_code effect) (effects_code effects) in
    let sum = sum_by-cons effect_weight effect effects in
    omega (arith, both, sum, effect_most effect, effects_most effects)

-- ---- segments

-- the greatest cost of the code of a segment
abbrev pub segment_cost : Segment → ℕ
segment_cost segment = 40 * sum_by effect_weight segment.effects + 12 * next_weight segment.next

module _ (m : Module) (valid : All IsFuncType m.types) where
  drops_most : (func : ℕ) → total_cost (drops (func_type m func)) ≤ 1
  drops_most func = go (slice_get (func_indices m) func)
    where
      of_type : (o : Option FuncType) → ((ty : FuncType) → o ≡ Some ty → IsFuncType ty) → total_cost (drops o) ≤ 1
      of_type None all = omega arith
      of_type (Some ty) all =
          let one = (all ty refl).one_result in omega (arith, drops_cost (length ty.results), one)

      go : (o : Option ℕ) → total_cost (drops (option_and_then (slice_get m.types) o)) ≤ 1
      go None = omega arith
      go (Some ty) = of_type (slice_get m.types ty) (λ own e. all_at IsFuncType m.types ty own valid e)

  next_most : (next : Next) (after : List Instr)
      → total_cost (next_code m next after) ≤ 12 * next_weight next + total_cost after
  next_most (Calls func args) after = omega (
    arith,
    cost_append (map Const args) (Call func ∷ (drops (func_type m func) ++ after)),
    constants_cost args,
    (at_index func).call,
    cost_append (drops (func_type m func)) after,
    drops_most func,
  )
  next_most (Returns None) after = omega (arith, fixed.returns)
  next_most (Returns (Some value)) after = omega (arith, const_cost value, fixed.returns)
  next_most Ends after = omega (arith, fixed.returns)
  next_most Traps after = omega (arith, fixed.unreachable)

  pub segments_most : (segments : List Segment)
      → total_cost (segments_code m segments) ≤ 1 + segments_cost segment_cost segments
  segments_most [] = omega (arith, fixed.unreachable)
  segments_most (segment ∷ later) = omega (
    arith,
    cost_append (effects_code segment.effects) (next_code m segment.next (segments_code m later)),
    effects_most segment.effects,
    next_most segment.next (segments_code m later),
    segments_most later,
  )
