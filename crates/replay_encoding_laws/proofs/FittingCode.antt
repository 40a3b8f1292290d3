-- Generated code has an encoding, if the plan fits the module and its indices have 32 bits.
use Rattle.std.proofs.Common.{◌≡◌, ℕ, zero, suc, ◌+◌, ◌*◌, ◌^◌, ◌<◌, ◌≤◌, List, [], ◌∷◌, ◌++◌, length, map, Option, Some, None, true, refl, arith, slice_get}
use Rattle.std.specs.Prelude.{drop, nat_le, nat_lt, take, IsTrue}
use Rattle.std.specs.Option.{option_to_list}
use Rattle.std.specs.List.{AllByRecursion, list_all, range_with_len}
use Rattle.std.proofs.lemmas.Bool.Decides.{nat_tests}
use Rattle.std.proofs.lemmas.List.Elements.{All-drop, All-from_recursion, All-take, recursion_from_All}
use Rattle.std.proofs.lemmas.Option.{slice_get_within}
use Rattle.base.proofs.Booleans.{and_parts}
use Rattle.base.proofs.Lists.{joined_all}
use Rattle.base.proofs.Options.{and_then_some}
use Rattle.base.specs.declared.opcodes.TheConstants.{I32_STORE, I64_STORE32}
use Rattle.wasm_syntax.specs.declared.forms.Form.TheVariants.{Replay}
use Rattle.wasm_syntax.specs.declared.limits.TheConstants.{MAX_ENTRIES, MAX_PAGES, PAGE_SIZE}
use Rattle.wasm_syntax.specs.declared.values.Val.{Val}
use Rattle.wasm_syntax.specs.declared.values.ValType.{ValType}
use Rattle.wasm_syntax.specs.declared.values.ValType.TheVariants.{I32, I64, F32, F64, FuncRef}
use Rattle.wasm_syntax.specs.declared.signatures.FuncType.{FuncType}
use Rattle.wasm_syntax.specs.declared.instructions.Instr.{Instr}
use Rattle.wasm_syntax.specs.declared.instructions.Instr.TheVariants.{Call, Const, Return}
use Rattle.wasm_syntax.specs.declared.modules.Module.{Module}
use Rattle.wasm_syntax.specs.Index.{all_globals, all_memories, all_tables, func_indices, func_type}
use Rattle.wasm_syntax.specs.Nest.{Nest, flat}
use Rattle.wasm_syntax.specs.Opcodes.{is_from}
use Rattle.wasm_syntax.specs.Typing.{is_constant}
use Rattle.wasm_syntax.specs.Encoding.Encodable.{FitsConst, FitsInstr, FitsU32}
use Rattle.trace_model.specs.declared.tapes.Effect.{Effect}
use Rattle.trace_model.specs.declared.tapes.Effect.TheVariants.{Grow, Table, Bytes, Entry, Global}
use Rattle.trace_model.specs.declared.tapes.Next.{Next}
use Rattle.trace_model.specs.declared.tapes.Next.TheVariants.{Call as Calls, Return as Returns, End as Ends, Trap as Traps}
use Rattle.trace_model.specs.declared.tapes.Segment.{Segment}
use Rattle.trace_model.specs.Fitting.{effect_fits, names_function, takes_values, types_of}
use Rattle.history_spec.specs.Store.{number_of}
use Rattle.replay_module_spec.specs.declared.groups.TheConstants.{GROUP_CALLS}
use Rattle.replay_module_spec.specs.Dispatch.{body_of, dispatch, sequence}
use Rattle.replay_module_spec.specs.Effects.{Width, Eight, Four, Two, One, byte_count, effect_code, reference_code, store_opcode, store_type, store_widths, stores_code}
use Rattle.replay_module_spec.specs.Segments.{drops, effects_code, next_code, segments_code}
use Rattle.replay_module_laws.specs.Plans.{AreFit, NextFits}
use Rattle.replay_module_laws.specs.Written.{AreConstants, IsConstantEffect, IsConstantNext}
use Rattle.replay_encoding_laws.proofs.Arms.{body_all, dispatch_all, sequence_all, dropped_all}
use Rattle.replay_module_spec.proofs.Widths.{counts_of, counts_of_all}
use Rattle.replay_module_laws.proofs.TypedEffects.{memory_there, number_small, rest_small, some_bytes, taken_type, width_typed}

-- instructions that the encoding of a replay module may contain
abbrev pub AreFitting : List Instr → Type 0
AreFitting body = AllByRecursion (FitsInstr Replay) body

-- ---- values

bits_fit : (ty : ValType) (bits : ℕ) → is_constant (record { ty = ty; bits = bits }) ≡ true → FitsConst ty bits
bits_fit I32 bits h = grind (arith, nat_tests, h)
bits_fit I64 bits h = grind (arith, nat_tests, h)
bits_fit F32 bits h = grind (arith, nat_tests, h)
bits_fit F64 bits h = grind (arith, nat_tests, h)
bits_fit FuncRef bits h = absurd (cc h)

pub value_fits : (value : Val) → is_constant value ≡ true → FitsConst value.ty value.bits
value_fits value h = bits_fit value.ty value.bits h

constants_fit : (values : List Val) → AreConstants values → AreFitting (map Const values)
constants_fit [] are = tt
constants_fit (value ∷ values) are = (value_fits value are.0, constants_fit values are.1)

-- ---- arms

range_fits : (from count : ℕ) → from + count ≤ 2 ^ 32 → AllByRecursion FitsU32 (range_with_len from count)
range_fits from zero few = tt
range_fits from (suc count) few = (omega (arith, few), range_fits (from + 1) count (omega (arith, few)))

pub sequence_fits : (is : List Instr) (rest : Nest) → AreFitting is → AreFitting (flat rest)
    → AreFitting (flat (sequence is rest))
sequence_fits is rest own later = sequence_all (FitsInstr Replay) tt tt tt is rest own later

pub dispatch_fits : (selector : List Instr) (arms : List (List Instr)) → AreFitting selector → length arms < 2 ^ 32
    → AllByRecursion AreFitting arms → AreFitting (flat (dispatch selector arms))
dispatch_fits selector arms own few all =
    dispatch_all (FitsInstr Replay) tt tt tt selector arms own
    (range_fits 0 (length arms) (omega (arith, few)), few) all

pub body_fits : (nest : Nest) → AreFitting (flat nest) → AreFitting (body_of nest)
body_fits nest own = body_all (FitsInstr Replay) tt tt tt nest own

-- ---- effects

store_is : (width : Width) → IsTrue (is_from I32_STORE I64_STORE32 (store_opcode width))
store_is Eight = refl
store_is Four = refl
store_is Two = refl
store_is One = refl

stores_fit : (widths : List Width) (address : ℕ) (bytes : List ℕ) → address + counts_of widths ≤ 2 ^ 32
    → AllByRecursion (λ byte. byte < 256) bytes → AreFitting (stores_code widths address bytes)
stores_fit [] address bytes small are = tt
stores_fit (width ∷ widths) address bytes small are =
    let some = some_bytes width in
    let number = number_of (take (byte_count width) bytes) in (
      omega (arith, small, some),
      (
        bits_fit (store_type width) number (width_typed width number (number_small (byte_count width) bytes are)),
        (
          (store_is width, (omega arith, omega arith)),
          stores_fit widths (address + byte_count width) (drop (byte_count width) bytes) (omega (arith, small))
              (rest_small (byte_count width) bytes are),
        ),
      ),
    )

reference_fits : (m : Module) (func : Option ℕ) → length (func_indices m) < 2 ^ 32 → names_function m func ≡ true
    → FitsInstr Replay (reference_code func)
reference_fits m None few named = tt
reference_fits m (Some func) few named =
    let below : func < length (func_indices m) = grind (arith, nat_tests, named) in (tt, omega (arith, below, few))

module _ (m : Module) (funcs : length (func_indices m) < 2 ^ 32) (globals : length (all_globals m) < 2 ^ 32) where
  effect_fitting : (effect : Effect) → effect_fits m effect ≡ true → IsConstantEffect effect
      → AreFitting (effect_code effect)
  effect_fitting (Grow pages) fits are =
      let there = memory_there MAX_PAGES pages (all_memories m) fits in
      let small = there.1 in
      (omega (arith, small), (tt, (refl, (tt, (tt, tt)))))
  effect_fitting (Table size) fits are =
      let there = memory_there MAX_ENTRIES size (all_tables m) fits in
      let small = there.1 in
      (tt, (omega (arith, small), ((tt, omega arith), (refl, ((tt, omega arith), (tt, tt))))))
  effect_fitting (Bytes addr bytes) fits are =
      let second =
      (and_parts (nat_lt 0 (length (all_memories m))) (nat_le (addr + length bytes) (MAX_PAGES * PAGE_SIZE)) fits).1 in
      let within : addr + length bytes ≤ MAX_PAGES * PAGE_SIZE = grind (arith, nat_tests, second) in
      let all = counts_of_all (length bytes) in
      stores_fit (store_widths (length bytes)) addr bytes (omega (arith, within, all)) are
  effect_fitting (Entry index func) fits are =
      let named = (and_parts (nat_lt 0 (length (all_tables m))) (names_function m func) fits).1 in
      (are, (reference_fits m func funcs named, ((tt, omega arith), tt)))
  effect_fitting (Global global value) fits are =
      let t = taken_type value.ty (slice_get (all_globals m) global) fits in
      let below = slice_get_within (all_globals m) global t.0 t.1 in
      (value_fits value are, (omega (arith, below, globals), tt))

  effects_fitting : (effects : List Effect) → list_all (effect_fits m) effects ≡ true
      → AllByRecursion IsConstantEffect effects → AreFitting (effects_code effects)
  effects_fitting [] fits are = tt
  effects_fitting (effect ∷ effects) fits are =
      let p = and_parts (effect_fits m effect) (list_all (effect_fits m) effects) fits in
      joined_all (FitsInstr Replay) (effect_code effect) (effects_code effects) (effect_fitting effect p.0 are.0)
      (effects_fitting effects p.1 are.1)

  -- ---- segments

  called : (types : List ValType) (func : ℕ) → takes_values types (func_type m func) ≡ true → func < 2 ^ 32
  called types func h =
      let ty = some_type (func_type m func) h in
      let index = and_then_some (slice_get (func_indices m) func) (λ t. slice_get m.types t) ty.0 ty.1 in
      let below = slice_get_within (func_indices m) func index.0 index.1 in
      omega (arith, below, funcs)
    where
      some_type : (o : Option FuncType) → takes_values types o ≡ true → (ty : FuncType) × (o ≡ Some ty)
      some_type None h' = absurd (cc h')
      some_type (Some ty) h' = (ty, refl)

  next_fitting : (results : List ValType) (next : Next) (after : List Instr) → NextFits m results next
      → IsConstantNext next → AreFitting after → AreFitting (next_code m next after)
  next_fitting results (Calls func args) after fits are later =
      joined_all (FitsInstr Replay) (map Const args) (Call func ∷ (drops (func_type m func) ++ after)) (constants_fit args are) (
        called (types_of args) func fits,
        joined_all (FitsInstr Replay) (drops (func_type m func)) after (dropped_all (FitsInstr Replay) tt (func_type m func)) later,
      )
  next_fitting results (Returns result) after fits are later =
      joined_all (FitsInstr Replay) (map Const (option_to_list result)) (Return ∷ [])
      (constants_fit (option_to_list result) are) (tt, tt)
  next_fitting results Ends after fits are later = (tt, tt)
  next_fitting results Traps after fits are later = (tt, tt)

  pub segments_fitting : (results : List ValType) (segments : List Segment) → AreFit m results segments
      → AreFitting (segments_code m segments)
  segments_fitting results [] fit = (tt, tt)
  segments_fitting results (segment ∷ later) fit =
      joined_all (FitsInstr Replay) (effects_code segment.effects) (next_code m segment.next (segments_code m later))
      (effects_fitting segment.effects fit.0.effects fit.0.constants.effects)
      (next_fitting results segment.next (segments_code m later) fit.0.next fit.0.constants.next
      (segments_fitting results later fit.1))

  pub calls_fitting : (results : List ValType) (calls : List (List Segment)) → AllByRecursion (AreFit m results) calls
      → AllByRecursion AreFitting (map (segments_code m) calls)
  calls_fitting results [] fit = tt
  calls_fitting results (segments ∷ calls) fit =
      (segments_fitting results segments fit.0, calls_fitting results calls fit.1)

-- a property of all calls is one of the calls of each part
pub parts_all : {A : Type 0} (P : A → Type 0) (xs : List A) (places : List ℕ) → AllByRecursion P xs
    → AllByRecursion (AllByRecursion P) (map (λ number. take GROUP_CALLS (drop (GROUP_CALLS * number) xs)) places)
parts_all P xs [] all = tt
parts_all P xs (place ∷ places) all = (
  recursion_from_All P (take GROUP_CALLS (drop (GROUP_CALLS * place) xs))
      (All-take P GROUP_CALLS (drop (GROUP_CALLS * place) xs)
      (All-drop P (GROUP_CALLS * place) xs (All-from_recursion P xs all))),
  parts_all P xs places all,
)
