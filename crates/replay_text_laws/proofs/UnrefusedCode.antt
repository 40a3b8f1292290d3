-- Generated code has no refused instruction.
use Rattle.std.proofs.Common.{◌≡◌, ℕ, zero, suc, ◌+◌, List, [], ◌∷◌, ◌++◌, length, map, reverse, replicate, Option, Some, None, refl, sym, subst}
use Rattle.std.specs.Prelude.{drop, option_to_list, take}
use Rattle.std.specs.List.{AllByRecursion, range_with_len}
use Rattle.std.proofs.lemmas.List.{reverse-append}
use Rattle.base.proofs.Lists.{joined_all}
use Rattle.base.specs.declared.opcodes.TheConstants.{I32_ADD, I32_DIV_U, I32_REM_U}
use Rattle.wasm_syntax.specs.declared.values.Val.{Val}
use Rattle.wasm_syntax.specs.declared.signatures.FuncType.{FuncType}
use Rattle.wasm_syntax.specs.declared.instructions.Instr.{Instr}
use Rattle.wasm_syntax.specs.declared.instructions.Instr.TheVariants.{BrTable, Call, Const, Drop, End, GlobalGet, GlobalSet, LocalGet, LocalTee, Numeric, Return, Unreachable}
use Rattle.wasm_syntax.specs.declared.modules.Func.{Func}
use Rattle.wasm_syntax.specs.declared.modules.Module.{Module}
use Rattle.wasm_syntax.specs.Index.{func_type}
use Rattle.wasm_syntax.specs.Nest.{Nest, Empty, Plain, InBlock, flat}
use Rattle.trace_model.specs.declared.tapes.Effect.{Effect}
use Rattle.trace_model.specs.declared.tapes.Effect.TheVariants.{Grow, Table, Bytes, Entry, Global}
use Rattle.trace_model.specs.declared.tapes.Next.{Next}
use Rattle.trace_model.specs.declared.tapes.Next.TheVariants as next
use Rattle.trace_model.specs.declared.tapes.Segment.{Segment}
use Rattle.history_spec.specs.Store.{number_of}
use Rattle.replay_module_spec.specs.declared.groups.TheConstants.{GROUP_CALLS}
use Rattle.replay_module_spec.specs.Dispatch.{body_of, dispatch, nested, sequence}
use Rattle.replay_module_spec.specs.Effects.{Width, byte_count, effect_code, i32_const, reference_code, store_code, store_widths, stores_code}
use Rattle.replay_module_spec.specs.Segments.{drops, effects_code, next_code, segments_code}
use Rattle.replay_module_spec.specs.Functions.{count_code, group_call, group_count, group_func, group_funcs, group_nest, groups, import_func, import_funcs, import_nest, original_type, start_func}
use Rattle.replay_module_spec.specs.Fragments.{helper_funcs, import_bodies}
use Rattle.pair_laws.proofs.LinkedAccepted.{AreUnrefused, IsUnrefused}

abbrev AreAll : List Instr → Type 0
AreAll code = AllByRecursion IsUnrefused code

-- ---- arms

in_sequence : (code : List Instr) (rest : Nest) → AreAll code → AreAll (flat rest) → AreAll (flat (sequence code rest))
in_sequence [] rest own later = later
in_sequence (i ∷ code) rest own later = (own.0, in_sequence code rest own.1 later)

in_blocks : (inner : Nest) (arms : List (List Instr)) → AreAll (flat inner) → AllByRecursion AreAll arms
    → AreAll (flat (nested inner arms))
in_blocks inner [] own each = own
in_blocks inner (arm ∷ arms) own each = (
  refl,
  joined_all IsUnrefused (flat (nested inner arms)) (End ∷ flat (sequence arm Empty)) (in_blocks inner arms own each.1)
      (refl, in_sequence arm Empty each.0 tt),
)

all_reversed : (arms : List (List Instr)) → AllByRecursion AreAll arms → AllByRecursion AreAll (reverse arms)
all_reversed [] each = tt
all_reversed (arm ∷ arms) each =
    subst (AllByRecursion AreAll) (sym (reverse-append (arm ∷ []) arms))
    (joined_all AreAll (reverse arms) (arm ∷ []) (all_reversed arms each.1) (each.0, tt))

in_dispatch : (selector : List Instr) (arms : List (List Instr)) → AreAll selector → AllByRecursion AreAll arms
    → AreAll (flat (dispatch selector arms))
in_dispatch selector arms own each =
    let table = BrTable (range_with_len 0 (length arms)) (length arms) ∷ [] in
    in_blocks (sequence (selector ++ table) Empty) ((Unreachable ∷ []) ∷ reverse arms)
    (in_sequence (selector ++ table) Empty (joined_all IsUnrefused selector table own (refl, tt)) tt)
    ((refl, tt), all_reversed arms each)

in_body : (nest : Nest) → AreAll (flat nest) → AreAll (body_of nest)
in_body nest own = joined_all IsUnrefused (flat nest) (End ∷ []) own (refl, tt)

-- ---- effects

in_stores : (widths : List Width) (address : ℕ) (bytes : List ℕ) → AreAll (stores_code widths address bytes)
in_stores [] address bytes = tt
in_stores (width ∷ widths) address bytes =
    (refl, (refl, (refl, in_stores widths (address + byte_count width) (drop (byte_count width) bytes))))

in_reference : (func : Option ℕ) → IsUnrefused (reference_code func)
in_reference None = refl
in_reference (Some func) = refl

in_effect : (effect : Effect) → AreAll (effect_code effect)
in_effect (Grow pages) = (refl, (refl, (refl, (refl, (refl, tt)))))
in_effect (Table size) = (refl, (refl, (refl, (refl, (refl, (refl, tt))))))
in_effect (Bytes addr bytes) = in_stores (store_widths (length bytes)) addr bytes
in_effect (Entry index func) = (refl, (in_reference func, (refl, tt)))
in_effect (Global global value) = (refl, (refl, tt))

in_effects : (effects : List Effect) → AreAll (effects_code effects)
in_effects [] = tt
in_effects (effect ∷ effects) =
    joined_all IsUnrefused (effect_code effect) (effects_code effects) (in_effect effect) (in_effects effects)

-- ---- segments

in_drops : (count : ℕ) → AreAll (replicate count Drop)
in_drops zero = tt
in_drops (suc count) = (refl, in_drops count)

in_dropped : (ty : Option FuncType) → AreAll (drops ty)
in_dropped None = tt
in_dropped (Some ty) = in_drops (length ty.results)

in_constants : (values : List Val) → AreAll (map Const values)
in_constants [] = tt
in_constants (value ∷ values) = (refl, in_constants values)

in_next : (m : Module) (next : Next) (after : List Instr) → AreAll after → AreAll (next_code m next after)
in_next m (next.Call func args) after own =
    joined_all IsUnrefused (map Const args) (Call func ∷ (drops (func_type m func) ++ after)) (in_constants args)
    (refl, joined_all IsUnrefused (drops (func_type m func)) after (in_dropped (func_type m func)) own)
in_next m (next.Return result) after own =
    joined_all IsUnrefused (map Const (option_to_list result)) (Return ∷ []) (in_constants (option_to_list result)) (refl, tt)
in_next m next.End after own = (refl, tt)
in_next m next.Trap after own = (refl, tt)

in_segments : (m : Module) (segments : List Segment) → AreAll (segments_code m segments)
in_segments m [] = (refl, tt)
in_segments m (segment ∷ later) =
    joined_all IsUnrefused (effects_code segment.effects) (next_code m segment.next (segments_code m later))
    (in_effects segment.effects) (in_next m segment.next (segments_code m later) (in_segments m later))

-- ---- functions

in_arms : (m : Module) (calls : List (List Segment)) → AllByRecursion AreAll (map (segments_code m) calls)
in_arms m [] = tt
in_arms m (segments ∷ calls) = (in_segments m segments, in_arms m calls)

in_group : (m : Module) (ty : ℕ) (calls : List (List Segment)) → AreUnrefused (group_func m ty calls)
in_group m ty calls =
    in_body (group_nest m calls)
    (in_dispatch (LocalGet 0 ∷ i32_const GROUP_CALLS ∷ Numeric I32_REM_U ∷ []) (map (segments_code m) calls)
    (refl, (refl, (refl, tt))) (in_arms m calls))

in_parts : (m : Module) (ty : ℕ) (parts : List (List (List Segment)))
    → AllByRecursion AreUnrefused (map (group_func m ty) parts)
in_parts m ty [] = tt
in_parts m ty (part ∷ parts) = (in_group m ty part, in_parts m ty parts)

pub in_groups : (m : Module) (types : List ℕ) (calls : List (List (List Segment)))
    → AllByRecursion AreUnrefused (group_funcs m types calls)
in_groups m [] calls = tt
in_groups m (ty ∷ types) [] = tt
in_groups m (ty ∷ types) (own ∷ calls) =
    joined_all AreUnrefused (map (group_func m ty) (groups own)) (group_funcs m types calls) (in_parts m ty (groups own))
    (in_groups m types calls)

in_calls : (local : ℕ) (funcs : List ℕ) → AllByRecursion AreAll (map (group_call local) funcs)
in_calls local [] = tt
in_calls local (func ∷ funcs) = ((refl, (refl, (refl, tt))), in_calls local funcs)

in_import : (m : Module) (ty counter first count : ℕ) → AreUnrefused (import_func m ty counter first count)
in_import m ty counter first count =
    let local = length (original_type m ty).params in
    let selector = LocalGet local ∷ i32_const GROUP_CALLS ∷ Numeric I32_DIV_U ∷ [] in
    let arms = map (group_call local) (range_with_len first count) in
    in_body (import_nest counter local first count)
    (in_sequence (count_code counter local) (dispatch selector arms) (refl, (refl, (refl, (refl, (refl, tt)))))
    (in_dispatch selector arms (refl, (refl, (refl, tt))) (in_calls local (range_with_len first count))))

pub in_imports : (m : Module) (counter first : ℕ) (types : List ℕ) (calls : List (List (List Segment)))
    → AllByRecursion AreUnrefused (import_funcs m counter first types calls)
in_imports m counter first [] calls = tt
in_imports m counter first (ty ∷ types) [] = tt
in_imports m counter first (ty ∷ types) (own ∷ calls) = (
  in_import m ty counter first (group_count (length own)),
  in_imports m (counter + 1) (first + group_count (length own)) types calls,
)

pub in_start : (m : Module) (segments : List Segment) → AreUnrefused (start_func m segments)
in_start m segments =
    in_body (sequence (segments_code m segments) Empty)
    (in_sequence (segments_code m segments) Empty (in_segments m segments) tt)
