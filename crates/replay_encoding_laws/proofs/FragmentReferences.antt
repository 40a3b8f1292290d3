-- The functions to which generated code refers are functions of the original.
use Rattle.std.proofs.Common.{◌≡◌, ℕ, zero, suc, ◌+◌, ◌*◌, List, [], ◌∷◌, ◌++◌, length, map, Option, Some, None, true, arith}
use Rattle.std.specs.Prelude.{drop, nat_lt, take}
use Rattle.std.specs.Option.{option_to_list}
use Rattle.std.specs.List.{AllByRecursion, list_all, range_with_len}
use Rattle.std.proofs.lemmas.Bool.Decides.{nat_tests}
use Rattle.std.proofs.lemmas.List.Elements.{recursion_from_All}
use Rattle.base.proofs.Booleans.{and_parts}
use Rattle.base.proofs.Lists.{joined_all}
use Rattle.base.specs.declared.opcodes.TheConstants.{I32_DIV_U, I32_REM_U}
use Rattle.wasm_syntax.specs.declared.values.Val.{Val}
use Rattle.wasm_syntax.specs.declared.values.ValType.{ValType}
use Rattle.wasm_syntax.specs.declared.instructions.Instr.{Instr}
use Rattle.wasm_syntax.specs.declared.instructions.Instr.TheVariants.{Call, Const, LocalGet, Numeric, Return}
use Rattle.wasm_syntax.specs.declared.modules.Func.{Func}
use Rattle.wasm_syntax.specs.declared.modules.Module.{Module}
use Rattle.wasm_syntax.specs.Index.{all_globals, all_tables, func_type}
use Rattle.wasm_syntax.specs.Nest.{Nest, Empty, flat}
use Rattle.wasm_syntax.specs.Validity.{IsTypedFunc, IsValid}
use Rattle.trace_model.specs.declared.tapes.Effect.{Effect}
use Rattle.trace_model.specs.declared.tapes.Effect.TheVariants.{Grow, Table, Bytes, Entry, Global}
use Rattle.trace_model.specs.declared.tapes.Next.{Next}
use Rattle.trace_model.specs.declared.tapes.Next.TheVariants.{Call as Calls, Return as Returns, End as Ends, Trap as Traps}
use Rattle.trace_model.specs.declared.tapes.Segment.{Segment}
use Rattle.trace_model.specs.Fitting.{effect_fits, names_function}
use Rattle.replay_module_spec.specs.declared.groups.TheConstants.{GROUP_CALLS}
use Rattle.replay_module_spec.specs.Dispatch.{body_of, dispatch, sequence}
use Rattle.replay_module_spec.specs.Effects.{Width, byte_count, effect_code, i32_const, reference_code, store_widths, stores_code}
use Rattle.replay_module_spec.specs.Functions.{count_code, group_call, group_count, group_func, group_funcs, group_nest, groups, import_funcs, import_nest, original_type, start_func}
use Rattle.replay_module_spec.specs.Fragments.{helper_funcs, import_bodies, import_types, start_index}
use Rattle.replay_module_spec.specs.Segments.{drops, effects_code, next_code, segments_code}
use Rattle.replay_module_spec.specs.declared.plans.Plan.{Plan}
use Rattle.replay_module_laws.specs.Plans.{AreFit, CallsFit, PlanFits}
use Rattle.replay_module_laws.proofs.References.{AllRefer, FuncsRefer, RefersBelow, funcs_refer}
use Rattle.replay_encoding_laws.proofs.Arms.{body_all, dispatch_all, sequence_all, dropped_all}
use Rattle.replay_encoding_laws.proofs.FittingCode.{parts_all}

module _ (below : ℕ) where
  -- ---- arms

  sequence_refers : (is : List Instr) (rest : Nest) → AllRefer below is → AllRefer below (flat rest)
      → AllRefer below (flat (sequence is rest))
  sequence_refers is rest own later = sequence_all (RefersBelow below) tt tt tt is rest own later

  dispatch_refers : (selector : List Instr) (arms : List (List Instr)) → AllRefer below selector
      → AllByRecursion (AllRefer below) arms → AllRefer below (flat (dispatch selector arms))
  dispatch_refers selector arms own all = dispatch_all (RefersBelow below) tt tt tt selector arms own tt all

  body_refers : (nest : Nest) → AllRefer below (flat nest) → AllRefer below (body_of nest)
  body_refers nest own = body_all (RefersBelow below) tt tt tt nest own

  -- ---- segments

  constants_refer : (values : List Val) → AllRefer below (map Const values)
  constants_refer [] = tt
  constants_refer (value ∷ values) = (tt, constants_refer values)

  stores_refer : (widths : List Width) (address : ℕ) (bytes : List ℕ) → AllRefer below (stores_code widths address bytes)
  stores_refer [] address bytes = tt
  stores_refer (width ∷ widths) address bytes =
      (tt, (tt, (tt, stores_refer widths (address + byte_count width) (drop (byte_count width) bytes))))

module _ (m : Module) where
  reference_refers : (func : Option ℕ) → names_function m func ≡ true → RefersBelow (start_index m) (reference_code func)
  reference_refers None named = tt
  reference_refers (Some func) named = grind (arith, nat_tests, named)

  effect_refers : (effect : Effect) → effect_fits m effect ≡ true → AllRefer (start_index m) (effect_code effect)
  effect_refers (Grow pages) fits = (tt, (tt, (tt, (tt, (tt, tt)))))
  effect_refers (Table size) fits = (tt, (tt, (tt, (tt, (tt, (tt, tt))))))
  effect_refers (Bytes addr bytes) fits = stores_refer (start_index m) (store_widths (length bytes)) addr bytes
  effect_refers (Entry index func) fits = (
    tt,
    (reference_refers func (and_parts (nat_lt 0 (length (all_tables m))) (names_function m func) fits).1, (tt, tt)),
  )
  effect_refers (Global global value) fits = (tt, (tt, tt))

  effects_refer : (effects : List Effect) → list_all (effect_fits m) effects ≡ true
      → AllRefer (start_index m) (effects_code effects)
  effects_refer [] fits = tt
  effects_refer (effect ∷ effects) fits =
      let p = and_parts (effect_fits m effect) (list_all (effect_fits m) effects) fits in
      joined_all (RefersBelow (start_index m)) (effect_code effect) (effects_code effects) (effect_refers effect p.0)
      (effects_refer effects p.1)

  next_refers : (next : Next) (after : List Instr) → AllRefer (start_index m) after
      → AllRefer (start_index m) (next_code m next after)
  next_refers (Calls func args) after later =
      joined_all (RefersBelow (start_index m)) (map Const args) (Call func ∷ (drops (func_type m func) ++ after))
      (constants_refer (start_index m) args) (
        tt,
        joined_all (RefersBelow (start_index m)) (drops (func_type m func)) after
            (dropped_all (RefersBelow (start_index m)) tt (func_type m func)) later,
      )
  next_refers (Returns result) after later =
      joined_all (RefersBelow (start_index m)) (map Const (option_to_list result)) (Return ∷ [])
      (constants_refer (start_index m) (option_to_list result)) (tt, tt)
  next_refers Ends after later = (tt, tt)
  next_refers Traps after later = (tt, tt)

  segments_refer : (results : List ValType) (segments : List Segment) → AreFit m results segments
      → AllRefer (start_index m) (segments_code m segments)
  segments_refer results [] fit = (tt, tt)
  segments_refer results (segment ∷ later) fit =
      joined_all (RefersBelow (start_index m)) (effects_code segment.effects)
      (next_code m segment.next (segments_code m later)) (effects_refer segment.effects fit.0.effects)
      (next_refers segment.next (segments_code m later) (segments_refer results later fit.1))

  calls_refer : (results : List ValType) (calls : List (List Segment)) → AllByRecursion (AreFit m results) calls
      → AllByRecursion (AllRefer (start_index m)) (map (segments_code m) calls)
  calls_refer results [] fit = tt
  calls_refer results (segments ∷ calls) fit = (segments_refer results segments fit.0, calls_refer results calls fit.1)

  -- ---- functions

  group_calls_refer : (local first count : ℕ)
      → AllByRecursion (AllRefer (start_index m)) (map (group_call local) (range_with_len first count))
  group_calls_refer local first zero = tt
  group_calls_refer local first (suc count) =
      ((tt, (tt, (tt, tt))), group_calls_refer local (first + 1) count)

  imports_refer : (counter first : ℕ) (types : List ℕ) (calls : List (List (List Segment)))
      → FuncsRefer (start_index m) (import_funcs m counter first types calls)
  imports_refer counter first [] calls = tt
  imports_refer counter first (ty ∷ types) [] = tt
  imports_refer counter first (ty ∷ types) (calls ∷ more) =
      let count = group_count (length calls) in
      let local = length (original_type m ty).params in
      let selector = LocalGet local ∷ i32_const GROUP_CALLS ∷ Numeric I32_DIV_U ∷ [] in
      let arms = map (group_call local) (range_with_len first count) in (
        body_refers (start_index m) (import_nest counter local first count)
            (sequence_refers (start_index m) (count_code counter local) (dispatch selector arms)
            (tt, (tt, (tt, (tt, (tt, tt)))))
            (dispatch_refers (start_index m) selector arms (tt, (tt, (tt, tt))) (group_calls_refer local first count))),
        imports_refer (counter + 1) (first + count) types more,
      )

  each_refers : (ty : ℕ) (calls : List (List Segment)) (places : List ℕ)
      → AllByRecursion (AllByRecursion (AreFit m (original_type m ty).results))
      (map (λ number. take GROUP_CALLS (drop (GROUP_CALLS * number) calls)) places)
      → FuncsRefer (start_index m)
      (map (group_func m ty) (map (λ number. take GROUP_CALLS (drop (GROUP_CALLS * number) calls)) places))
  each_refers ty calls [] fit = tt
  each_refers ty calls (place ∷ places) fit =
      let part = take GROUP_CALLS (drop (GROUP_CALLS * place) calls) in
      let selector = LocalGet 0 ∷ i32_const GROUP_CALLS ∷ Numeric I32_REM_U ∷ [] in (
        body_refers (start_index m) (group_nest m part)
            (dispatch_refers (start_index m) selector (map (segments_code m) part) (tt, (tt, (tt, tt)))
            (calls_refer (original_type m ty).results part fit.0)),
        each_refers ty calls places fit.1,
      )

  groups_refer : (types : List ℕ) (calls : List (List (List Segment))) → CallsFit m types calls
      → FuncsRefer (start_index m) (group_funcs m types calls)
  groups_refer [] calls fit = tt
  groups_refer (ty ∷ types) [] fit = tt
  groups_refer (ty ∷ types) (calls ∷ more) fit =
      let places = range_with_len 0 (group_count (length calls)) in
      joined_all (λ (func : Func). AllRefer (start_index m) func.body) (map (group_func m ty) (groups calls))
      (group_funcs m types more)
      (each_refers ty calls places (parts_all (AreFit m (original_type m ty).results) calls places fit.0))
      (groups_refer types more fit.1)

  start_refers : (segments : List Segment) → AreFit m [] segments
      → AllRefer (start_index m) (start_func m segments).body
  start_refers segments fit =
      body_refers (start_index m) (sequence (segments_code m segments) Empty)
      (sequence_refers (start_index m) (segments_code m segments) Empty (segments_refer [] segments fit) tt)

-- all functions of the replay module of a valid module refer to functions of the original
pub replay_refers : (m : Module) (plan : Plan) → IsValid m → PlanFits m plan
    → FuncsRefer (start_index m) (import_bodies m plan ++ (m.funcs ++ helper_funcs m plan))
replay_refers m plan valid fits =
    joined_all (λ (func : Func). AllRefer (start_index m) func.body) (import_bodies m plan)
    (m.funcs ++ helper_funcs m plan)
    (imports_refer m (length (all_globals m)) (start_index m + 1) (import_types m) plan.imports)
    (joined_all (λ (func : Func). AllRefer (start_index m) func.body) m.funcs (helper_funcs m plan)
    (funcs_refer m m.funcs (recursion_from_All (IsTypedFunc m) m.funcs valid.bodies))
    (start_refers m plan.begin fits.begin, groups_refer m (import_types m) plan.imports fits.imports))
