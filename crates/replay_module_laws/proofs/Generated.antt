-- The typing of each kind of generated function, in a suitable context.
use Rattle.std.proofs.Common.{◌≡◌, ℕ, zero, suc, ◌+◌, ◌<◌, ◌≤◌, List, [], ◌∷◌, ◌++◌, Some, true, refl, ap, arith, option_map, option_and_then}
use Rattle.std.specs.Prelude.{map, reverse, slice_get}
use Rattle.std.specs.List.{AllByRecursion, range_with_len}
use Rattle.base.specs.declared.opcodes.TheConstants.{I32_ADD, I32_DIV_U, I32_REM_U}
use Rattle.wasm_syntax.specs.declared.values.ValType.{ValType}
use Rattle.wasm_syntax.specs.declared.values.ValType.TheVariants.{I32}
use Rattle.wasm_syntax.specs.declared.signatures.GlobalType.{GlobalType}
use Rattle.wasm_syntax.specs.declared.instructions.Instr.{Instr}
use Rattle.wasm_syntax.specs.declared.instructions.Instr.TheVariants.{Call, GlobalGet, GlobalSet, LocalGet, LocalTee, Numeric, Return}
use Rattle.wasm_syntax.specs.declared.modules.Module.{Module}
use Rattle.wasm_syntax.specs.Nest.{Empty}
use Rattle.wasm_syntax.specs.Typing.{Context, IsTyped, Leaves, Moves, call_of, func_at, instr_type, set_of}
use Rattle.trace_model.specs.declared.tapes.Segment.{Segment}
use Rattle.history_spec.specs.Code.{i32_value}
use Rattle.replay_module_spec.specs.declared.groups.TheConstants.{GROUP_CALLS}
use Rattle.replay_module_spec.specs.Dispatch.{dispatch, sequence}
use Rattle.replay_module_spec.specs.Effects.{i32_const}
use Rattle.replay_module_spec.specs.Segments.{segments_code}
use Rattle.replay_module_spec.specs.Functions.{group_call, group_nest, group_type, import_nest}
use Rattle.replay_module_laws.specs.Plans.{AreFit}
use Rattle.replay_module_laws.proofs.Serving.{Serves, constant_typed, led, moved, number_typed}
use Rattle.replay_module_laws.proofs.TypedDispatch.{IsArm, IsSelector, dispatch_typed}
use Rattle.replay_module_laws.proofs.TypedSegments.{segments_typed}

-- the type of a counter
abbrev pub counter_type : GlobalType
counter_type = record { ty = I32; mutable = true }

module _ (ctx : Context) (results : List ValType) (given : ctx.results ≡ reverse results) (local : ℕ)
    (number : slice_get ctx.locals local ≡ Some I32) where
  -- the number of the call, divided by the number of calls of a group
  selects : (op : ℕ) (labels : List (List ValType)) (code : List Instr)
      → instr_type (record ctx { labels = labels }) (Numeric op) ≡ Some (Moves (I32 ∷ I32 ∷ []) (I32 ∷ []))
      → IsTyped (record ctx { labels = labels }) (sequence code Empty) (I32 ∷ []) []
      → IsTyped (record ctx { labels = labels })
      (sequence ((LocalGet local ∷ i32_const GROUP_CALLS ∷ Numeric op ∷ []) ++ code) Empty) [] []
  selects op labels code numeric typed =
      moved (record ctx { labels = labels }) (LocalGet local) [] (I32 ∷ []) []
      (sequence (i32_const GROUP_CALLS ∷ Numeric op ∷ code) Empty) []
      (ap (option_map (λ (t : ValType). Moves [] (t ∷ []))) number)
      (constant_typed (record ctx { labels = labels }) (i32_value GROUP_CALLS) (I32 ∷ [])
      (sequence (Numeric op ∷ code) Empty) [] (number_typed GROUP_CALLS (omega arith))
      (moved (record ctx { labels = labels }) (Numeric op) (I32 ∷ I32 ∷ []) (I32 ∷ []) [] (sequence code Empty) []
      numeric typed))

  pub selects_group : IsSelector ctx (LocalGet local ∷ i32_const GROUP_CALLS ∷ Numeric I32_DIV_U ∷ [])
  selects_group labels code typed = selects I32_DIV_U labels code refl typed

  pub selects_call : IsSelector ctx (LocalGet local ∷ i32_const GROUP_CALLS ∷ Numeric I32_REM_U ∷ [])
  selects_call labels code typed = selects I32_REM_U labels code refl typed

  group_call_typed : (func : ℕ) → func_at ctx func ≡ Some (group_type results) → IsArm ctx (group_call local func)
  group_call_typed func has_type labels after =
      moved (record ctx { labels = labels }) (LocalGet local) [] (I32 ∷ []) [] (sequence (Call func ∷ Return ∷ []) Empty)
      after (ap (option_map (λ (t : ValType). Moves [] (t ∷ []))) number)
      (moved (record ctx { labels = labels }) (Call func) (I32 ∷ []) (reverse results) []
      (sequence (Return ∷ []) Empty) after (ap (option_map call_of) has_type)
      (led (record ctx { labels = labels }) Return (Leaves (reverse results)) Empty (reverse results ++ []) after after
      (ap (λ l. Some (Leaves l)) given) (record { below = []; had = refl }) refl))

  group_calls_typed : (from count : ℕ)
      → ((func : ℕ) → from ≤ func → func < from + count → func_at ctx func ≡ Some (group_type results))
      → AllByRecursion (IsArm ctx) (map (group_call local) (range_with_len from count))
  group_calls_typed from zero there = tt
  group_calls_typed from (suc count) there = (
    group_call_typed from (there from (omega arith) (omega arith)),
    group_calls_typed (from + 1) count
        (λ func past below. there func (omega (arith, past)) (omega (arith, below))),
  )

  -- the function in an import's place
  pub import_typed : (counter first count : ℕ) (after : List ValType) → slice_get ctx.globals counter ≡ Some counter_type
      → ((func : ℕ) → first ≤ func → func < first + count → func_at ctx func ≡ Some (group_type results))
      → IsTyped ctx (import_nest counter local first count) [] after
  import_typed counter first count after counts there =
      let inner =
      dispatch (LocalGet local ∷ i32_const GROUP_CALLS ∷ Numeric I32_DIV_U ∷ [])
      (map (group_call local) (range_with_len first count)) in
      moved ctx (GlobalGet counter) [] (I32 ∷ []) []
      (sequence (LocalTee local ∷ i32_const 1 ∷ Numeric I32_ADD ∷ GlobalSet counter ∷ []) inner) after
      (ap (option_map (λ (g : GlobalType). Moves [] (g.ty ∷ []))) counts)
      (moved ctx (LocalTee local) (I32 ∷ []) (I32 ∷ []) []
      (sequence (i32_const 1 ∷ Numeric I32_ADD ∷ GlobalSet counter ∷ []) inner) after
      (ap (option_map (λ (t : ValType). Moves (t ∷ []) (t ∷ []))) number)
      (constant_typed ctx (i32_value 1) (I32 ∷ []) (sequence (Numeric I32_ADD ∷ GlobalSet counter ∷ []) inner) after
      (number_typed 1 (omega arith))
      (moved ctx (Numeric I32_ADD) (I32 ∷ I32 ∷ []) (I32 ∷ []) [] (sequence (GlobalSet counter ∷ []) inner) after refl
      (moved ctx (GlobalSet counter) (I32 ∷ []) [] [] inner after (ap (option_and_then set_of) counts)
      (dispatch_typed ctx (LocalGet local ∷ i32_const GROUP_CALLS ∷ Numeric I32_DIV_U ∷ [])
      (map (group_call local) (range_with_len first count)) ctx.labels after selects_group
      (group_calls_typed first count there))))))

  module _ (m : Module) (serves : Serves m ctx) where
    arm_typed : (segments : List Segment) → AreFit m results segments → IsArm ctx (segments_code m segments)
    arm_typed segments fit labels after =
        segments_typed m (record ctx { labels = labels })
        (record {
          funcs = serves.funcs;
          table = serves.table;
          memory = serves.memory;
          globals = serves.globals;
          declared = serves.declared;
        }) results given segments after fit

    arms_typed : (calls : List (List Segment)) → AllByRecursion (AreFit m results) calls
        → AllByRecursion (IsArm ctx) (map (segments_code m) calls)
    arms_typed [] fit = tt
    arms_typed (segments ∷ calls) fit = (arm_typed segments fit.0, arms_typed calls fit.1)

module _ (ctx : Context) (results : List ValType) (given : ctx.results ≡ reverse results)
    (number : slice_get ctx.locals 0 ≡ Some I32) (m : Module) (serves : Serves m ctx) where
  -- the function of a group of calls
  pub group_typed : (calls : List (List Segment)) (after : List ValType) → AllByRecursion (AreFit m results) calls
      → IsTyped ctx (group_nest m calls) [] after
  group_typed calls after fit =
      dispatch_typed ctx (LocalGet 0 ∷ i32_const GROUP_CALLS ∷ Numeric I32_REM_U ∷ []) (map (segments_code m) calls)
      ctx.labels after (selects_call ctx results given 0 number) (arms_typed ctx results given 0 number m serves calls fit)
