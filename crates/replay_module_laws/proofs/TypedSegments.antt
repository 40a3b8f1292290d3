-- The typing of the code of segments.
use Rattle.std.proofs.Common.{◌≡◌, List, [], ◌∷◌, ◌++◌, Option, Some, None, true, refl, sym, ap, ◌∙◌, subst, option_map}
use Rattle.std.specs.Prelude.{replicate, reverse}
use Rattle.std.specs.Option.{option_to_list}
use Rattle.std.proofs.lemmas.List.{length-reverse}
use Rattle.wasm_syntax.specs.declared.values.ValType.{ValType}
use Rattle.wasm_syntax.specs.declared.signatures.FuncType.{FuncType}
use Rattle.wasm_syntax.specs.declared.instructions.Instr.{Instr}
use Rattle.wasm_syntax.specs.declared.instructions.Instr.TheVariants as instr
use Rattle.wasm_syntax.specs.declared.instructions.Instr.TheVariants.{Drop, Unreachable}
use Rattle.wasm_syntax.specs.declared.modules.Module.{Module}
use Rattle.wasm_syntax.specs.Nest.{Empty, Plain}
use Rattle.wasm_syntax.specs.Index.{func_type}
use Rattle.wasm_syntax.specs.Typing.{Context, IsTyped, Leaves, call_of, instr_type}
use Rattle.wasm_syntax.proofs.ValTypes.{types_same}
use Rattle.trace_model.specs.declared.tapes.Next.{Next}
use Rattle.trace_model.specs.declared.tapes.Next.TheVariants.{Call, Return, End, Trap}
use Rattle.trace_model.specs.declared.tapes.Segment.{Segment}
use Rattle.trace_model.specs.Fitting.{takes_values, types_of}
use Rattle.replay_module_spec.specs.Dispatch.{sequence}
use Rattle.replay_module_spec.specs.Segments.{drops, next_code, segments_code}
use Rattle.replay_module_laws.specs.Plans.{AreFit, NextFits}
use Rattle.replay_module_laws.specs.Written.{IsConstantNext}
use Rattle.replay_module_laws.proofs.Serving.{Serves, constants_typed, drops_typed, led, moved, stacked, stacked_is}
use Rattle.replay_module_laws.proofs.TypedEffects.{effects_typed}

pub typed_values : (types : List ValType) (o : Option FuncType) → takes_values types o ≡ true
    → (ty : FuncType) × (o ≡ Some ty) × (types ≡ ty.params)
typed_values types None h = absurd (cc h)
typed_values types (Some ty) h = (ty, refl, types_same types ty.params h)

module _ (m : Module) (ctx : Context) (serves : Serves m ctx) (results : List ValType)
    (given : ctx.results ≡ reverse results) where
  return_is : instr_type ctx instr.Return ≡ Some (Leaves (reverse results))
  return_is = ap (λ l. Some (Leaves l)) given

  next_typed : (next : Next) (later : List Instr) (after : List ValType) → NextFits m results next
      → IsConstantNext next → IsTyped ctx (sequence later Empty) [] after
      → IsTyped ctx (sequence (next_code m next later) Empty) [] after
  next_typed (Call func args) later after fits are typed =
      let t = typed_values (types_of args) (func_type m func) fits in
      let stack : stacked args [] ≡ reverse t.0.params ++ [] =
      stacked_is args [] ∙ ap (λ l. reverse l ++ []) t.2 in
      let dropped =
      subst (λ n. IsTyped ctx (sequence (replicate n Drop ++ later) Empty) (reverse t.0.results ++ []) after)
      (length-reverse t.0.results) (drops_typed ctx (reverse t.0.results) later Empty [] after typed) in
      constants_typed ctx args (instr.Call func ∷ (drops (func_type m func) ++ later)) Empty [] after are
      (subst (λ s. IsTyped ctx (Plain (instr.Call func) (sequence (drops (func_type m func) ++ later) Empty)) s after)
      (sym stack)
      (moved ctx (instr.Call func) (reverse t.0.params) (reverse t.0.results) []
      (sequence (drops (func_type m func) ++ later) Empty) after
      (ap (option_map call_of) (serves.funcs func t.0 t.1))
      (subst (λ o. IsTyped ctx (sequence (drops o ++ later) Empty) (reverse t.0.results ++ []) after) (sym t.1)
      dropped)))
  next_typed (Return result) later after fits are typed =
      let values = option_to_list result in
      constants_typed ctx values (instr.Return ∷ []) Empty [] after are
      (led ctx instr.Return (Leaves (reverse results)) Empty (stacked values []) after after return_is
      (record { below = []; had = stacked_is values [] ∙ ap (λ l. reverse l ++ []) fits }) refl)
  next_typed End later after fits are typed =
      led ctx instr.Return (Leaves (reverse results)) Empty [] after after return_is
      (record { below = []; had = ap (λ l. reverse l ++ []) (sym fits) }) refl
  next_typed Trap later after fits are typed =
      led ctx Unreachable (Leaves []) Empty [] after after refl (record { below = []; had = refl }) refl

  -- the code of segments gives any wanted results, since control never reaches its end
  pub segments_typed : (segments : List Segment) (after : List ValType) → AreFit m results segments
      → IsTyped ctx (sequence (segments_code m segments) Empty) [] after
  segments_typed [] after fit =
      led ctx Unreachable (Leaves []) Empty [] after after refl (record { below = []; had = refl }) refl
  segments_typed (segment ∷ later) after fit =
      effects_typed m ctx serves segment.effects (next_code m segment.next (segments_code m later)) Empty [] after
      fit.0.effects fit.0.constants.effects
      (next_typed segment.next (segments_code m later) after fit.0.next fit.0.constants.next
      (segments_typed later after fit.1))
