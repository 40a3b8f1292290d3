-- The replay module of a tape, by its plan and generated parts.
use Rattle.std.proofs.Common.{◌≡◌, ◌≤◌, Result, IfOk, length, sym, ap, ◌∙◌, subst}
use Rattle.std.proofs.lemmas.Result.{IfOk-weaker}
use Rattle.wasm_syntax.specs.declared.modules.Module.{Module}
use Rattle.wasm_syntax.specs.Encoding.Forms.{IsCoreModule}
use Rattle.wasm_syntax.specs.Encoding.Shortest.{encoding_of}
use Rattle.wasm_syntax.specs.Index.{imported_funcs}
use Rattle.wasm_syntax.specs.Validity.{IsValid}
use Rattle.host_script.specs.declared.scripts.Supply.{Supply}
use Rattle.type_safety.specs.Supplies.{IsSupply}
use Rattle.trace_model.specs.declared.tapes.Tape.{Tape}
use Rattle.trace_model.specs.Fitting.{IsFitting}
use Rattle.trace_model.specs.Weight.{tape_weight}
use Rattle.replay_module_spec.specs.declared.fragments.Fragment.{Fragment}
use Rattle.replay_module_spec.specs.declared.plans.Plan.{Plan}
use Rattle.replay_module_spec.specs.Fits.{FitsModule}
use Rattle.replay_module_spec.specs.Fragments.{fragment_of}
use Rattle.replay_module_spec.specs.Merge.{replay_module}
use Rattle.replay_module_spec.specs.Plans.{plan_of}
use Rattle.replay_module_spec.specs.Size.{max_bytes}
use Rattle.replay_module_laws.specs.Written.{IsConstantTape}
use Rattle.replay_encoding_laws.specs.FragmentLaws.{FragmentsFit}
use Rattle.replay_encoding_laws.specs.Laws.{ReplayModulesAreShort}

-- the module as it is given to the plan and to the generated part
module _ (m n o : Module) (tape : Tape) (plan : Plan) (fragment : Fragment) (first : n ≡ m) (second : o ≡ m)
    (is_plan : plan ≡ plan_of (imported_funcs n) tape) (is : fragment ≡ fragment_of o plan) where
  part_is : fragment ≡ fragment_of m (plan_of (imported_funcs m) tape)
  part_is =
      is ∙ ap (λ m. fragment_of m plan) second
      ∙ ap (fragment_of m) (is_plan ∙ ap (λ m. plan_of (imported_funcs m) tape) first)

  pub part_fits : FragmentsFit → (supply : Supply) → IsValid n → IsSupply m supply → IsFitting m tape
      → IsConstantTape tape → FitsModule m fragment
  part_fits law supply valid supplied fits constants =
      subst (FitsModule m) (sym part_is) (law m supply tape (subst IsValid first valid) supplied fits constants)

  pub binary_short : {E : Type 0} → ReplayModulesAreShort → (supply : Supply) (answer : Result Module E) → IsValid n
      → IfOk answer (λ replay. replay ≡ replay_module m supply fragment) → IsCoreModule m
      → IfOk answer (λ replay. length (encoding_of replay) ≤ max_bytes m (tape_weight tape))
  binary_short law supply answer valid made core =
      IfOk-weaker answer (λ replay. replay ≡ replay_module m supply fragment)
      (λ replay. length (encoding_of replay) ≤ max_bytes m (tape_weight tape))
      (λ replay same.
      subst (λ replay. length (encoding_of replay) ≤ max_bytes m (tape_weight tape))
      (sym (same ∙ ap (replay_module m supply) part_is))
      (law m supply tape (subst IsValid first valid) core))
      made
