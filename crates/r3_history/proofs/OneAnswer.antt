-- A run under a script has at most one result.
use Rattle.std.proofs.Common.{◌≡◌, ℕ, List, Vec, Result, sym, ◌∙◌, ap}
use Rattle.wasm_syntax.specs.declared.modules.Module.{Module}
use Rattle.host_script.specs.declared.scripts.Script.{Script}
use Rattle.history_spec.specs.Step.{StepResult}
use Rattle.history_spec.specs.Run.{Run, all_one, program_of, run_from}
use Rattle.history_spec.specs.Budget.{HasOneResultAtMost}
use Rattle.history_spec.specs.Line.{history_text}
use Rattle.r3_faults.specs.declared.faults.Fault.{Fault}
use Rattle.r3_faults.specs.Answers.{IsCaused, IsExact}
use Rattle.r3_faults.proofs.OneAnswer.{exact_answer}
use Rattle.accepted_runs.proofs.OneResult.{none-one, outcome-none, outcome-one, run-one, unlinked-one, unlinked-run, unlinked-started}
use Rattle.r3_history.specs.Histories.{IsHistoryOf, IsUnprinted, OfLink, OfOutcome}

module _ (m : Module) (script : Script) (turns : ℕ) (one : (initial : StepResult)
    → HasOneResultAtMost (run_from (program_of m script) all_one initial) all_one turns) where
  unprinted-one : (f g : Fault) → IsUnprinted m script turns f → IsUnprinted m script turns g → f ≡ g
  unprinted-one f g (OfLink u) (OfLink v) = unlinked-one m script f g u v
  unprinted-one f g (OfLink u) (OfOutcome v) = absurd (unlinked-run m script turns f g u v)
  unprinted-one f g (OfOutcome u) (OfLink v) = absurd (unlinked-run m script turns g f v u)
  unprinted-one f g (OfOutcome u) (OfOutcome v) = none-one m script turns one f g u v

  printed-unprinted : (text : List ℕ) (fault : Fault) → IsHistoryOf m script turns text → IsUnprinted m script turns fault → ⊥
  printed-unprinted text fault h (OfLink u) = unlinked-started m script fault h.ends.initial u h.ends.starts
  printed-unprinted text fault h (OfOutcome u) = outcome-none m script turns one h.run h.outcome fault h.ends u

  pub printed-one : (x y : List ℕ) → IsHistoryOf m script turns x → IsHistoryOf m script turns y → x ≡ y
  printed-one x y h i =
      h.lines
      ∙ ap (λ (r : Run). history_text r.history h.outcome) (run-one m script turns one h.run i.run h.outcome i.outcome h.ends i.ends)
      ∙ ap (history_text i.run.history) (outcome-one m script turns one h.run i.run h.outcome i.outcome h.ends i.ends)
      ∙ sym i.lines

  -- a result with its cause is exact
  pub exact : {Z : Type 0} (r : Result (Vec ℕ Z) Fault)
      → IsCaused (IsHistoryOf m script turns) (IsUnprinted m script turns) r
      → IsExact (IsHistoryOf m script turns) (IsUnprinted m script turns) r
  exact = exact_answer (IsHistoryOf m script turns) (IsUnprinted m script turns) printed-unprinted printed-one unprinted-one
