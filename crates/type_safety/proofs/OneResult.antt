-- Two results of a run that are the same, or that cannot be.
use Rattle.std.proofs.Common.{◌≡◌, sym, ◌∙◌}
use Rattle.base.specs.declared.outcomes.Outcome.{Outcome}
use Rattle.history_spec.specs.declared.entries.FaultKind.{FaultKind}
use Rattle.history_spec.specs.Step.{Progress, Finished, Faulted}
use Rattle.history_spec.specs.Run.{Run}
use Rattle.history_spec.specs.Budget as budget

pub same_run : (a b : Run) → budget.Over a ≡ budget.Over b → a ≡ b
same_run a b e = cc e

pub over_spent : (a : Run) → budget.Over a ≡ budget.Spent → ⊥
over_spent a e = absurd (cc e)

pub same_outcome : (at : Progress) (a b : Outcome) → at ≡ Finished a → at ≡ Finished b → a ≡ b
same_outcome at a b e f = cc (sym e ∙ f)

pub same_kind : (at : Progress) (a b : FaultKind) → at ≡ Faulted a → at ≡ Faulted b → a ≡ b
same_kind at a b e f = cc (sym e ∙ f)

pub ended_faulted : (at : Progress) (a : Outcome) (b : FaultKind) → at ≡ Finished a → at ≡ Faulted b → ⊥
ended_faulted at a b e f = absurd (cc (sym e ∙ f))
