use Rattle.std.proofs.Common.{[], ◌∷◌, sym, ◌∙◌, ap, subst, inl, inr, Err}
use Rattle.std.specs.List.{Contains}
use Rattle.r3_core.proofs.ResultLemmas.{IsReported-from}
use Rattle.r3_core.proofs.StatusLemmas.{status-usage, status-read, status-too_long, status-write, status-not_done, done-after, listed-unless_usage}
use Rattle.r3_faults.specs.Lines.{status_of}
use Rattle.r3_core.proofs.r3.Goals as goal

pub returns-in-Err-clause-usage : goal.returns-in-Err-clause-usage
returns-in-Err-clause-usage g c =
    let cause = c.in-Err.ensures.cause in (
      λ e. (status-usage _ _ _ _ c.in-Err.fault cause (sym c.status.ensures ∙ e)).1,
      λ unlisted. elim (listed-unless_usage _ _ _ _ c.in-Err.fault cause) [ inl e ↦ c.status.ensures ∙ e | inr listed ↦ absurd (unlisted listed) ],
    )

pub returns-in-Err-clause-listed : goal.returns-in-Err-clause-listed
returns-in-Err-clause-listed g c = λ other.
    elim (listed-unless_usage _ _ _ _ c.in-Err.fault c.in-Err.ensures.cause) [ inl e ↦ absurd (other (c.status.ensures ∙ e)) | inr listed ↦ listed ]

pub returns-in-Err-clause-read : goal.returns-in-Err-clause-read
returns-in-Err-clause-read g c = λ e. status-read _ _ _ _ c.in-Err.fault c.in-Err.ensures.cause (sym c.status.ensures ∙ e)

pub returns-in-Err-clause-too_long : goal.returns-in-Err-clause-too_long
returns-in-Err-clause-too_long g c = λ e. status-too_long _ _ _ _ c.in-Err.fault c.in-Err.ensures.cause (sym c.status.ensures ∙ e)

pub returns-in-Err-clause-write : goal.returns-in-Err-clause-write
returns-in-Err-clause-write g c = λ e. (status-write _ _ _ _ c.in-Err.fault c.in-Err.ensures.cause (sym c.status.ensures ∙ e)).1

pub returns-in-Err-clause-printed_prefix : goal.returns-in-Err-clause-printed_prefix
returns-in-Err-clause-printed_prefix g c = λ e.
    c.in-Err.ensures.printed_prefix (ap Err (status-write _ _ _ _ c.in-Err.fault c.in-Err.ensures.cause (sym c.status.ensures ∙ e)).0)

pub returns-in-Err-clause-longer : goal.returns-in-Err-clause-longer
returns-in-Err-clause-longer g c = λ job says known e longer.
    subst (Contains (3 ∷ 4 ∷ 14 ∷ [])) (sym c.status.ensures) (c.in-Err.ensures.longer job says known e longer)

pub returns-in-Err-clause-refused : goal.returns-in-Err-clause-refused
returns-in-Err-clause-refused g c = λ job fault says known e none sure.
    subst (Contains (status_of fault ∷ 3 ∷ 14 ∷ [])) (sym c.status.ensures) (c.in-Err.ensures.refused job fault says known e none sure)

pub returns-in-Err-clause-reported : goal.returns-in-Err-clause-reported
returns-in-Err-clause-reported g c = λ other. (
  c.in-Err.fault,
  sym c.status.ensures,
  c.in-Err.ensures.cause,
  IsReported-from c.put_line.result _ _ _ _ _ c.put_line.ensures.wrote c.put_line.ensures.wrote_prefix c.put_line.ensures.failed,
)

pub returns-in-Err-clause-unread : goal.returns-in-Err-clause-unread
returns-in-Err-clause-unread g c = λ either. elim either [
  | inl e ↦ c.in-Err.ensures.unlisted (ap Err (status-usage _ _ _ _ c.in-Err.fault c.in-Err.ensures.cause (sym c.status.ensures ∙ e)).0)
  | inr none ↦ c.in-Err.ensures.unread none
]

pub returns-in-Err-clause-printed : goal.returns-in-Err-clause-printed
returns-in-Err-clause-printed g c = λ e. absurd (status-not_done c.in-Err.fault (sym c.status.ensures ∙ e))

pub returns-in-Err-clause-no_failed_read : goal.returns-in-Err-clause-no_failed_read
returns-in-Err-clause-no_failed_read g c = λ e. absurd (status-not_done c.in-Err.fault (sym c.status.ensures ∙ e))

pub returns-in-Err-clause-no_failed_write : goal.returns-in-Err-clause-no_failed_write
returns-in-Err-clause-no_failed_write g c = λ e. absurd (status-not_done c.in-Err.fault (sym c.status.ensures ∙ e))

pub returns-in-Err-clause-silent : goal.returns-in-Err-clause-silent
returns-in-Err-clause-silent g c = λ e. absurd (status-not_done c.in-Err.fault (sym c.status.ensures ∙ e))

pub returns-in-Err-clause-nothing_printed : goal.returns-in-Err-clause-nothing_printed
returns-in-Err-clause-nothing_printed g c = λ some other.
    c.in-Err.ensures.nothing_printed (λ is. other (c.status.ensures ∙ ap status_of is))

pub returns-in-Err-clause-done : goal.returns-in-Err-clause-done
returns-in-Err-clause-done g c = λ job says known e none doable.
    subst (Contains (0 ∷ 3 ∷ 13 ∷ 14 ∷ [])) (sym c.status.ensures) (done-after _ (c.in-Err.ensures.done job says known e none doable))
