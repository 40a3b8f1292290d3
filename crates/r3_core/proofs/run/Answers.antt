use Rattle.std.proofs.Common.{◌≡◌, [], refl, sym, ◌∙◌, subst, None, Result, Ok, Err, IsSome, arith}
use Rattle.std.specs.Result.{IsErrAnd}
use Rattle.r3_faults.specs.declared.faults.Fault.{Fault}
use Rattle.r3_faults.specs.declared.faults.Fault.TheVariants.{Write as WriteFault}
use Rattle.r3_core.specs.Jobs.{files_of}
use Rattle.r3_core.specs.Meanings.{IsDoable, IsRefusal}
use Rattle.r3_core.specs.Causes.{first_longer, loaded}
use Rattle.r3_core.proofs.ResultLemmas.{IfErr-from, IsErrAnd-from}
use Rattle.r3_core.proofs.WordLemmas.{Says-one}
use Rattle.r3_core.proofs.StatusLemmas.{print-other, IsCause-printing}
use Rattle.r3_core.proofs.run.Goals as goal

pub output_of_job-requires : goal.output_of_job-requires
output_of_job-requires g c = c.in_ok-job.ensures.listed.in_range

-- ---- the words say no job

pub returns-in_err-job-clause-longer : goal.returns-in_err-job-clause-longer
returns-in_err-job-clause-longer g c = λ job says known e longer. absurd (c.in_err-job.ensures.unlisted (job, says))

pub returns-in_err-job-clause-refused : goal.returns-in_err-job-clause-refused
returns-in_err-job-clause-refused g c = λ job fault says known e none sure.
    absurd (c.in_err-job.ensures.unlisted (job, says))

pub returns-in_err-job-clause-done : goal.returns-in_err-job-clause-done
returns-in_err-job-clause-done g c = λ job says known e none doable.
    absurd (c.in_err-job.ensures.unlisted (job, says))

-- ---- the job prints nothing

pub returns-in_err-printed-clause-longer : goal.returns-in_err-printed-clause-longer
returns-in_err-printed-clause-longer g c = λ job says known e longer.
    let same = Says-one _ _ _ c.in_ok-job.ensures.listed says in
    IsErrAnd-from _ _ _ c.from_residual-in_err-printed.ensures.1
    (c.in_err-printed.ensures.longer known e (subst (λ job. IsSome (first_longer known (files_of job))) same longer))

pub returns-in_err-printed-clause-cause : goal.returns-in_err-printed-clause-cause
returns-in_err-printed-clause-cause g c =
    IfErr-from _ c.in_err-printed.field-0.0 _ c.from_residual-in_err-printed.ensures.1
    (IsCause-printing _ _ c.in_ok-job.ensures.listed _ _ _ c.in_err-printed.field-0.0 c.in_err-printed.ensures.cause)

pub returns-in_err-printed-clause-refused : goal.returns-in_err-printed-clause-refused
returns-in_err-printed-clause-refused g c = λ job fault says known e none sure.
    let same = Says-one _ _ _ c.in_ok-job.ensures.listed says in
    IsErrAnd-from _ _ _ c.from_residual-in_err-printed.ensures.1
    (c.in_err-printed.ensures.refused fault known e
    (subst (λ job. first_longer known (files_of job) ≡ None) same none)
    (subst (λ job. IsRefusal (loaded known job) fault) same sure))

pub returns-in_err-printed-clause-done : goal.returns-in_err-printed-clause-done
returns-in_err-printed-clause-done g c = λ job says known e none doable.
    let same = Says-one _ _ _ c.in_ok-job.ensures.listed says in
    IfErr-from _ c.in_err-printed.field-0.0 _ c.from_residual-in_err-printed.ensures.1
    (c.in_err-printed.ensures.done known e
    (subst (λ job. first_longer known (files_of job) ≡ None) same none)
    (subst (λ job. IsDoable (loaded known job)) same doable))

err-one : {T : Type 0} (r : Result T Fault) (f g : Fault) → r ≡ Err f → r ≡ Err g → f ≡ g
err-one r f g e h = cc (sym e ∙ h)

fault-one : {T : Type 0} (r : Result T Fault) (e f : Fault) → IsErrAnd r (λ y. y ≡ e) → r ≡ Err f → e ≡ f
fault-one (Ok x) e f h is = absurd h
fault-one (Err y) e f h is = sym h ∙ err-one (Err y) y f refl is

pub returns-in_err-printed-clause-unlisted : goal.returns-in_err-printed-clause-unlisted
returns-in_err-printed-clause-unlisted g c = λ is.
    absurd
    ((print-other _ _ c.in_err-printed.field-0.0 c.in_err-printed.ensures.cause).0
    (fault-one c.from_residual-in_err-printed.result _ _ c.from_residual-in_err-printed.ensures.1 is))

pub returns-in_err-printed-clause-printed_prefix : goal.returns-in_err-printed-clause-printed_prefix
returns-in_err-printed-clause-printed_prefix g c = λ is.
    absurd
    ((print-other _ _ c.in_err-printed.field-0.0 c.in_err-printed.ensures.cause).1
    (fault-one c.from_residual-in_err-printed.result _ _ c.from_residual-in_err-printed.ensures.1 is))

pub returns-in_err-printed-clause-unread : goal.returns-in_err-printed-clause-unread
returns-in_err-printed-clause-unread g c = λ none.
    let same = Says-one _ _ _ c.in_ok-job.ensures.listed none.1 in
    c.in_err-printed.ensures.unread (subst (λ job. files_of job ≡ []) same none.2)

-- ---- the bytes are not written

pub returns-in_err-put_all-clause-longer : goal.returns-in_err-put_all-clause-longer
returns-in_err-put_all-clause-longer g c = λ job says known e longer.
    let same = Says-one _ _ _ c.in_ok-job.ensures.listed says in
    absurd
    (c.in_ok-printed.ensures.longer known e (subst (λ job. IsSome (first_longer known (files_of job))) same longer))

pub returns-in_err-put_all-clause-refused : goal.returns-in_err-put_all-clause-refused
returns-in_err-put_all-clause-refused g c = λ job fault says known e none sure.
    let same = Says-one _ _ _ c.in_ok-job.ensures.listed says in
    absurd
    (c.in_ok-printed.ensures.refused fault known e
    (subst (λ job. first_longer known (files_of job) ≡ None) same none)
    (subst (λ job. IsRefusal (loaded known job) fault) same sure))

pub returns-in_err-put_all-clause-done : goal.returns-in_err-put_all-clause-done
returns-in_err-put_all-clause-done g c = λ job says known e none doable.
    IfErr-from _ WriteFault _ c.from_residual-in_err-put_all.ensures.1 (1, omega arith, refl)

pub returns-in_err-put_all-clause-unread : goal.returns-in_err-put_all-clause-unread
returns-in_err-put_all-clause-unread g c = λ none.
    let same = Says-one _ _ _ c.in_ok-job.ensures.listed none.1 in
    c.in_ok-printed.ensures.unread (subst (λ job. files_of job ≡ []) same none.2)

-- ---- the bytes are written

pub returns-clause-longer : goal.returns-clause-longer
returns-clause-longer g c = λ job says known e longer.
    let same = Says-one _ _ _ c.in_ok-job.ensures.listed says in
    c.in_ok-printed.ensures.longer known e (subst (λ job. IsSome (first_longer known (files_of job))) same longer)

pub returns-clause-refused : goal.returns-clause-refused
returns-clause-refused g c = λ job fault says known e none sure.
    let same = Says-one _ _ _ c.in_ok-job.ensures.listed says in
    c.in_ok-printed.ensures.refused fault known e
    (subst (λ job. first_longer known (files_of job) ≡ None) same none)
    (subst (λ job. IsRefusal (loaded known job) fault) same sure)

pub returns-clause-unread : goal.returns-clause-unread
returns-clause-unread g c = λ none.
    let same = Says-one _ _ _ c.in_ok-job.ensures.listed none.1 in
    c.in_ok-printed.ensures.unread (subst (λ job. files_of job ≡ []) same none.2)
