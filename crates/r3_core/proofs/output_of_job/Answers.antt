use Rattle.std.proofs.Common.{◌≡◌, sym, subst, Option, Some, None, IsSome}
use Rattle.std.proofs.lemmas.Bool.{false≢true}
use Rattle.std.proofs.lemmas.Result.{IfOk-weaker}
use Rattle.r3_core.specs.Jobs.{files_of}
use Rattle.r3_core.specs.Words.{named}
use Rattle.r3_core.specs.Meanings.{IsDoable, IsRefusal, Prints}
use Rattle.r3_core.specs.Causes.{bytes_of, first_longer}
use Rattle.r3_core.proofs.JobLemmas.{in_range_with, on_ok}
use Rattle.r3_core.proofs.ResultLemmas.{IfErr-from, IsErrAnd-from}
use Rattle.r3_core.proofs.Replayed.{replayed}
use Rattle.r3_core.proofs.StatusLemmas.{load-contains, load-refused, load-done, IsErrAnd-refused, IfErr-bytes, IfErr-done, unloaded}
use Rattle.r3_core.proofs.output_of_job.Goals as goal

pub output_of-requires-clause-within : goal.output_of-requires-clause-within
output_of-requires-clause-within g c = c.in_ok-given.ensures.loads.value.within

pub output_of-requires-clause-in_range : goal.output_of-requires-clause-in_range
output_of-requires-clause-in_range g c =
    in_range_with (named c.args.job) (bytes_of c.in_ok-given.given) c.in_ok-given.ensures.loads.value.bytes.same c.requires

pub returns-in_err-given-clause-longer : goal.returns-in_err-given-clause-longer
returns-in_err-given-clause-longer g c = λ known e longer.
    IsErrAnd-from _ _ _ c.from_residual.ensures.1
    (load-contains _ _ c.in_err-given.field-0.0 c.in_err-given.ensures.loads.cause)

pub returns-in_err-given-clause-refused : goal.returns-in_err-given-clause-refused
returns-in_err-given-clause-refused g c = λ fault known e none sure.
    IsErrAnd-from _ _ _ c.from_residual.ensures.1
    (load-refused _ _ c.in_err-given.field-0.0 _ known e none c.in_err-given.ensures.loads.cause)

pub returns-in_err-given-clause-done : goal.returns-in_err-given-clause-done
returns-in_err-given-clause-done g c = λ known e none doable.
    IfErr-from _ c.in_err-given.field-0.0 _ c.from_residual.ensures.1
    (load-done _ _ c.in_err-given.field-0.0 known e none c.in_err-given.ensures.loads.cause)

pub returns-in_err-given-clause-cause : goal.returns-in_err-given-clause-cause
returns-in_err-given-clause-cause g c =
    IfErr-from _ c.in_err-given.field-0.0 _ c.from_residual.ensures.1
    (unloaded _ (named c.args.job) c.in_err-given.field-0.0 c.in_err-given.ensures.loads.cause)

pub returns-clause-refused : goal.returns-clause-refused
returns-clause-refused g c = λ fault known e none sure.
    IsErrAnd-refused c.output_of.result fault
    (c.output_of.ensures.refused fault
    (subst (λ given. IsRefusal given fault) (sym (c.in_ok-given.ensures.loads.value.bytes.contained known e)) sure))

pub returns-clause-cause : goal.returns-clause-cause
returns-clause-cause g c =
    IfErr-bytes c.output_of.result _ (named c.args.job) (bytes_of c.in_ok-given.given)
    c.in_ok-given.ensures.loads.value.bytes c.output_of.ensures.cause

pub returns-clause-printed : goal.returns-clause-printed
returns-clause-printed g c =
    let given = bytes_of c.in_ok-given.given in
    IfOk-weaker c.output_of.result (λ bytes. Prints given bytes.items) _
    (λ bytes prints. (
      given,
      c.in_ok-given.ensures.loads.value.bytes,
      prints,
      replayed c.replays_print_histories.ensures c.foreign_replays_print_histories.ensures
          c.pair_replays_print_histories.ensures given c.in_ok-given.ensures.loads.value.within bytes.items prints,
    ))
    c.output_of.ensures.printed

pub returns-clause-no_failed_read : goal.returns-clause-no_failed_read
returns-clause-no_failed_read g c = on_ok c.output_of.result c.in_ok-given.ensures.loads.failed_none

-- no longer file is found if there is none
none-longer : {X : Type 0} (found : Option X) → found ≡ None → IsSome found → ⊥
none-longer None none some = false≢true some
none-longer (Some file) none some = cc none

pub returns-clause-longer : goal.returns-clause-longer
returns-clause-longer g c = λ known e longer.
    absurd
    (none-longer (first_longer known (files_of (named c.args.job)))
    (c.in_ok-given.ensures.loads.within_limits known e) longer)

pub returns-clause-done : goal.returns-clause-done
returns-clause-done g c = λ known e none doable.
    IfErr-done c.output_of.result
    (c.output_of.ensures.accepted
    (subst IsDoable (sym (c.in_ok-given.ensures.loads.value.bytes.contained known e)) doable))
