-- Bytes have at most one reduction, and otherwise one fault.
use Rattle.std.proofs.Common.{◌≡◌, ℕ, inl, inr, List, Some, None, false, refl, sym, ◌∙◌, ap, subst}
use Rattle.base.proofs.Options.{none_some, same_some}
use Rattle.trace_model.specs.Balance.{first_unbalanced}
use Rattle.trace_model.specs.declared.events.Log.{Log}
use Rattle.trace_bytes.specs.declared.tags.TheConstants.{VERSION_2}
use Rattle.trace_bytes.specs.Spelling.{tape_bytes}
use Rattle.trace_format.specs.Faults.{IsLogOf}
use Rattle.trace_format.specs.Laws.{LogsAreDistinguished}
use Rattle.trace_format.specs.Text.{log_text}
use Rattle.record_replay_spec.specs.LogTapes.{IsLogTape}
use Rattle.record_replay_spec.specs.HookLaws.{LogTapeIsOne}
use Rattle.r3_faults.specs.declared.faults.Fault.{Fault}
use Rattle.r3_faults.specs.declared.faults.Fault.TheVariants.{Unbalanced}
use Rattle.r3_show.specs.FileLines.{IsUnshownAs}
use Rattle.r3_show.proofs.OneShown.{one_refusal, shown_apart}
use Rattle.r3_reduce.specs.TapeFiles.{IsReduced, IsReduceRefusal}

-- a file that is a log is not refused as one
no_log_refused : (bytes digest : List ℕ) (log : Log) (fault : Fault) → IsLogOf bytes digest log
    → IsUnshownAs false bytes fault → ⊥
no_log_refused bytes digest log fault read refused =
    shown_apart false bytes (log_text digest log) fault
    (record { digest = digest; log = log; spelled = read; lines = refl }) refused

module _ (logs : LogsAreDistinguished) (tapes : LogTapeIsOne) where
  pub one_file : (bytes x y : List ℕ) → IsReduced bytes x → IsReduced bytes y → x ≡ y
  one_file bytes x y one two =
      let same = logs bytes one.digest two.digest one.log two.log one.read two.read in
      let tape : one.made.tape ≡ two.made.tape =
      tapes two.log one.made.tape two.made.tape (subst (λ log. IsLogTape log one.made.tape) same.1 one.made.of_log)
      two.made.of_log in
      one.made.spelled.spelled
      ∙ (λ i. tape_bytes VERSION_2 (same.0 i) (tape i))
      ∙ sym two.made.spelled.spelled

  pub one_cause : (bytes : List ℕ) (fault other : Fault) → IsReduceRefusal bytes fault → IsReduceRefusal bytes other
      → fault ≡ other
  one_cause bytes fault other (inl one) (inl two) = one_refusal false bytes fault other one two
  one_cause bytes fault other (inl one) (inr two) = absurd (no_log_refused bytes two.digest two.log fault two.read one)
  one_cause bytes fault other (inr one) (inl two) = absurd (no_log_refused bytes one.digest one.log other one.read two)
  one_cause bytes fault other (inr one) (inr two) =
      let same = logs bytes one.digest two.digest one.log two.log one.read two.read in
      one.unbalanced.named
      ∙ ap Unbalanced
      (same_some (first_unbalanced two.log) one.unbalanced.event two.unbalanced.event
      (subst (λ log. first_unbalanced log ≡ Some one.unbalanced.event) same.1 one.unbalanced.first)
      two.unbalanced.first)
      ∙ sym two.unbalanced.named

  pub reduced_apart : (bytes file : List ℕ) (fault : Fault) → IsReduced bytes file → IsReduceRefusal bytes fault → ⊥
  reduced_apart bytes file fault reduced (inl refused) =
      no_log_refused bytes reduced.digest reduced.log fault reduced.read refused
  reduced_apart bytes file fault reduced (inr refused) =
      let same = logs bytes reduced.digest refused.digest reduced.log refused.log reduced.read refused.read in
      none_some (first_unbalanced refused.log) refused.unbalanced.event
      (subst (λ log. first_unbalanced log ≡ None) same.1 reduced.made.balanced) refused.unbalanced.first
