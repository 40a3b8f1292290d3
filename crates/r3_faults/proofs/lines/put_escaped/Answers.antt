use Rattle.std.proofs.Common.{arith, take, drop, subst, length-drop, ◌∙◌}
use Rattle.std.proofs.lemmas.List.{take_rest}
use Rattle.r3_outside.specs.Growth.{Grew, GrewByPrefix}
use Rattle.r3_faults.specs.Lines.{escaped}
use Rattle.r3_faults.proofs.EscapeLemmas.{escaped-split, escaped-more}
use Rattle.r3_outside.proofs.GrowthLemmas.{Grew-append, GrewByPrefix-after, OnErr-always}
use Rattle.r3_faults.proofs.lines.put_escaped.Goals as goal

pub returns-in_err-done-clause-wrote_prefix : goal.returns-in_err-done-clause-wrote_prefix
returns-in_err-done-clause-wrote_prefix g c =
    let text = c.args.text.now in
    let done = c.runs.done in
    let wrote = rw (take_rest text done) at c.in_err-done.ensures.wrote_prefix in
    OnErr-always c.from_residual.result
    (subst (GrewByPrefix _ _) (escaped-split text done)
    (GrewByPrefix-after _ _ _ (escaped (take done text)) (escaped (drop done text)) c.runs.invariant.grew wrote))

pub runs-preserved : goal.runs-preserved
runs-preserved g c =
    let text = c.args.text.now in
    let done = c.runs.done in
    let count = c.in_ok-done.field-0 in
    let wrote = rw (take_rest text done) at c.in_ok-done.ensures.wrote in
    let within = rw (take_rest text done) at c.in_ok-done.ensures.within in
    record {
      within = omega (arith, within, length-drop done text);
      failed_none = c.in_ok-done.ensures.failed_none ∙ c.runs.invariant.failed_none;
      faults_never_fall = omega (arith, c.in_ok-done.ensures.faults_never_fall);
      grew =
          subst (Grew _ _) (escaped-more text done count)
          (Grew-append _ _ _ (escaped (take done text)) (escaped (take count (drop done text))) c.runs.invariant.grew
          wrote);
    }
