use Rattle.std.proofs.Common.{◌≡◌, not, arith, sym, ◌∙◌, ap, Ok}
use Rattle.std.specs.Fmt.{decimal}
use Rattle.std.proofs.lemmas.Fmt.{parse-decimal}
use Rattle.std.proofs.lemmas.Bool.{false≢true}
use Rattle.r3_core.proofs.WordLemmas.{bytes_eq-same}
use Rattle.r3_core.proofs.words.number_between.Goals as goal
use Rattle.r3_core.proofs.words.number_between.Goals.{then-number-least-via-then-number-least, then-number-least-via-else-number-least+then-most-number, then-number-least-via-else-number-least+else-most-number+then-ne}

pub returns-in_default-clause-unfit : goal.returns-in_default-clause-unfit
returns-in_default-clause-unfit c = λ number is.
    let read : c.parse.result ≡ Ok number =
    parse-decimal 64 number c.args.word.now c.parse.result (omega (arith, is.high, c.ranges.most.fits))
    (omega (arith, is.high, c.ranges.most.fits)) is.digits c.parse.ensures.value.0
    in
    c.in_default.not-Ok number read

pub returns-then-number-least-clause-unfit : goal.returns-then-number-least-clause-unfit
returns-then-number-least-clause-unfit c = λ number is.
    let read : c.parse.result ≡ Ok number =
    parse-decimal 64 number c.args.word.now c.parse.result (omega (arith, is.high, c.ranges.most.fits))
    (omega (arith, is.high, c.ranges.most.fits)) is.digits c.parse.ensures.value.0
    in
    let same : c.in-Ok.number ≡ number = cc (read, c.in-Ok.is) in
    elim c.then-number-least.branch [
      | then-number-least-via-then-number-least w ↦ omega (arith, same, is.low, w.if-number-least.true)
      | then-number-least-via-else-number-least+then-most-number w ↦ omega (arith, same, is.high, w.if-most-number.true)
      | then-number-least-via-else-number-least+else-most-number+then-ne w ↦
          let text : w.format.result.now ≡ c.args.word.now = w.format.ensures.text ∙ ap decimal same ∙ sym is.digits in
          let equal = bytes_eq-same w.format.result.now c.args.word.now text in
          false≢true (ap not (sym equal) ∙ sym w.ne.ensures ∙ w.if-ne.true)
    ]
