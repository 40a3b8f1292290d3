use Rattle.std.proofs.Common.{arith, length, sym, subst}
use Rattle.wasm_flat.specs.Meters.{FitsMeter}
use Rattle.wasm_flat.specs.Sizes.{IsShort}
use Rattle.record_replay_spec.specs.Instrumented.{instrumented_module}
use Rattle.type_safety.specs.Supplies.{IsRunnable}
use Rattle.tests_instrumented.proofs.buffers.hooked_of.Goals as goal

pub instrument-requires-clause-core : goal.instrument-requires-clause-core
instrument-requires-clause-core c =
    (c.encoded_have_words.ensures c.args.bytes.now c.in-Ok.checked c.in-Ok.ensures.taken.encoded
    (omega (arith, c.requires))).0

pub instrument-requires-clause-words : goal.instrument-requires-clause-words
instrument-requires-clause-words c =
    (c.encoded_have_words.ensures c.args.bytes.now c.in-Ok.checked c.in-Ok.ensures.taken.encoded
    (omega (arith, c.requires))).1

pub returns-in-Ok-clause-short : goal.returns-in-Ok-clause-short
returns-in-Ok-clause-short c =
    let words =
    c.encoded_have_words.ensures c.args.bytes.now c.in-Ok.checked c.in-Ok.ensures.taken.encoded
    (omega (arith, c.requires)) in
    subst IsShort (sym c.in_ok-instrument-in-Ok.ensures.module)
    (c.instrumented_are_short.ensures c.in-Ok.checked c.args.digest.now (length c.args.bytes.now) c.in-Ok.ensures.taken.accepted
    words.0 words.1 c.in-Ok.ensures.within (omega (arith, c.requires)))

pub returns-in-Ok-clause-runnable : goal.returns-in-Ok-clause-runnable
returns-in-Ok-clause-runnable c =
    let words =
    c.encoded_have_words.ensures c.args.bytes.now c.in-Ok.checked c.in-Ok.ensures.taken.encoded
    (omega (arith, c.requires)) in
    subst IsRunnable (sym c.in_ok-instrument-in-Ok.ensures.module)
    (c.instrumented_are_runnable.ensures c.in-Ok.checked c.args.digest.now c.in-Ok.ensures.taken.accepted c.in-Ok.ensures.bytes words.0
    words.1)

pub returns-in-Ok-clause-meter : goal.returns-in-Ok-clause-meter
returns-in-Ok-clause-meter c =
    subst (λ hooked. FitsMeter hooked c.in_ok-instrument-in-Ok.field-0.meter)
    (sym c.in_ok-instrument-in-Ok.ensures.module)
    (subst (FitsMeter (instrumented_module c.in-Ok.checked c.args.digest.now)) (sym c.in_ok-instrument-in-Ok.ensures.meter)
    (c.instrumented_meters_fit.ensures.fits c.in-Ok.checked c.args.digest.now c.in-Ok.ensures.taken.accepted.valid))
