use Rattle.std.proofs.Common.{◌≡◌, ◌⊎◌, inl, inr}
use Rattle.r3_faults.specs.declared.faults.Fault.TheVariants.{Memory}
use Rattle.r3_inputs.proofs.AnswerLemmas.{passed}
use Rattle.r3_make.specs.Refusals.{IsUnmade, OfLink}
use Rattle.r3_make.proofs.Originals.{original, recordable}
use Rattle.r3_make.proofs.tapes.tape_of_inputs.Goals as goal

pub hooked_play-requires : goal.hooked_play-requires
hooked_play-requires c = c.requires

pub tape_of_play-requires : goal.tape_of_play-requires
tape_of_play-requires c =
    let m = c.requires.0 in
    let script = c.requires.1 in
    let are = c.requires.2 in
    let found = c.in_ok-supply.ensures.opened m script are in
    let words = c.encoded_have_words.ensures in (
      original words m script c.args.inputs.now are c.in_ok-supply.supply found.0 found.1,
      recordable words m script c.args.inputs.now are c.in_ok-supply.supply found.0 found.1,
      found.2,
    )

pub returns-in_err-supply-clause-cause : goal.returns-in_err-supply-clause-cause
returns-in_err-supply-clause-cause c = λ m script are.
    passed c.from_residual.result c.in_err-supply.field-0.0
    (λ fault. (fault ≡ Memory) ⊎ IsUnmade m script c.args.turns fault) c.from_residual.ensures.1
    (elim (c.in_err-supply.ensures.cause m script are) [ inl memory ↦ inl memory | inr found ↦ inr (OfLink found) ])

pub returns-in_err-tape-clause-cause : goal.returns-in_err-tape-clause-cause
returns-in_err-tape-clause-cause c = λ m script are.
    let found = c.in_ok-supply.ensures.opened m script are in
    let words = c.encoded_have_words.ensures in
    passed c.from_residual-in_err-tape.result c.in_err-tape.field-0.0
    (λ fault. (fault ≡ Memory) ⊎ IsUnmade m script c.args.turns fault) c.from_residual-in_err-tape.ensures.1
    (c.in_err-tape.ensures.cause (original words m script c.args.inputs.now are c.in_ok-supply.supply found.0 found.1)
    (recordable words m script c.args.inputs.now are c.in_ok-supply.supply found.0 found.1) found.2)

pub returns-clause-needed : goal.returns-clause-needed
returns-clause-needed c = λ m script are.
    let found = c.in_ok-supply.ensures.opened m script are in
    let words = c.encoded_have_words.ensures in
    c.in_ok-tape.ensures.needed (original words m script c.args.inputs.now are c.in_ok-supply.supply found.0 found.1)
    (recordable words m script c.args.inputs.now are c.in_ok-supply.supply found.0 found.1) found.2
