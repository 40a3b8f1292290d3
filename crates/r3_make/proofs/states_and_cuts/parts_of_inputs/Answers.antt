use Rattle.std.proofs.Common.{◌≡◌, ◌⊎◌, inl, inr}
use Rattle.std.proofs.lemmas.Result.{IfErr-weaker, IfOk-weaker}
use Rattle.host_script.specs.declared.scripts.Supply.{Supply}
use Rattle.replay_encoding_laws.specs.Premises.{IsTakenSupply}
use Rattle.r3_faults.specs.declared.faults.Fault.TheVariants.{Memory}
use Rattle.r3_inputs.proofs.AnswerLemmas.{passed}
use Rattle.r3_make.proofs.Originals.{of_words, original, recordable, runnable}
use Rattle.r3_make.specs.RestRefusals.{HasNoRest, OfLink}
use Rattle.r3_make.specs.StatesAndCuts.{AreStateAndCut}
use Rattle.r3_make.proofs.StatesAndCuts.{cut_there, parts_are, state_frozen}
use Rattle.r3_make.proofs.states_and_cuts.parts_of_inputs.Goals as goal

pub hooked_play-requires : goal.hooked_play-requires
hooked_play-requires c = (c.args.checked.now, c.requires.0, c.requires.1)

pub frozen_tape-requires : goal.frozen_tape-requires
frozen_tape-requires c =
    let m = c.args.checked.now in
    let script = c.requires.0 in
    let are = c.requires.1 in
    let found = c.in_ok-supply.ensures.opened m script are in
    let words = c.encoded_have_words.ensures in (
      original words m script c.args.inputs.now are c.in_ok-supply.supply found.0 found.1,
      recordable words m script c.args.inputs.now are c.in_ok-supply.supply found.0 found.1,
      found.2,
    )

pub returns-in_err-supply-clause-cause : goal.returns-in_err-supply-clause-cause
returns-in_err-supply-clause-cause c = λ script are.
    passed c.from_residual.result c.in_err-supply.field-0.0
    (λ fault. (fault ≡ Memory) ⊎ HasNoRest c.args.checked.now script c.args.turns c.args.number fault)
    c.from_residual.ensures.1
    (elim (c.in_err-supply.ensures.cause c.args.checked.now script are) [
      | inl memory ↦ inl memory
      | inr found ↦ inr (OfLink found)
    ])

pub returns-in_err-tape-clause-cause : goal.returns-in_err-tape-clause-cause
returns-in_err-tape-clause-cause c = λ script are.
    let m = c.args.checked.now in
    let found = c.in_ok-supply.ensures.opened m script are in
    let words = c.encoded_have_words.ensures in
    passed c.from_residual-in_err-tape.result c.in_err-tape.field-0.0
    (λ fault. (fault ≡ Memory) ⊎ HasNoRest m script c.args.turns c.args.number fault)
    c.from_residual-in_err-tape.ensures.1
    (c.in_err-tape.ensures.cause (original words m script c.args.inputs.now are c.in_ok-supply.supply found.0 found.1)
    (recordable words m script c.args.inputs.now are c.in_ok-supply.supply found.0 found.1) found.2)

pub parts_of-requires-clause-runs : goal.parts_of-requires-clause-runs
parts_of-requires-clause-runs c =
    let m = c.args.checked.now in
    let script = c.requires.0 in
    let are = c.requires.1 in
    let found = c.in_ok-supply.ensures.opened m script are in
    record {
      runnable = runnable m are.original script are.can_run;
      core = (of_words m are.original c.encoded_have_words.ensures).0;
      supplied =
          c.typed_store.ensures.supplied m script c.in_ok-supply.supply are.can_run.fits found.1.supplied;
    }

pub parts_of-requires-clause-state : goal.parts_of-requires-clause-state
parts_of-requires-clause-state c =
    let m = c.args.checked.now in
    let script = c.requires.0 in
    let are = c.requires.1 in
    let found = c.in_ok-supply.ensures.opened m script are in
    let words = c.encoded_have_words.ensures in
    let run = original words m script c.args.inputs.now are c.in_ok-supply.supply found.0 found.1 in
    state_frozen run c.args.turns c.args.number c.in_ok-tape.tape c.in_ok-tape.frozen
    (c.in_ok-tape.ensures.frozen run
    (recordable words m script c.args.inputs.now are c.in_ok-supply.supply found.0 found.1) found.2)
    c.needed_tapes_are_playable.ensures c.rests_are_replayed_from_states.ensures c.known_stores_are_typed.ensures
    c.frozen_states_are_known.ensures

pub parts_of-requires-clause-cut : goal.parts_of-requires-clause-cut
parts_of-requires-clause-cut c =
    let m = c.args.checked.now in
    let script = c.requires.0 in
    let are = c.requires.1 in
    let found = c.in_ok-supply.ensures.opened m script are in
    let words = c.encoded_have_words.ensures in
    let run = original words m script c.args.inputs.now are c.in_ok-supply.supply found.0 found.1 in
    cut_there run c.args.turns c.args.number c.in_ok-tape.tape c.in_ok-tape.frozen
    (c.in_ok-tape.ensures.frozen run
    (recordable words m script c.args.inputs.now are c.in_ok-supply.supply found.0 found.1) found.2)
    c.needed_tapes_are_playable.ensures c.rests_are_replayed_from_states.ensures

pub returns-clause-parts : goal.returns-clause-parts
returns-clause-parts c = λ script are.
    let m = c.args.checked.now in
    let turns = c.args.turns in
    let number = c.args.number in
    let given = c.in_ok-supply.supply in
    let found = c.in_ok-supply.ensures.opened m script are in
    let words = c.encoded_have_words.ensures in
    let run = original words m script c.args.inputs.now are given found.0 found.1 in
    let taken : IsTakenSupply m given =
    record {
      matches = c.typed_store.ensures.supplied m script given are.can_run.fits found.1.supplied;
      table = c.know_maximum.ensures;
    }
    in
    IfOk-weaker c.parts_of.result
    (λ parts. AreStateAndCut m script turns number given parts.«module» parts.supply parts.cut)
    (λ parts. (supply : Supply) × IsTakenSupply m supply
    × AreStateAndCut m script turns number supply parts.«module» parts.supply parts.cut)
    (λ parts is. (given, taken, is))
    (parts_are run turns number c.in_ok-tape.tape c.in_ok-tape.frozen
    (c.in_ok-tape.ensures.frozen run
    (recordable words m script c.args.inputs.now are given found.0 found.1) found.2)
    c.needed_tapes_are_playable.ensures c.rests_are_replayed_from_states.ensures c.known_stores_are_typed.ensures
    c.frozen_states_are_known.ensures c.parts_of.result c.parts_of.ensures.parts)

pub returns-clause-cause : goal.returns-clause-cause
returns-clause-cause c = λ script are.
    IfErr-weaker c.parts_of.result (λ fault. fault ≡ Memory)
    (λ fault. (fault ≡ Memory) ⊎ HasNoRest c.args.checked.now script c.args.turns c.args.number fault)
    (λ fault memory. inl memory) c.parts_of.ensures.memory
