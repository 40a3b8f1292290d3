use Rattle.r3_make.proofs.Originals.{from_bytes, of_words, runnable}
use Rattle.r3_make.proofs.RestBinaries.{can_be_replayed, made, rest_for}
use Rattle.r3_make.proofs.rest_binary.made_rest.Goals as goal

pub encoded_replay-requires-clause-runnable : goal.encoded_replay-requires-clause-runnable
encoded_replay-requires-clause-runnable c =
    let m = c.args.checked in
    let script = c.args.script in
    let found = c.in_ok-parts.ensures.parts in
    (made m script c.args.turns c.args.number found.0 c.in_ok-parts.parts.«module» c.in_ok-parts.parts.supply
    c.in_ok-parts.parts.cut found.2 (runnable m c.requires.original script c.requires.runnable)
    (of_words m c.requires.original c.encoded_have_words.ensures).0 c.requires.runnable.fits
    c.needed_tapes_are_playable.ensures c.rests_are_replayed_from_states.ensures).runnable

pub encoded_replay-requires-clause-core : goal.encoded_replay-requires-clause-core
encoded_replay-requires-clause-core c =
    let m = c.args.checked in
    let script = c.args.script in
    let found = c.in_ok-parts.ensures.parts in
    (made m script c.args.turns c.args.number found.0 c.in_ok-parts.parts.«module» c.in_ok-parts.parts.supply
    c.in_ok-parts.parts.cut found.2 (runnable m c.requires.original script c.requires.runnable)
    (of_words m c.requires.original c.encoded_have_words.ensures).0 c.requires.runnable.fits
    c.needed_tapes_are_playable.ensures c.rests_are_replayed_from_states.ensures).core

pub encoded_replay-requires-clause-can : goal.encoded_replay-requires-clause-can
encoded_replay-requires-clause-can c =
    let m = c.args.checked in
    let script = c.args.script in
    let found = c.in_ok-parts.ensures.parts in
    can_be_replayed m script c.args.turns c.args.number found.0 c.in_ok-parts.parts.«module»
    c.in_ok-parts.parts.supply c.in_ok-parts.parts.cut found.2
    (runnable m c.requires.original script c.requires.runnable)
    (of_words m c.requires.original c.encoded_have_words.ensures).0 c.requires.runnable.fits
    c.needed_tapes_are_playable.ensures c.rests_are_replayed_from_states.ensures c.requires.original.bytes
    (from_bytes m c.requires.original) found.1 c.needed_tapes_are_constant.ensures c.cuts_fit.ensures
    c.cuts_are_light.ensures c.cuts_are_constant.ensures c.state_modules_can_be_replayed.ensures

pub returns : goal.returns
returns c =
    let m = c.args.checked in
    let script = c.args.script in
    let found = c.in_ok-parts.ensures.parts in
    record {
      cause = tt;
      printed =
          rest_for m script c.args.turns c.args.number found.0 c.in_ok-parts.parts.«module» c.in_ok-parts.parts.supply
          c.in_ok-parts.parts.cut found.2 (runnable m c.requires.original script c.requires.runnable)
          (of_words m c.requires.original c.encoded_have_words.ensures).0 c.requires.runnable.fits
          c.needed_tapes_are_playable.ensures c.rests_are_replayed_from_states.ensures c.in_ok-printed.printed.items
          c.in_ok-printed.ensures.printed;
    }
