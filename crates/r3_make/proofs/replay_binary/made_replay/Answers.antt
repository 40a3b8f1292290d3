use Rattle.r3_make.proofs.Originals.{from_bytes, of_words, runnable}
use Rattle.r3_make.proofs.ShownRun.{constant, replay_for}
use Rattle.r3_make.proofs.replay_binary.made_replay.Goals as goal

pub replay_bytes-requires-clause-encoded : goal.replay_bytes-requires-clause-encoded
replay_bytes-requires-clause-encoded c =
    (c.requires.original.bytes, from_bytes c.args.checked c.requires.original)

pub replay_bytes-requires-clause-runnable : goal.replay_bytes-requires-clause-runnable
replay_bytes-requires-clause-runnable c =
    runnable c.args.checked c.requires.original c.args.script c.requires.runnable

pub replay_bytes-requires-clause-supplied : goal.replay_bytes-requires-clause-supplied
replay_bytes-requires-clause-supplied c =
    let needed = c.in_ok-found.ensures.needed in
    c.typed_store.ensures.supplied c.args.checked c.args.script c.in_ok-found.found.supply c.requires.runnable.fits
    needed.1.linked.supplied

pub replay_bytes-requires-clause-fits : goal.replay_bytes-requires-clause-fits
replay_bytes-requires-clause-fits c = c.in_ok-found.ensures.needed.1.is_one.fits

pub replay_bytes-requires-clause-constants : goal.replay_bytes-requires-clause-constants
replay_bytes-requires-clause-constants c =
    let needed = c.in_ok-found.ensures.needed in
    constant c.args.checked c.args.script c.args.turns c.in_ok-found.found.supply needed.0 c.in_ok-found.found.tape
    needed.1 (runnable c.args.checked c.requires.original c.args.script c.requires.runnable) c.requires.runnable.fits
    c.needed_tapes_are_constant.ensures

pub returns : goal.returns
returns c =
    let m = c.args.checked in
    let script = c.args.script in
    let needed = c.in_ok-found.ensures.needed in
    record {
      cause = tt;
      printed =
          replay_for m script c.args.turns c.in_ok-found.found.supply needed.0 c.in_ok-found.found.tape needed.1
          (runnable m c.requires.original script c.requires.runnable) c.requires.runnable.fits
          (of_words m c.requires.original c.encoded_have_words.ensures).0 c.runs_are_replayed.ensures
          c.nothing_can_be_dropped.ensures c.in_ok-found.ensures.light c.in_ok-printed.printed.items
          (c.in_ok-printed.ensures.printed needed.0 needed.1.linked.begins);
    }
