use Rattle.std.proofs.Common.{◌∷◌}
use Rattle.history_spec.specs.Configuration.{InModule}
use Rattle.wasm_interp.specs.InstrEntries.{entries_of, turn_of}
use Rattle.replay_run.proofs.CallParts.{step_made, step_pause}
use Rattle.replay_run.proofs.calls.make_step.Goals as goal

pub turn_into-requires-clause-fits : goal.turn_into-requires-clause-fits
turn_into-requires-clause-fits c =
    let so = c.requires.5 in
    c.calls_are_ready.ensures.fits c.requires.0 so.heights (InModule so.goes_on.0.frame ∷ so.goes_on.0.below) c.args.machine.now so.goes_on.0.stands

pub show_turn-requires : goal.show_turn-requires
show_turn-requires c =
    step_pause (turn_of (entries_of c.turn_into.new.entries) c.in_ok-pause.pause) c.args.machine.now c.turn_into.new.self
    c.in_ok-pause.ensures.run c.args.shown.now c.requires

pub returns-clause-makes : goal.returns-clause-makes
returns-clause-makes c =
    step_made (turn_of (entries_of c.turn_into.new.entries) c.in_ok-pause.pause) c.args.machine.now c.turn_into.new.self
    c.in_ok-pause.ensures.run c.args.shown.now c.show_turn.new.shown c.in_ok-stand.stand c.in_ok-stand.ensures.shows
    c.in_ok-stand.ensures.stands
