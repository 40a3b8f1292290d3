use Rattle.std.proofs.Common.{◌∷◌, arith}
use Rattle.history_spec.specs.Configuration.{InModule}
use Rattle.replay_run.proofs.CallParts.{walk_made}
use Rattle.replay_run.proofs.calls.walk_outside.Goals as goal

pub walk-requires-clause-fits : goal.walk-requires-clause-fits
walk-requires-clause-fits c =
    let so = c.requires.stands.5 in
    c.calls_are_ready.ensures.fits c.requires.stands.0 so.heights (InModule so.goes_on.0.frame ∷ so.goes_on.0.below) c.args.machine.now so.goes_on.0.stands

pub returns : goal.returns
returns c =
    let all = (c.in_ok-turn.ensures.ok.steps.leads 0).all in
    record {
      walks =
          walk_made c.projections_run_along.ensures c.in_ok-turn.turn c.args.machine.now c.walk.new.self c.args.left.now
          c.walk.new.turns c.in_ok-turn.ensures.run
          c.args.shown.now c.show_part.new.shown c.in_ok-stand.stand c.requires.outside c.in_ok-stand.ensures.shows c.in_ok-stand.ensures.stands;
      left = omega (arith, all);
      layout = c.in_ok-stand.ensures.shows.same_layout;
    }
