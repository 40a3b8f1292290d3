use Rattle.std.proofs.Common.{◌∷◌}
use Rattle.history_spec.specs.Configuration.{InModule}
use Rattle.bench_machine.proofs.Positions.{advance_place}
use Rattle.bench_machine.proofs.instances.Instance.advance.Goals as goal

pub advance-requires-clause-fits : goal.advance-requires-clause-fits
advance-requires-clause-fits c =
    c.calls_are_ready.ensures.fits c.args.self.now.module c.requires.running.run.heights
    (InModule c.requires.running.frame ∷ c.requires.running.below) c.args.self.now.machine c.requires.running.stands

pub returns-clause-paused : goal.returns-clause-paused
returns-clause-paused c =
    advance_place c.args.self.now.module c.args.self.now.machine c.advance.new.self c.args.meter.now c.args.turns
    c.advance.new.turns c.in_ok-pause.pause c.requires.running c.in_ok-pause.ensures.run
