use Rattle.replay_theorem.specs.RecordedOriginalLaws.{record_of}
use Rattle.r3_make.proofs.Freezing.{memory_refused}
use Rattle.r3_make.proofs.frozen_runs.frozen_run.Goals as goal

pub new_freezer-requires : goal.new_freezer-requires
new_freezer-requires c = (c.requires.0, c.requires.1)

pub play_frozen-requires : goal.play_frozen-requires
play_frozen-requires c = (c.requires.0, c.args.supply.now, c.requires.1, c.requires.2)

pub returns-in_err-freezer : goal.returns-in_err-freezer
returns-in_err-freezer c = λ run is begun.
    memory_refused (record_of run c.args.turns) c.args.number c.from_residual.result c.from_residual.ensures.1

pub returns : goal.returns
returns c = λ run is begun.
    c.play_frozen.ensures run c.args.supply.now c.args.number c.ranges.number.fits is begun
    (c.in_ok-freezer.ensures run c.args.turns is)
