-- The activations below are where they were.
use Rattle.wasm_interp.proofs.Safety.{below_in}
use Rattle.wasm_interp.proofs.host.resume.Goals as goal

pub returns-clause-safe : goal.returns-clause-safe
returns-clause-safe c =
    below_in c.args.flat.now c.args.frames.now c.args.slots.now c.match-top.slots c.pop.new.self c.pop.ensures c.match-top.auto.slots c.requires.safe.places
