use Rattle.std.proofs.Common.{◌∷◌}
use Rattle.history_spec.specs.Configuration.{InModule}
use Rattle.wasm_interp.specs.Calls.{TurnIsStep}
use Rattle.bench_machine.specs.Positions.{ComesBy}
use Rattle.bench_machine.proofs.Positions.{on_ok, turn_place}
use Rattle.bench_machine.proofs.instances.Instance.turn.Goals as goal

pub turn-requires-clause-fits : goal.turn-requires-clause-fits
turn-requires-clause-fits c =
    c.calls_are_ready.ensures.fits c.args.self.now.module c.requires.running.run.heights
    (InModule c.requires.running.frame ∷ c.requires.running.below) c.args.self.now.machine c.requires.running.stands

pub returns-clause-comes : goal.returns-clause-comes
returns-clause-comes c =
    let old = c.args.self.now in
    let new = c.turn.new.self in
    on_ok c.turn.result (λ turn. TurnIsStep old.machine turn new) (λ turn. ComesBy old.module turn.pause new)
    (λ turn run. turn_place old.module old.machine new turn c.requires run) c.turn.ensures.run
