use Rattle.wasm_interp.specs.Calls.{SettlesRun}
use Rattle.bench_machine.specs.Positions.{ComesBy}
use Rattle.bench_machine.proofs.Positions.{on_ok, settle_place}
use Rattle.bench_machine.proofs.instances.Instance.settle.Goals as goal

pub returns-clause-comes : goal.returns-clause-comes
returns-clause-comes c =
    let old = c.args.self.now in
    let new = c.settle.new.self in
    on_ok c.settle.result (λ turn. SettlesRun old.machine turn new) (λ turn. ComesBy old.module turn.pause new)
    (λ turn run. settle_place old.module old.machine new turn c.requires run) c.settle.ensures.run
