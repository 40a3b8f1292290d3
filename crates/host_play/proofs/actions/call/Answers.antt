use Rattle.std.proofs.Common.{subst}
use Rattle.wasm_interp.specs.Calls.{InvokesRun}
use Rattle.host_play.proofs.actions.call.Goals as goal

pub returns : goal.returns
returns c = subst (λ args. InvokesRun c.args.machine.now c.args.func args c.invoke.new.self) c.as_slice.ensures c.in_ok-invoke.ensures.run
