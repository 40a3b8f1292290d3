use Rattle.wasm_interp.proofs.Ready.{in_module, fitting, at_host, waiting, callable, argument_read}
use Rattle.wasm_interp.proofs.laws.calls_are_ready.Goals as goal

pub returns-clause-module : goal.returns-clause-module
returns-clause-module c = in_module

pub returns-clause-fits : goal.returns-clause-fits
returns-clause-fits c = fitting c.stores_fit.ensures

pub returns-clause-host : goal.returns-clause-host
returns-clause-host c = at_host

pub returns-clause-waits : goal.returns-clause-waits
returns-clause-waits c = waiting

pub returns-clause-callable : goal.returns-clause-callable
returns-clause-callable c = callable

pub returns-clause-arguments : goal.returns-clause-arguments
returns-clause-arguments c = argument_read
