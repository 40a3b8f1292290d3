use Rattle.wasm_interp.proofs.Ready.{begins, main_goes_on, response_goes_on, store_changes, fit_values}
use Rattle.wasm_interp.proofs.laws.hosts_go_on.Goals as goal

pub returns-clause-begins : goal.returns-clause-begins
returns-clause-begins c = begins

pub returns-clause-main : goal.returns-clause-main
returns-clause-main c = main_goes_on

pub returns-clause-responses : goal.returns-clause-responses
returns-clause-responses c = response_goes_on

pub returns-clause-stores : goal.returns-clause-stores
returns-clause-stores c = store_changes

pub returns-clause-results : goal.returns-clause-results
returns-clause-results c = fit_values
