use Rattle.host_actions.proofs.Arguments.{argument_there, arguments_there}
use Rattle.host_actions.proofs.laws.fitting_actions.Goals as goal

pub returns-clause-arguments : goal.returns-clause-arguments
returns-clause-arguments c = arguments_there

pub returns-clause-argument : goal.returns-clause-argument
returns-clause-argument c = argument_there
