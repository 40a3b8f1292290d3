-- The law.
use Rattle.instance_laws.proofs.Numbers.{functions_have_their_numbers}
use Rattle.instance_laws.proofs.laws.functions_have_their_numbers.Goals as goal

pub returns : goal.returns
returns c = functions_have_their_numbers
