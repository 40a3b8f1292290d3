-- The law.
use Rattle.pair_laws.proofs.FuncTypes.{functions_keep_their_types}
use Rattle.pair_laws.proofs.laws.functions_keep_their_types.Goals as goal

pub returns : goal.returns
returns c = functions_keep_their_types
