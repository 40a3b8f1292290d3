use Rattle.std.proofs.Common.{◌∙◌}
use Rattle.pair_ends.proofs.FirstFaults.{faults_are}
use Rattle.pair_ends.proofs.faults.first_of_imports.Goals as goal

pub returns : goal.returns
returns c = c.first_from.ensures ∙ faults_are c.args.types.now c.args.side
