-- The law.
use Rattle.instance_laws.proofs.WidenedSizes.{widened_have_lists_within}
use Rattle.instance_laws.proofs.widened_laws.widened_have_lists_within.Goals as goal

pub returns : goal.returns
returns c = widened_have_lists_within
