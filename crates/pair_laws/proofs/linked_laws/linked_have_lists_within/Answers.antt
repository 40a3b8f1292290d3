-- The law.
use Rattle.pair_laws.proofs.LinkedSizes.{linked_have_lists_within}
use Rattle.pair_laws.proofs.linked_laws.linked_have_lists_within.Goals as goal

pub returns : goal.returns
returns c = linked_have_lists_within
