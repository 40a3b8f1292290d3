-- The law.
use Rattle.pair_laws.proofs.LinkedSizes.{counts_are_within}
use Rattle.pair_laws.proofs.linked_laws.counts_are_within.Goals as goal

pub returns : goal.returns
returns c = counts_are_within
