-- The law.
use Rattle.rest_laws.proofs.Counts.{counts_do_not_matter}
use Rattle.rest_laws.proofs.laws.counts_do_not_matter.Goals as goal

pub returns : goal.returns
returns c = counts_do_not_matter
