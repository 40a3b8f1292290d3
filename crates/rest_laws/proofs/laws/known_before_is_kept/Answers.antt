-- The law.
use Rattle.rest_laws.proofs.KnownBefore.{known_before_is_kept}
use Rattle.rest_laws.proofs.laws.known_before_is_kept.Goals as goal

pub returns : goal.returns
returns c = known_before_is_kept c.known_is_kept.ensures
