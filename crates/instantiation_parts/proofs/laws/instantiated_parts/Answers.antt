use Rattle.instantiation_parts.proofs.Segments.{has_parts}
use Rattle.instantiation_parts.proofs.laws.instantiated_parts.Goals as goal

pub returns : goal.returns
returns c = has_parts
