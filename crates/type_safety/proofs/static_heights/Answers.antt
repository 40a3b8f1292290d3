use Rattle.type_safety.proofs.StaticHeights.{standing_height, waiting_height}
use Rattle.type_safety.proofs.static_heights.Goals as goal

pub returns : goal.returns
returns c = record { standing = standing_height; waiting = waiting_height }
