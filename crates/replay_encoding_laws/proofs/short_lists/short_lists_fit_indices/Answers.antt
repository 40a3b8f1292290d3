use Rattle.replay_encoding_laws.proofs.ShortParts.{short_indices}
use Rattle.replay_encoding_laws.proofs.short_lists.short_lists_fit_indices.Goals as goal

pub returns : goal.returns
returns c = short_indices
