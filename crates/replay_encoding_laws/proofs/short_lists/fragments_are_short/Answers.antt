use Rattle.replay_encoding_laws.proofs.ShortParts.{parts_short}
use Rattle.replay_encoding_laws.proofs.short_lists.fragments_are_short.Goals as goal

pub returns : goal.returns
returns c m tape valid short funcs fits constants weight =
    parts_short m tape valid short funcs (c.replay_modules_of_tapes_are_valid.ensures.plans m tape valid fits constants)
    weight
