use Rattle.replay_theorem.proofs.Whole.{needed_tapes_are_playable}
use Rattle.replay_theorem.proofs.laws.needed_tapes_are_playable.Goals as goal

pub returns : goal.returns
returns c =
    needed_tapes_are_playable c.typed_store.ensures.supplied c.needed_tape_fits.ensures
    c.needed_tapes_write_bytes.ensures
