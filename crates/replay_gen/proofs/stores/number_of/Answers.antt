use Rattle.replay_gen.proofs.Widths.{number_of_word}
use Rattle.replay_gen.proofs.stores.number_of.Goals as goal

pub returns : goal.returns
returns c =
    number_of_word c.args.bytes.now _ c.from_le_bytes.result c.requires c.copy_from_slice.ensures.after c.from_le_bytes.ensures
