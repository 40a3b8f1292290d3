-- The law.
use Rattle.replay_text_laws.proofs.Histories as histories
use Rattle.replay_text_laws.proofs.modules.replays_print_histories.Goals as goal

pub returns : goal.returns
returns c =
    histories.replays_print_histories c.print_laws.ensures
