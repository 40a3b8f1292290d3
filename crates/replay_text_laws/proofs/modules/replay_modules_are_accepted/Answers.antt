-- The law.
use Rattle.replay_text_laws.proofs.Accepted as accepted
use Rattle.replay_text_laws.proofs.modules.replay_modules_are_accepted.Goals as goal

pub returns : goal.returns
returns c =
    accepted.replay_modules_are_accepted
