use Rattle.hooked_texts.proofs.Scripts.{hooks_are_unanswered}
use Rattle.hooked_texts.proofs.laws.texts_leave_hooks_unanswered.Goals as goal

pub returns : goal.returns
returns c = hooks_are_unanswered
