use Rattle.replay_theorem.proofs.FittingLogs.{fitting_logs}
use Rattle.replay_theorem.proofs.record_laws.logs_have_spellings.Goals as goal

pub returns : goal.returns
returns c =
    fitting_logs c.typed_code.ensures.heights c.typed_code.ensures.code c.rules_hold.ensures.instructions
    c.safe_steps.ensures.starts c.safe_steps.ensures.steps
