-- What is computed of replay modules.
use Rattle.worked_replay_modules.specs.Fitting.{FragmentsFit}
use Rattle.worked_replay_modules.specs.Parts.{PartsOfReplays}
use Rattle.worked_replay_modules.specs.Replays.{ReplaysOfRuns}
use Rattle.worked_replay_modules.specs.WrongReplays.{WrongReplays}

-- the replay modules of the example tapes, their generated parts and other parts, and replay modules of other tapes
pub record WorkedReplays : Type 0 where
  pub replays : ReplaysOfRuns
  pub fragments : FragmentsFit
  pub parts : PartsOfReplays
  pub wrong : WrongReplays
