use Rattle.worked_replay_modules.proofs.Fitting.{fragments_fit}
use Rattle.worked_replay_modules.proofs.Parts.{parts_of_replays}
use Rattle.worked_replay_modules.proofs.Replays.{replays_of_runs}
use Rattle.worked_replay_modules.proofs.WrongReplays.{wrong_replays}
use Rattle.worked_replay_modules.proofs.worked_replays_hold.Goals as goal

pub returns : goal.returns
returns c =
    record {
      replays =
          replays_of_runs c.validity_is_decided.ensures.valid c.plain_tests_hold.ensures.effects
          c.plain_tests_hold.ensures.bounds;
      fragments = fragments_fit c.validity_is_decided.ensures.valid;
      parts = parts_of_replays c.validity_is_decided.ensures.valid;
      wrong = wrong_replays c.plain_tests_hold.ensures.bounds;
    }
