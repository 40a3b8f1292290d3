use Rattle.replay_module_laws.proofs.Standing.{originals_kept, replayable, stands_alone}
use Rattle.replay_module_laws.proofs.replay_modules_stand.Goals as goal

pub returns : goal.returns
returns c = record {
  originals = originals_kept c.replay_modules_have_code.ensures.code;
  alone = stands_alone c.replay_modules_have_code.ensures.code;
  replayable = replayable c.replay_modules_have_code.ensures.code;
}
