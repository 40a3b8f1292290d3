use Rattle.replay_module_laws.proofs.TypedGenerated.{all_typed}
use Rattle.replay_module_laws.proofs.ValidOutside.{valid_outside}
use Rattle.replay_module_laws.proofs.replay_modules_are_valid.Goals as goal

pub returns : goal.returns
returns c = record {
  valid = λ m supply plan valid supplied stated many fits.
      record {
        outside = valid_outside c.replay_modules_have_code.ensures.code m supply plan valid supplied stated many;
        bodies = all_typed c.replay_modules_have_code.ensures.code m supply plan valid supplied many fits;
      };
}
