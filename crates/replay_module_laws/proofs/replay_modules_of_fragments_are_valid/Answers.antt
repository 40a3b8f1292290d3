use Rattle.replay_module_laws.proofs.FittingFragments.{fitting_kept, fitting_valid}
use Rattle.replay_module_laws.proofs.replay_modules_of_fragments_are_valid.Goals as goal

pub returns : goal.returns
returns c = record {
  originals = fitting_kept;
  valid = λ m supply fragment valid supplied stated fits. fitting_valid m supply fragment valid supplied fits stated;
}
