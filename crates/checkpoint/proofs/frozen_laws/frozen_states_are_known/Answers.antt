use Rattle.checkpoint.proofs.FrozenStates.{frozen_states_are_known}
use Rattle.checkpoint.proofs.frozen_laws.frozen_states_are_known.Goals as goal

pub returns : goal.returns
returns c = frozen_states_are_known c.indices_are_renumbered.ensures.of_renumbered
