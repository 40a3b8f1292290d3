-- The laws.
use Rattle.state_laws.proofs.ValidStates.{known_stores_have_states, stores_have_states}
use Rattle.state_laws.proofs.module_laws.stores_have_states.Goals as goal

pub returns : goal.returns
returns c = record { stores = stores_have_states; known = known_stores_have_states }
