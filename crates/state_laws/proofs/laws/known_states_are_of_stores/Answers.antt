-- The law.
use Rattle.state_laws.proofs.StatesOfKnown.{known_states_are_of_stores}
use Rattle.state_laws.proofs.laws.known_states_are_of_stores.Goals as goal

pub returns : goal.returns
returns c = known_states_are_of_stores
