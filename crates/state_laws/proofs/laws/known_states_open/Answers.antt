-- The law.
use Rattle.state_laws.proofs.StatesOfKnown.{known_states_open}
use Rattle.state_laws.proofs.laws.known_states_open.Goals as goal

pub returns : goal.returns
returns c = known_states_open c.typed_store.ensures.supplied c.known_stores_are_typed.ensures
