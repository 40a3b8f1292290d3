-- The law.
use Rattle.rest_theorem.proofs.States.{rests_are_replayed_from_states}
use Rattle.rest_theorem.proofs.laws.rests_are_replayed_from_states.Goals as goal

pub returns : goal.returns
returns c =
    rests_are_replayed_from_states c.rests_are_replayed.ensures c.cuts_are_playable.ensures
    c.known_stores_are_typed.ensures c.known_states_are_of_stores.ensures c.known_states_open.ensures
    c.stores_have_states.ensures.stores c.state_modules_are_valid.ensures c.state_modules_have_code.ensures
    c.replay_modules_stand.ensures.originals
