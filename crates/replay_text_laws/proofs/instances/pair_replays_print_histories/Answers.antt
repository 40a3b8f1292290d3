-- The law.
use Rattle.replay_text_laws.proofs.WorldTexts as instances
use Rattle.replay_text_laws.proofs.instances.pair_replays_print_histories.Goals as goal

pub returns : goal.returns
returns c =
    instances.pair_replays_print_histories c.print_laws.ensures c.lists_of_encoding.ensures.within c.linked_are_accepted.ensures
    c.linked_outcomes_follow.ensures
