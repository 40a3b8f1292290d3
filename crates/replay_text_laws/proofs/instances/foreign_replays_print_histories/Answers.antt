-- The law.
use Rattle.replay_text_laws.proofs.WorldTexts as instances
use Rattle.replay_text_laws.proofs.instances.foreign_replays_print_histories.Goals as goal

pub returns : goal.returns
returns c =
    instances.foreign_replays_print_histories c.print_laws.ensures c.lists_of_encoding.ensures.within
    c.declarations_are_within_texts.ensures c.declarations_that_are_read_fit.ensures c.widened_are_accepted.ensures
    c.widened_outcomes_follow.ensures
