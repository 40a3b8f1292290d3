-- The laws, from the calls that cite them.
use Rattle.replay_text_laws.proofs.modules.print_laws.Goals as goal

pub returns : goal.returns
returns c = record {
  one_module = c.module_encoding.ensures.one;
  encodable = c.shortest_encoding.ensures.encodable;
  one_result = c.runs_have_one_result_at_most.ensures;
  fit = c.scripts_that_are_read_fit.ensures.texts;
  supplies = c.typed_store.ensures.supplied;
  replayable = c.replay_modules_stand.ensures.replayable;
  accepted = c.replay_modules_are_accepted.ensures;
  shown = c.replays_are_shown.ensures;
}
