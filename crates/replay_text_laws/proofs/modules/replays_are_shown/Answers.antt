-- The law.
use Rattle.replay_text_laws.proofs.Texts as texts
use Rattle.replay_text_laws.proofs.modules.replays_are_shown.Goals as goal

pub returns : goal.returns
returns c =
    texts.replays_are_shown c.module_encoding.ensures.one c.layouts_are_one.ensures.modules
    c.runs_have_one_result_at_most.ensures
