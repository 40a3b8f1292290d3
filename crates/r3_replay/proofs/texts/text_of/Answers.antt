use Rattle.history_spec.specs.Replay.{instructions, program_alone}
use Rattle.r3_replay.proofs.OneAnswer.{exact}
use Rattle.r3_replay.proofs.texts.text_of.Goals as goal

pub returns : goal.returns
returns c =
    let m = c.args.checked.now in
    exact m c.args.turns (c.layouts_are_one.ensures.modules m)
    (λ initial. c.runs_have_one_result_at_most.ensures (program_alone m) instructions initial c.args.turns)
    c.replay_text.result c.replay_text.ensures
