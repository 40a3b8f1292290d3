use Rattle.history_spec.specs.Run.{all_one, program_of}
use Rattle.r3_make.proofs.OneAnswer.{replay_is}
use Rattle.r3_make.proofs.replay_binary.replay_of.Goals as goal

pub returns : goal.returns
returns c =
    let m = c.args.checked in
    let script = c.args.script in
    replay_is m script c.args.turns
    (λ initial. c.runs_have_one_result_at_most.ensures (program_of m script) all_one initial c.args.turns)
    c.made_replay.result c.made_replay.ensures
