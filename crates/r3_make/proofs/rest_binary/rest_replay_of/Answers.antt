use Rattle.history_spec.specs.Run.{all_one, program_of}
use Rattle.r3_make.proofs.OneRest.{rest_is}
use Rattle.r3_make.proofs.rest_binary.rest_replay_of.Goals as goal

pub returns : goal.returns
returns c =
    let m = c.args.checked in
    let script = c.args.script in
    rest_is m script c.args.turns c.args.number
    (λ initial. c.runs_have_one_result_at_most.ensures (program_of m script) all_one initial c.args.turns)
    c.rests_are_there.ensures c.made_rest.result c.made_rest.ensures
