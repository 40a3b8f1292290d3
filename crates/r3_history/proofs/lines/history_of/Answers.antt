use Rattle.history_spec.specs.Run.{all_one, program_of}
use Rattle.r3_history.proofs.OneAnswer.{exact}
use Rattle.r3_history.proofs.lines.history_of.Goals as goal

pub returns : goal.returns
returns c =
    let m = c.args.checked.now in
    let script = c.args.script.now in
    exact m script c.args.turns
    (λ initial. c.runs_have_one_result_at_most.ensures (program_of m script) all_one initial c.args.turns)
    c.lines_of.result c.lines_of.ensures
