use Rattle.history_spec.specs.Run.{all_one, program_of}
use Rattle.r3_make.proofs.OneSummary.{summary_is}
use Rattle.r3_make.proofs.lines.lines_of.Goals as goal

pub returns : goal.returns
returns c =
    let m = c.args.checked.now in
    let script = c.args.script in
    summary_is m script c.args.turns
    (λ initial. c.runs_have_one_result_at_most.ensures (program_of m script) all_one initial c.args.turns)
    c.printed_lines.result c.printed_lines.ensures
