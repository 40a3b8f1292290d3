use Rattle.history_spec.specs.Run.{all_one, program_of}
use Rattle.r3_make.proofs.OneSummary.{summary-of_counts}
use Rattle.r3_make.proofs.lines.printed_lines.Goals as goal

pub counts_of_run-requires-clause-bytes : goal.counts_of_run-requires-clause-bytes
counts_of_run-requires-clause-bytes c = c.requires.original.has_bytes

pub returns : goal.returns
returns c =
    let m = c.args.checked.now in
    let script = c.args.script in
    let needed = c.in_ok-found.ensures.needed in
    record {
      cause = tt;
      printed =
          summary-of_counts m script c.args.turns
          (λ initial. c.runs_have_one_result_at_most.ensures (program_of m script) all_one initial c.args.turns)
          c.in_ok-counts.counts c.in_ok-found.found.supply needed.0 c.in_ok-found.found.tape _
          c.in_ok-counts.ensures.counts needed.1 c.in_ok-found.ensures.light c.in_ok-text.ensures;
    }
