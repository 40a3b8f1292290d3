use Rattle.std.proofs.Common.{◌++◌, subst}
use Rattle.host_play.specs.RunsSoFar.{PrintsOn}
use Rattle.host_play.specs.PrintedLines.{Prints}
use Rattle.host_play.proofs.Errors.{at_error}
use Rattle.host_play.proofs.PrintedRuns.{prints_more}
use Rattle.host_play.proofs.printed_runs.print_part.Goals as goal

pub returns-clause-goes : goal.returns-clause-goes
returns-clause-goes c = λ m initial t. record {
  history = t.history ++ c.in_ok-moved.moved.entries;
  reached = c.in_ok-moved.ensures.goes m initial t.history t.reached;
  prints =
      prints_more c.args.lines.now c.print_all.new.self t.history c.in_ok-moved.moved.entries t.prints
      (subst (Prints c.args.lines.now c.print_all.new.self) c.as_slice.ensures c.in_ok-print_all.ensures);
}

pub returns-in_err-moved-clause-goes : goal.returns-in_err-moved-clause-goes
returns-in_err-moved-clause-goes c = λ m initial t.
    at_error c.from_residual.result c.in_err-moved.field-0.0
    (λ result. PrintsOn m c.args.script.now initial c.args.turns result c.args.lines.now c.go.new.playing c.go.new.left)
    c.from_residual.ensures.1 (c.in_err-moved.ensures.goes m initial t.history t.reached)
