use Rattle.std.proofs.Common.{◌++◌}
use Rattle.wasm_interp.specs.InstrEntries.{entries_of}
use Rattle.host_play.specs.RunsSoFar.{PrintsOn}
use Rattle.host_play.proofs.Errors.{at_error}
use Rattle.host_play.proofs.PrintedRuns.{prints_more}
use Rattle.host_play.proofs.printed_runs.print_instruction.Goals as goal

pub returns-clause-goes : goal.returns-clause-goes
returns-clause-goes c = λ m initial t. record {
  history = t.history ++ entries_of c.go_instruction.new.entries;
  reached = c.in_ok-next.ensures.goes m initial t.history t.reached;
  prints = prints_more c.args.printed.now.lines c.print_turn.new.self t.history (entries_of c.go_instruction.new.entries) t.prints c.in_ok-print_turn.ensures;
}

pub returns-in_err-next-clause-goes : goal.returns-in_err-next-clause-goes
returns-in_err-next-clause-goes c = λ m initial t.
    at_error c.from_residual.result c.in_err-next.field-0.0
    (λ result. PrintsOn m c.args.script.now initial c.args.turns result c.args.printed.now.lines c.go_instruction.new.playing c.go_instruction.new.left)
    c.from_residual.ensures.1 (c.in_err-next.ensures.goes m initial t.history t.reached)
