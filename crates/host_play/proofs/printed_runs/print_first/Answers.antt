use Rattle.std.proofs.Common.{subst, ap, ◌∙◌}
use Rattle.host_play.specs.declared.host_steps.PlayStep.{PlayStep}
use Rattle.host_play.specs.PrintedLines.{Prints}
use Rattle.host_play.proofs.printed_runs.print_first.Goals as goal

pub returns-clause-prints : goal.returns-clause-prints
returns-clause-prints c =
    subst (Prints c.args.lines.now c.print_all.new.self)
    (c.as_slice.ensures ∙ ap (λ (step : PlayStep). step.entries) c.in_ok-step.ensures) c.in_ok-print_all.ensures
