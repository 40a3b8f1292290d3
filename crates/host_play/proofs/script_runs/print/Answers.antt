use Rattle.std.proofs.Common.{subst, sym}
use Rattle.history_spec.specs.Run.{run_start, program_of, start_in_store}
use Rattle.host_play.specs.Results.{IsPrinted}
use Rattle.host_play.specs.Starts.{CanBegin}
use Rattle.host_play.proofs.RunStarts.{same_begun}
use Rattle.host_play.proofs.script_runs.print.Goals as goal

pub print_from-requires : goal.print_from-requires
print_from-requires c =
    subst (CanBegin c.args.play) (sym c.of-host.ensures) c.requires.begins

pub returns : goal.returns
returns c =
    λ initial is.
    subst (λ b. IsPrinted (program_of c.args.play.code.now c.args.play.script.now) b c.args.turns c.print_from.result)
    (same_begun (run_start c.args.play.code.now c.args.play.script.now) c.requires.opened is)
    (subst (λ script. IsPrinted (program_of c.args.play.code.now script) (start_in_store c.args.play.code.now script
    c.args.play.store) c.args.turns c.print_from.result) c.of-host.ensures c.print_from.ensures)
