use Rattle.history_spec.specs.Run.{program_of}
use Rattle.host_play.specs.Results.{IsPrinted}
use Rattle.host_play.proofs.Errors.{at_error}
use Rattle.host_play.proofs.PrintedRuns.{prints_begun, printed_or_refused}
use Rattle.host_play.proofs.printed_runs.print_start.Goals as goal

pub print_steps-requires : goal.print_steps-requires
print_steps-requires c =
    let so_far =
    prints_begun c.requires.leads.0 c.args.script.now c.requires.leads.1 c.args.turns c.new.result
    c.print_first.new.lines c.args.host_step c.in_ok-stand.stand c.args.playing.now
    c.new.ensures c.in_ok-stand.ensures.prints c.in_ok-stand.ensures.stands c.requires.leads.2 in
    record { so_far = (c.requires.leads.0, c.requires.leads.1, so_far) }

pub returns : goal.returns
returns c = λ m initial leads.
    let so_far =
    prints_begun m c.args.script.now initial c.args.turns c.new.result c.print_first.new.lines c.args.host_step c.in_ok-stand.stand c.args.playing.now
    c.new.ensures c.in_ok-stand.ensures.prints c.in_ok-stand.ensures.stands leads in
    let whole = c.in_ok-end.ensures m initial so_far in
    printed_or_refused m c.args.script.now initial c.args.turns c.in_ok-end.«end» c.print_steps.new.printed.lines
    c.print_steps.new.playing whole.0 whole.1 whole.2
    c.printed_run.result c.printed_run.ensures.text c.printed_run.ensures.rest c.printed_run.ensures.err

pub returns-in_err-end : goal.returns-in_err-end
returns-in_err-end c = λ m initial leads.
    let so_far =
    prints_begun m c.args.script.now initial c.args.turns c.new.result c.print_first.new.lines c.args.host_step c.in_ok-stand.stand c.args.playing.now
    c.new.ensures c.in_ok-stand.ensures.prints c.in_ok-stand.ensures.stands leads in
    at_error c.from_residual-in_err-end.result c.in_err-end.field-0.0 (IsPrinted (program_of m c.args.script.now) initial c.args.turns)
    c.from_residual-in_err-end.ensures.1 (c.in_err-end.ensures m initial so_far)
