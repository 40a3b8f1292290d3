use Rattle.history_spec.specs.Run.{start_in_store}
use Rattle.host_play.proofs.printed_runs.print_from.Goals as goal

pub print_start-requires : goal.print_start-requires
print_start-requires c =
    record { leads = (c.args.play.code.now, start_in_store c.args.play.code.now c.args.script.now c.args.play.store, c.in_ok-playing.ensures) }

pub returns : goal.returns
returns c =
    c.print_start.ensures c.args.play.code.now (start_in_store c.args.play.code.now c.args.script.now c.args.play.store) c.in_ok-playing.ensures
