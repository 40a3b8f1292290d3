use Rattle.replay_run.proofs.WholeRuns.{entry_entered}
use Rattle.replay_run.proofs.replay_runs.begin_entry.Goals as goal

pub returns-clause-enters : goal.returns-clause-enters
returns-clause-enters c =
    entry_entered c.projections_run_along.ensures c.hosts_go_on.ensures.main c.args.entry c.args.shown.now
    c.begin_call.new.shown c.args.machine.now c.begin_call.new.machine c.in_ok-stand.stand c.in_ok-stand.ensures.begins
