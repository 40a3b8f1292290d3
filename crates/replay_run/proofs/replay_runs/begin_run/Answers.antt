use Rattle.std.proofs.Common.{[], subst, sym}
use Rattle.history_spec.specs.Replay.{program_alone}
use Rattle.history_spec.specs.Step.{start}
use Rattle.replay_run.specs.RunsSoFar.{IsReady, ShowsSoFar, main_of}
use Rattle.replay_run.proofs.WholeRuns.{run_begun}
use Rattle.replay_run.proofs.replay_runs.begin_run.Goals as goal

pub returns-clause-begins : goal.returns-clause-begins
returns-clause-begins c = λ m heights turns ready has.
    subst (λ first. ShowsSoFar m (main_of c.args._entry)
    (start (program_alone m) first c.args.machine.now.store [] (main_of c.args._entry)) turns c.in_ok-stand.stand
    c.begin_call.new.shown c.begin_call.new.machine turns) (sym c.in-Some.is)
    (run_begun c.projections_run_along.ensures c.args._entry c.in-Some.func c.args.shown.now c.begin_call.new.shown
    c.args.machine.now c.begin_call.new.machine c.in_ok-stand.stand c.in_ok-stand.ensures.begins
    m heights turns (subst (λ first. IsReady m heights first c.args._entry c.args.machine.now) c.in-Some.is ready) has)
