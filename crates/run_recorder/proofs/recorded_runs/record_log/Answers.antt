use Rattle.std.proofs.Common.{◌++◌, ap, ◌∙◌}
use Rattle.record_replay_spec.specs.Order.{shape_of}
use Rattle.host_play.specs.HookedResults.{hooked_run}
use Rattle.run_recorder.specs.Records.{RecordedRun}
use Rattle.run_recorder.proofs.Led.{log_of_events}
use Rattle.run_recorder.proofs.recorded_runs.record_log.Goals as goal

pub returns : goal.returns
returns c =
    let r : RecordedRun = record {
      run =
          hooked_run c.args.hooked.now c.args.play.script.now c.args.play.store c.args.settings.now.meter.now
          c.args.settings.now.imports c.args.settings.now.turns;
      shape = shape_of c.args.settings.now.imports c.args.hooked.now;
      opened = c.args.play.store;
    } in
    let recorded = c.in_ok-events.ensures in
    log_of_events r c.in_ok-events.outcome c.in_ok-events.events recorded.log
    (recorded.taken ∙ ap (λ sink. sink ++ recorded.log.events) c.new-sink.ensures) recorded.is_log
