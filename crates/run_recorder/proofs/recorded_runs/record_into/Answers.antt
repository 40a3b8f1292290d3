use Rattle.std.proofs.Common.{[], ◌<◌, ◌^◌, length, subst, sym}
use Rattle.wasm_flat.specs.FlatCode.{flat_of}
use Rattle.record_replay_spec.specs.Order.{shape_of}
use Rattle.host_play.specs.HookedResults.{HasHooksAfter, HookedRun, IsPlayedWithHooks, hooked_run}
use Rattle.wasm_syntax.specs.declared.modules.Module.{Module}
use Rattle.recorder.specs.Recorders.{IsRecorderStep}
use Rattle.run_recorder.specs.Records.{RecordedRun}
use Rattle.run_recorder.proofs.Indices.{funcs_fit}
use Rattle.run_recorder.proofs.Led.{led}
use Rattle.run_recorder.proofs.recorded_runs.record_into.Goals as goal

pub returns : goal.returns
returns g c =
    let taken = g.S.EventSink.has_taken in
    let run : Module → HookedRun = λ m. hooked_run m c.args.play.script.now c.args.play.store
    c.args.settings.now.meter.now c.args.settings.now.imports c.args.settings.now.turns in
    let r : RecordedRun = record {
      run = run c.args.hooked.now;
      shape = shape_of c.args.settings.now.imports c.args.hooked.now;
      opened = c.args.play.store;
    } in
    let stands = c.in_ok-recorder.ensures.stands c.args.play.store c.requires.begins in
    let fresh = subst (λ sink. taken c.args.sink sink []) (sym c.in_ok-recorder.ensures.sink) c.requires.fresh in
    let played = subst (λ m. IsPlayedWithHooks (IsRecorderStep taken) (run m) c.play-answer.result
    c.in_ok-recorder.recorder c.play-answer.new.hooks) c.requires.code c.play-answer.ensures in
    c.recorded_sink.ensures c.args.sink r
    (led taken c.calls_are_recorded.ensures c.args.sink r c.in_ok-recorder.recorder c.play-answer.new.hooks stands fresh c.play-answer.result played)

pub play-answer-requires-clause-hooked : goal.play-answer-requires-clause-hooked
play-answer-requires-clause-hooked g c =
    subst (λ m. HasHooksAfter m c.args.settings.now.imports) (sym c.requires.code) c.requires.hooked

pub into_sink-requires-clause-funcs : goal.into_sink-requires-clause-funcs
into_sink-requires-clause-funcs g c =
    let few : length (flat_of c.args.hooked.now).indices < 2 ^ 32 =
    subst (λ flat. length flat.indices < 2 ^ 32) c.requires.flat c.requires.bound.few in
    funcs_fit c.args.hooked.now c.args.settings.now.imports c.args.play.script.now c.requires.hooked few
