use Rattle.std.proofs.Common.{sym, ◌∙◌, subst}
use Rattle.wasm_syntax.specs.declared.modules.Module.{Module}
use Rattle.wasm_flat.specs.Meters.{FitsMeter}
use Rattle.trace_reduce.specs.Reducer.{HasTakenSince}
use Rattle.host_play.specs.HookedResults.{HasHooksAfter, HookedRun, IsPlayedWithHooks, hooked_run}
use Rattle.instrumented_run_laws.specs.Laws.{instrumented_of}
use Rattle.checkpoint.specs.Freezers.{IsFreezerStep}
use Rattle.replay_theorem.specs.RecordedOriginalLaws.{record_of}
use Rattle.r3_make.proofs.Recordings.{hooks_after, meter_fits, recorded_same}
use Rattle.run_recorder.specs.Records.{RecordedRun}
use Rattle.r3_make.proofs.Freezing.{can_begin, frozen_by}
use Rattle.r3_make.proofs.frozen_runs.play_frozen.Goals as goal

pub play-answer-requires-clause-hooked : goal.play-answer-requires-clause-hooked
play-answer-requires-clause-hooked c =
    let run = c.requires.0 in
    let is = c.requires.2 in
    subst (λ code. HasHooksAfter code c.args.inputs.now.imports) (sym (c.requires.3.code ∙ is.inputs_are.hooked))
    (subst (HasHooksAfter (instrumented_of run)) (sym is.inputs_are.imports)
    (hooks_after run is.original c.instrumented_import_hooks.ensures))

pub play-answer-requires-clause-meter : goal.play-answer-requires-clause-meter
play-answer-requires-clause-meter c =
    let run = c.requires.0 in
    let is = c.requires.2 in
    subst (λ code. FitsMeter code c.args.inputs.now.meter) (sym (c.requires.3.code ∙ is.inputs_are.hooked))
    (subst (FitsMeter (instrumented_of run)) (sym is.inputs_are.meter)
    (meter_fits run is.original c.instrumented_meters_fit.ensures.fits))

pub play-answer-requires-clause-begins : goal.play-answer-requires-clause-begins
play-answer-requires-clause-begins c =
    let run = c.requires.0 in
    let is = c.requires.2 in
    can_begin run c.args.inputs.now c.requires.1 is c.instrumented_are_runnable.ensures
    c.instrumented_are_fitted.ensures c.instrumented_have_stores.ensures c.typed_store.ensures.supplied
    c.typed_store.ensures.store c.args.play c.requires.3.opens c.requires.3.code c.requires.3.script c.requires.3.flat
    c.requires.3.bound

pub returns : goal.returns
returns c = λ run supply number small is begun new.
    let inputs = c.args.inputs.now in
    let r = record_of run c.args.turns in
    let play = c.args.play in
    let played : (code : Module) → HookedRun = λ code. hooked_run code play.script.now play.store inputs.meter inputs.imports c.args.turns in
    c.frozen_record.ensures r number
    (frozen_by c.runs_are_frozen.ensures r number c.args.freezer c.play-answer.new.hooks new small c.play-answer.result
    (subst
    (λ (r : RecordedRun). IsPlayedWithHooks (IsFreezerStep HasTakenSince) r.run c.play-answer.result c.args.freezer
    c.play-answer.new.hooks)
    (recorded_same run c.args.turns inputs.hooked play.script.now play.store inputs.meter inputs.imports
    is.inputs_are.hooked (begun.script ∙ is.inputs_are.script) begun.opens is.inputs_are.meter is.inputs_are.imports)
    (subst
    (λ code. IsPlayedWithHooks (IsFreezerStep HasTakenSince) (played code) c.play-answer.result c.args.freezer
    c.play-answer.new.hooks) begun.code c.play-answer.ensures)))
