use Rattle.std.proofs.Common.{◌≡◌, ◌≤◌, ◌^◌, length, Ok, refl, sym, ◌∙◌, ap, subst}
use Rattle.wasm_syntax.specs.declared.limits.TheConstants.{MAX_TAPE_WEIGHT}
use Rattle.wasm_syntax.specs.Index.{all_globals}
use Rattle.host_script.specs.Fits.{Fits}
use Rattle.history_spec.specs.Instantiation.{instantiate}
use Rattle.type_safety.specs.Stores.{IsStore}
use Rattle.wasm_flat.specs.Meters.{FitsMeter}
use Rattle.trace_reduce.specs.Reducer.{HasTakenFor}
use Rattle.host_play.specs.HookedResults.{HasHooksAfter}
use Rattle.instrumented_run_laws.specs.Laws.{instrumented_of}
use Rattle.run_recorder.specs.Records.{IsRecordedInto}
use Rattle.r3_make.proofs.LogTapes.{recorded_for}
use Rattle.r3_make.proofs.Recordings.{hooked_begins, hooked_globals, hooked_store, hooks_after, meter_fits, recorded_same, script_fits}
use Rattle.r3_make.proofs.recorded_runs.record_play.Goals as goal

pub record_into-requires-clause-hooked : goal.record_into-requires-clause-hooked
record_into-requires-clause-hooked c =
    let run = c.requires.0 in
    let is = c.requires.1 in
    subst (λ hooked. HasHooksAfter hooked c.args.inputs.now.imports) (sym is.inputs_are.hooked)
    (subst (HasHooksAfter (instrumented_of run)) (sym is.inputs_are.imports)
    (hooks_after run is.original c.instrumented_import_hooks.ensures))

pub record_into-requires-clause-globals : goal.record_into-requires-clause-globals
record_into-requires-clause-globals c =
    let run = c.requires.0 in
    let is = c.requires.1 in
    subst (λ hooked. length (all_globals hooked) ≤ 2 ^ 32) (sym is.inputs_are.hooked)
    (hooked_globals run is.original c.instrumented_keep_indices.ensures)

pub record_into-requires-clause-meter : goal.record_into-requires-clause-meter
record_into-requires-clause-meter c =
    let run = c.requires.0 in
    let is = c.requires.1 in
    subst (λ hooked. FitsMeter hooked c.args.inputs.now.meter) (sym is.inputs_are.hooked)
    (subst (FitsMeter (instrumented_of run)) (sym is.inputs_are.meter)
    (meter_fits run is.original c.instrumented_meters_fit.ensures.fits))

pub record_into-requires-clause-fits : goal.record_into-requires-clause-fits
record_into-requires-clause-fits c =
    let run = c.requires.0 in
    let is = c.requires.1 in
    subst (λ hooked. Fits hooked c.args.play.script.now) (sym is.inputs_are.hooked)
    (subst (Fits (instrumented_of run)) (sym (c.requires.2.script ∙ is.inputs_are.script))
    (script_fits run is.original c.instrumented_are_fitted.ensures))

pub record_into-requires-clause-store : goal.record_into-requires-clause-store
record_into-requires-clause-store c =
    let run = c.requires.0 in
    let is = c.requires.1 in
    let matches = c.typed_store.ensures.supplied run.m run.script run.supply run.fits run.supplied in
    let typed = c.typed_store.ensures.store run.m run.supply run.store run.runnable matches run.opens in
    subst (λ hooked. IsStore hooked c.args.play.store) (sym is.inputs_are.hooked)
    (subst (IsStore (instrumented_of run)) (sym c.requires.2.opens)
    (hooked_store run is.original c.instrumented_have_stores.ensures typed))

pub record_into-requires-clause-begins : goal.record_into-requires-clause-begins
record_into-requires-clause-begins c =
    let run = c.requires.0 in
    let is = c.requires.1 in
    subst (λ hooked. instantiate hooked c.args.supply.now ≡ Ok c.args.play.store) (sym is.inputs_are.hooked)
    (subst (λ supply. instantiate (instrumented_of run) supply ≡ Ok c.args.play.store) (sym is.supply_is)
    (hooked_begins run is.original c.instrumented_are_instantiated.ensures
    ∙ ap (λ store. Ok store) (sym c.requires.2.opens)))

pub record_into-requires-clause-fresh : goal.record_into-requires-clause-fresh
record_into-requires-clause-fresh c =
    record { has = c.new-sink.ensures.taken; imports_are = refl; most_is = refl }

pub returns : goal.returns
returns c = λ run is begun.
    let inputs = c.args.inputs.now in
    subst (λ r. IsRecordedInto (HasTakenFor inputs.imports MAX_TAPE_WEIGHT) r c.record_into.result)
    (recorded_same run c.args.turns inputs.hooked c.args.play.script.now c.args.play.store inputs.meter inputs.imports
    is.inputs_are.hooked (begun.script ∙ is.inputs_are.script) begun.opens is.inputs_are.meter is.inputs_are.imports)
    (recorded_for inputs.imports MAX_TAPE_WEIGHT c.new-sink.result _ c.record_into.result c.new-sink.ensures.imports
    c.new-sink.ensures.most c.record_into.ensures)
