use Rattle.std.proofs.Common.{◌+◌, ◌<◌, ◌≤◌, ◌^◌, [], length, IsOk, arith, refl, sym, subst}
use Rattle.wasm_syntax.specs.declared.limits.TheConstants.{MAX_TAPE_WEIGHT}
use Rattle.wasm_syntax.specs.Index.{all_globals, imported_funcs}
use Rattle.record_replay_spec.specs.Hooks.{hook_count}
use Rattle.trace_reduce.specs.Reducer.{HasTakenFor}
use Rattle.instrumented_run_laws.specs.Laws.{instrumented_of}
use Rattle.run_recorder.proofs.Indices.{funcs_fit}
use Rattle.r3_make.proofs.Freezing.{begins, is_new, starts_typed}
use Rattle.r3_make.proofs.Recordings.{hooked_globals, hooked_short, hooks_after}
use Rattle.r3_make.proofs.frozen_runs.new_freezer.Goals as goal

pub into_sink-requires-clause-funcs : goal.into_sink-requires-clause-funcs
into_sink-requires-clause-funcs c =
    let run = c.requires.0 in
    let is = c.requires.1 in
    let short = hooked_short run is.original c.instrumented_are_short.ensures in
    let fit = funcs_fit (instrumented_of run) (imported_funcs run.m) run.script
    (hooks_after run is.original c.instrumented_import_hooks.ensures) (omega (arith, short.funcs)) in
    subst (λ hooked. c.args.inputs.now.imports + length hooked.funcs + hook_count < 2 ^ 32) (sym is.inputs_are.hooked)
    (subst (λ n. n + length (instrumented_of run).funcs + hook_count < 2 ^ 32) (sym is.inputs_are.imports) fit)

pub into_sink-requires-clause-globals : goal.into_sink-requires-clause-globals
into_sink-requires-clause-globals c =
    let run = c.requires.0 in
    let is = c.requires.1 in
    subst (λ hooked. length (all_globals hooked) ≤ 2 ^ 32) (sym is.inputs_are.hooked)
    (hooked_globals run is.original c.instrumented_keep_indices.ensures)

pub into_sink-requires-clause-links : goal.into_sink-requires-clause-links
into_sink-requires-clause-links c =
    subst IsOk
    (sym (begins c.requires.0 c.args.inputs.now c.args.supply.now c.requires.1 c.instrumented_are_instantiated.ensures))
    refl

pub into_sink-requires-clause-typed : goal.into_sink-requires-clause-typed
into_sink-requires-clause-typed c = λ store opens.
    starts_typed c.requires.0 c.args.inputs.now c.args.supply.now c.requires.1 c.instrumented_are_instantiated.ensures
    c.instrumented_have_stores.ensures c.typed_store.ensures.supplied c.typed_store.ensures.store store opens

pub returns : goal.returns
returns c = λ run turns is.
    let recorder = c.in_ok-recorder.recorder in
    is_new run c.args.inputs.now c.args.supply.now is turns c.args.number recorder
    (subst (λ sink. HasTakenFor c.args.inputs.now.imports MAX_TAPE_WEIGHT sink []) (sym c.in_ok-recorder.ensures.sink)
    (record {
      has = c.new-sink.ensures.taken;
      imports_are = c.new-sink.ensures.imports;
      most_is = c.new-sink.ensures.most;
    }))
    c.in_ok-recorder.ensures.frozen
    (c.in_ok-recorder.ensures.stands _
    (begins run c.args.inputs.now c.args.supply.now is c.instrumented_are_instantiated.ensures))
    c.new.result c.new.ensures
