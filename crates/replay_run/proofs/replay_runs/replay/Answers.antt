use Rattle.std.proofs.Common.{ℕ, [], ap, ◌∙◌, refl, subst, sym}
use Rattle.wasm_syntax.specs.declared.modules.Module.{Module}
use Rattle.history_spec.specs.Projection.{Layout}
use Rattle.history_spec.specs.Replay.{program_alone}
use Rattle.history_spec.specs.Step.{StepResult, start}
use Rattle.shown_lines.specs.ShownLines.{HasShown, ShownLines}
use Rattle.replay_form.specs.Forms.{IsReplayable}
use Rattle.replay_form.specs.Sides.{as_layout}
use Rattle.replay_run.specs.Results.{RefusesForm}
use Rattle.replay_run.specs.RunsSoFar.{main_of}
use Rattle.replay_run.proofs.Starts.{form_refused, ready_in, run_stopped, run_printed, starts_in}
use Rattle.replay_run.proofs.replay_runs.replay.Goals as goal

pub returns-in-Err : goal.returns-in-Err
returns-in-Err c =
    form_refused c.args.binary.now c.args.turns c.in-Err.fault (subst (λ m. RefusesForm m c.in-Err.fault) c.module-module.ensures.same c.in-Err.ensures.err)

pub run_calls-requires-clause-ready : goal.run_calls-requires-clause-ready
run_calls-requires-clause-ready c =
    let layout : Layout = as_layout c.in-Ok.form.layout in
    let ready =
    ready_in c.hosts_go_on.ensures.begins c.typed_code.ensures.heights c.typed_code.ensures.code c.args.binary.now
    c.module-module.result.now layout c.in-Ok.form.entry c.in-Ok-store_of.store c.in_ok-machine.machine
    c.module-module.ensures.same c.module-module.ensures.valid c.requires.supported
    (subst (λ n. IsReplayable n layout c.in-Ok.form.entry) c.module-module.ensures.same c.in-Ok.ensures.ok)
    c.in-Ok-store_of.ensures.typed c.in_ok-machine.ensures in (
      c.args.binary.now,
      ready.0,
      ready.1,
    )

pub returns-in-Ok-run_calls : goal.returns-in-Ok-run_calls
returns-in-Ok-run_calls c =
    let m : Module = c.args.binary.now in
    let n : Module = c.module-module.result.now in
    let entry : ℕ = c.in-Ok.form.entry in
    let layout : Layout = as_layout c.in-Ok.form.layout in
    let form : IsReplayable m layout entry = subst (λ n. IsReplayable n layout entry) c.module-module.ensures.same c.in-Ok.ensures.ok in
    let ready = ready_in c.hosts_go_on.ensures.begins c.typed_code.ensures.heights c.typed_code.ensures.code m n layout
    entry c.in-Ok-store_of.store c.in_ok-machine.machine
    c.module-module.ensures.same c.module-module.ensures.valid c.requires.supported form c.in-Ok-store_of.ensures.typed c.in_ok-machine.ensures in
    let initial : StepResult = start (program_alone m) n.start c.in_ok-machine.machine.store [] (main_of entry) in
    let has : HasShown c.new-shown.result [] = subst (λ shown. HasShown shown []) (sym c.new-shown.ensures)
    (record { text_is = refl; entries_are = refl; inside_is = refl }) in
    run_printed m c.args.turns c.run_calls.new.left layout entry initial c.in-Ok-run_calls.outcome c.run_calls.new.shown
    c.in_ok-printed-in-Ok-run_calls.printed form
    (starts_in m n entry c.in-Ok-store_of.store c.in_ok-machine.machine c.module-module.ensures.same c.in-Ok-store_of.ensures.ok c.in_ok-machine.ensures)
    (c.in-Ok-run_calls.ensures.runs m ready.0 ready.1 has)
    (c.in-Ok-run_calls.ensures.layout ∙ ap (λ (shown : ShownLines). shown.layout) c.new-shown.ensures)
    c.in_ok-printed-in-Ok-run_calls.ensures.text c.in_ok-printed-in-Ok-run_calls.ensures.rest

pub returns : goal.returns
returns c =
    let m : Module = c.args.binary.now in
    let n : Module = c.module-module.result.now in
    let entry : ℕ = c.in-Ok.form.entry in
    let layout : Layout = as_layout c.in-Ok.form.layout in
    let form : IsReplayable m layout entry = subst (λ n. IsReplayable n layout entry) c.module-module.ensures.same c.in-Ok.ensures.ok in
    let ready = ready_in c.hosts_go_on.ensures.begins c.typed_code.ensures.heights c.typed_code.ensures.code m n layout
    entry c.in-Ok-store_of.store c.in_ok-machine.machine
    c.module-module.ensures.same c.module-module.ensures.valid c.requires.supported form c.in-Ok-store_of.ensures.typed c.in_ok-machine.ensures in
    let initial : StepResult = start (program_alone m) n.start c.in_ok-machine.machine.store [] (main_of entry) in
    let has : HasShown c.new-shown.result [] = subst (λ shown. HasShown shown []) (sym c.new-shown.ensures)
    (record { text_is = refl; entries_are = refl; inside_is = refl }) in
    run_stopped m c.args.turns layout entry initial c.in-Err-run_calls.fault form
    (starts_in m n entry c.in-Ok-store_of.store c.in_ok-machine.machine c.module-module.ensures.same c.in-Ok-store_of.ensures.ok c.in_ok-machine.ensures)
    (c.in-Err-run_calls.ensures.runs m ready.0 ready.1 has)
