use Rattle.std.proofs.Common.{[], ◌∙◌, arith, subst}
use Rattle.history_spec.specs.Replay.{program_alone}
use Rattle.history_spec.specs.Step.{StepResult, start}
use Rattle.wasm_syntax.specs.declared.modules.Module.{Module}
use Rattle.replay_run.specs.RunsSoFar.{ShowsSoFar, main_of}
use Rattle.replay_run.proofs.WholeRuns.{ended_returned, ended_trapped, entered, is_returned, start_returned}
use Rattle.replay_run.proofs.replay_runs.run_calls.Goals as goal

pub finish_call-requires : goal.finish_call-requires
finish_call-requires c =
    let ready = c.requires.ready in (
      ready.0,
      main_of c.args.entry,
      start (program_alone ready.0) c.args.start c.args.machine.now.store [] (main_of c.args.entry),
      0,
      0,
      c.in_ok-first.ensures.begins ready.0 ready.1 0 ready.2 c.requires.fresh,
    )

pub returns-in-Err-clause-runs : goal.returns-in-Err-clause-runs
returns-in-Err-clause-runs c = λ m heights ready has.
    c.in-Err.ensures.goes m (main_of c.args.entry) (start (program_alone m) c.args.start c.args.machine.now.store [] (main_of c.args.entry)) c.args.left.now
    (c.in_ok-first.ensures.begins m heights c.args.left.now ready has)

pub returns-in-Trapped-clause-runs : goal.returns-in-Trapped-clause-runs
returns-in-Trapped-clause-runs c = λ m heights ready has.
    let initial : StepResult = start (program_alone m) c.args.start c.args.machine.now.store [] (main_of c.args.entry) in
    ended_trapped m (main_of c.args.entry) initial c.args.left.now c.in-Trapped.outcome c.finish_call.new.shown c.finish_call.new.machine c.finish_call.new.left
    (subst (λ stand. ShowsSoFar m (main_of c.args.entry) initial c.args.left.now stand c.finish_call.new.shown
    c.finish_call.new.machine c.finish_call.new.left) c.in-Trapped.is
    (c.in-Ok.ensures.goes m (main_of c.args.entry) initial c.args.left.now (c.in_ok-first.ensures.begins m heights c.args.left.now ready has)))

pub begin_entry-requires : goal.begin_entry-requires
begin_entry-requires c =
    let ready = c.requires.ready in
    let m : Module = ready.0 in (
      m,
      start (program_alone m) c.args.start c.args.machine.now.store [] (main_of c.args.entry),
      c.args.left.now,
      c.finish_call.new.left,
      ready.2.entry_function,
      start_returned c.args.start c.args.entry c.args.left.now c.args.shown.now c.args.machine.now c.in_ok-first.first
          c.begin_run.new.shown c.begin_run.new.machine c.in_ok-first.ensures.begins
          c.in-Ok.called c.finish_call.new.shown c.finish_call.new.machine c.finish_call.new.left c.in-Ok.ensures.goes
          c.in-Ok.ensures.over c.in_default.not-Trapped m ready.1 ready.2 c.requires.fresh,
    )

pub finish_call-requires-2 : goal.finish_call-requires-2
finish_call-requires-2 c =
    let ready = c.requires.ready in
    let m : Module = ready.0 in (
      m,
      [],
      start (program_alone m) c.args.start c.args.machine.now.store [] (main_of c.args.entry),
      c.args.left.now,
      c.finish_call.new.left,
      entered c.args.start c.args.entry c.args.left.now c.args.shown.now c.args.machine.now c.in_ok-first.first
          c.begin_run.new.shown c.begin_run.new.machine c.in_ok-first.ensures.begins
          c.in-Ok.called c.finish_call.new.shown c.finish_call.new.machine c.finish_call.new.left c.in-Ok.ensures.goes
          c.in-Ok.ensures.over c.in_default.not-Trapped m ready.1 ready.2 c.requires.fresh
          c.in_ok-second.second c.begin_entry.new.shown c.begin_entry.new.machine c.in_ok-second.ensures.enters,
    )

pub returns-in-Trapped-last : goal.returns-in-Trapped-last
returns-in-Trapped-last c =
    let first = c.in-Ok.ensures.left in
    let later = c.in-Ok-finish_call.ensures.left in
    record {
      runs = λ m heights ready has.
          let initial : StepResult = start (program_alone m) c.args.start c.args.machine.now.store [] (main_of c.args.entry) in
          ended_trapped m [] initial c.args.left.now c.in-Trapped-last.outcome c.finish_call-2.new.shown c.finish_call-2.new.machine c.finish_call-2.new.left
          (subst (λ stand. ShowsSoFar m [] initial c.args.left.now stand c.finish_call-2.new.shown
          c.finish_call-2.new.machine c.finish_call-2.new.left) c.in-Trapped-last.is
          (c.in-Ok-finish_call.ensures.goes m [] initial c.args.left.now
          (entered c.args.start c.args.entry c.args.left.now c.args.shown.now c.args.machine.now c.in_ok-first.first
          c.begin_run.new.shown c.begin_run.new.machine c.in_ok-first.ensures.begins
          c.in-Ok.called c.finish_call.new.shown c.finish_call.new.machine c.finish_call.new.left c.in-Ok.ensures.goes
          c.in-Ok.ensures.over c.in_default.not-Trapped m heights ready has
          c.in_ok-second.second c.begin_entry.new.shown c.begin_entry.new.machine c.in_ok-second.ensures.enters)));
      left = omega (arith, first, later);
      layout = c.in-Ok-finish_call.ensures.layout ∙ c.in_ok-second.ensures.layout ∙ c.in-Ok.ensures.layout ∙ c.in_ok-first.ensures.layout;
    }

pub returns-in_default-last : goal.returns-in_default-last
returns-in_default-last c =
    let first = c.in-Ok.ensures.left in
    let later = c.in-Ok-finish_call.ensures.left in
    record {
      runs = λ m heights ready has.
          let initial : StepResult = start (program_alone m) c.args.start c.args.machine.now.store [] (main_of c.args.entry) in
          ended_returned m initial c.args.left.now c.finish_call-2.new.shown c.finish_call-2.new.machine c.finish_call-2.new.left
          (subst (λ stand. ShowsSoFar m [] initial c.args.left.now stand c.finish_call-2.new.shown
          c.finish_call-2.new.machine c.finish_call-2.new.left)
          (is_returned c.in-Ok-finish_call.last c.in-Ok-finish_call.ensures.over c.in_default-last.not-Trapped)
          (c.in-Ok-finish_call.ensures.goes m [] initial c.args.left.now
          (entered c.args.start c.args.entry c.args.left.now c.args.shown.now c.args.machine.now c.in_ok-first.first
          c.begin_run.new.shown c.begin_run.new.machine c.in_ok-first.ensures.begins
          c.in-Ok.called c.finish_call.new.shown c.finish_call.new.machine c.finish_call.new.left c.in-Ok.ensures.goes
          c.in-Ok.ensures.over c.in_default.not-Trapped m heights ready has
          c.in_ok-second.second c.begin_entry.new.shown c.begin_entry.new.machine c.in_ok-second.ensures.enters)));
      left = omega (arith, first, later);
      layout = c.in-Ok-finish_call.ensures.layout ∙ c.in_ok-second.ensures.layout ∙ c.in-Ok.ensures.layout ∙ c.in_ok-first.ensures.layout;
    }

pub returns-in-Err-finish_call : goal.returns-in-Err-finish_call
returns-in-Err-finish_call c =
    record {
      runs = λ m heights ready has.
          c.in-Err-finish_call.ensures.goes m [] (start (program_alone m) c.args.start c.args.machine.now.store [] (main_of c.args.entry)) c.args.left.now
          (entered c.args.start c.args.entry c.args.left.now c.args.shown.now c.args.machine.now c.in_ok-first.first
          c.begin_run.new.shown c.begin_run.new.machine c.in_ok-first.ensures.begins
          c.in-Ok.called c.finish_call.new.shown c.finish_call.new.machine c.finish_call.new.left c.in-Ok.ensures.goes
          c.in-Ok.ensures.over c.in_default.not-Trapped m heights ready has
          c.in_ok-second.second c.begin_entry.new.shown c.begin_entry.new.machine c.in_ok-second.ensures.enters);
      left = tt;
      layout = tt;
    }
