use Rattle.std.proofs.Common.{◌-◌, ◌∷◌, ◌≤◌, subst, sym, refl, arith}
use Rattle.history_spec.specs.Configuration.{InModule}
use Rattle.wasm_interp.specs.Advance.{Advances}
use Rattle.wasm_interp.specs.State.{State}
use Rattle.wasm_interp.specs.Walks.{FitsWeights}
use Rattle.host_play.specs.HookedResults.{RefusesWithHooks}
use Rattle.host_play.specs.HookFaults.{fault_of_hook}
use Rattle.host_play.specs.HooksSoFar.{HooksOn, run_in}
use Rattle.host_play.proofs.Errors.{at_error}
use Rattle.host_play.proofs.HookWaits.{awaits_call, hook_lessens, import_lessens, to}
use Rattle.host_play.proofs.HookReturns.{hook_answered}
use Rattle.host_play.proofs.HooksOn.{hook_refuses, part_to_host, part_to_import, part_to_spent, part_to_trap, part_without_response}
use Rattle.host_play.proofs.ModuleParts.{counted_import, no_more_left}
use Rattle.host_play.proofs.hooked_parts.advance_module.Goals as goal

pub advance-requires-clause-fits : goal.advance-requires-clause-fits
advance-requires-clause-fits g c =
    let standing = c.requires.hooked.2 in
    c.calls_are_ready.ensures.fits c.requires.hooked.0 standing.heights
    (InModule standing.goes_on.frame ∷ standing.goes_on.below) c.args.playing.now.machine standing.goes_on.stack.machine

pub take_call-requires : goal.take_call-requires
take_call-requires g c =
    let m = c.requires.hooked.0 in
    let s = c.requires.hooked.1 in
    let standing = c.requires.hooked.2 in
    let can_play = c.requires.hooked.3 in
    record {
      waits = (
        (to m c.args.script.now c.args.settings.now can_play s c.args.playing.now standing c.args.left.now
            c.in_ok-pause.pause c.advance.new.self c.advance.new.turns c.in_ok-pause.ensures.run c.in-Import.index
            c.in-Import.is).args,
        awaits_call m c.args.script.now c.args.settings.now can_play s c.args.playing.now standing c.args.left.now
            c.in_ok-pause.pause c.advance.new.self c.advance.new.turns c.in_ok-pause.ensures.run c.in-Import.index
            c.in-Import.is c.calls_are_ready.ensures.waits c.calls_are_ready.ensures.arguments,
      );
    }

pub answer_hook-requires-clause-there : goal.answer_hook-requires-clause-there
answer_hook-requires-clause-there g c =
    counted_import c.requires.hooked.0 c.args.script.now c.args.settings.now.meter.now c.requires.hooked.1
    c.args.playing.now c.requires.hooked.2 c.args.left.now c.in_ok-pause.pause c.advance.new.self c.advance.new.turns
    c.in_ok-pause.ensures.run c.in-Import.index c.in-Import.is

pub answer_hook-requires-clause-waits : goal.answer_hook-requires-clause-waits
answer_hook-requires-clause-waits g c =
    let awaits =
    awaits_call c.requires.hooked.0 c.args.script.now c.args.settings.now c.requires.hooked.3 c.requires.hooked.1
    c.args.playing.now c.requires.hooked.2 c.args.left.now c.in_ok-pause.pause c.advance.new.self c.advance.new.turns
    c.in_ok-pause.ensures.run c.in-Import.index c.in-Import.is c.calls_are_ready.ensures.waits c.calls_are_ready.ensures.arguments in
    awaits.0.waits

pub returns-then-index-settings-clause-goes : goal.returns-then-index-settings-clause-goes
returns-then-index-settings-clause-goes g c = λ m initial begun t.
    let awaits = awaits_call m c.args.script.now c.args.settings.now t.can_play t.reached.pending c.args.playing.now
    t.reached.standing c.args.left.now c.in_ok-pause.pause c.advance.new.self c.advance.new.turns
    c.in_ok-pause.ensures.run c.in-Import.index c.in-Import.is
    c.calls_are_ready.ensures.waits c.calls_are_ready.ensures.arguments in
    let called = to m c.args.script.now c.args.settings.now t.can_play t.reached.pending c.args.playing.now
    t.reached.standing c.args.left.now c.in_ok-pause.pause c.advance.new.self c.advance.new.turns
    c.in_ok-pause.ensures.run c.in-Import.index c.in-Import.is in
    hook_answered g.H.Hooks.is_step m c.args.script.now c.args.settings.now initial begun c.args.hooks.now
    c.args.playing.now c.args.left.now t c.in_ok-pause.pause c.advance.new.self c.advance.new.turns
    c.in_ok-pause.ensures.run c.in-Import.index c.in-Import.is
    c.if-index-settings.true c.hosts_go_on.ensures.results c.take_call.new.hooks
    (c.in_ok-take_call-in-Import.ensures called.args awaits)
    c.answer_hook.new.playing c.answer_hook.ensures.resumes c.answer_hook.ensures.functions c.answer_hook.ensures.hosts c.answer_hook.ensures.counted

pub returns-then-index-settings-clause-less : goal.returns-then-index-settings-clause-less
returns-then-index-settings-clause-less g c =
    let m = c.requires.hooked.0 in
    let standing = c.requires.hooked.2 in
    let machine : State = c.args.playing.now.machine in
    hook_lessens c.weightless_turns_end.ensures.advances c.args.playing.now c.args.settings.now.meter.now
    c.args.left.now c.in-Import.index c.advance.new.turns c.advance.new.self c.answer_hook.new.playing
    (c.calls_are_ready.ensures.module m standing.heights standing.goes_on.frame standing.goes_on.below machine standing.goes_on.stack.machine)
    (subst (λ flat. FitsWeights flat c.args.settings.now.meter.now) (sym standing.goes_on.stack.machine.flat)
    (c.meters_fit.ensures m c.args.settings.now.meter.now standing.is_run.valid c.requires.hooked.3.fits))
    (subst (λ e. Advances machine.flat machine.store machine.frames machine.slots c.args.settings.now.meter.now
    c.args.left.now e c.advance.new.turns c.advance.new.self) c.in-Import.is c.in_ok-pause.ensures.ok)
    c.answer_hook.ensures.hosts c.answer_hook.ensures.ahead

pub begin_answer-requires : goal.begin_answer-requires
begin_answer-requires g c =
    counted_import c.requires.hooked.0 c.args.script.now c.args.settings.now.meter.now c.requires.hooked.1
    c.args.playing.now c.requires.hooked.2 c.args.left.now c.in_ok-pause.pause c.advance.new.self c.advance.new.turns
    c.in_ok-pause.ensures.run c.in-Import.index c.in-Import.is

pub returns-in_err-take_call-in-Import-clause-goes : goal.returns-in_err-take_call-in-Import-clause-goes
returns-in_err-take_call-in-Import-clause-goes g c = λ m initial begun t.
    let awaits = awaits_call m c.args.script.now c.args.settings.now t.can_play t.reached.pending c.args.playing.now
    t.reached.standing c.args.left.now c.in_ok-pause.pause c.advance.new.self c.advance.new.turns
    c.in_ok-pause.ensures.run c.in-Import.index c.in-Import.is
    c.calls_are_ready.ensures.waits c.calls_are_ready.ensures.arguments in
    let called = to m c.args.script.now c.args.settings.now t.can_play t.reached.pending c.args.playing.now
    t.reached.standing c.args.left.now c.in_ok-pause.pause c.advance.new.self c.advance.new.turns
    c.in_ok-pause.ensures.run c.in-Import.index c.in-Import.is in
    at_error c.from_residual-in_err-take_call-in-Import.result (fault_of_hook c.in_err-take_call-in-Import.field-0.0)
    (λ result. HooksOn g.H.Hooks.is_step m c.args.script.now c.args.settings.now initial begun c.take_call.new.hooks
    result (record c.args.playing.now { machine = c.advance.new.self }) c.advance.new.turns)
    c.from_residual-in_err-take_call-in-Import.ensures.1
    (hook_refuses g.H.Hooks.is_step m c.args.script.now c.args.settings.now initial begun c.args.hooks.now
    c.args.playing.now c.args.left.now t c.in_ok-pause.pause c.advance.new.self c.advance.new.turns
    c.in_ok-pause.ensures.run c.in-Import.index c.in-Import.is
    c.in_err-take_call-in-Import.field-0.0 c.take_call.new.hooks (c.in_err-take_call-in-Import.ensures called.args awaits))

pub returns-in-Ok-clause-goes : goal.returns-in-Ok-clause-goes
returns-in-Ok-clause-goes g c = λ m initial begun t.
    let awaits = awaits_call m c.args.script.now c.args.settings.now t.can_play t.reached.pending c.args.playing.now
    t.reached.standing c.args.left.now c.in_ok-pause.pause c.advance.new.self c.advance.new.turns
    c.in_ok-pause.ensures.run c.in-Import.index c.in-Import.is
    c.calls_are_ready.ensures.waits c.calls_are_ready.ensures.arguments in
    let called = to m c.args.script.now c.args.settings.now t.can_play t.reached.pending c.args.playing.now
    t.reached.standing c.args.left.now c.in_ok-pause.pause c.advance.new.self c.advance.new.turns
    c.in_ok-pause.ensures.run c.in-Import.index c.in-Import.is in
    part_to_import g.H.Hooks.is_step m c.args.script.now c.args.settings.now initial begun c.args.hooks.now
    c.args.playing.now c.args.left.now t c.in_ok-pause.pause c.advance.new.self c.advance.new.turns
    c.in_ok-pause.ensures.run c.in-Import.index c.in-Import.is c.take_call.new.hooks
    (c.in_ok-take_call-in-Import.ensures called.args awaits)
    c.begin_answer.new.hosts _ refl refl refl c.in-Ok.ensures

pub returns-in-Err-clause-goes : goal.returns-in-Err-clause-goes
returns-in-Err-clause-goes g c = λ m initial begun t.
    let awaits = awaits_call m c.args.script.now c.args.settings.now t.can_play t.reached.pending c.args.playing.now
    t.reached.standing c.args.left.now c.in_ok-pause.pause c.advance.new.self c.advance.new.turns
    c.in_ok-pause.ensures.run c.in-Import.index c.in-Import.is
    c.calls_are_ready.ensures.waits c.calls_are_ready.ensures.arguments in
    let called = to m c.args.script.now c.args.settings.now t.can_play t.reached.pending c.args.playing.now
    t.reached.standing c.args.left.now c.in_ok-pause.pause c.advance.new.self c.advance.new.turns
    c.in_ok-pause.ensures.run c.in-Import.index c.in-Import.is in
    let fewer : c.advance.new.turns ≤ c.args.left.now = no_more_left c.in_ok-pause.ensures.ok in
    let before : c.args.left.now ≤ c.args.settings.now.turns = c.requires.left in
    subst (λ fault. RefusesWithHooks g.H.Hooks.is_step (run_in m c.args.script.now c.args.settings.now initial) fault
    begun c.take_call.new.hooks) (sym c.play_fault.ensures)
    (part_without_response g.H.Hooks.is_step m c.args.script.now c.args.settings.now initial begun c.args.hooks.now
    c.args.playing.now c.args.left.now t c.in_ok-pause.pause c.advance.new.self c.advance.new.turns
    c.in_ok-pause.ensures.run c.in-Import.index c.in-Import.is c.take_call.new.hooks
    (c.in_ok-take_call-in-Import.ensures called.args awaits)
    c.in-Err.refusal (c.args.settings.now.turns - c.advance.new.turns) (omega (arith, fewer, before)) c.in-Err.ensures)

pub returns-in-Ok-clause-less : goal.returns-in-Ok-clause-less
returns-in-Ok-clause-less g c =
    let m = c.requires.hooked.0 in
    let standing = c.requires.hooked.2 in
    let machine : State = c.args.playing.now.machine in
    import_lessens c.weightless_turns_end.ensures.advances c.args.playing.now c.args.settings.now.meter.now
    c.args.left.now c.in-Import.index c.advance.new.turns c.advance.new.self
    (record { machine = c.advance.new.self; functions = c.args.playing.now.functions; hosts = c.begin_answer.new.hosts; counts = c.begin_answer.new.counts }) _
    (c.calls_are_ready.ensures.module m standing.heights standing.goes_on.frame standing.goes_on.below machine standing.goes_on.stack.machine)
    (subst (λ flat. FitsWeights flat c.args.settings.now.meter.now) (sym standing.goes_on.stack.machine.flat)
    (c.meters_fit.ensures m c.args.settings.now.meter.now standing.is_run.valid c.requires.hooked.3.fits))
    (subst (λ e. Advances machine.flat machine.store machine.frames machine.slots c.args.settings.now.meter.now
    c.args.left.now e c.advance.new.turns c.advance.new.self) c.in-Import.is c.in_ok-pause.ensures.ok)
    refl c.in-Ok.ensures.pushed

pub returns-in-Returned-clause-goes : goal.returns-in-Returned-clause-goes
returns-in-Returned-clause-goes g c = λ m initial begun t.
    part_to_host g.H.Hooks.is_step m c.args.script.now c.args.settings.now initial begun c.args.hooks.now
    c.args.playing.now c.args.left.now t c.in_ok-pause.pause c.advance.new.self c.advance.new.turns
    c.in_ok-pause.ensures.run c.in-Returned.is

pub returns-in-Trapped-clause-goes : goal.returns-in-Trapped-clause-goes
returns-in-Trapped-clause-goes g c = λ m initial begun t.
    part_to_trap g.H.Hooks.is_step m c.args.script.now c.args.settings.now initial begun c.args.hooks.now
    c.args.playing.now c.args.left.now t c.in_ok-pause.pause c.advance.new.self c.advance.new.turns
    c.in_ok-pause.ensures.run c.in-Trapped.is

pub returns-in-Spent-clause-goes : goal.returns-in-Spent-clause-goes
returns-in-Spent-clause-goes g c = λ m initial begun t.
    part_to_spent g.H.Hooks.is_step m c.args.script.now c.args.settings.now initial begun c.args.hooks.now
    c.args.playing.now c.args.left.now t c.in_ok-pause.pause c.advance.new.self c.advance.new.turns
    c.in_ok-pause.ensures.run c.in-Spent.is
