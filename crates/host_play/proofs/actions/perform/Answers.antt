use Rattle.std.proofs.Common.{◌≡◌, ◌∷◌, Ok, Err, refl, sym, subst, ap, ◌∙◌}
use Rattle.history_spec.specs.Action.{Changes, Enters, Fails, perform}
use Rattle.history_spec.specs.Code.{code_of}
use Rattle.type_safety.specs.Results.{IsActionResult}
use Rattle.type_safety.specs.Stores.{IsStore}
use Rattle.host_actions.specs.Does.{Does, args_in}
use Rattle.wasm_interp.specs.Loans.{with_store}
use Rattle.wasm_interp.specs.Calls.{InvokesRun, IsCallable}
use Rattle.wasm_interp.specs.State.{StandsFor}
use Rattle.host_play.specs.Hosts.{below_of}
use Rattle.host_play.proofs.NextActions.{IsNext, opened}
use Rattle.host_play.proofs.ActionSteps.{known_action, read_action, does_change, does_call, does_fail, does_nothing}
use Rattle.host_play.proofs.actions.perform.Goals as goal

pub addresses_of-addresses-requires : goal.addresses_of-addresses-requires
addresses_of-addresses-requires c =
    let o : IsNext c.requires.played.0 c.requires.played.2.heights c.args.script.now c.requires.played.2.counts
    c.args.playing.now c.args.top c.args.action.now c.requires.played.1 =
    opened c.requires.played.0 c.requires.played.2.heights c.args.script.now c.requires.played.2.counts
    (c.hosts_go_on.ensures.main c.requires.played.0 c.requires.played.2.heights)
    (c.hosts_go_on.ensures.responses c.requires.played.0 c.requires.played.2.heights)
    (c.calls_are_ready.ensures.waits c.requires.played.0 c.requires.played.2.heights)
    (c.calls_are_ready.ensures.arguments c.requires.played.0 c.requires.played.2.heights)
    c.args.playing.now c.args.action.now c.requires.played.1 c.requires.played.2.goes_on.activations
    c.args.playing.now.hosts c.args.top refl c.requires.played.2.goes_on.awaits
    c.requires.played.2.goes_on.stack.machine c.requires.played.2.goes_on.stack.hosts c.requires.played.2.goes_on.same
    c.requires.top c.requires.next in
    known_action c.args.playing.now.machine o.args o.each c.args.action.now
    (c.fitting_actions.ensures.arguments c.requires.played.0 o.params o.args c.args.action.now o.values o.fits)

pub change-requires : goal.change-requires
change-requires c =
    let o : IsNext c.requires.played.0 c.requires.played.2.heights c.args.script.now c.requires.played.2.counts
    c.args.playing.now c.args.top c.args.action.now c.requires.played.1 =
    opened c.requires.played.0 c.requires.played.2.heights c.args.script.now c.requires.played.2.counts
    (c.hosts_go_on.ensures.main c.requires.played.0 c.requires.played.2.heights)
    (c.hosts_go_on.ensures.responses c.requires.played.0 c.requires.played.2.heights)
    (c.calls_are_ready.ensures.waits c.requires.played.0 c.requires.played.2.heights)
    (c.calls_are_ready.ensures.arguments c.requires.played.0 c.requires.played.2.heights)
    c.args.playing.now c.args.action.now c.requires.played.1 c.requires.played.2.goes_on.activations
    c.args.playing.now.hosts c.args.top refl c.requires.played.2.goes_on.awaits
    c.requires.played.2.goes_on.stack.machine c.requires.played.2.goes_on.stack.hosts c.requires.played.2.goes_on.same
    c.requires.top c.requires.next in
    c.fitting_actions.ensures.ready c.requires.played.0 c.requires.played.2.heights c.args.playing.now.functions
    c.args.playing.now.machine.store o.params o.args c.args.action.now c.requires.played.2.is_run.code o.stands.store
    o.values o.fits c.requires.played.2.functions

pub returns-in-Changed-clause-makes : goal.returns-in-Changed-clause-makes
returns-in-Changed-clause-makes c = λ m s standing.
    let o : IsNext m standing.heights c.args.script.now standing.counts c.args.playing.now c.args.top c.args.action.now
    s = opened m standing.heights c.args.script.now standing.counts (c.hosts_go_on.ensures.main m standing.heights)
    (c.hosts_go_on.ensures.responses m standing.heights) (c.calls_are_ready.ensures.waits m standing.heights)
    (c.calls_are_ready.ensures.arguments m standing.heights)
    c.args.playing.now c.args.action.now s standing.goes_on.activations c.args.playing.now.hosts c.args.top refl
    standing.goes_on.awaits standing.goes_on.stack.machine standing.goes_on.stack.hosts standing.goes_on.same
    c.requires.top c.requires.next in
    let is : perform (code_of m) c.args.playing.now.machine.store o.args c.args.action.now
    ≡ Changes c.change.new.machine.store = subst
    (λ d. Does (code_of m) o.args c.args.action.now (Ok d) c.args.playing.now.machine.store c.change.new.machine.store)
    c.in-Changed.is (c.in-Ok.ensures.does (code_of m) o.args standing.functions (read_action c.args.playing.now.machine
    o.args o.each c.args.action.now c.addresses_of-addresses.result (c.fitting_actions.ensures.arguments m o.params
    o.args c.args.action.now o.values o.fits) c.addresses_of-addresses.ensures)) in
    let is_store : IsStore m c.change.new.machine.store =
    subst (IsActionResult m) is (c.rules_hold.ensures.actions m standing.heights c.args.playing.now.machine.store
    o.params o.args c.args.action.now standing.is_run.code o.stands.store o.values o.fits) in
    does_change m c.args.script.now s c.args.playing.now c.args.top c.args.action.now standing o
    c.change.new.machine.store _ is is_store (c.hosts_go_on.ensures.stores m standing.heights o.left
    c.args.playing.now.machine c.change.new.machine.store o.stands is_store)
    c.in-Ok.ensures.rest refl refl (c.replace_top.ensures ∙ ap (λ top. top ∷ below_of c.args.playing.now.hosts) c.after_next_action.ensures)

pub call-requires-clause-callable : goal.call-requires-clause-callable
call-requires-clause-callable c =
    let o : IsNext c.requires.played.0 c.requires.played.2.heights c.args.script.now c.requires.played.2.counts
    c.args.playing.now c.args.top c.args.action.now c.requires.played.1 =
    opened c.requires.played.0 c.requires.played.2.heights c.args.script.now c.requires.played.2.counts
    (c.hosts_go_on.ensures.main c.requires.played.0 c.requires.played.2.heights)
    (c.hosts_go_on.ensures.responses c.requires.played.0 c.requires.played.2.heights)
    (c.calls_are_ready.ensures.waits c.requires.played.0 c.requires.played.2.heights)
    (c.calls_are_ready.ensures.arguments c.requires.played.0 c.requires.played.2.heights)
    c.args.playing.now c.args.action.now c.requires.played.1 c.requires.played.2.goes_on.activations
    c.args.playing.now.hosts c.args.top refl c.requires.played.2.goes_on.awaits
    c.requires.played.2.goes_on.stack.machine c.requires.played.2.goes_on.stack.hosts c.requires.played.2.goes_on.same
    c.requires.top c.requires.next in
    let is : (perform (code_of c.requires.played.0) c.args.playing.now.machine.store o.args c.args.action.now ≡ Enters
    c.in-Enters.func (args_in c.args.action.now)) × (c.change.new.machine.store ≡ c.args.playing.now.machine.store) =
    subst (λ d. Does (code_of c.requires.played.0) o.args c.args.action.now
    (Ok d) c.args.playing.now.machine.store c.change.new.machine.store) c.in-Enters.is
    (c.in-Ok.ensures.does (code_of c.requires.played.0) o.args c.requires.played.2.functions
    (read_action c.args.playing.now.machine o.args o.each c.args.action.now c.addresses_of-addresses.result
    (c.fitting_actions.ensures.arguments c.requires.played.0 o.params o.args c.args.action.now o.values o.fits)
    c.addresses_of-addresses.ensures)) in
    let typed : IsActionResult c.requires.played.0 (Enters c.in-Enters.func (args_in c.args.action.now)) =
    subst (IsActionResult c.requires.played.0) is.0
    (c.rules_hold.ensures.actions c.requires.played.0 c.requires.played.2.heights c.args.playing.now.machine.store
    o.params o.args c.args.action.now c.requires.played.2.is_run.code o.stands.store o.values o.fits) in
    let same : c.change.new.machine ≡ c.args.playing.now.machine = c.in-Ok.ensures.rest ∙ ap (with_store c.args.playing.now.machine) is.1 in
    subst (IsCallable c.change.new.machine.flat c.in-Enters.func) (sym c.in-Ok-args_of.ensures)
    (c.calls_are_ready.ensures.callable c.requires.played.0 c.requires.played.2.heights o.left c.change.new.machine
    c.in-Enters.func typed.0 (args_in c.args.action.now) (subst
    (StandsFor c.requires.played.0 c.requires.played.2.heights o.left) (sym same) o.stands) typed.2 typed.1 typed.3)

pub returns-in-Ok-call-clause-makes : goal.returns-in-Ok-call-clause-makes
returns-in-Ok-call-clause-makes c = λ m s standing.
    let o : IsNext m standing.heights c.args.script.now standing.counts c.args.playing.now c.args.top c.args.action.now
    s = opened m standing.heights c.args.script.now standing.counts (c.hosts_go_on.ensures.main m standing.heights)
    (c.hosts_go_on.ensures.responses m standing.heights) (c.calls_are_ready.ensures.waits m standing.heights)
    (c.calls_are_ready.ensures.arguments m standing.heights)
    c.args.playing.now c.args.action.now s standing.goes_on.activations c.args.playing.now.hosts c.args.top refl
    standing.goes_on.awaits standing.goes_on.stack.machine standing.goes_on.stack.hosts standing.goes_on.same
    c.requires.top c.requires.next in
    let is : (perform (code_of m) c.args.playing.now.machine.store o.args c.args.action.now ≡ Enters c.in-Enters.func
    (args_in c.args.action.now)) × (c.change.new.machine.store ≡ c.args.playing.now.machine.store) = subst
    (λ d. Does (code_of m) o.args c.args.action.now (Ok d) c.args.playing.now.machine.store c.change.new.machine.store)
    c.in-Enters.is (c.in-Ok.ensures.does (code_of m) o.args standing.functions (read_action c.args.playing.now.machine
    o.args o.each c.args.action.now c.addresses_of-addresses.result (c.fitting_actions.ensures.arguments m o.params
    o.args c.args.action.now o.values o.fits) c.addresses_of-addresses.ensures)) in
    let typed : IsActionResult m (Enters c.in-Enters.func (args_in c.args.action.now)) =
    subst (IsActionResult m) is.0 (c.rules_hold.ensures.actions m standing.heights c.args.playing.now.machine.store
    o.params o.args c.args.action.now standing.is_run.code o.stands.store o.values o.fits) in
    let same : c.change.new.machine ≡ c.args.playing.now.machine = c.in-Ok.ensures.rest ∙ ap (with_store c.args.playing.now.machine) is.1 in
    does_call m c.args.script.now s c.args.playing.now c.args.top c.args.action.now standing o c.in-Enters.func
    (args_in c.args.action.now) c.in-Ok-args_of.args typed.0 _ is.0 typed.1 typed.2 typed.3
    (subst (λ machine. InvokesRun machine c.in-Enters.func (args_in c.args.action.now) c.call.new.machine) same
    (subst (λ args. InvokesRun c.change.new.machine c.in-Enters.func args c.call.new.machine) c.in-Ok-args_of.ensures
    c.in-Ok-call.ensures)) c.in-Ok-args_of.ensures
    refl refl (c.replace_top-in-Enters.ensures ∙ ap (λ top. top ∷ below_of c.args.playing.now.hosts) c.after_next_action-in-Enters.ensures)

pub returns-in_default-clause-makes : goal.returns-in_default-clause-makes
returns-in_default-clause-makes c = λ m s standing.
    let o : IsNext m standing.heights c.args.script.now standing.counts c.args.playing.now c.args.top c.args.action.now
    s = opened m standing.heights c.args.script.now standing.counts (c.hosts_go_on.ensures.main m standing.heights)
    (c.hosts_go_on.ensures.responses m standing.heights) (c.calls_are_ready.ensures.waits m standing.heights)
    (c.calls_are_ready.ensures.arguments m standing.heights)
    c.args.playing.now c.args.action.now s standing.goes_on.activations c.args.playing.now.hosts c.args.top refl
    standing.goes_on.awaits standing.goes_on.stack.machine standing.goes_on.stack.hosts standing.goes_on.same
    c.requires.top c.requires.next in
    does_nothing m c.args.script.now s c.args.playing.now c.args.top c.args.action.now standing o _

pub returns-in_default-call-clause-makes : goal.returns-in_default-call-clause-makes
returns-in_default-call-clause-makes c = λ m s standing.
    let o : IsNext m standing.heights c.args.script.now standing.counts c.args.playing.now c.args.top c.args.action.now
    s = opened m standing.heights c.args.script.now standing.counts (c.hosts_go_on.ensures.main m standing.heights)
    (c.hosts_go_on.ensures.responses m standing.heights) (c.calls_are_ready.ensures.waits m standing.heights)
    (c.calls_are_ready.ensures.arguments m standing.heights)
    c.args.playing.now c.args.action.now s standing.goes_on.activations c.args.playing.now.hosts c.args.top refl
    standing.goes_on.awaits standing.goes_on.stack.machine standing.goes_on.stack.hosts standing.goes_on.same
    c.requires.top c.requires.next in
    does_nothing m c.args.script.now s c.args.playing.now c.args.top c.args.action.now standing o _

pub returns-in-Fault-clause-makes : goal.returns-in-Fault-clause-makes
returns-in-Fault-clause-makes c = λ m s standing.
    let o : IsNext m standing.heights c.args.script.now standing.counts c.args.playing.now c.args.top c.args.action.now
    s = opened m standing.heights c.args.script.now standing.counts (c.hosts_go_on.ensures.main m standing.heights)
    (c.hosts_go_on.ensures.responses m standing.heights) (c.calls_are_ready.ensures.waits m standing.heights)
    (c.calls_are_ready.ensures.arguments m standing.heights)
    c.args.playing.now c.args.action.now s standing.goes_on.activations c.args.playing.now.hosts c.args.top refl
    standing.goes_on.awaits standing.goes_on.stack.machine standing.goes_on.stack.hosts standing.goes_on.same
    c.requires.top c.requires.next in
    let is : (perform (code_of m) c.args.playing.now.machine.store o.args c.args.action.now ≡ Fails c.in-Fault.kind)
    × (c.change.new.machine.store ≡ c.args.playing.now.machine.store) = subst
    (λ d. Does (code_of m) o.args c.args.action.now (Err d) c.args.playing.now.machine.store c.change.new.machine.store)
    c.in-Fault.is (c.in-Err.ensures.does (code_of m) o.args standing.functions (read_action c.args.playing.now.machine
    o.args o.each c.args.action.now c.addresses_of-addresses.result (c.fitting_actions.ensures.arguments m o.params
    o.args c.args.action.now o.values o.fits) c.addresses_of-addresses.ensures)) in
    does_fail m c.args.script.now s c.args.playing.now c.args.top c.args.action.now standing o c.in-Fault.kind _ is.0

pub returns-in-Memory-clause-makes : goal.returns-in-Memory-clause-makes
returns-in-Memory-clause-makes c = λ m s standing.
    let o : IsNext m standing.heights c.args.script.now standing.counts c.args.playing.now c.args.top c.args.action.now
    s = opened m standing.heights c.args.script.now standing.counts (c.hosts_go_on.ensures.main m standing.heights)
    (c.hosts_go_on.ensures.responses m standing.heights) (c.calls_are_ready.ensures.waits m standing.heights)
    (c.calls_are_ready.ensures.arguments m standing.heights)
    c.args.playing.now c.args.action.now s standing.goes_on.activations c.args.playing.now.hosts c.args.top refl
    standing.goes_on.awaits standing.goes_on.stack.machine standing.goes_on.stack.hosts standing.goes_on.same
    c.requires.top c.requires.next in
    does_nothing m c.args.script.now s c.args.playing.now c.args.top c.args.action.now standing o _
