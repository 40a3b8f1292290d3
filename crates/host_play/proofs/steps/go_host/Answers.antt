use Rattle.std.proofs.Common.{◌-◌, sym, subst, ◌∙◌, arith, inl, inr, refl}
use Rattle.std.specs.Prelude.{Ok}
use Rattle.host_play.specs.HostParts.{HostStops}
use Rattle.host_play.specs.HostSteps.{play_step_of}
use Rattle.host_play.proofs.HostParts.{action_stops, made_by_host}
use Rattle.host_play.proofs.NextActions.{action_stands}
use Rattle.host_play.proofs.steps.go_host.Goals as goal

pub returns-in_default-next_action-clause-goes : goal.returns-in_default-next_action-clause-goes
returns-in_default-next_action-clause-goes c = λ m s standing. inl (refl, c.end.ensures.leads m s standing)

pub returns-then-left-eq0-clause-goes : goal.returns-then-left-eq0-clause-goes
returns-then-left-eq0-clause-goes c = λ m s standing. (
  omega arith,
  action_stands c.args.script.now standing.counts c.args.playing.now.machine.store c.in-Some-next_action.action.now s
      standing.goes_on.activations c.args.playing.now.hosts c.in-Some.top standing.goes_on.awaits
      standing.goes_on.stack.hosts standing.goes_on.same
      (sym c.top.ensures ∙ c.in-Some.is) c.in-Some-next_action.ensures.found,
)

pub returns-in-Ok-clause-goes : goal.returns-in-Ok-clause-goes
returns-in-Ok-clause-goes c = λ m s standing.
    let before = action_stands c.args.script.now standing.counts c.args.playing.now.machine.store
    c.in-Some-next_action.action.now s standing.goes_on.activations c.args.playing.now.hosts c.in-Some.top
    standing.goes_on.awaits standing.goes_on.stack.hosts standing.goes_on.same
    (sym c.top.ensures ∙ c.in-Some.is) c.in-Some-next_action.ensures.found in
    inr (
      omega arith,
      made_by_host m c.args.script.now s (Ok (play_step_of c.in-Ok.host_step)) c.perform.new.playing before
          (c.in-Ok.ensures.makes m s standing),
    )

pub returns-in-Err-clause-goes : goal.returns-in-Err-clause-goes
returns-in-Err-clause-goes c = λ m s standing.
    let before = action_stands c.args.script.now standing.counts c.args.playing.now.machine.store
    c.in-Some-next_action.action.now s standing.goes_on.activations c.args.playing.now.hosts c.in-Some.top
    standing.goes_on.awaits standing.goes_on.stack.hosts standing.goes_on.same
    (sym c.top.ensures ∙ c.in-Some.is) c.in-Some-next_action.ensures.found in
    subst (λ fault. HostStops m c.args.script.now s c.args.turns c.args.left.now fault c.perform.new.playing (c.args.left.now - 1)) (sym c.play_fault.ensures)
    (action_stops m c.args.script.now s c.args.turns c.args.left.now (c.args.left.now - 1) c.in-Err.refusal
    c.perform.new.playing (omega arith) before (c.in-Err.ensures.makes m s standing))
