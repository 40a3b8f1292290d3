use Rattle.std.proofs.Common.{subst, sym}
use Rattle.host_play.specs.declared.play_state.Stand.TheVariants as at
use Rattle.host_play.specs.HooksSoFar.{HooksOn, HooksSoFar}
use Rattle.host_play.proofs.Errors.{at_error}
use Rattle.host_play.proofs.HooksOn.{host_did, host_stops}
use Rattle.host_play.proofs.hooked_parts.go_on.Goals as goal

pub returns-in_ok-host_step-in-Host-clause-goes : goal.returns-in_ok-host_step-in-Host-clause-goes
returns-in_ok-host_step-in-Host-clause-goes g c = λ m initial begun so_far.
    let t : HooksSoFar g.H.Hooks.is_step m c.args.script.now c.args.settings.now initial begun c.args.hooks.now at.Host c.args.playing.now c.args.left.now =
    subst (λ st. HooksSoFar g.H.Hooks.is_step m c.args.script.now c.args.settings.now initial begun c.args.hooks.now st
    c.args.playing.now c.args.left.now) c.in-Host.is so_far in
    subst (λ st. HooksSoFar g.H.Hooks.is_step m c.args.script.now c.args.settings.now initial begun c.args.hooks.now st
    c.go_host.new.playing c.go_host.new.left) (sym c.stand.ensures)
    (host_did g.H.Hooks.is_step m c.args.script.now c.args.settings.now initial begun c.args.hooks.now
    c.args.playing.now c.args.left.now t c.in_ok-host_step-in-Host.host_step c.go_host.new.playing c.go_host.new.left
    (c.in_ok-host_step-in-Host.ensures.goes m t.reached.pending t.reached.standing))

pub returns-in_err-host_step-in-Host-clause-goes : goal.returns-in_err-host_step-in-Host-clause-goes
returns-in_err-host_step-in-Host-clause-goes g c = λ m initial begun so_far.
    let t : HooksSoFar g.H.Hooks.is_step m c.args.script.now c.args.settings.now initial begun c.args.hooks.now at.Host c.args.playing.now c.args.left.now =
    subst (λ st. HooksSoFar g.H.Hooks.is_step m c.args.script.now c.args.settings.now initial begun c.args.hooks.now st
    c.args.playing.now c.args.left.now) c.in-Host.is so_far in
    at_error c.from_residual.result c.in_err-host_step-in-Host.field-0.0
    (λ result. HooksOn g.H.Hooks.is_step m c.args.script.now c.args.settings.now initial begun c.args.hooks.now result
    c.go_host.new.playing c.go_host.new.left) c.from_residual.ensures.1
    (host_stops g.H.Hooks.is_step m c.args.script.now c.args.settings.now initial begun c.args.hooks.now
    c.args.playing.now c.args.left.now t c.in_err-host_step-in-Host.field-0.0 c.go_host.new.playing c.go_host.new.left
    (c.in_err-host_step-in-Host.ensures.goes m t.reached.pending t.reached.standing))
