use Rattle.std.proofs.Common.{◌-◌, ◌≤◌, ◌++◌, sym, subst, arith}
use Rattle.std.specs.Prelude.{None}
use Rattle.host_play.specs.declared.play_state.Stand.TheVariants as at
use Rattle.host_play.specs.declared.host_steps.PlayStep.{PlayStep}
use Rattle.host_play.specs.Results.{Refuses}
use Rattle.history_spec.specs.Run.{program_of}
use Rattle.host_play.specs.RunsSoFar.{ComesTo, GoesBy}
use Rattle.host_play.proofs.Errors.{at_error}
use Rattle.host_play.proofs.HostParts.{host_comes, host_refuses}
use Rattle.host_play.proofs.NextSteps.{goes_free, free_fails}
use Rattle.host_play.proofs.steps.go.Goals as goal

pub returns-in-Ok-clause-goes : goal.returns-in-Ok-clause-goes
returns-in-Ok-clause-goes c = λ m initial history reached.
    let r : ComesTo m c.args.script.now None initial c.args.turns history at.Module c.args.playing.now c.args.left.now =
    subst (λ st. ComesTo m c.args.script.now None initial c.args.turns history st c.args.playing.now c.args.left.now)
    c.in-Module.is reached in
    let small : c.args.left.now ≤ c.args.turns = c.requires.left in
    goes_free m c.args.script.now None initial c.args.turns history at.Module c.args.playing.now c.args.left.now r
    c.in-Ok.moved c.settle.new.playing (c.in-Ok.ensures.leads m r.pending r.standing)

pub returns-in-Err-clause-goes : goal.returns-in-Err-clause-goes
returns-in-Err-clause-goes c = λ m initial history reached.
    let r : ComesTo m c.args.script.now None initial c.args.turns history at.Module c.args.playing.now c.args.left.now =
    subst (λ st. ComesTo m c.args.script.now None initial c.args.turns history st c.args.playing.now c.args.left.now)
    c.in-Module.is reached in
    let small : c.args.left.now ≤ c.args.turns = c.requires.left in
    subst (Refuses (program_of m c.args.script.now) initial c.args.turns) (sym c.play_fault.ensures) (free_fails m
    c.args.script.now initial c.args.turns history at.Module c.args.playing.now c.args.left.now r c.in-Err.refusal
    c.settle.new.playing (c.args.turns - c.args.left.now) (omega arith) (c.in-Err.ensures.leads m r.pending r.standing))

pub returns-in_ok-play_step-in-Host-clause-goes : goal.returns-in_ok-play_step-in-Host-clause-goes
returns-in_ok-play_step-in-Host-clause-goes c = λ m initial history reached.
    let r : ComesTo m c.args.script.now None initial c.args.turns history at.Host c.args.playing.now c.args.left.now =
    subst (λ st. ComesTo m c.args.script.now None initial c.args.turns history st c.args.playing.now c.args.left.now)
    c.in-Host.is reached in
    subst (λ (moved : PlayStep). ComesTo m c.args.script.now None initial c.args.turns (history ++ moved.entries)
    moved.stand c.go_host.new.playing c.go_host.new.left) (sym c.in_ok-play_step-in-Host.ensures)
    (host_comes m c.args.script.now None initial c.args.turns history c.args.playing.now c.args.left.now r
    c.in_ok-host_step-in-Host.host_step c.go_host.new.playing c.go_host.new.left
    (c.in_ok-host_step-in-Host.ensures.goes m r.pending r.standing))

pub returns-in_err-host_step-in-Host-clause-goes : goal.returns-in_err-host_step-in-Host-clause-goes
returns-in_err-host_step-in-Host-clause-goes c = λ m initial history reached.
    let r : ComesTo m c.args.script.now None initial c.args.turns history at.Host c.args.playing.now c.args.left.now =
    subst (λ st. ComesTo m c.args.script.now None initial c.args.turns history st c.args.playing.now c.args.left.now)
    c.in-Host.is reached in
    at_error c.from_residual.result c.in_err-host_step-in-Host.field-0.0
    (λ result. GoesBy m c.args.script.now initial c.args.turns history result c.go_host.new.playing c.go_host.new.left)
    c.from_residual.ensures.1
    (host_refuses m c.args.script.now initial c.args.turns history c.args.playing.now c.args.left.now r
    c.in_err-host_step-in-Host.field-0.0 c.go_host.new.playing c.go_host.new.left
    (c.in_err-host_step-in-Host.ensures.goes m r.pending r.standing))
