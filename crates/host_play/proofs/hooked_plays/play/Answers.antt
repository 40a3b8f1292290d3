use Rattle.std.proofs.Common.{subst, sym}
use Rattle.host_script.specs.Fits.{Fits}
use Rattle.history_spec.specs.Run.{start_in_store}
use Rattle.host_play.specs.HookedResults.{IsPlayedWithHooks}
use Rattle.host_play.specs.HooksSoFar.{CanPlay, run_in}
use Rattle.host_play.proofs.HookShapes.{can_play, hooked_fits}
use Rattle.host_play.proofs.RunStarts.{begins_with}
use Rattle.host_play.proofs.hooked_plays.play.Goals as goal

pub play_from-requires-clause-begins : goal.play_from-requires-clause-begins
play_from-requires-clause-begins g c =
    begins_with c.args.play c.requires.begins
    (subst (Fits c.args.play.code.now) (sym c.with_hooks-host.ensures) (hooked_fits c.args.play.code.now
    c.args.settings.now.imports c.requires.hooked c.args.play.script.now c.requires.begins.fits))

pub play_from-requires-clause-hooked : goal.play_from-requires-clause-hooked
play_from-requires-clause-hooked g c =
    subst (λ script. CanPlay c.args.play.code.now script c.args.settings.now) (sym c.with_hooks-host.ensures)
    (can_play c.args.play.code.now c.args.play.script.now c.args.settings.now c.requires.hooked c.requires.meter)

pub returns : goal.returns
returns g c =
    subst (λ script. IsPlayedWithHooks g.H.Hooks.is_step (run_in c.args.play.code.now script c.args.settings.now
    (start_in_store c.args.play.code.now script c.args.play.store))
    c.play_from.result c.args.hooks.now c.play_from.new.hooks) c.with_hooks-host.ensures c.play_from.ensures
