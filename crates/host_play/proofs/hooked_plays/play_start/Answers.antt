use Rattle.std.proofs.Common.{subst, sym}
use Rattle.host_play.specs.HostSteps.{entries_of, stand_after}
use Rattle.host_play.specs.HooksSoFar.{HooksSoFar}
use Rattle.host_play.specs.RunsSoFar.{BeginsPart}
use Rattle.host_play.proofs.HostParts.{part_after}
use Rattle.host_play.proofs.HooksOn.{hooks_begun}
use Rattle.host_play.proofs.hooked_plays.play_start.Goals as goal

pub play_parts-requires-clause-so_far : goal.play_parts-requires-clause-so_far
play_parts-requires-clause-so_far g c = (
  c.requires.leads.0,
  c.requires.leads.1,
  c.args.hooks.now,
  subst
      (λ stand. HooksSoFar g.H.Hooks.is_step c.requires.leads.0 c.args.script.now c.args.settings.now c.requires.leads.1
      c.args.hooks.now c.args.hooks.now stand c.args.playing c.args.settings.now.turns) (sym c.stand-first.ensures)
      (hooks_begun g.H.Hooks.is_step c.requires.leads.0 c.args.script.now c.args.settings.now c.requires.leads.1
      c.args.hooks.now (entries_of c.args.host_step.now) (stand_after c.args.host_step.now) c.args.playing
      c.requires.leads.2 c.requires.leads.3),
)

pub play_parts-requires-clause-part : goal.play_parts-requires-clause-part
play_parts-requires-clause-part g c = subst BeginsPart (sym c.stand-first.ensures) (part_after c.args.host_step.now)

pub returns : goal.returns
returns g c = λ m initial can_play leads.
    c.play_parts.ensures m initial c.args.hooks.now
    (subst (λ stand. HooksSoFar g.H.Hooks.is_step m c.args.script.now c.args.settings.now initial c.args.hooks.now
    c.args.hooks.now stand c.args.playing c.args.settings.now.turns) (sym c.stand-first.ensures)
    (hooks_begun g.H.Hooks.is_step m c.args.script.now c.args.settings.now initial c.args.hooks.now
    (entries_of c.args.host_step.now) (stand_after c.args.host_step.now) c.args.playing can_play leads))
