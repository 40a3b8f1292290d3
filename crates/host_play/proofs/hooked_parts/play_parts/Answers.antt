use Rattle.std.proofs.Common.{subst}
use Rattle.host_play.specs.HooksSoFar.{HooksSoFar}
use Rattle.host_play.proofs.HooksOn.{ends_with_hooks}
use Rattle.host_play.proofs.hooked_parts.play_parts.Goals as goal

pub returns-in-Over : goal.returns-in-Over
returns-in-Over g c = λ m initial begun so_far.
    ends_with_hooks g.H.Hooks.is_step m c.args.script.now c.args.settings.now initial begun c.in-Over.outcome c.turns.hooks c.turns.playing c.turns.left
    (subst (λ stand. HooksSoFar g.H.Hooks.is_step m c.args.script.now c.args.settings.now initial begun c.turns.hooks
    stand c.turns.playing c.turns.left) c.in-Over.is (c.turns.invariant.0 m initial begun so_far))

pub go_until_turn-requires-clause-so_far : goal.go_until_turn-requires-clause-so_far
go_until_turn-requires-clause-so_far g c = (
  c.requires.so_far.0,
  c.requires.so_far.1,
  c.requires.so_far.2,
  c.turns.invariant.0 c.requires.so_far.0 c.requires.so_far.1 c.requires.so_far.2 c.requires.so_far.3,
)
