use Rattle.std.proofs.Common.{◌≡◌, map}
use Rattle.record_replay_spec.specs.HookedRuns.{renumbered_action}
use Rattle.hooked_scripts.proofs.actions.renumbered_actions.Given as goal

abbrev pub invariant-actions : goal.invariant-actions
invariant-actions l = l.list.items ≡ map (renumbered_action l.fn.imports) l.yielded
