use Rattle.std.proofs.Common.{◌≡◌, map}
use Rattle.record_replay_spec.specs.HookedRuns.{renumbered_response}
use Rattle.hooked_scripts.proofs.answers.renumbered_responses.Given as goal

abbrev pub invariant-responses : goal.invariant-responses
invariant-responses l = l.list.items ≡ map (renumbered_response l.fn.imports) l.yielded
