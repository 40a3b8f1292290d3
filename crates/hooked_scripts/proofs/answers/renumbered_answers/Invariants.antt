use Rattle.std.proofs.Common.{◌≡◌, map, option_map}
use Rattle.record_replay_spec.specs.HookedRuns.{renumbered_answer}
use Rattle.hooked_scripts.proofs.answers.renumbered_answers.Given as goal

abbrev pub invariant-answers : goal.invariant-answers
invariant-answers l = l.list.items ≡ map (option_map (renumbered_answer l.fn.imports)) l.yielded
