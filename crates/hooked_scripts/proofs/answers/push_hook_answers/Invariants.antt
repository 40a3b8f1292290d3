use Rattle.std.proofs.Common.{◌≡◌, ◌++◌, Some, replicate}
use Rattle.record_replay_spec.specs.HookedRuns.{hook_answer}
use Rattle.hooked_scripts.proofs.answers.push_hook_answers.Given as goal

abbrev pub invariant-hooks : goal.invariant-hooks
invariant-hooks l = l.answers.items ≡ l.fn.answers.items ++ replicate l.counter (Some hook_answer)
