use Rattle.tape_laws.proofs.RunCalls.{calls_observe}
use Rattle.tape_laws.proofs.call_laws.hook_calls_observe_runs.Goals as goal

pub returns : goal.returns
returns c = calls_observe c.laws_of_steps.ensures c.laws_of_runs.ensures c.instrumented_keep_indices.ensures
