use Rattle.tape_laws.proofs.Ordered.{calls_in_order}
use Rattle.tape_laws.proofs.call_laws.hook_calls_are_in_order.Goals as goal

pub returns : goal.returns
returns c =
    calls_in_order c.laws_of_steps.ensures c.laws_of_runs.ensures c.instrumented_keep_indices.ensures
    c.indices_are_renumbered.ensures
