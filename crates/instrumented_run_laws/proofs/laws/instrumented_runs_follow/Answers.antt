use Rattle.instrumented_run_laws.proofs.Followed.{runs_follow}
use Rattle.instrumented_run_laws.proofs.laws.instrumented_runs_follow.Goals as goal

pub returns : goal.returns
returns c =
    runs_follow
    (record {
      steps = c.laws_of_steps.ensures;
      runs = c.laws_of_runs.ensures;
      renumbered = c.indices_are_renumbered.ensures;
      answered = c.hooks_are_answered.ensures;
      bodies = c.bodies_are_instrumented.ensures;
      indices = c.instrumented_keep_indices.ensures;
      in_order = c.hook_calls_are_in_order.ensures;
      supplied = c.instrumented_are_supplied.ensures;
      opened = c.instrumented_are_instantiated.ensures;
      one_result = c.runs_have_one_result_at_most.ensures;
      some_result = c.runs_have_some_result.ensures;
    })
