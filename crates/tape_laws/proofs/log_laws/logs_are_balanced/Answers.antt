use Rattle.tape_laws.proofs.BalancedRuns.{logs_balance}
use Rattle.tape_laws.proofs.log_laws.logs_are_balanced.Goals as goal

pub returns : goal.returns
returns c =
    logs_balance c.laws_of_steps.ensures c.laws_of_runs.ensures c.instrumented_keep_indices.ensures
    c.indices_are_renumbered.ensures c.run_has_one_needed_tape.ensures
