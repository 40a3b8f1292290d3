use Rattle.tape_laws.proofs.WholeLogs.{logs_give}
use Rattle.tape_laws.proofs.log_laws.logs_give_needed_tapes.Goals as goal

pub returns : goal.returns
returns c =
    logs_give c.laws_of_steps.ensures c.laws_of_runs.ensures c.instrumented_keep_indices.ensures
    c.indices_are_renumbered.ensures
