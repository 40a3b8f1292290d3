-- The operations' results fit, by the law that is called; the rest are lemmas on the definitions.
use Rattle.type_safety.proofs.Runs.{program_start_safe, program_step_safe, call_safe, results_safe}
use Rattle.type_safety.proofs.safe_steps.Goals as goal

pub returns-clause-starts : goal.returns-clause-starts
returns-clause-starts c = λ m heights program store main valid typed fits is_store actions.
    program_start_safe c.values_fit.ensures m heights typed valid program fits store main is_store actions

pub returns-clause-calls : goal.returns-clause-calls
returns-clause-calls c = call_safe

pub returns-clause-results : goal.returns-clause-results
returns-clause-results c = results_safe

pub returns-clause-steps : goal.returns-clause-steps
returns-clause-steps c = λ m heights program config valid typed fits is_config.
    program_step_safe c.values_fit.ensures m heights typed valid program fits config is_config
