use Rattle.generated_code_laws.proofs.Selections.{dispatches_reach, selectors_count}
use Rattle.generated_code_laws.proofs.generated_steps.dispatches_reach_arms.Goals as goal

pub returns-clause-arms : goal.returns-clause-arms
returns-clause-arms c = dispatches_reach

pub returns-clause-selectors : goal.returns-clause-selectors
returns-clause-selectors c = selectors_count
