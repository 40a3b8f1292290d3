use Rattle.generated_code_laws.proofs.Singles.{leads_end, leads_show}
use Rattle.generated_code_laws.proofs.single_steps.leads_go_on.Goals as goal

pub returns-clause-shows : goal.returns-clause-shows
returns-clause-shows c = leads_show

pub returns-clause-ends : goal.returns-clause-ends
returns-clause-ends c = leads_end c.items_show_projections.ensures.held
