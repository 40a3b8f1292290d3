use Rattle.generated_code_laws.proofs.Singles.{steps_lead, steps_end, steps_show}
use Rattle.generated_code_laws.proofs.single_steps.steps_lead_on.Goals as goal

pub returns : goal.returns
returns c =
    let along = c.projections_run_along.ensures in
    record { leads = steps_lead along; ends = steps_end along; shows = steps_show along }
