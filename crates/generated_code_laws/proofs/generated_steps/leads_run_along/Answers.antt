use Rattle.generated_code_laws.proofs.Along.{along}
use Rattle.generated_code_laws.proofs.generated_steps.leads_run_along.Goals as goal

pub returns : goal.returns
returns c = along
