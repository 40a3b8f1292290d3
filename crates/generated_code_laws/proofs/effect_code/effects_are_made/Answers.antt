use Rattle.generated_code_laws.proofs.All.{effects_made}
use Rattle.generated_code_laws.proofs.effect_code.effects_are_made.Goals as goal

pub returns : goal.returns
returns c = effects_made
