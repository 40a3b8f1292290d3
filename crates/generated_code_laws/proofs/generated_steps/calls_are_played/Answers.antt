use Rattle.generated_code_laws.proofs.PlayedCalls.{calls_played}
use Rattle.generated_code_laws.proofs.generated_steps.calls_are_played.Goals as goal

pub returns : goal.returns
returns c = calls_played
