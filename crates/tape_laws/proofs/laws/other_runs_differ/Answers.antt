use Rattle.tape_laws.proofs.OtherRuns.{other_runs_never_have_the_history}
use Rattle.tape_laws.proofs.laws.other_runs_differ.Goals as goal

pub returns : goal.returns
returns c = other_runs_never_have_the_history
