use Rattle.std.proofs.Common.{subst}
use Rattle.r3_make.specs.FrozenRuns.{IsFrozenBy}
use Rattle.r3_make.proofs.frozen_runs.frozen_record.Goals as goal

pub returns : goal.returns
returns c = λ r number by.
    let made = c.closed.ensures in
    subst (λ answer. IsFrozenBy r number answer c.args.freezer) c.in_ok-outcome.was by c.closed.result made.outcome
    made.reducer made.calls made.frozen
