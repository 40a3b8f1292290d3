-- What may be claimed of a tape's run beside a scripted run.
use Rattle.std.specs.Prelude.{List}
use Rattle.base.specs.declared.outcomes.Outcome.{Outcome}
use Rattle.trace_model.specs.declared.tapes.Segment.{Segment}
use Rattle.history_spec.specs.declared.entries.Entry.{Entry}
use Rattle.history_spec.specs.Store.{Store}
use Rattle.history_spec.specs.Code.{Code}
use Rattle.record_replay_spec.specs.Observations.{Observation}
use Rattle.record_replay_spec.specs.Known.{Known}
use Rattle.record_replay_spec.specs.TapeRun.{TapeResult}

-- a claim on a tape's run: by what is known and the remaining observations, the store and segments with which the
-- tape's run may go on, and what holds of its result, beside the remaining history and the outcome of the scripted run
pub record Claim : Type 1 where
  pub ready : Known → List Observation → Store → List Segment → Type 0
  pub comes : Code → TapeResult → List Entry → Outcome → Type 0
