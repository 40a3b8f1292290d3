use Rattle.std.proofs.Common.{ℕ, List, drop}
use Rattle.trace_model.specs.declared.events.Event.{Event}
use Rattle.trace_reduce.specs.Reducer.{IsPart}
use Rattle.trace_reduce.proofs.logs.push_all.Given as goal

abbrev pub invariant-events : goal.invariant-events
invariant-events l =
    (n most : ℕ) (all : List Event) → IsPart n most all l.events l.initial.reducer
    → IsPart n most all (drop l.event-index l.events) l.reducer
