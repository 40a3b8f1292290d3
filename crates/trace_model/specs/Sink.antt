-- What a sink of events has taken.
use Rattle.std.specs.Prelude.{List, ◌++◌}
use Rattle.trace_model.specs.declared.events.Event.{Event}

-- whatever events the sink had taken before, and whatever sink it was before them, it has now taken these events after
-- them
abbrev pub TookAlso : {S : Type 0} → (S → S → List Event → Type 0) → S → S → List Event → Type 0
TookAlso {S} has_taken before now more =
    (first : S) (taken : List Event) → has_taken first before taken → has_taken first now (taken ++ more)
