use Rattle.std.proofs.Common.{◌≡◌, ◌++◌, take}
use Rattle.std.specs.Prelude.{flat_map}
use Rattle.history_spec.specs.Line.{line}
use Rattle.trace_format.specs.Text.{event_text}
use Rattle.trace_format.proofs.texts.put_events.Given as goal

abbrev pub invariant-events : goal.invariant-events
invariant-events l =
    l.out.items ≡ l.fn.out.items ++ flat_map (λ event. line (event_text event)) (take l.event-index l.events)
