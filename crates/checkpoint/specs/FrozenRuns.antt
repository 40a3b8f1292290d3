-- What the runs of a freezer give.
use Rattle.std.specs.Prelude.{◌≡◌, ℕ, ◌-◌, ◌^◌, ◌<◌, min, List, Option, Some, None, Ok, Err}
use Rattle.trace_model.specs.declared.events.Event.{Event}
use Rattle.trace_model.specs.Sink.{TookAlso}
use Rattle.hook_names.specs.declared.hooks.HookFault.TheVariants.{Order}
use Rattle.hook_names.specs.Steps.{IsRun}
use Rattle.record_replay_spec.specs.Hooks.{HookCall}
use Rattle.record_replay_spec.specs.Order.{HookedShape, OrderState, first_disorder}
use Rattle.record_replay_spec.specs.Logs.{LogState, events_from}
use Rattle.recorder.specs.FrozenViews.{FrozenView, ShowsFrozen}
use Rattle.recorder.specs.Recorders.{StandsAt}
use Rattle.rest_spec.specs.TopEnters.{top_enters, log_before}
use Rattle.checkpoint.specs.Freezers.{Freezing, IsFreezerStep}

-- what is frozen after hook calls that begin with nothing frozen: what the log knows just before the top-level call
-- that is looked for, if they report it
abbrev pub IsFrozenAt : HookedShape → Option LogState → Option FrozenView → Type 0
IsFrozenAt shape None frozen = frozen ≡ None
IsFrozenAt shape (Some log) frozen =
    (view : FrozenView) × (frozen ≡ Some view) × ShowsFrozen view log.known × (view.imports ≡ shape.imports)

-- A run of hook calls that are all accepted, from a new freezer: the sink took exactly the events of their log, the
-- top-level calls that they report are counted, and the recorder was frozen before the one that is looked for.
pub record IsFrozenRun {S : Type 0} (has_taken : S → S → List Event → Type 0) (before : Freezing S)
    (shape : HookedShape) (order : OrderState) (log : LogState) (at : ℕ) (calls : List HookCall) (after : Freezing S)
    : Type 0 where
  pub reported : List Event
  pub events : events_from shape order log at calls ≡ Ok reported
  pub took : TookAlso has_taken before.recorder.recording.sink after.recorder.recording.sink reported
  pub counted : after.calls ≡ min (top_enters shape order calls) (2 ^ 64 - 1)
  pub frozen : IsFrozenAt shape (log_before shape order log before.number calls) after.recorder.frozen

-- from a new freezer, whose recorder is at these states of the order and of the log, and has frozen nothing: a run of
-- hook calls that are all accepted is recorded, counted and frozen; if a hook call is refused as out of order, it is
-- the first such call
pub record RunsFreeze {S : Type 0} (has_taken : S → S → List Event → Type 0) (before : Freezing S) (shape : HookedShape)
    (order : OrderState) (log : LogState) (at : ℕ) : Type 0 where
  pub accepted : (calls : List HookCall) (after : Freezing S)
      → IsRun (IsFreezerStep has_taken) before calls (Ok tt) after
      → IsFrozenRun has_taken before shape order log at calls after
  pub refused : (calls : List HookCall) (number : ℕ) (after : Freezing S)
      → IsRun (IsFreezerStep has_taken) before calls (Err (Order number)) after
      → first_disorder shape order at calls ≡ Some number

-- the runs of each new freezer
abbrev pub RunsAreFrozen : {S : Type 0} → (has_taken : S → S → List Event → Type 0) → Type 0
RunsAreFrozen {S} has_taken =
    (before : Freezing S) (shape : HookedShape) (order : OrderState) (log : LogState) (at : ℕ)
    → StandsAt before.recorder shape order log at → before.calls ≡ 0 → before.number < 2 ^ 32
    → before.recorder.frozen ≡ None → RunsFreeze has_taken before shape order log at
