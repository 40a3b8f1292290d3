-- A law on the remaining moments of a trail holds if it holds of each first moment, by the moment's entry.
use Rattle.std.proofs.Common.{List, [], ◌∷◌, Option}
use Rattle.wasm_syntax.specs.declared.modules.Module.{Module}
use Rattle.base.specs.declared.outcomes.Outcome.{Outcome}
use Rattle.history_spec.specs.declared.entries.Entry.{Entry}
use Rattle.history_spec.specs.Store.{Store}
use Rattle.record_replay_spec.specs.Known.{Known}
use Rattle.record_replay_spec.specs.Observations.{Observation}
use Rattle.record_replay_spec.specs.Logs.{LogState}
use Rattle.record_replay_spec.specs.Order.{HookedShape}
use Rattle.record_replay_spec.specs.ReportedCalls.{Moment}
use Rattle.tape_laws.proofs.Trails.{Level, IsAtEntry, IsTrail}

-- what is given at a point of a trail, and the law on the moments that remain
module _ (m : Module) (shape : HookedShape) (outcome : Option Outcome)
    (IsGiven : List Level → Known → Store → List Observation → LogState → Type 0)
    (Holds : List Level → Known → Store → List Observation → LogState → List Moment → Type 0) where
  -- the law holds of these moments
  abbrev pub HoldsFor : List Moment → Type 0
  HoldsFor moments =
      (levels : List Level) (known : Known) (store : Store) (left : List Observation) (st : LogState)
      → IsTrail m shape outcome moments levels known store left → IsGiven levels known store left st
      → Holds levels known store left st moments

  -- the law holds of a first moment with this entry and of those after it, if it holds of those after it
  abbrev pub HoldsFirst : Entry → Type 0
  HoldsFirst entry =
      (later : List Moment) (moment : Moment) (levels : List Level) (known : Known) (store : Store)
      (left : List Observation) (st : LogState)
      → IsAtEntry m shape levels known store left outcome later moment entry (IsTrail m shape outcome later)
      → IsGiven levels known store left st → HoldsFor later
      → Holds levels known store left st (record moment { entry = entry } ∷ later)

  pub holds_for : ((entry : Entry) → HoldsFirst entry) → HoldsFor [] → (moments : List Moment) → HoldsFor moments
  holds_for first none [] levels known store left st h given = none levels known store left st h given
  holds_for first none (moment ∷ later) levels known store left st h given =
      first moment.entry later moment levels known store left st h given (holds_for first none later)
