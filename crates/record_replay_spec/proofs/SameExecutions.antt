-- Executions that show the same, composed of their parts.
use Rattle.std.proofs.Common.{◌≡◌, List, [], Option, Some, None, refl}
use Rattle.std.specs.Prelude.{◌≢◌}
use Rattle.history_spec.specs.Store.{Store}
use Rattle.history_spec.specs.Configuration.{Frame}
use Rattle.history_spec.specs.Instruction.{Execution, on}
use Rattle.record_replay_spec.specs.Observations.{Observation, on as observed_on}
use Rattle.record_replay_spec.proofs.AlikeStores.{TakesAlike, taken_alike}
use Rattle.record_replay_spec.specs.StoreAnswers.{BothOrNeither, AnswersAll}
use Rattle.record_replay_spec.specs.Unshown.{AnswersUnshown}
use Rattle.record_replay_spec.specs.ShownStepLaws.{shown}

-- if a second execution shows the same as a first that has an entry, the other store answers what was observed
pub record IsShown (other : Store) (frame : Frame) (seen : List Observation) (first second : Execution) : Type 0 where
  pub answers : shown frame first ≢ [] → shown frame second ≡ shown frame first → AnswersUnshown other seen
      → AnswersAll other seen

module _ (other : Store) (frame : Frame) where
  abbrev Shows : List Observation → Execution → Execution → Type 0
  Shows seen first second = IsShown other frame seen first second

  -- both executions use one part
  pub both_shown : {X : Type 0} (seen : List Observation) (o : Option X) (go go' : X → Execution)
      → ((x : X) → o ≡ Some x → Shows seen (go x) (go' x)) → Shows seen (on o go) (on o go')
  both_shown seen None go go' k = record { answers = λ some same unshown. absurd (some refl) }
  both_shown seen (Some x) go go' k = k x refl

  -- both executions use one part, with what is observed of it
  pub observed_shown : {X : Type 0} (o : Option X) (observe : X → List Observation) (go go' : X → Execution)
      → ((x : X) → o ≡ Some x → Shows (observe x) (go x) (go' x))
      → Shows (observed_on o observe) (on o go) (on o go')
  observed_shown None observe go go' k = record { answers = λ some same unshown. tt }
  observed_shown (Some x) observe go go' k = k x refl

  -- both executions use a memory or a table that both stores have or neither has, with what is observed of it
  pub parts_shown : {X : Type 0} (R : X → X → Type 0) (o o' : Option X) (observe : X → List Observation)
      (go go' : X → Execution) → BothOrNeither R o o'
      → ((x x' : X) → o ≡ Some x → o' ≡ Some x' → Shows (observe x) (go x) (go' x'))
      → Shows (observed_on o observe) (on o go) (on o' go')
  parts_shown R None o' observe go go' both k = record { answers = λ some same unshown. tt }
  parts_shown R (Some x) None observe go go' both k = absurd both
  parts_shown R (Some x) (Some x') observe go go' both k = k x x' refl refl

  pub takes_shown : (seen : List Observation) → TakesAlike frame (Shows seen)
  takes_shown seen = taken_alike frame (Shows seen) (both_shown seen)
