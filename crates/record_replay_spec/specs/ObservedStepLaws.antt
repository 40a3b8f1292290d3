-- The laws of observed steps, one statement each.
use Rattle.std.specs.Prelude.{List}
use Rattle.wasm_syntax.specs.declared.values.Val.{Val}
use Rattle.wasm_syntax.specs.Nest.{Nest}
use Rattle.history_spec.specs.Store.{Store}
use Rattle.history_spec.specs.Code.{Code}
use Rattle.history_spec.specs.Configuration.{Frame}
use Rattle.history_spec.specs.Instruction.{execute}
use Rattle.record_replay_spec.specs.Observations.{Observation, nest_observations}
use Rattle.record_replay_spec.specs.StoreAnswers.{AnswersAlike, AnswersAll, HasWholePages, SameKind}
use Rattle.record_replay_spec.specs.Changes.{CanChangeAll, OnlyLastChanges, with_changes}
use Rattle.record_replay_spec.specs.Executions.{IsExecutedAlike, Shares}

-- what the next instruction of an activation observes
abbrev pub observed : Store → Frame → List Observation
observed store frame = nest_observations store frame.values frame.at.rest

-- an instruction does the same in two stores that answer alike what it observes, and changes each as observed; also by
-- other code that has more functions
abbrev pub ObservedStepsAreAlike : Type 0
ObservedStepsAreAlike =
    (code other_code : Code) (store other : Store) (frame : Frame)
    → Shares code other_code → AnswersAlike store other (observed store frame)
    → IsExecutedAlike code store other (observed store frame) frame (execute code store frame)
    (execute other_code other frame)

-- a store answers what is observed of it
abbrev pub StoresAnswerThemselves : Type 0
StoresAnswerThemselves =
    (store : Store) (values : List Val) (nest : Nest)
    → HasWholePages store → AnswersAll store (nest_observations store values nest)

-- only the last observation of an instruction may change a store
abbrev pub ChangesComeLast : Type 0
ChangesComeLast =
    (store : Store) (values : List Val) (nest : Nest) → OnlyLastChanges (nest_observations store values nest)

-- an instruction changes a store as it observes, and that change is possible
abbrev pub StepsChangeAsObserved : Type 0
StepsChangeAsObserved =
    (code : Code) (store : Store) (frame : Frame) → HasWholePages store
    → IsExecutedAlike code store store (observed store frame) frame (execute code store frame)
    (execute code store frame)

-- possible changes leave a store of its kind
abbrev pub ChangesKeepKinds : Type 0
ChangesKeepKinds =
    (store : Store) (seen : List Observation) → CanChangeAll store seen
    → SameKind store (with_changes store seen) × SameKind (with_changes store seen) store

-- a store of the kind of a second store, which is of the kind of a first, is of the kind of the first
abbrev pub KindsCompose : Type 0
KindsCompose = (first second third : Store) → SameKind first second → SameKind second third → SameKind first third
