-- Laws of the items of a run and of their projection.
use Rattle.std.specs.Prelude.{◌≡◌, ℕ, List, [], ◌++◌, Option, map, true}
use Rattle.wasm_syntax.specs.declared.values.Val.{Val}
use Rattle.trace_model.specs.declared.tapes.Effect.{Effect}
use Rattle.trace_model.specs.declared.tapes.Segment.{Segment}
use Rattle.history_spec.specs.declared.entries.Entry.{Entry}
use Rattle.history_spec.specs.declared.entries.TrapKind.{TrapKind}
use Rattle.history_spec.specs.Store.{Store}
use Rattle.history_spec.specs.Code.{Code}
use Rattle.history_spec.specs.Configuration.{Frame}
use Rattle.history_spec.specs.Instruction.{Traps, execute}
use Rattle.history_spec.specs.Step.{Program, StepResult}
use Rattle.history_spec.specs.Run.{Meter, run_from}
use Rattle.history_spec.specs.Projection.{Layout, shown_entries}
use Rattle.record_replay_spec.specs.ObservedStepLaws.{observed}
use Rattle.replay_run_spec.specs.Inside.{inside_after_all, args_after_all}
use Rattle.replay_run_spec.specs.Items.{Item, changes_of, run_items, shown_items, entries_in}
use Rattle.replay_run_spec.specs.Stretches.{AreSameChanges, AreEffectsOf, all_joined}
use Rattle.replay_run_spec.specs.Steps.{StepCount, AreWithinBound, are_within_bound}

-- the projection of two parts of a history is that of the first, followed by that of the second from the state
-- after the first
abbrev pub ProjectionsRunAlong : Type 0
ProjectionsRunAlong = (layout : Layout) (inside : List ℕ) (args : List Val) (first second : List Entry)
    → shown_entries layout inside args (first ++ second)
    ≡ shown_entries layout inside args first
    ++ shown_entries layout (inside_after_all inside first) (args_after_all args first) second

-- the entries among the items of a run are its history
abbrev pub ItemsHoldHistories : Type 0
ItemsHoldHistories = (layout : Layout) (globals : ℕ) (program : Program) (meter : Meter) (initial : StepResult) (k : ℕ)
    → entries_in (run_items layout globals program initial k) ≡ (run_from program meter initial k).history

-- the entries among the projected items are the projection of the entries among the items
abbrev pub ItemsShowProjections : Type 0
ItemsShowProjections = (layout : Layout) (inside : List ℕ) (args : List Val) (items : List Item)
    → entries_in (shown_items layout inside args items) ≡ shown_entries layout inside args (entries_in items)

-- an instruction that traps changes nothing
abbrev pub TrapsChangeNothing : Type 0
TrapsChangeNothing = (globals : ℕ) (code : Code) (store : Store) (frame : Frame)
    → (kind : TrapKind) (operands : List Val) (found : Option ℕ)
    → execute code store frame ≡ Traps kind operands found → changes_of globals (observed store frame) ≡ []

-- changes whose adjacent bytes are joined make the same changes
abbrev pub JoinedChangesAreSame : Type 0
JoinedChangesAreSame = (changes : List Effect) → AreSameChanges changes (all_joined changes)

-- if the plain test passes, stretches make exactly the effects of segments
abbrev pub EffectsAreTested : Type 0
EffectsAreTested = (segments : List Segment) (changes : List (List Effect))
    → map all_joined changes ≡ map (λ (segment : Segment). segment.effects) segments → AreEffectsOf segments changes

-- the steps of calls are within the bound if and only if the plain test passes
abbrev pub BoundsAreTested : Type 0
BoundsAreTested = (plan : List (List (List Segment))) (counts : List (List StepCount))
    → (are_within_bound plan counts ≡ true → AreWithinBound plan counts)
    × (AreWithinBound plan counts → are_within_bound plan counts ≡ true)
