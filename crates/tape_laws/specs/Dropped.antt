-- A tape with something removed, and a run with a history other than a given one.
use Rattle.std.specs.Prelude.{◌≡◌, ◌≢◌, ◌⊎◌, ℕ, List, [], ◌∷◌, ◌++◌, Option, Some, None, Ok, true}
use Rattle.std.specs.List.{list_all}
use Rattle.wasm_syntax.specs.declared.modules.Module.{Module}
use Rattle.wasm_syntax.specs.Encoding.Forms.{IsCoreModule}
use Rattle.host_script.specs.declared.scripts.Script.{Script}
use Rattle.host_script.specs.declared.scripts.Supply.{Supply}
use Rattle.host_script.specs.Fits.{Fits}
use Rattle.host_script.specs.Supply.{supply_of}
use Rattle.trace_model.specs.declared.tapes.Effect.{Effect}
use Rattle.trace_model.specs.declared.tapes.Segment.{Segment}
use Rattle.trace_model.specs.Effects.{AreOrdered}
use Rattle.history_spec.specs.declared.entries.Entry.{Entry}
use Rattle.history_spec.specs.Store.{Store}
use Rattle.history_spec.specs.Code.{Code, code_of}
use Rattle.history_spec.specs.Instantiation.{instantiate}
use Rattle.history_spec.specs.Run.{all_one, program_of, start_in_store, run_from}
use Rattle.record_replay_spec.specs.Observations.{Observation, Begins, Ends, run_observations}
use Rattle.record_replay_spec.specs.Known.{last_some}
use Rattle.record_replay_spec.specs.Windows.{window}
use Rattle.record_replay_spec.specs.Needed.{effect_byte, effect_entry, effect_global, effect_pages, effect_entries, has_bytes, IsNeededTape}
use Rattle.record_replay_spec.specs.TapeRun.{TapeResult, Disagrees, tape_result, tape_run}
use Rattle.record_replay_spec.specs.Unshown.{first_copied}
use Rattle.type_safety.specs.Supplies.{IsRunnable}

-- ---- what is left of a tape

-- the value is unchanged or removed
abbrev pub IsLeft : {X : Type 0} → (was left : Option X) → Type 0
IsLeft was left = (left ≡ was) ⊎ (left ≡ None)

-- The effects of an activity with some bytes, entries, globals and growths removed: the others are in the order of
-- effects, with the bytes in longest runs. A byte that a copy reads first in the window is not removed.
pub record AreLeft (window : List Observation) (effects left : List Effect) : Type 0 where
  pub ordered : AreOrdered left
  pub nonempty : list_all has_bytes left ≡ true
  pub pages : IsLeft (last_some effect_pages effects) (last_some effect_pages left)
  pub entries : IsLeft (last_some effect_entries effects) (last_some effect_entries left)
  pub byte : (at : ℕ) → IsLeft (last_some (effect_byte at) effects) (last_some (effect_byte at) left)
  pub entry : (at : ℕ) → IsLeft (last_some (effect_entry at) effects) (last_some (effect_entry at) left)
  pub global : (at : ℕ) → IsLeft (last_some (effect_global at) effects) (last_some (effect_global at) left)
  pub copied : (at x : ℕ) → first_copied window at ≡ Some x
      → last_some (effect_byte at) left ≡ last_some (effect_byte at) effects

-- an activity's segment with some of its effects removed
pub record IsLeftSegment (window : List Observation) (segment left : Segment) : Type 0 where
  pub begins : left.origin ≡ segment.origin
  pub leaves : left.next ≡ segment.next
  pub changes : AreLeft window segment.effects left.effects

-- the segments of all activities in these observations, each with some of its effects removed
abbrev pub AreLeftSegments : List Observation → (segments left : List Segment) → Type 0
AreLeftSegments [] segments left = left ≡ segments
AreLeftSegments (Begins origin ∷ Ends next ∷ later) (segment ∷ segments) (other ∷ left) =
    IsLeftSegment (window later) segment other × AreLeftSegments later segments left
AreLeftSegments (Begins origin ∷ later) segments left = ⊥
AreLeftSegments (o ∷ later) segments left = AreLeftSegments later segments left

-- ---- another run

-- the run of a tape differs from this history: after some entries of the history the run disagrees before it has the
-- next, or its next entry is another
pub data IsAnother (run : ℕ → TapeResult) (history : List Entry) : Type 0 where
  DisagreesEarly : (count : ℕ) (shown : List Entry) (missing : Entry) (more : List Entry)
      (is : history ≡ shown ++ missing ∷ more) (disagrees : run count ≡ tape_result shown Disagrees)
      → IsAnother run history
  HasAnother : (count : ℕ) (shown : List Entry) (entry other : Entry) (more after : List Entry)
      (is : history ≡ shown ++ entry ∷ more) (has : (run count).entries ≡ shown ++ other ∷ after)
      (apart : other ≢ entry) → IsAnother run history

-- a run that differs from a history has that history after no number of steps
abbrev pub OtherRunsNeverHaveTheHistory : Type 0
OtherRunsNeverHaveTheHistory =
    (code : Code) (store : Store) (segments : List Segment) (history : List Entry)
    → IsAnother (tape_run code store segments) history → (count : ℕ)
    → (tape_run code store segments count).entries ≢ history

-- ---- the law

-- nothing can be removed from the segments that a run needs: the run of what is left disagrees before it has the run's
-- history, or has another
abbrev pub HasNothingToSpare : (m : Module) (script : Script) (store : Store) (segments : List Segment)
    → IsNeededTape (program_of m script) (start_in_store m script store) store segments → Type 0
HasNothingToSpare m script store segments needed =
    (left : List Segment)
    → AreLeftSegments (run_observations (program_of m script) (start_in_store m script store) needed.count) segments
    left
    → left ≢ segments
    → IsAnother (tape_run (code_of m) store left)
    (run_from (program_of m script) all_one (start_in_store m script store) needed.count).history

-- nothing can be removed from a needed tape, for each module of the form Core that can be run and each script that fits
-- it and links with it
abbrev pub NothingCanBeDropped : Type 0
NothingCanBeDropped =
    (m : Module) (script : Script) (supply : Supply) (store : Store) (segments : List Segment)
    → IsRunnable m → IsCoreModule m → Fits m script → supply_of m script ≡ Ok supply → instantiate m supply ≡ Ok store
    → (needed : IsNeededTape (program_of m script) (start_in_store m script store) store segments)
    → HasNothingToSpare m script store segments needed
