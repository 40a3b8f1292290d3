-- What a reducer has taken: the events of a log so far. It holds their tape.
use Rattle.std.specs.Prelude.{◌≡◌, ℕ, List, [], ◌∷◌, ◌++◌, length, map, Some, Bool, true, false, cond, is_none}
use Rattle.base.specs.declared.outcomes.Outcome.{Outcome}
use Rattle.base.specs.declared.outcomes.Outcome.TheVariants.{Trapped}
use Rattle.trace_model.specs.declared.balance.Frame.{Frame}
use Rattle.trace_model.specs.declared.balance.Frame.TheVariants.{Function, Call}
use Rattle.trace_model.specs.declared.balance.Balance.{Balance}
use Rattle.trace_model.specs.declared.events.Event.{Event}
use Rattle.trace_model.specs.Balance.{balance_start, is_function, unbalanced_from}
use Rattle.record_replay_spec.specs.LogTapes.{Mark, LogFrame, InFunction, InCall, is_at_host, event_marks, size_after, marks_from, outcome_marks, log_marks}
use Rattle.trace_reduce.specs.Answers.{reported_place}
use Rattle.trace_reduce.specs.Builder.{IsAtHost, IsInWindow, TakesMarks}
use Rattle.trace_reduce.specs.declared.builder.TapeBuilder.{TapeBuilder}
use Rattle.trace_reduce.specs.declared.reducer.Progress.{Progress}
use Rattle.trace_reduce.specs.declared.reducer.Progress.TheVariants.{InOrder, Unbalanced, Lost}
use Rattle.trace_reduce.specs.declared.reducer.Reducer.{Reducer}

-- an open function or call, in the form that the tape of a log uses
abbrev pub log_frame : Frame → LogFrame
log_frame (Function func) = InFunction
log_frame (Call callee entered) = InCall callee

abbrev pub log_frames : List Frame → List LogFrame
log_frames frames = map log_frame frames

-- below each open call is an open function
abbrev pub calls_stand : List Frame → Bool
calls_stand [] = true
calls_stand (Function func ∷ below) = calls_stand below
calls_stand (Call callee entered ∷ below) = cond (is_function below) (calls_stand below) false

-- the tape so far, by the marks before its last activity and by all marks
abbrev pub IsBuilt : (at_host : Bool) → TapeBuilder → (before marks : List Mark) → Type 0
IsBuilt true builder before marks = IsAtHost builder before marks
IsBuilt false builder before marks = IsInWindow builder marks

-- the marks at the end of the run: if the last event is a call and the run trapped, the marks before that event
abbrev pub last_marks : Outcome → (called at_host : Bool) → (before marks : List Mark) → List Mark
last_marks Trapped true true before marks = before
last_marks outcome called at_host before marks = marks

-- an allocation failed, so the tape is lost
abbrev pub HasLost : Reducer → Type 0
HasLost reducer = reducer.progress ≡ Lost

-- all events so far are balanced, and the reducer's state is that of these events; their count stays at the greatest
-- number of 64 bits
pub record IsInOrder (n : ℕ) (balance : Balance) (builder : TapeBuilder) (size count : ℕ) (taken : List Event)
    : Type 0 where
  pub counted : count ≡ reported_place (length taken)
  pub balanced : (outcome : Outcome) (later : List Event) → unbalanced_from n 0 balance_start outcome (taken ++ later)
      ≡ unbalanced_from n (length taken) balance outcome later
  pub stand : calls_stand balance.frames ≡ true
  pub before : List Mark
  pub marks : List Mark
  pub built : IsBuilt (is_at_host n (log_frames balance.frames)) builder before marks
  pub goes_on : (outcome : Outcome) (event : Event) (later : List Event)
      → log_marks (record { imports = n; events = taken ++ event ∷ later; outcome = outcome })
      ≡ marks ++ marks_from n outcome (log_frames balance.frames) size (event ∷ later)
  pub ends : (outcome : Outcome)
      → log_marks (record { imports = n; events = taken; outcome = outcome })
      ≡ last_marks outcome balance.called (is_at_host n (log_frames balance.frames)) before marks
      ++ outcome_marks outcome

-- one of these events is the first that is not allowed, whatever comes after them, and this number is reported for it
pub record IsUnbalanced (n : ℕ) (taken : List Event) (number : ℕ) : Type 0 where
  pub place : ℕ
  pub first : (outcome : Outcome) (later : List Event)
      → unbalanced_from n 0 balance_start outcome (taken ++ later) ≡ Some place
  pub reported : number ≡ reported_place place

abbrev pub HasReached : Progress → Reducer → List Event → Type 0
HasReached InOrder reducer taken =
    IsInOrder reducer.imports reducer.balance reducer.builder reducer.size reducer.count taken
HasReached (Unbalanced number) reducer taken = IsUnbalanced reducer.imports taken number
HasReached Lost reducer taken = Unit {0}

-- a reducer has taken these events
abbrev pub HasTaken : Reducer → List Event → Type 0
HasTaken reducer taken = HasReached reducer.progress reducer taken

-- the number of imported functions of the log's module
abbrev pub imports_of : Reducer → ℕ
imports_of reducer = reducer.imports

-- the limit of the tape's weight
abbrev pub most_of : Reducer → ℕ
most_of reducer = reducer.builder.tape.most

-- a reducer for a log of a module that imports this number of functions, and for a tape of at most this weight, has
-- taken these events
pub record HasTakenFor (imports most : ℕ) (reducer : Reducer) (taken : List Event) : Type 0 where
  pub has : HasTaken reducer taken
  pub imports_are : imports_of reducer ≡ imports
  pub most_is : most_of reducer ≡ most

-- the reducer that began as the first has taken these events; what it was made for has not changed
abbrev pub HasTakenSince : (first reducer : Reducer) → List Event → Type 0
HasTakenSince first reducer taken = HasTakenFor (imports_of first) (most_of first) reducer taken

-- one more event is taken, after balanced events
abbrev pub TakesEvent : Reducer → Event → Reducer → Type 0
TakesEvent old event new =
    (taken : List Event)
    → IsInOrder old.imports old.balance old.builder old.size old.count taken
    → HasTaken new (taken ++ event ∷ [])

-- the builder has taken the marks of an event that the balance has taken already
pub record Reports (old : Reducer) (event : Event) (new : Reducer) : Type 0 where
  pub balance : new.balance ≡ old.balance
  pub size : new.size ≡ size_after old.size event
  pub count : new.count ≡ old.count
  pub progress : new.progress ≡ old.progress
  pub marks : (frames : List LogFrame) → is_at_host old.imports frames ≡ is_none old.builder.next
      → TakesMarks old.builder
      (event_marks old.imports frames (log_frames old.balance.frames) old.size event) new.builder

-- a reducer has taken the events of a log that come before the rest
pub record IsPart (n most : ℕ) (all later : List Event) (reducer : Reducer) : Type 0 where
  pub taken : List Event
  pub whole : taken ++ later ≡ all
  pub has : HasTaken reducer taken
  pub imports : imports_of reducer ≡ n
  pub limit : most_of reducer ≡ most
