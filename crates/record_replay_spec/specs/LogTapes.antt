-- The tape of a log: what the host did, as the events record it.
use Rattle.std.specs.Prelude.{◌≡◌, ℕ, List, [], ◌∷◌, ◌++◌, drop, Option, Some, None, Bool, true, false, cond, nat_lt}
use Rattle.std.specs.Option.{option_or}
use Rattle.base.specs.declared.outcomes.Outcome.{Outcome}
use Rattle.base.specs.declared.outcomes.Outcome.TheVariants.{Ended, Trapped, HostTrapped}
use Rattle.trace_model.specs.declared.events.Event.{Event}
use Rattle.trace_model.specs.declared.events.Event.TheVariants.{Enter, Leave, Pre, Post, Grow, Seen, Table, Bytes, Entry, Global}
use Rattle.trace_model.specs.declared.events.Log.{Log}
use Rattle.trace_model.specs.declared.tapes.Origin.{Origin}
use Rattle.trace_model.specs.declared.tapes.Origin.TheVariants.{Begin, Import, Back}
use Rattle.trace_model.specs.declared.tapes.Next.{Next}
use Rattle.trace_model.specs.declared.tapes.Next.TheVariants.{Call, Return, End, Trap}
use Rattle.trace_model.specs.declared.tapes.Effect.{Effect}
use Rattle.trace_model.specs.declared.tapes.Effect.TheVariants as effects
use Rattle.trace_model.specs.declared.tapes.Segment.{Segment}
use Rattle.trace_model.specs.declared.tapes.Tape.{Tape}
use Rattle.record_replay_spec.specs.Needed.{Given, GiveJust, given_of}

-- ---- marks

-- an activity of the host begins or ends, or a window finds what the host changed before it
pub data Mark : Type 0 where
  Begins : (origin : Origin) → Mark
  Ends : (next : Next) → Mark
  Finds : (effect : Effect) → Mark

-- an open frame of a log: a function, or a call of a function or of an empty entry
pub data LogFrame : Type 0 where
  InFunction : LogFrame
  InCall : (callee : Option ℕ) → LogFrame

-- the open frames after an event, the innermost first
abbrev pub frames_after : List LogFrame → Event → List LogFrame
frames_after frames (Enter func args) = InFunction ∷ frames
frames_after frames (Leave func) = drop 1 frames
frames_after frames (Pre callee) = InCall callee ∷ frames
frames_after frames (Post result) = drop 1 frames
frames_after frames event = frames

-- control is at the host: no frame is open, or the innermost is the call of one of the `n` imports
abbrev pub is_at_host : (n : ℕ) → List LogFrame → Bool
is_at_host n [] = true
is_at_host n (InCall (Some callee) ∷ frames) = nat_lt callee n
is_at_host n frames = false

-- the size that the last growth reported
abbrev pub size_after : (size : ℕ) → Event → ℕ
size_after size (Grow pages) = pages
size_after size event = size

-- a mark, if control is at the host
abbrev pub mark_if : Bool → Mark → List Mark
mark_if true mark = mark ∷ []
mark_if false mark = []

-- the marks of the beginning of a call
abbrev pub import_marks : (n : ℕ) → (callee : Option ℕ) → List Mark
import_marks n None = []
import_marks n (Some callee) = mark_if (nat_lt callee n) (Begins (Import callee))

-- the marks of an event, given the frames that are open before and after it, and the size that the last growth
-- reported
abbrev pub event_marks : (n : ℕ) → (before after : List LogFrame) → (size : ℕ) → Event → List Mark
event_marks n before after size (Enter func args) = mark_if (is_at_host n before) (Ends (Call func args))
event_marks n before after size (Leave func) = mark_if (is_at_host n after) (Begins Back)
event_marks n before after size (Pre callee) = import_marks n callee
event_marks n before after size (Post result) = mark_if (is_at_host n before) (Ends (Return result))
event_marks n before after size (Grow pages) = []
event_marks n before after size Seen = Finds (effects.Grow size) ∷ []
event_marks n before after size (Table entries) = Finds (effects.Table entries) ∷ []
event_marks n before after size (Bytes addr bytes) = Finds (effects.Bytes addr bytes) ∷ []
event_marks n before after size (Entry index func) = Finds (effects.Entry index func) ∷ []
event_marks n before after size (Global global value) = Finds (effects.Global global value) ∷ []

-- an event, given those after it, is a call by the table that trapped, also if the entry was an import of another type
abbrev pub is_trapped_call : Outcome → Event → (later : List Event) → Bool
is_trapped_call Trapped (Pre callee) [] = true
is_trapped_call outcome event later = false

-- the marks of an outcome
abbrev pub outcome_marks : Outcome → List Mark
outcome_marks Ended = Ends End ∷ []
outcome_marks Trapped = []
outcome_marks HostTrapped = Ends Trap ∷ []

-- the marks of events and of the outcome after them
abbrev pub marks_from : (n : ℕ) → Outcome → List LogFrame → (size : ℕ) → List Event → List Mark
marks_from n outcome frames size [] = outcome_marks outcome
marks_from n outcome frames size (event ∷ later) =
    cond (is_trapped_call outcome event later) [] (event_marks n frames (frames_after frames event) size event)
    ++ marks_from n outcome (frames_after frames event) (size_after size event) later

-- the marks of a log, which begins with the host's first activity; no size is reported at that point, and no size is
-- used before one is reported if the log is balanced, since Seen comes after a Grow
abbrev pub log_marks : Log → List Mark
log_marks log = Begins Begin ∷ marks_from log.imports log.outcome [] 0 log.events

-- ---- segments

-- the effects that the window at the front of marks finds, in order
abbrev pub window_finds : List Mark → List Effect
window_finds (Finds effect ∷ later) = effect ∷ window_finds later
window_finds marks = []

-- the value that the first item with a value gives
abbrev pub first_some : {A X : Type 0} → (A → Option X) → List A → Option X
first_some part [] = None
first_some part (item ∷ later) = option_or (part item) (first_some part later)

-- what effects give first, at each place
abbrev pub first_given : List Effect → Given
first_given finds = given_of (λ X part. first_some part) finds

-- the effects of what a window finds: in order, bytes in longest runs, and at each place what is found there first
abbrev pub AreFirstFinds : (finds changes : List Effect) → Type 0
AreFirstFinds finds changes = GiveJust (first_given finds) changes

-- the segment of an activity, by its beginning, its end, and what the window after it finds
pub record IsLogSegment (origin : Origin) (next : Next) (finds : List Effect) (segment : Segment) : Type 0 where
  pub begins : segment.origin ≡ origin
  pub leaves : segment.next ≡ next
  pub changes : AreFirstFinds finds segment.effects

-- the segments of all activities, in order; each activity has an end
abbrev pub AreLogSegments : List Mark → List Segment → Type 0
AreLogSegments [] [] = Unit {0}
AreLogSegments [] (segment ∷ segments) = ⊥
AreLogSegments (Begins origin ∷ Ends next ∷ later) (segment ∷ segments) =
    IsLogSegment origin next (window_finds later) segment × AreLogSegments later segments
AreLogSegments (Begins origin ∷ later) segments = ⊥
AreLogSegments (mark ∷ later) segments = AreLogSegments later segments

-- the tape of a log
abbrev pub IsLogTape : Log → Tape → Type 0
IsLogTape log tape = AreLogSegments (log_marks log) tape.segments
