-- A tape under construction, in terms of the marks taken so far.
use Rattle.std.specs.Prelude.{◌≡◌, List, [], ◌∷◌, ◌++◌, map, Option, Some, None}
use Rattle.base.specs.declared.outcomes.Outcome.{Outcome}
use Rattle.base.specs.declared.outcomes.Outcome.TheVariants.{Trapped}
use Rattle.trace_model.specs.declared.tapes.Effect.{Effect}
use Rattle.trace_model.specs.declared.tapes.Next.{Next}
use Rattle.trace_model.specs.declared.tapes.Segment.{Segment}
use Rattle.record_replay_spec.specs.LogTapes.{Mark, Begins, Ends, Finds, outcome_marks, AreLogSegments}
use Rattle.trace_reduce.specs.declared.builder.Turn.{Turn}
use Rattle.trace_reduce.specs.declared.builder.Turn.TheVariants as turns
use Rattle.trace_reduce.specs.declared.builder.TapeBuilder.{TapeBuilder}
use Rattle.trace_reduce.specs.declared.limited_tape.LimitedTape.{LimitedTape}
use Rattle.trace_reduce.specs.Firsts.{AreFirsts}
use Rattle.trace_reduce.specs.LimitedTape.{IsSoFar}

-- the segments so far are those of the marks
pub record AreBuilt (tape : LimitedTape) (marks : List Mark) : Type 0 where
  pub segments : List Segment
  pub of_marks : AreLogSegments marks segments
  pub so_far : IsSoFar tape segments

-- no window is open
pub record IsClosed (builder : TapeBuilder) (marks : List Mark) : Type 0 where
  pub waits : builder.next ≡ None
  pub none : AreFirsts [] builder.firsts
  pub closed : AreBuilt builder.tape marks

-- an activity has begun after these marks, and control is at the host
pub record IsAtHost (builder : TapeBuilder) (before marks : List Mark) : Type 0 where
  pub over : IsClosed builder before
  pub began : marks ≡ before ++ Begins builder.origin ∷ []

-- control has left the host; the finds of the window are not in a segment yet
pub record IsInWindow (builder : TapeBuilder) (marks : List Mark) : Type 0 where
  pub before : List Mark
  pub next : Next
  pub left : builder.next ≡ Some next
  pub finds : List Effect
  pub found : marks ≡ before ++ Begins builder.origin ∷ Ends next ∷ map Finds finds
  pub firsts : AreFirsts finds builder.firsts
  pub closed : AreBuilt builder.tape before

-- the mark of a turn; the marks of an event's turn
abbrev pub mark_of : Turn → Mark
mark_of (turns.Begins origin) = Begins origin
mark_of (turns.Ends next) = Ends next
mark_of (turns.Finds effect) = Finds effect

abbrev pub turn_marks : Option Turn → List Mark
turn_marks None = []
turn_marks (Some turn) = mark_of turn ∷ []

-- one more mark is taken if it is allowed there
abbrev pub TakesMark : TapeBuilder → Mark → TapeBuilder → Type 0
TakesMark old (Begins origin) new =
    (marks : List Mark) → IsInWindow old marks → IsAtHost new marks (marks ++ Begins origin ∷ [])
TakesMark old (Ends next) new =
    (before marks : List Mark) → IsAtHost old before marks → IsInWindow new (marks ++ Ends next ∷ [])
TakesMark old (Finds effect) new =
    (marks : List Mark) → IsInWindow old marks → IsInWindow new (marks ++ Finds effect ∷ [])

-- the marks of an event are taken; there is at most one
abbrev pub TakesMarks : TapeBuilder → List Mark → TapeBuilder → Type 0
TakesMarks old [] new = new ≡ old
TakesMarks old (mark ∷ []) new = TakesMark old mark new
TakesMarks old (mark ∷ other ∷ marks) new = ⊥

-- the marks of a run that ends at the host; if it trapped by the call, the import's activity has no mark
abbrev pub end_marks : Outcome → (before marks : List Mark) → List Mark
end_marks Trapped before marks = before
end_marks outcome before marks = marks ++ outcome_marks outcome
