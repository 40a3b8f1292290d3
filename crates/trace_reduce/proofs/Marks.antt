-- What a reducer holds of the events of a log, event by event, and at the end.
use Rattle.std.proofs.Common.{◌≡◌, ℕ, suc, ◌+◌, ◌-◌, ◌^◌, min, List, [], ◌∷◌, ◌++◌, length, Option, Some, None, Bool, true, false, cond, ◌||◌, nat_lt, refl, sym, ap, ◌∙◌, subst, arith}
use Rattle.std.specs.Option.{is_none, option_map_or}
use Rattle.std.proofs.lemmas.List.{append_assoc, append-nil, length-append}
use Rattle.base.specs.declared.outcomes.Outcome.{Outcome}
use Rattle.base.specs.declared.outcomes.Outcome.TheVariants.{Ended, Trapped, HostTrapped}
use Rattle.trace_model.specs.declared.balance.Frame.{Frame}
use Rattle.trace_model.specs.declared.balance.Frame.TheVariants.{Function, Call}
use Rattle.trace_model.specs.declared.balance.Balance.{Balance}
use Rattle.trace_model.specs.declared.events.Event.{Event}
use Rattle.trace_model.specs.declared.events.Event.TheVariants.{Enter, Leave, Pre, Post, Grow, Seen, Table, Bytes, Entry, Global}
use Rattle.trace_model.specs.declared.tapes.Origin.TheVariants.{Import}
use Rattle.trace_model.specs.declared.tapes.Next.TheVariants.{End, Trap}
use Rattle.trace_model.specs.Balance.{balance_start, balanced_step, calls_import, ends_so, is_empty_stack, is_function, unbalanced_from, first_unbalanced}
use Rattle.record_replay_spec.specs.LogTapes.{Mark, Begins, Ends, Finds, LogFrame, InCall, frames_after, is_at_host, event_marks, import_marks, mark_if, size_after, is_trapped_call, marks_from, outcome_marks, log_marks}
use Rattle.trace_reduce.specs.declared.builder.TapeBuilder.{TapeBuilder}
use Rattle.trace_reduce.specs.Answers.{IsFirstUnbalanced, reported_place}
use Rattle.trace_reduce.specs.Builder.{IsAtHost, IsInWindow, TakesMarks, end_marks}
use Rattle.trace_reduce.specs.Reducer.{log_frames, IsBuilt, IsInOrder, last_marks}
use Rattle.trace_reduce.proofs.EventSteps.{is_pre, Moves, Follows, follows}

-- ---- marks

-- a call is not the last event if others follow
not_last : (outcome : Outcome) (event next : Event) (later : List Event)
    → is_trapped_call outcome event (next ∷ later) ≡ false
not_last Ended event next later = refl
not_last HostTrapped event next later = refl
not_last Trapped (Pre callee) next later = refl
not_last Trapped (Enter func args) next later = refl
not_last Trapped (Leave func) next later = refl
not_last Trapped (Post result) next later = refl
not_last Trapped (Grow pages) next later = refl
not_last Trapped Seen next later = refl
not_last Trapped (Table entries) next later = refl
not_last Trapped (Bytes addr bytes) next later = refl
not_last Trapped (Entry index func) next later = refl
not_last Trapped (Global global value) next later = refl

-- the marks before the last activity, after the marks of an event
abbrev next_before : List Mark → (before marks : List Mark) → List Mark
next_before (Begins origin ∷ more) before marks = marks
next_before more before marks = before

host_known : (was : Bool) (builder : TapeBuilder) (before marks : List Mark) → IsBuilt was builder before marks
    → was ≡ is_none builder.next
host_known true builder before marks h = sym (ap is_none h.over.waits)
host_known false builder before marks h = sym (ap is_none h.left)

next_built : (was at_host : Bool) (more : List Mark) (old new : TapeBuilder) (before marks : List Mark)
    → Moves was at_host more → IsBuilt was old before marks → TakesMarks old more new
    → IsBuilt at_host new (next_before more before marks) (marks ++ more)
next_built was at_host [] old new before marks m h t =
    subst (λ b. IsBuilt b new before (marks ++ [])) m
    (subst (λ builder. IsBuilt was builder before (marks ++ [])) (sym t)
    (subst (IsBuilt was old before) (sym (append-nil marks)) h))
next_built was at_host (Begins origin ∷ []) old new before marks m h t =
    subst (λ b. IsBuilt b new marks (marks ++ Begins origin ∷ [])) (sym m.1)
    (t marks (subst (λ b. IsBuilt b old before marks) m.0 h))
next_built was at_host (Ends next ∷ []) old new before marks m h t =
    subst (λ b. IsBuilt b new before (marks ++ Ends next ∷ [])) (sym m.1)
    (t before marks (subst (λ b. IsBuilt b old before marks) m.0 h))
next_built was at_host (Finds effect ∷ []) old new before marks m h t =
    subst (λ b. IsBuilt b new before (marks ++ Finds effect ∷ [])) (sym m.1)
    (t marks (subst (λ b. IsBuilt b old before marks) m.0 h))
next_built was at_host (mark ∷ other ∷ more) old new before marks m h t = absurd m

module _ (n size : ℕ) (frames : List LogFrame) (before marks : List Mark) where
  -- the marks that an event reports
  abbrev reported : Event → List Mark
  reported event = event_marks n frames (frames_after frames event) size event

  call_last : (callee : Option ℕ)
      → marks ++ []
      ≡ last_marks Trapped true (is_at_host n (InCall callee ∷ frames))
      (next_before (import_marks n callee) before marks) (marks ++ import_marks n callee)
      ++ []
  call_last None = sym (append-nil (marks ++ []))
  call_last (Some callee) = go (nat_lt callee n)
    where
      go : (b : Bool)
          → marks ++ []
          ≡ last_marks Trapped true b (next_before (mark_if b (Begins (Import callee))) before marks)
          (marks ++ mark_if b (Begins (Import callee)))
          ++ []
      go true = refl
      go false = sym (append-nil (marks ++ []))

  -- the marks if the run ends after the event
  last_reported : (outcome : Outcome) (event : Event)
      → marks ++ (cond (is_trapped_call outcome event []) [] (reported event) ++ outcome_marks outcome)
      ≡ last_marks outcome (is_pre event) (is_at_host n (frames_after frames event))
      (next_before (reported event) before marks) (marks ++ reported event)
      ++ outcome_marks outcome
  last_reported Ended event = sym (append_assoc marks (reported event) (outcome_marks Ended))
  last_reported HostTrapped event = sym (append_assoc marks (reported event) (outcome_marks HostTrapped))
  last_reported Trapped (Pre callee) = call_last callee
  last_reported Trapped (Enter func args) = sym (append_assoc marks (reported (Enter func args)) [])
  last_reported Trapped (Leave func) = sym (append_assoc marks (reported (Leave func)) [])
  last_reported Trapped (Post result) = sym (append_assoc marks (reported (Post result)) [])
  last_reported Trapped (Grow pages) = sym (append_assoc marks [] [])
  last_reported Trapped Seen = sym (append_assoc marks (reported Seen) [])
  last_reported Trapped (Table entries) = sym (append_assoc marks (reported (Table entries)) [])
  last_reported Trapped (Bytes addr bytes) = sym (append_assoc marks (reported (Bytes addr bytes)) [])
  last_reported Trapped (Entry index func) = sym (append_assoc marks (reported (Entry index func)) [])
  last_reported Trapped (Global global value) = sym (append_assoc marks (reported (Global global value)) [])

-- ---- one more event

one_more_counted : (count long more : ℕ) → count ≡ reported_place long → more ≡ long + 1
    → min (count + 1) (2 ^ 64 - 1) ≡ reported_place more
one_more_counted count long more counted is = grind (arith, counted, is)

module _ (n size count : ℕ) (balance : Balance) (builder : TapeBuilder) (taken : List Event) (event : Event)
    (h : IsInOrder n balance builder size count taken) where
  abbrev all : List Event
  all = taken ++ event ∷ []

  one_more : suc (length taken) ≡ length all
  one_more = omega (arith, length-append taken (event ∷ []))

  balanced_so_far : (outcome : Outcome) (later : List Event)
      → unbalanced_from n 0 balance_start outcome (all ++ later)
      ≡ option_map_or (λ next. unbalanced_from n (suc (length taken)) next outcome later)
      (balanced_step n balance event) (Some (length taken))
  balanced_so_far outcome later =
      ap (unbalanced_from n 0 balance_start outcome) (append_assoc taken (event ∷ []) later)
      ∙ h.balanced outcome (event ∷ later)

  module _ (next : Balance) (new : TapeBuilder) (step : balanced_step n balance event ≡ Some next) where
    abbrev open_before : List LogFrame
    open_before = log_frames balance.frames

    abbrev open_after : List LogFrame
    open_after = frames_after open_before event

    followed : Follows n size balance.frames event next.frames × (next.called ≡ is_pre event)
    followed = follows n size balance event next h.stand step

    goes_on : (outcome : Outcome) (other : Event) (later : List Event)
        → log_marks (record { imports = n; events = all ++ other ∷ later; outcome = outcome })
        ≡ (h.marks ++ event_marks n open_before (log_frames next.frames) size event)
        ++ marks_from n outcome (log_frames next.frames) (size_after size event) (other ∷ later)
    goes_on outcome other later =
        ap (λ events. log_marks (record { imports = n; events = events; outcome = outcome }))
        (append_assoc taken (event ∷ []) (other ∷ later))
        ∙ h.goes_on outcome event (other ∷ later)
        ∙ ap (λ b. h.marks
        ++ (cond b [] (event_marks n open_before open_after size event)
        ++ marks_from n outcome open_after (size_after size event) (other ∷ later)))
        (not_last outcome event other later)
        ∙ ap (λ frames. h.marks
        ++ (event_marks n open_before frames size event
        ++ marks_from n outcome frames (size_after size event) (other ∷ later)))
        followed.0.frames_same
        ∙ sym (append_assoc h.marks (event_marks n open_before (log_frames next.frames) size event)
        (marks_from n outcome (log_frames next.frames) (size_after size event) (other ∷ later)))

    ends : (outcome : Outcome)
        → log_marks (record { imports = n; events = all; outcome = outcome })
        ≡ last_marks outcome next.called (is_at_host n (log_frames next.frames))
        (next_before (event_marks n open_before (log_frames next.frames) size event) h.before h.marks)
        (h.marks ++ event_marks n open_before (log_frames next.frames) size event)
        ++ outcome_marks outcome
    ends outcome =
        h.goes_on outcome event []
        ∙ last_reported n size open_before h.before h.marks outcome event
        ∙ ap (λ frames. last_marks outcome (is_pre event) (is_at_host n frames)
        (next_before (event_marks n open_before frames size event) h.before h.marks)
        (h.marks ++ event_marks n open_before frames size event)
        ++ outcome_marks outcome)
        followed.0.frames_same
        ∙ ap (λ called. last_marks outcome called (is_at_host n (log_frames next.frames))
        (next_before (event_marks n open_before (log_frames next.frames) size event) h.before h.marks)
        (h.marks ++ event_marks n open_before (log_frames next.frames) size event)
        ++ outcome_marks outcome)
        (sym followed.1)

    pub next_in_order :
        ((frames : List LogFrame) → is_at_host n frames ≡ is_none builder.next
        → TakesMarks builder (event_marks n frames (log_frames next.frames) size event) new)
        → IsInOrder n next new (size_after size event) (min (count + 1) (2 ^ 64 - 1)) all
    next_in_order reports =
        record {
          counted = one_more_counted count (length taken) (length all) h.counted (length-append taken (event ∷ []));
          balanced =
              λ outcome later. balanced_so_far outcome later
              ∙ ap (λ o. option_map_or (λ next. unbalanced_from n (suc (length taken)) next outcome later) o
              (Some (length taken)))
              step
              ∙ ap (λ at. unbalanced_from n at next outcome later) one_more;
          stand = followed.0.stand;
          before = next_before (event_marks n open_before (log_frames next.frames) size event) h.before h.marks;
          marks = h.marks ++ event_marks n open_before (log_frames next.frames) size event;
          built =
              next_built (is_at_host n open_before) (is_at_host n (log_frames next.frames))
              (event_marks n open_before (log_frames next.frames) size event) builder new h.before h.marks
              followed.0.moves h.built
              (reports open_before (host_known (is_at_host n open_before) builder h.before h.marks h.built));
          goes_on = goes_on;
          ends = ends;
        }

-- ---- the end

module _ (n size count : ℕ) (balance : Balance) (builder : TapeBuilder) (taken : List Event) (outcome : Outcome)
    (h : IsInOrder n balance builder size count taken) where
  at_end : unbalanced_from n 0 balance_start outcome taken
      ≡ cond (ends_so n balance outcome) None (Some (length taken))
  at_end =
      ap (unbalanced_from n 0 balance_start outcome) (sym (append-nil taken)) ∙ h.balanced outcome []

  pub ends_wrong : ends_so n balance outcome ≡ false
      → IsFirstUnbalanced (record { imports = n; events = taken; outcome = outcome }) count
  ends_wrong wrong =
      record {
        place = length taken;
        first = at_end ∙ ap (λ b. cond b None (Some (length taken))) wrong;
        reported = h.counted;
      }

  pub ends_right : ends_so n balance outcome ≡ true
      → first_unbalanced (record { imports = n; events = taken; outcome = outcome }) ≡ None
  ends_right right = at_end ∙ ap (λ b. cond b None (Some (length taken))) right

empty_at_host : (n : ℕ) (frames : List Frame) → is_empty_stack frames ≡ true → is_at_host n (log_frames frames) ≡ true
empty_at_host n [] h = refl
empty_at_host n (frame ∷ frames) h = cc

import_at_host : (n : ℕ) (frames : List Frame) → calls_import n frames ≡ true → is_at_host n (log_frames frames) ≡ true
import_at_host n [] h = cc
import_at_host n (Function func ∷ frames) h = cc
import_at_host n (Call None entered ∷ frames) h = cc
import_at_host n (Call (Some callee) entered ∷ frames) h = h

-- if a run traps at the host, the event before was a call
called_at_host : (n : ℕ) (frames : List Frame) (called : Bool) → (is_function frames || called) ≡ true
    → is_at_host n (log_frames frames) ≡ true → called ≡ true
called_at_host n [] called h host = h
called_at_host n (Function func ∷ frames) called h host = cc
called_at_host n (Call callee entered ∷ frames) called h host = h

-- a property of all marks at the end
module _ (builder : TapeBuilder) (before marks : List Mark) (Holds : List Mark → Type 0) where
  ended_marks : (called at_host : Bool) → at_host ≡ true → IsBuilt at_host builder before marks
      → ((b ms : List Mark) → IsAtHost builder b ms → Holds (ms ++ Ends End ∷ []))
      → Holds (last_marks Ended called at_host before marks ++ outcome_marks Ended)
  ended_marks called at_host is built host =
      host before marks (subst (λ b. IsBuilt b builder before marks) is built)

  host_trapped_marks : (called at_host : Bool) → at_host ≡ true → IsBuilt at_host builder before marks
      → ((b ms : List Mark) → IsAtHost builder b ms → Holds (ms ++ Ends Trap ∷ []))
      → Holds (last_marks HostTrapped called at_host before marks ++ outcome_marks HostTrapped)
  host_trapped_marks called at_host is built host =
      host before marks (subst (λ b. IsBuilt b builder before marks) is built)

  trapped_marks : (called at_host : Bool) → (at_host ≡ true → called ≡ true) → IsBuilt at_host builder before marks
      → ((ms : List Mark) → IsInWindow builder ms → Holds ms)
      → ((b ms : List Mark) → IsAtHost builder b ms → Holds b)
      → Holds (last_marks Trapped called at_host before marks ++ [])
  trapped_marks true true called built window host =
      subst Holds (sym (append-nil before)) (host before marks built)
  trapped_marks false true called built window host = absurd (none (called refl))
    where
      none : false ≡ true → ⊥
      none h = cc
  trapped_marks true false called built window host =
      subst Holds (sym (append-nil marks)) (window marks built)
  trapped_marks false false called built window host =
      subst Holds (sym (append-nil marks)) (window marks built)

  pub all_marks : (n : ℕ) (balance : Balance) (outcome : Outcome) → ends_so n balance outcome ≡ true
      → IsBuilt (is_at_host n (log_frames balance.frames)) builder before marks
      → ((ms : List Mark) → outcome ≡ Trapped → IsInWindow builder ms → Holds ms)
      → ((b ms : List Mark) → IsAtHost builder b ms → Holds (end_marks outcome b ms))
      → Holds
      (last_marks outcome balance.called (is_at_host n (log_frames balance.frames)) before marks
      ++ outcome_marks outcome)
  all_marks n balance Ended right built window host =
      ended_marks balance.called (is_at_host n (log_frames balance.frames))
      (empty_at_host n balance.frames right) built host
  all_marks n balance HostTrapped right built window host =
      host_trapped_marks balance.called (is_at_host n (log_frames balance.frames))
      (import_at_host n balance.frames right) built host
  all_marks n balance Trapped right built window host =
      trapped_marks balance.called (is_at_host n (log_frames balance.frames))
      (called_at_host n balance.frames balance.called right) built (λ ms h. window ms refl h) host
