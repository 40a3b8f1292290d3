-- Segments of windows, one window after another.
use Rattle.std.proofs.Common.{◌≡◌, ℕ, Result, List, [], ◌∷◌, ◌++◌, map, Some, None, refl, sym, ap, ◌∙◌, subst}
use Rattle.std.proofs.lemmas.List.{append_assoc}
use Rattle.base.proofs.Options.{same_some}
use Rattle.trace_model.specs.declared.tapes.Origin.{Origin}
use Rattle.trace_model.specs.declared.tapes.Next.{Next}
use Rattle.trace_model.specs.declared.tapes.Effect.{Effect}
use Rattle.trace_model.specs.declared.tapes.Segment.{Segment}
use Rattle.trace_model.specs.declared.tapes.Tape.{Tape}
use Rattle.record_replay_spec.specs.LogTapes.{Mark, Begins, Ends, Finds, window_finds, AreFirstFinds, IsLogSegment, AreLogSegments}
use Rattle.trace_reduce.specs.declared.builder.TapeBuilder.{TapeBuilder}
use Rattle.trace_reduce.specs.declared.builder.Turn.{Turn}
use Rattle.trace_reduce.specs.declared.builder.Turn.TheVariants as turns
use Rattle.trace_reduce.specs.declared.faults.ReducerFault.{ReducerFault}
use Rattle.trace_reduce.specs.declared.limited_tape.LimitedTape.{LimitedTape}
use Rattle.trace_reduce.specs.Answers.{IsWeighed}
use Rattle.trace_reduce.specs.Builder.{AreBuilt, IsClosed, IsInWindow, TakesMark, mark_of}
use Rattle.trace_reduce.specs.Firsts.{AreFirsts, IsNextFind}
use Rattle.trace_reduce.specs.LimitedTape.{IsSoFar}
use Rattle.trace_reduce.proofs.Answers.{weighed_as}
use Rattle.trace_reduce.proofs.Firsts.{next_first}

-- a window's finds are recorded before the next activity begins
finds_before : (front : List Mark) (origin : Origin) (rest : List Mark)
    → window_finds (front ++ Begins origin ∷ rest) ≡ window_finds front
finds_before [] origin rest = refl
finds_before (Finds effect ∷ front) origin rest = ap (λ finds. effect ∷ finds) (finds_before front origin rest)
finds_before (Begins other ∷ front) origin rest = refl
finds_before (Ends next ∷ front) origin rest = refl

finds_alone : (finds : List Effect) → window_finds (map Finds finds) ≡ finds
finds_alone [] = refl
finds_alone (effect ∷ finds) = ap (λ finds. effect ∷ finds) (finds_alone finds)

no_segments : (finds : List Effect) → AreLogSegments (map Finds finds) []
no_segments [] = tt
no_segments (effect ∷ finds) = no_segments finds

appended : (front : List Mark) (segments : List Segment) (origin : Origin) (rest : List Mark) (more : List Segment)
    → AreLogSegments front segments → AreLogSegments (Begins origin ∷ rest) more
    → AreLogSegments (front ++ Begins origin ∷ rest) (segments ++ more)
appended [] [] origin rest more h later = later
appended [] (segment ∷ segments) origin rest more h later = absurd h
appended (Begins first ∷ Ends next ∷ front) (segment ∷ segments) origin rest more h later = (
  subst (λ finds. IsLogSegment first next finds segment) (sym (finds_before front origin rest)) h.0,
  appended front segments origin rest more h.1 later,
)
appended (Begins first ∷ Ends next ∷ front) [] origin rest more h later = absurd h
appended (Begins first ∷ []) segments origin rest more h later = absurd h
appended (Begins first ∷ Begins other ∷ front) segments origin rest more h later = absurd h
appended (Begins first ∷ Finds effect ∷ front) segments origin rest more h later = absurd h
appended (Ends next ∷ front) segments origin rest more h later = appended front segments origin rest more h later
appended (Finds effect ∷ front) segments origin rest more h later = appended front segments origin rest more h later

-- ---- the builder

pub window_closed : (old new : TapeBuilder) (next : Next) (effects : List Effect) → old.next ≡ Some next
    → ((finds : List Effect) → AreFirsts finds old.firsts → AreFirstFinds finds effects)
    → new.next ≡ None → AreFirsts [] new.firsts
    → ((segments : List Segment) → IsSoFar old.tape segments
    → IsSoFar new.tape (segments ++ record { origin = old.origin; effects = effects; next = next } ∷ []))
    → (marks : List Mark) → IsInWindow old marks → IsClosed new marks
window_closed old new next effects left firsts waits none more marks h =
    record {
      waits = waits;
      none = none;
      closed = record {
        segments = h.closed.segments ++ segment ∷ [];
        of_marks =
            subst (λ ms. AreLogSegments ms (h.closed.segments ++ segment ∷ [])) (sym h.found)
            (appended h.before h.closed.segments old.origin (Ends h.next ∷ map Finds h.finds) (segment ∷ [])
            h.closed.of_marks one);
        so_far = more h.closed.segments h.closed.so_far;
      };
    }
  where
    segment : Segment
    segment = record { origin = old.origin; effects = effects; next = next }

    one : AreLogSegments (Begins old.origin ∷ Ends h.next ∷ map Finds h.finds) (segment ∷ [])
    one = (
      record {
        begins = refl;
        leaves = same_some old.next next h.next left h.left;
        changes = subst (λ fs. AreFirstFinds fs effects) (sym (finds_alone h.finds)) (firsts h.finds h.firsts);
      },
      no_segments h.finds,
    )

-- the window finds one more
pub window_finds_more : (old new : TapeBuilder) (effect : Effect) → new.next ≡ old.next → new.origin ≡ old.origin
    → IsNextFind old.firsts effect new.firsts → new.tape ≡ old.tape
    → (marks : List Mark) → IsInWindow old marks → IsInWindow new (marks ++ Finds effect ∷ [])
window_finds_more old new effect next origin find tape marks h =
    record {
      before = h.before;
      next = h.next;
      left = next ∙ h.left;
      finds = h.finds ++ effect ∷ [];
      found =
          ap (λ ms. ms ++ Finds effect ∷ []) h.found
          ∙ append_assoc h.before (Begins old.origin ∷ Ends h.next ∷ map Finds h.finds) (Finds effect ∷ [])
          ∙ (λ i. h.before ++ Begins (sym origin i) ∷ Ends h.next ∷ sym (mapped h.finds) i);
      firsts = next_first h.finds old.firsts effect new.firsts h.firsts find;
      closed = subst (λ t. AreBuilt t h.before) (sym tape) h.closed;
    }
  where
    mapped : (fs : List Effect) → map Finds (fs ++ effect ∷ []) ≡ map Finds fs ++ Finds effect ∷ []
    mapped [] = refl
    mapped (f ∷ fs) = ap (λ ms. Finds f ∷ ms) (mapped fs)

pub finds_taken : (old new : TapeBuilder) (turn : Turn) (effect : Effect) → turn ≡ turns.Finds effect
    → IsNextFind old.firsts effect new.firsts → new.next ≡ old.next → new.origin ≡ old.origin → new.tape ≡ old.tape
    → TakesMark old (mark_of turn) new
finds_taken old new turn effect is find next origin tape =
    subst (λ t. TakesMark old (mark_of t) new) (sym is) (window_finds_more old new effect next origin find tape)

-- an activity begins
pub host_begun : (old closed new : TapeBuilder) (turn : Turn) (origin : Origin) → turn ≡ turns.Begins origin
    → ((marks : List Mark) → IsInWindow old marks → IsClosed closed marks) → new.next ≡ closed.next
    → new.origin ≡ origin → new.firsts ≡ closed.firsts → new.tape ≡ closed.tape
    → TakesMark old (mark_of turn) new
host_begun old closed new turn origin is closes next same firsts tape =
    subst (λ t. TakesMark old (mark_of t) new) (sym is)
    (λ marks h. record {
      over = record {
        waits = next ∙ (closes marks h).waits;
        none = subst (AreFirsts []) (sym firsts) (closes marks h).none;
        closed = subst (λ t. AreBuilt t marks) (sym tape) (closes marks h).closed;
      };
      began = (λ i. marks ++ Begins (sym same i) ∷ []);
    })

-- ---- the tape

-- segments of marks are a tape of them
pub built_answer : (tape : LimitedTape) (most : ℕ) (marks : List Mark) (answer : Result Tape ReducerFault)
    → AreBuilt tape marks
    → ((segments : List Segment) → IsSoFar tape segments
    → IsWeighed (λ (t : Tape). t.segments ≡ segments) most answer)
    → IsWeighed (λ (t : Tape). AreLogSegments marks t.segments) most answer
built_answer tape most marks answer h gives =
    weighed_as (λ (t : Tape). t.segments ≡ h.segments) (λ (t : Tape). AreLogSegments marks t.segments) most
    (λ t same. subst (AreLogSegments marks) (sym same) h.of_marks) answer (gives h.segments h.so_far)
