-- Laws of rests of histories, of what is known before a call, and of cuts of tapes.
use Rattle.std.specs.Prelude.{◌≡◌, ℕ, ◌<◌, List, [], ◌∷◌, Option, Some, None}
use Rattle.trace_model.specs.declared.tapes.Origin.{Origin}
use Rattle.trace_model.specs.declared.tapes.Origin.TheVariants.{Begin}
use Rattle.trace_model.specs.declared.tapes.Segment.{Segment}
use Rattle.base.specs.declared.outcomes.Outcome.{Outcome}
use Rattle.history_spec.specs.declared.entries.Entry.{Entry}
use Rattle.history_spec.specs.Store.{Store}
use Rattle.history_spec.specs.Code.{Code}
use Rattle.history_spec.specs.Configuration.{Activation}
use Rattle.record_replay_spec.specs.Observations.{Observation, Begins}
use Rattle.record_replay_spec.specs.Known.{Known}
use Rattle.record_replay_spec.specs.Kept.{AreKeptSegments}
use Rattle.record_replay_spec.specs.TapeRun.{Plays, Over, tape_result, tape_steps}
use Rattle.rest_spec.specs.Rests.{rest_of, calls_in}
use Rattle.rest_spec.specs.KnownBefore.{known_before}
use Rattle.rest_spec.specs.AtCalls.{AtCall, at_call}
use Rattle.rest_spec.specs.Cuts.{cut_of, tape_calls}

-- ---- where there is a rest, and a cut

-- something is there exactly where a call's number is below a number of calls
pub record IsThereBelow {X : Type 0} (found : Option X) (number calls : ℕ) : Type 0 where
  pub there : number < calls → (x : X) × (found ≡ Some x)
  pub below : (x : X) → found ≡ Some x → number < calls

-- a history has a rest from a top-level call on exactly where the call's number is below the number of top-level calls
abbrev pub RestsAreThere : Type 0
RestsAreThere =
    (history : List Entry) (number opened : ℕ)
    → IsThereBelow (rest_of history number opened) number (calls_in history opened)

-- a tape has a cut at a top-level call exactly where the call's number is below the number of those that it makes
abbrev pub CutsAreThere : Type 0
CutsAreThere =
    (segments : List Segment) (number opened : ℕ)
    → IsThereBelow (cut_of number opened segments) number (tape_calls segments opened)

-- ---- what is known before a call

-- what the search of all observations finds is what is known one observation at a time; or neither finds the call
abbrev pub IsSameKnown : Option Known → Option AtCall → Type 0
IsSameKnown None None = Unit {0}
IsSameKnown (Some known) (Some at) = known ≡ at.known
IsSameKnown known at = ⊥

-- what is known before a top-level call may be computed one observation at a time
abbrev pub KnownBeforeIsKept : Type 0
KnownBeforeIsKept =
    (opening : Known) (observations : List Observation) (number : ℕ)
    → IsSameKnown (known_before number 0 opening [] observations) (at_call number 0 opening observations)

-- ---- cuts

-- the cut has the segments that the observations from the call on need, by what is known there; or neither has the call
abbrev pub IsCut : Option AtCall → Option (List Segment) → Type 0
IsCut None None = Unit {0}
IsCut (Some at) (Some segments) = AreKeptSegments at.known (Begins Begin ∷ at.later) segments
IsCut at segments = ⊥

-- needed segments are cut where the observations have the call, and what is left is needed by what is left of these
abbrev pub CutsAreNeeded : Type 0
CutsAreNeeded =
    (known : Known) (observations : List Observation) (segments : List Segment) (number opened : ℕ)
    → AreKeptSegments known observations segments
    → IsCut (at_call number opened known observations) (cut_of number opened segments)

-- ---- counts of calls

-- a tape's run that comes to an outcome comes to it with the same history whatever calls of imports were counted before
abbrev pub CountsDoNotMatter : Type 0
CountsDoNotMatter =
    (code : Code) (store : Store) (stack : List Activation) (counts other : List ℕ) (left : List Segment)
    (came : Origin) (k : ℕ) (history : List Entry) (outcome : Outcome)
    → tape_steps code k
    (Plays
    (record {
      config = record { store = store; stack = stack; counts = counts };
      left = left;
      came = came;
    }))
    ≡ tape_result history (Over outcome)
    → tape_steps code k
    (Plays
    (record {
      config = record { store = store; stack = stack; counts = other };
      left = left;
      came = came;
    }))
    ≡ tape_result history (Over outcome)
