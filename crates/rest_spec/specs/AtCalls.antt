-- What is known just before a top-level call, computed one observation at a time.
use Rattle.std.specs.Prelude.{ℕ, List, [], ◌∷◌, Option, Some, None}
use Rattle.record_replay_spec.specs.Observations.{Observation, Begins, Ends}
use Rattle.record_replay_spec.specs.Known.{Known, known_after}
use Rattle.rest_spec.specs.KnownBefore.{open_after, by_end}

-- what is known just before a top-level call, and the observations from there on, the end of the activity that makes
-- the call first
pub record AtCall : Type 0 where
  pub known : Known
  pub later : List Observation

-- the observations from the top-level call of this number on, if there is one, with what is known there. An activity of
-- the host is a begin and the end right behind it; a begin without one is in no run that has an outcome.
abbrev pub at_call : (number opened : ℕ) → Known → List Observation → Option AtCall
at_call number opened known [] = None
at_call number opened known (Begins origin ∷ Ends next ∷ later) =
    by_end (open_after origin opened) number next (Some (record { known = known; later = Ends next ∷ later }))
    (λ n o. at_call n o known later)
at_call number opened known (Begins origin ∷ later) = None
at_call number opened known (o ∷ later) = at_call number opened (known_after known o) later
