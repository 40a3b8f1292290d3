-- What is known just before a top-level call, by a search of all observations before it.
use Rattle.std.specs.Prelude.{ℕ, suc, List, [], ◌∷◌, ◌++◌, Option, Some, None}
use Rattle.trace_model.specs.declared.tapes.Origin.{Origin}
use Rattle.trace_model.specs.declared.tapes.Origin.TheVariants.{Import}
use Rattle.trace_model.specs.declared.tapes.Next.{Next}
use Rattle.trace_model.specs.declared.tapes.Next.TheVariants.{Call, Return}
use Rattle.record_replay_spec.specs.Observations.{Observation, Begins, Ends}
use Rattle.record_replay_spec.specs.Known.{Known, known_from}
use Rattle.rest_spec.specs.Rests.{without_one, by_call}

-- the number of open calls of imports after control comes to the host with this origin
abbrev pub open_after : Origin → ℕ → ℕ
open_after (Import import) opened = suc opened
open_after origin opened = opened

-- at the end of an activity of the host, where `opened` calls of imports are open: the activity ends with the call that
-- is looked for, or the search goes on
abbrev pub by_end : {X : Type 0} → (opened number : ℕ) → Next → (this : X) → (later : (number opened : ℕ) → X) → X
by_end opened number (Call func args) this later = by_call opened number this (λ n. later n opened)
by_end opened number (Return result) this later = later number (without_one opened)
by_end opened number next this later = later number opened

-- what is known just before the top-level call of this number, if there is one: what the search of the observations
-- so far finds, from the opening on; `opened` calls of imports are open before the observations that are still to come.
-- An activity of the host is a begin and the end right behind it; a begin without one is in no run that has an outcome.
abbrev pub known_before : (number opened : ℕ) → (opening : Known) → (seen later : List Observation) → Option Known
known_before number opened opening seen [] = None
known_before number opened opening seen (Begins origin ∷ Ends next ∷ later) =
    by_end (open_after origin opened) number next (Some (known_from opening seen))
    (λ n o. known_before n o opening seen later)
known_before number opened opening seen (Begins origin ∷ later) = None
known_before number opened opening seen (o ∷ later) = known_before number opened opening (seen ++ o ∷ []) later
