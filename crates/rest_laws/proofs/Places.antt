-- Where control is in a run, and the search for a top-level call from there on.
use Rattle.std.proofs.Common.{◌≡◌, ℕ, suc, List, [], ◌∷◌, ◌++◌, Option, Some, None, Bool, true, false, refl}
use Rattle.std.specs.List.{AllByRecursion}
use Rattle.trace_model.specs.declared.tapes.Origin.{Origin}
use Rattle.history_spec.specs.Configuration.{Activation, InModule, InMain, InImport}
use Rattle.history_spec.specs.Step.{Progress, Running}
use Rattle.record_replay_spec.specs.Observations.{Observation, Begins, Ends}
use Rattle.record_replay_spec.specs.Known.{Known, known_after, known_after_all}
use Rattle.rest_spec.specs.KnownBefore.{open_after, by_end}
use Rattle.rest_spec.specs.AtCalls.{AtCall, at_call}
use Rattle.tape_laws.proofs.Agrees.{IsOfStore}

-- the number of open calls of imports
abbrev pub opens : List Activation → ℕ
opens [] = 0
opens (InModule frame ∷ below) = opens below
opens (InMain actions ∷ below) = opens below
opens (InImport import args actions end ∷ below) = suc (opens below)

-- whether control is with the host
abbrev pub with_host : List Activation → Bool
with_host (InModule frame ∷ below) = false
with_host stack = true

-- ---- the search in observations

-- the search from the end of an activity on
abbrev pub call_after : (number opened : ℕ) → Known → List Observation → Option AtCall
call_after number opened known (Ends next ∷ later) =
    by_end opened number next (Some (record { known = known; later = Ends next ∷ later }))
    (λ n o. at_call n o known later)
call_after number opened known later = None

-- the search from where control is: within an activity of the host, or within the module
abbrev pub call_from : (host : Bool) → (number opened : ℕ) → Known → List Observation → Option AtCall
call_from true number opened known later = call_after number opened known later
call_from false number opened known later = at_call number opened known later

-- the search from where a run goes on
abbrev pub call_at : (number : ℕ) → Known → Progress → List Observation → Option AtCall
call_at number known (Running config) later =
    call_from (with_host config.stack) number (opens config.stack) known later
call_at number known at later = None

pub begun : (number opened : ℕ) (known : Known) (origin : Origin) (later : List Observation)
    → at_call number opened known (Begins origin ∷ later) ≡ call_after number (open_after origin opened) known later
begun number opened known origin [] = refl
begun number opened known origin (Ends next ∷ later) = refl
begun number opened known origin (o ∷ later) = refl

pub passed : (number opened : ℕ) (known : Known) (items later : List Observation)
    → AllByRecursion IsOfStore items
    → at_call number opened known (items ++ later) ≡ at_call number opened (known_after_all known items) later
passed number opened known [] later are = refl
passed number opened known (Begins origin ∷ items) later are = absurd are.0
passed number opened known (Ends next ∷ items) later are = absurd are.0
passed number opened known (o ∷ items) later are = passed number opened (known_after known o) items later are.1
