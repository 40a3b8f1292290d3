-- A needed tape is cut where its run has the call: what is left of it is needed by what is left of the run, by what is
-- known there.
use Rattle.std.proofs.Common.{[], ◌∷◌, Some, refl, sym, subst}
use Rattle.record_replay_spec.specs.Observations.{Begins, Ends}
use Rattle.record_replay_spec.specs.Known.{known_after}
use Rattle.rest_spec.specs.KnownBefore.{open_after, by_end}
use Rattle.rest_spec.specs.AtCalls.{at_call}
use Rattle.rest_spec.specs.Cuts.{as_first, cut_of}
use Rattle.rest_laws.specs.Laws.{IsCut, CutsAreNeeded}
use Rattle.rest_laws.proofs.Ends.{both_by_end}

pub cuts_are_needed : CutsAreNeeded
cuts_are_needed known [] [] number opened kept = tt
cuts_are_needed known [] (segment ∷ segments) number opened kept = absurd kept
cuts_are_needed known (Begins origin ∷ Ends next ∷ later) [] number opened kept = absurd kept
cuts_are_needed known (Begins origin ∷ Ends next ∷ later) (segment ∷ segments) number opened kept =
    subst (IsCut (at_call number opened known (Begins origin ∷ Ends next ∷ later)))
    (λ i.
    by_end (open_after (sym kept.0.begins i) opened) number (sym kept.0.leaves i) (Some (as_first segment ∷ segments))
    (λ n o. cut_of n o segments))
    (both_by_end IsCut (Some (record { known = known; later = Ends next ∷ later })) (Some (as_first segment ∷ segments))
    (record { begins = refl; leaves = kept.0.leaves; changes = kept.0.changes }, kept.1) (open_after origin opened)
    number next (λ n o. at_call n o known later) (λ n o. cut_of n o segments)
    (λ n o. cuts_are_needed known later segments n o kept.1))
cuts_are_needed known (Begins origin ∷ later) segments number opened kept = absurd kept
cuts_are_needed known (o ∷ later) segments number opened kept =
    cuts_are_needed (known_after known o) later segments number opened kept
