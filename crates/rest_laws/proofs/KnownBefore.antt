-- What is known before a top-level call, by a search of all observations, is what is known one observation at a time.
use Rattle.std.proofs.Common.{ℕ, List, [], ◌∷◌, ◌++◌, Some, sym, subst}
use Rattle.record_replay_spec.specs.Observations.{Observation, Begins, Ends}
use Rattle.record_replay_spec.specs.Known.{Known, known_from, known_after_all}
use Rattle.record_replay_spec.specs.Laws.{KnownIsKept}
use Rattle.rest_spec.specs.KnownBefore.{open_after, known_before}
use Rattle.rest_spec.specs.AtCalls.{at_call}
use Rattle.rest_laws.specs.Laws.{IsSameKnown, KnownBeforeIsKept}
use Rattle.rest_laws.proofs.Ends.{both_by_end}
use Rattle.tape_laws.proofs.KeptInRuns.{known_after_both}
use Rattle.tape_laws.proofs.KnownAfterCalls.{known_by_search}

module _ (kept : KnownIsKept) (opening : Known) where
  same : (seen later : List Observation) (number opened : ℕ)
      → IsSameKnown (known_before number opened opening seen later)
      (at_call number opened (known_after_all opening seen) later)
  same seen [] number opened = tt
  same seen (Begins origin ∷ Ends next ∷ later) number opened =
      both_by_end IsSameKnown (Some (known_from opening seen))
      (Some (record { known = known_after_all opening seen; later = Ends next ∷ later }))
      (sym (known_by_search kept opening seen))
      (open_after origin opened) number next (λ n o. known_before n o opening seen later)
      (λ n o. at_call n o (known_after_all opening seen) later) (λ n o. same seen later n o)
  same seen (Begins origin ∷ later) number opened = tt
  same seen (o ∷ later) number opened =
      subst
      (λ known. IsSameKnown (known_before number opened opening (seen ++ o ∷ []) later)
      (at_call number opened known later))
      (known_after_both opening seen (o ∷ [])) (same (seen ++ o ∷ []) later number opened)

pub known_before_is_kept : KnownIsKept → KnownBeforeIsKept
known_before_is_kept kept opening observations number = same kept opening [] observations number 0
