-- What is known by a search of all observations is what is known one observation at a time, and so are the needed
-- segments.
use Rattle.std.proofs.Common.{◌≡◌, List, [], ◌∷◌, ◌++◌, Option, refl, sym, ap, ◌∙◌, subst}
use Rattle.std.specs.Prelude.{unwrap_or}
use Rattle.base.proofs.Options.{first_else}
use Rattle.trace_model.specs.declared.tapes.Segment.{Segment}
use Rattle.record_replay_spec.specs.Observations.{Observation, Begins, Ends}
use Rattle.record_replay_spec.specs.Known.{Known, last_some, carried_byte, carried_entry, carried_global, known_pages, known_entries, known_from, known_after, known_after_all}
use Rattle.record_replay_spec.specs.Windows.{window}
use Rattle.record_replay_spec.specs.Needed.{IsNeededSegment, AreNeededSegments}
use Rattle.record_replay_spec.specs.Kept.{AreKeptSegments}
use Rattle.record_replay_spec.specs.Laws.{KnownIsKept, NeededSegmentsAreKept}

-- a part of what is known that each observation changes by what it carries
kept : {X : Type 0} (carried : Observation → Option X) (part : Known → X)
    → ((known : Known) (o : Observation) → part (known_after known o) ≡ unwrap_or (carried o) (part known))
    → (seen : List Observation) (known : Known)
    → part (known_after_all known seen) ≡ unwrap_or (last_some carried seen) (part known)
kept carried part each [] known = refl
kept carried part each (o ∷ later) known =
    kept carried part each later (known_after known o)
    ∙ ap (λ x. unwrap_or (last_some carried later) x) (each known o)
    ∙ sym (first_else (last_some carried later) (carried o) (part known))

kept_pages : (seen : List Observation) (known : Known)
    → (known_after_all known seen).pages ≡ known_pages known.pages seen
kept_pages [] known = refl
kept_pages (o ∷ later) known = kept_pages later (known_after known o)

kept_entries : (seen : List Observation) (known : Known)
    → (known_after_all known seen).entries ≡ known_entries known.entries seen
kept_entries [] known = refl
kept_entries (o ∷ later) known = kept_entries later (known_after known o)

pub known_is_kept : KnownIsKept
known_is_kept opening seen =
    record {
      byte = λ at. kept (carried_byte at) (λ known. known.byte at) (λ known o. refl) seen opening;
      entry = λ at. kept (carried_entry at) (λ known. known.entry at) (λ known o. refl) seen opening;
      global = λ at. kept (carried_global at) (λ known. known.global at) (λ known o. refl) seen opening;
      pages = kept_pages seen opening;
      entries = kept_entries seen opening;
    }

-- ---- segments

found : (opening : Known) (seen : List Observation) → known_after_all opening seen ≡ known_from opening seen
found opening seen =
    let f = known_is_kept opening seen in
    (λ i.
    record {
      byte = λ at. f.byte at i;
      entry = λ at. f.entry at i;
      global = λ at. f.global at i;
      pages = f.pages i;
      entries = f.entries i;
    })

after_last : (known : Known) (seen : List Observation) (o : Observation)
    → known_after_all known (seen ++ o ∷ []) ≡ known_after (known_after_all known seen) o
after_last known [] o = refl
after_last known (first ∷ later) o = after_last (known_after known first) later o

both_ways : (opening : Known) (seen later : List Observation) (segments : List Segment)
    → (AreNeededSegments opening seen later segments → AreKeptSegments (known_after_all opening seen) later segments)
    × (AreKeptSegments (known_after_all opening seen) later segments → AreNeededSegments opening seen later segments)
both_ways opening seen [] [] = (λ h. h, λ h. h)
both_ways opening seen [] (segment ∷ segments) = (λ h. h, λ h. h)
both_ways opening seen (Begins origin ∷ Ends next ∷ later) (segment ∷ segments) =
    let rest = both_ways opening seen later segments in (
      λ h. (subst needed (sym (found opening seen)) h.0, rest.0 h.1),
      λ h. (subst needed (found opening seen) h.0, rest.1 h.1),
    )
  where
    needed : Known → Type 0
    needed known = IsNeededSegment known origin next (window later) segment
both_ways opening seen (Begins origin ∷ Ends next ∷ later) [] = (λ h. h, λ h. h)
both_ways opening seen (Begins origin ∷ later) segments = (λ h. h, λ h. h)
both_ways opening seen (o ∷ later) segments =
    let rest = both_ways opening (seen ++ o ∷ []) later segments in (
      λ h. subst kept_from (after_last opening seen o) (rest.0 h),
      λ h. rest.1 (subst kept_from (sym (after_last opening seen o)) h),
    )
  where
    kept_from : Known → Type 0
    kept_from known = AreKeptSegments known later segments

pub needed_segments_are_kept : NeededSegmentsAreKept
needed_segments_are_kept opening observations segments = both_ways opening [] observations segments
