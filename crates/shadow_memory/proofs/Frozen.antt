-- Frozen bytes: what a write, more pages, and copies of pages do to the bytes of places.
use Rattle.std.proofs.Common.{◌≡◌, ℕ, zero, suc, ◌+◌, ◌<◌, ◌⊎◌, inl, inr, List, [], ◌∷◌, ◌++◌, length, take, slice_set, map, Option, Some, None, Result, Ok, Err, Bool, refl, sym, ap, ◌∙◌, subst, arith, length-append, get_or-set_other}
use Rattle.std.proofs.lemmas.Bool.{cases_order}
use Rattle.std.specs.Prelude.{is_some, OnErr}
use Rattle.std.specs.List.{All}
use Rattle.std.proofs.Math.Seq.{get_or-append_seam, take-suc}
use Rattle.std.proofs.lemmas.Grind.{flat_map-append}
use Rattle.std.proofs.lemmas.List.{get_or_append_left}
use Rattle.std.proofs.lemmas.List.Elements.{All-append, All-cons, All-head, All-nil, All-tail, All-weaker}
use Rattle.page_arena.specs.declared.TheConstants.{PAGE_LENGTH}
use Rattle.page_arena.specs.declared.PageId.{PageId}
use Rattle.page_arena.specs.Pages.{page_at}
use Rattle.shadow_memory.specs.KnownBytes.{bytes_of_place, bytes_of_places, kept_of, page_of, AreCopies, AreFrozen, AreKept, AreMore, IsBetween, IsCopy, Kept}

pub on_err : {A B : Type 0} (result : Result A B) {X : Type 0} → X → OnErr result X
on_err (Ok done) x = tt
on_err (Err fault) x = x

-- places whose pages have not changed have the same bytes
same_places : (old new : List (List ℕ)) (places : List (Option PageId))
    → ((place : ℕ) (id : PageId) → page_of places place ≡ Some id → page_at new id.number ≡ page_at old id.number)
    → bytes_of_places new places ≡ bytes_of_places old places
same_places old new [] same = refl
same_places old new (first ∷ places) same =
    ap (λ bytes. bytes ++ bytes_of_places new places) (head first refl)
    ∙ ap (λ bytes. bytes_of_place old first ++ bytes)
    (same_places old new places (λ place id is. same (suc place) id is))
  where
    head : (id : Option PageId) → first ≡ id → bytes_of_place new id ≡ bytes_of_place old id
    head None is = refl
    head (Some id) is = same 0 id is

-- the bytes of places stay if there are more pages
pub same_when_more : (pages more_pages : List (List ℕ)) (places : List (Option PageId))
    → ((place : ℕ) (id : PageId) → page_of places place ≡ Some id → id.number < length pages)
    → AreMore pages more_pages → bytes_of_places more_pages places ≡ bytes_of_places pages places
same_when_more pages more_pages places there more =
    same_places pages more_pages places (λ place id is. more.same id.number (there place id is))

-- frozen bytes stay if a page of another place is written
pub frozen_written : (places frozen : List (Option PageId)) (pages : List (List ℕ)) → AreFrozen places frozen pages
    → (id : PageId) (page : List ℕ) (place : ℕ) → page_of places place ≡ Some id
    → bytes_of_places (slice_set pages id.number page) frozen ≡ bytes_of_places pages frozen
frozen_written places frozen pages are id page place is =
    same_places pages (slice_set pages id.number page) frozen (λ other found there.
    get_or-set_other pages id.number found.number page []
    (λ same. are.apart place other id is (there ∙ ap (λ n. Some (record { number = n })) same)))

between_at : (low high : ℕ) (places : List (Option PageId)) (place : ℕ) (id : PageId)
    → All (IsBetween low high) places → page_of places place ≡ Some id → IsBetween low high (Some id)
between_at low high [] place id all is = cc
between_at low high (first ∷ places) zero id all is =
    subst (IsBetween low high) is (All-head (IsBetween low high) first places all)
between_at low high (first ∷ places) (suc place) id all is =
    between_at low high places place id (All-tail (IsBetween low high) first places all) is

-- what is kept, from its parts
abbrev made : List ℕ → List Bool → List ℕ → Kept
made bytes touched frozen = record { bytes = bytes; touched = touched; frozen = frozen }

-- what is kept after the copies of all pages replace the frozen ones
pub frozen_is : (places frozen copies : List (Option PageId)) (pages more_pages : List (List ℕ)) → AreKept places pages
    → AreMore pages more_pages → AreCopies places pages copies more_pages
    → kept_of places copies more_pages
    ≡ record (kept_of places frozen pages) { frozen = bytes_of_places pages places }
frozen_is places frozen copies pages more_pages kept more are =
    ap (λ bytes. made bytes (map is_some places) (bytes_of_places more_pages copies))
    (same_when_more pages more_pages places kept.there more)
    ∙ ap (made (bytes_of_places pages places) (map is_some places)) are.same

-- what is kept stays if there are more pages
pub kept_same : (places frozen : List (Option PageId)) (pages more_pages : List (List ℕ)) → AreKept places pages
    → AreFrozen places frozen pages → AreMore pages more_pages
    → kept_of places frozen more_pages ≡ kept_of places frozen pages
kept_same places frozen pages more_pages kept are more =
    ap (λ bytes. made bytes (map is_some places) (bytes_of_places more_pages frozen))
    (same_when_more pages more_pages places kept.there more)
    ∙ ap (made (bytes_of_places pages places) (map is_some places))
    (same_when_more pages more_pages frozen are.there more)

-- ---- one more copy

pub more_after : (a b c : List (List ℕ)) → AreMore a b → AreMore b c → AreMore a c
more_after a b c first later =
    record {
      count = omega (arith, first.count, later.count);
      same = λ number below. later.same number (omega (arith, below, first.count)) ∙ first.same number below;
    }

module _ (pages : List (List ℕ)) (page : List ℕ) where
  abbrev longer : List (List ℕ)
  longer = pages ++ page ∷ []

  longer_is : length longer ≡ length pages + 1
  longer_is = length-append pages (page ∷ [])

  is_more : AreMore pages longer
  is_more =
      record {
        count = omega (arith, longer_is);
        same = λ number below. get_or_append_left pages (page ∷ []) [] number below;
      }

  longer_kept : (places : List (Option PageId)) → AreKept places pages → length page ≡ PAGE_LENGTH
      → AreKept places longer
  longer_kept places kept whole =
      record {
        whole = λ number below. go number (cases_order number (length pages)) below;
        there = λ place id is. omega (arith, kept.there place id is, longer_is);
        apart = kept.apart;
      }
    where
      go : (number : ℕ) → (number ≡ length pages) ⊎ ((number < length pages) ⊎ (length pages < number))
          → number < length longer → length (page_at longer number) ≡ PAGE_LENGTH
      go number (inl same) below =
          ap (λ n. length (page_at longer n)) same ∙ (ap length (get_or-append_seam pages page [] []) ∙ whole)
      go number (inr (inl less)) below =
          ap length (is_more.same number less) ∙ kept.whole number less
      go number (inr (inr past)) below = absurd (omega (arith, past, below, longer_is))

module _ (places : List (Option PageId)) (pages now next : List (List ℕ)) (id copy : Option PageId)
    (there : (found : PageId) → id ≡ Some found → found.number < length pages) (more : AreMore pages now)
    (one : IsCopy id now copy next) where
  -- what a copy adds
  pub copy_more : AreMore now next
  copy_more = go id one
    where
      go : (id : Option PageId) → IsCopy id now copy next → AreMore now next
      go None is =
          subst (AreMore now) (sym is.1) (record { count = omega arith; same = λ number below. refl })
      go (Some found) is = subst (AreMore now) (sym is.1) (is_more now (page_at now found.number))

  pub copy_kept : AreKept places now → AreKept places next
  copy_kept kept = go id refl one
    where
      go : (o : Option PageId) → id ≡ o → IsCopy o now copy next → AreKept places next
      go None e is = subst (AreKept places) (sym is.1) kept
      go (Some found) e is =
          subst (AreKept places) (sym is.1)
          (longer_kept now (page_at now found.number) places kept
          (kept.whole found.number (omega (arith, there found e, more.count))))

  copy_between : IsBetween (length pages) (length next) copy
  copy_between = go id one
    where
      go : (o : Option PageId) → IsCopy o now copy next → IsBetween (length pages) (length next) copy
      go None is = subst (IsBetween (length pages) (length next)) (sym is.0) tt
      go (Some found) is =
          let size : length next ≡ length now + 1 = ap length is.1 ∙ longer_is now (page_at now found.number) in
          subst (IsBetween (length pages) (length next)) (sym is.0) (more.count, omega (arith, size))

  copy_bytes : bytes_of_place next copy ≡ bytes_of_place pages id
  copy_bytes = go id refl one
    where
      go : (o : Option PageId) → id ≡ o → IsCopy o now copy next → bytes_of_place next copy ≡ bytes_of_place pages o
      go None e is = ap (bytes_of_place next) is.0
      go (Some found) e is =
          ap (bytes_of_place next) is.0
          ∙ ap (λ pages. page_at pages (length now)) is.1
          ∙ get_or-append_seam now (page_at now found.number) [] []
          ∙ more.same found.number (there found e)

  pub copied_more : (copies : List (Option PageId)) (index : ℕ) → index < length places
      → id ≡ page_of places index → AreCopies (take index places) pages copies now
      → AreCopies (take (index + 1) places) pages (copies ++ copy ∷ []) next
  copied_more copies index below is copied =
      record {
        later =
            All-append (IsBetween (length pages) (length next)) copies (copy ∷ [])
            (All-weaker (IsBetween (length pages) (length now)) (IsBetween (length pages) (length next)) widened copies
            copied.later)
            (All-cons (IsBetween (length pages) (length next)) copy [] copy_between
            (All-nil (IsBetween (length pages) (length next))));
        same =
            flat_map-append (bytes_of_place next) copies (copy ∷ [])
            ∙ ap (λ bytes. bytes ++ (bytes_of_place next copy ++ [])) earlier
            ∙ ap (λ bytes. bytes_of_places pages (take index places) ++ (bytes ++ [])) copy_bytes
            ∙ sym (flat_map-append (bytes_of_place pages) (take index places) (id ∷ []))
            ∙ ap (λ last. bytes_of_places pages (take index places ++ last ∷ [])) is
            ∙ sym (ap (bytes_of_places pages) (take-suc places index None below))
            ∙ ap (λ n. bytes_of_places pages (take n places)) next_is;
      }
    where
      next_is : suc index ≡ index + 1
      next_is = omega arith

      widened : (o : Option PageId) → IsBetween (length pages) (length now) o
          → IsBetween (length pages) (length next) o
      widened None between = tt
      widened (Some found) between = (between.0, omega (arith, between.1, copy_more.count))

      earlier : bytes_of_places next copies ≡ bytes_of_places pages (take index places)
      earlier =
          same_when_more now next copies
          (λ place found is. (between_at (length pages) (length now) copies place found copied.later is).1) copy_more
          ∙ copied.same

-- copies of the pages of the first places, and what holds of all pages
pub record AreCopied (places : List (Option PageId)) (pages : List (List ℕ)) (index : ℕ)
    (copies : List (Option PageId)) (now : List (List ℕ)) : Type 0 where
  pub copies_are : AreCopies (take index places) pages copies now
  pub kept : AreKept places now
  pub more : AreMore pages now

pub one_more : (places : List (Option PageId)) (pages now next : List (List ℕ)) (id copy : Option PageId)
    (copies more_copies : List (Option PageId)) (index : ℕ) → AreKept places pages → index < length places
    → id ≡ page_of places index → IsCopy id now copy next → more_copies ≡ copies ++ copy ∷ []
    → AreCopied places pages index copies now → AreCopied places pages (index + 1) more_copies next
one_more places pages now next id copy copies more_copies index kept below is one pushed held =
    record {
      copies_are =
          subst (λ copies. AreCopies (take (index + 1) places) pages copies next) (sym pushed)
          (copied_more places pages now next id copy there held.more one copies index below is held.copies_are);
      kept = copy_kept places pages now next id copy there held.more one held.kept;
      more =
          more_after pages now next held.more (copy_more places pages now next id copy there held.more one);
    }
  where
    there : (found : PageId) → id ≡ Some found → found.number < length pages
    there found e = kept.there index found (sym is ∙ e)
