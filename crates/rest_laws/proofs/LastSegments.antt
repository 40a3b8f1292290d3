-- A cut has the last segments of its tape; so it weighs no more, and what holds of each segment holds of its own.
use Rattle.std.proofs.Common.{◌≡◌, ℕ, zero, suc, ◌+◌, List, [], ◌∷◌, ◌++◌, Option, Some, refl, sym, ap, ◌∙◌, subst, arith}
use Rattle.std.specs.Prelude.{sum_by}
use Rattle.std.specs.List.{AllByRecursion}
use Rattle.std.proofs.lemmas.List.Sums.{sum_by-append, sum_by-cons}
use Rattle.trace_model.specs.declared.tapes.Next.{Next}
use Rattle.trace_model.specs.declared.tapes.Next.TheVariants.{Call, Return, End, Trap}
use Rattle.trace_model.specs.declared.tapes.Segment.{Segment}
use Rattle.trace_model.specs.Weight.{segment_weight}
use Rattle.rest_spec.specs.Rests.{without_one, by_call}
use Rattle.rest_spec.specs.KnownBefore.{open_after, by_end}
use Rattle.rest_spec.specs.Cuts.{as_first, cut_of}
use Rattle.rest_laws.specs.FittingCuts.{AreLast, CutsAreLast, CutsAreLight}

-- with one more segment before
one_more : (segment : Segment) (segments cut : List Segment) → AreLast segments cut → AreLast (segment ∷ segments) cut
one_more segment segments cut last = record {
  before = segment ∷ last.before;
  first = last.first;
  later = last.later;
  parts = ap (λ l. segment ∷ l) last.parts;
  is = last.is;
}

module _ (segment : Segment) (segments cut : List Segment) where
  -- the segment begins the cut
  here : Some (as_first segment ∷ segments) ≡ Some cut → AreLast (segment ∷ segments) cut
  here is = record { before = []; first = segment; later = segments; parts = refl; is = cc }

  -- at a call of the host
  at_call : (opened number : ℕ) (later : ℕ → Option (List Segment))
      → ((n : ℕ) → later n ≡ Some cut → AreLast segments cut)
      → by_call opened number (Some (as_first segment ∷ segments)) later ≡ Some cut → AreLast (segment ∷ segments) cut
  at_call zero zero later rest is = here is
  at_call zero (suc number) later rest is = one_more segment segments cut (rest number is)
  at_call (suc opened) number later rest is = one_more segment segments cut (rest number is)

  -- at the end of an activity
  at_end : (opened number : ℕ) (next : Next) (later : (number opened : ℕ) → Option (List Segment))
      → ((n o : ℕ) → later n o ≡ Some cut → AreLast segments cut)
      → by_end opened number next (Some (as_first segment ∷ segments)) later ≡ Some cut
      → AreLast (segment ∷ segments) cut
  at_end opened number (Call func args) later rest is =
      at_call opened number (λ n. later n opened) (λ n. rest n opened) is
  at_end opened number (Return result) later rest is =
      one_more segment segments cut (rest number (without_one opened) is)
  at_end opened number End later rest is = one_more segment segments cut (rest number opened is)
  at_end opened number Trap later rest is = one_more segment segments cut (rest number opened is)

pub cuts_are_last : CutsAreLast
cuts_are_last [] cut number opened is = cc
cuts_are_last (segment ∷ segments) cut number opened is =
    at_end segment segments cut (open_after segment.origin opened) number segment.next (λ n o. cut_of n o segments)
    (λ n o h. cuts_are_last segments cut n o h) is

pub cuts_are_light : CutsAreLight
cuts_are_light tape cut number opened is =
    let last = cuts_are_last tape.segments cut number opened is in
    let whole =
    ap (sum_by segment_weight) last.parts ∙ sum_by-append segment_weight last.before (last.first ∷ last.later)
    ∙ ap (λ n. sum_by segment_weight last.before + n) (sum_by-cons segment_weight last.first last.later) in
    let part =
    ap (sum_by segment_weight) last.is ∙ sum_by-cons segment_weight (as_first last.first) last.later in
    omega (arith, whole, part)

-- what holds of each segment, whatever its origin, holds of each of the last
pub last_keep : (P : Segment → Type 0) → ((segment : Segment) → P segment → P (as_first segment))
    → (segments cut : List Segment) → AreLast segments cut → AllByRecursion P segments → AllByRecursion P cut
last_keep P first segments cut last all =
    subst (AllByRecursion P) (sym last.is)
    (from last.before (subst (AllByRecursion P) last.parts all))
  where
    from : (before : List Segment) → AllByRecursion P (before ++ last.first ∷ last.later)
        → AllByRecursion P (as_first last.first ∷ last.later)
    from [] all = (first last.first all.0, all.1)
    from (segment ∷ before) all = from before all.1
