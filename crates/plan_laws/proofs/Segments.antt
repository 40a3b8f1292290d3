-- What each activation of the host owns of the rest of a tape, and a segment before the rest.
use Rattle.std.proofs.Common.{◌≡◌, ℕ, ◌<◌, ◌≤◌, List, [], ◌∷◌, length, cond, refl, sym, ap, ◌∙◌, subst}
use Rattle.std.specs.Prelude.{filter, nat_eq}
use Rattle.std.specs.List.{slice_index_or}
use Rattle.base.proofs.Booleans.{own_number}
use Rattle.trace_model.specs.declared.tapes.Origin.{Origin}
use Rattle.trace_model.specs.declared.tapes.Origin.TheVariants.{Begin, Import as Imports, Back}
use Rattle.trace_model.specs.declared.tapes.Next.{Next}
use Rattle.trace_model.specs.declared.tapes.Next.TheVariants.{Call, Return, End, Trap}
use Rattle.trace_model.specs.declared.tapes.Segment.{Segment}
use Rattle.replay_module_spec.specs.Plans.{around_innermost, innermost, with_origin, with_segment}
use Rattle.replay_module_laws.specs.PlanLaws.{is_call_of}
use Rattle.plan_laws.specs.Owners.{Owner, CallOf, innermost_owner, share_of}
use Rattle.plan_laws.specs.TapeOwners.{call_count, calls_inside, calls_after, owners_from}
use Rattle.plan_laws.proofs.OpenCalls.{AreOpen, IsOver, apart_from_innermost, call_open, call_over, count_grows, count_more, fewer_open, fewer_over, later_apart, share_other, share_own}
use Rattle.plan_laws.proofs.Shares.{Adds, BegunAre, around_are, call_begins, calls_from, same_calls}

-- ---- the calls that are open

-- the segments in which a call of an import begins
abbrev pub begins_in : ℕ → List Segment → List Segment
begins_in import segments = filter (λ (segment : Segment). is_call_of import segment.origin) segments

-- how many calls of an import begin in segments, with a segment before them to which control comes so
abbrev pub count_with : Origin → Segment → List Segment → (import : ℕ) → ℕ
count_with origin segment segments import =
    length (cond (is_call_of import origin) (segment ∷ begins_in import segments) (begins_in import segments))

grows : (origin : Origin) (segment : Segment) (before : List Segment) (import : ℕ)
    → call_count before import ≤ count_with origin segment before import
grows origin segment before import = count_grows (is_call_of import origin) segment (begins_in import before)

begins : (import : ℕ) (segment : Segment) (before : List Segment)
    → call_count before import < count_with (Imports import) segment before import
begins import segment before =
    count_more (nat_eq import import) segment (begins_in import before) (own_number import)

pub open_inside : (origin : Origin) (segment : Segment) (before : List Segment) (opened : List Owner)
    → AreOpen (call_count before) opened
    → AreOpen (count_with origin segment before) (calls_inside origin before opened)
open_inside Begin segment before opened are = are
open_inside (Imports import) segment before opened are =
    call_open (call_count before) (count_with (Imports import) segment before) (grows (Imports import) segment before)
    import (begins import segment before) opened are
open_inside Back segment before opened are = are

over_inside : (origin : Origin) (segment : Segment) (before : List Segment) (opened : List Owner) (owner : Owner)
    → IsOver (call_count before) opened owner
    → IsOver (count_with origin segment before) (calls_inside origin before opened) owner
over_inside Begin segment before opened owner over = over
over_inside (Imports import) segment before opened owner over =
    call_over (call_count before) (count_with (Imports import) segment before) (grows (Imports import) segment before)
    import (begins import segment before) opened owner
    over
over_inside Back segment before opened owner over = over

pub open_after : (next : Next) (counts : ℕ → ℕ) (opened : List Owner) → AreOpen counts opened
    → AreOpen counts (calls_after next opened)
open_after (Call func args) counts opened are = are
open_after (Return result) counts opened are = fewer_open counts opened are
open_after End counts opened are = are
open_after Trap counts opened are = are

over_after : (next : Next) (counts : ℕ → ℕ) (opened : List Owner) (owner : Owner) → IsOver counts opened owner
    → IsOver counts (calls_after next opened) owner
over_after (Call func args) counts opened owner over = over
over_after (Return result) counts opened owner over = fewer_over counts opened owner over
over_after End counts opened owner over = over
over_after Trap counts opened owner over = over

-- ---- what each activation owns

-- what each activation owns of segments
abbrev pub owns_from : List Segment → List Owner → List Segment → Owner → List Segment
owns_from before opened segments owner = share_of owner (owners_from before opened segments) segments

-- what each activation owns with one more segment, and without it
abbrev pub AddsSegment : Segment → Owner → (without with_it : Owner → List Segment) → Type 0
AddsSegment segment top without with_it = Adds top (segment ∷ without top) without with_it

pub adds_first : (before : List Segment) (opened : List Owner) (segment : Segment) (later : List Segment)
    → AddsSegment segment (innermost_owner (calls_inside segment.origin before opened))
    (owns_from (segment ∷ before) (calls_after segment.next (calls_inside segment.origin before opened)) later)
    (owns_from before opened (segment ∷ later))
adds_first before opened segment later =
    let inside = calls_inside segment.origin before opened in
    let owners = owners_from (segment ∷ before) (calls_after segment.next inside) later in
    record {
      own = share_own (innermost_owner inside) segment owners later;
      other = λ owner apart. share_other owner (innermost_owner inside) segment owners later apart;
    }

-- a call that has begun and is not open owns nothing that is later
pub over_owns_none : (segments before : List Segment) (opened : List Owner) (owner : Owner)
    → IsOver (call_count before) opened owner → owns_from before opened segments owner ≡ []
over_owns_none [] before opened owner over = refl
over_owns_none (segment ∷ later) before opened owner over =
    let inside = calls_inside segment.origin before opened in
    let counts = call_count (segment ∷ before) in
    let still = over_inside segment.origin segment before opened owner over in
    (adds_first before opened segment later).other owner (apart_from_innermost counts inside owner still)
    ∙ over_owns_none later (segment ∷ before) (calls_after segment.next inside) owner
    (over_after segment.next counts inside owner still)

-- ---- control leaves the host

-- control leaves the host so: a return closes a call, and there are no segments after an end or a trap
abbrev pub Leaves : Next → List Owner → List Segment → Type 0
Leaves (Call func args) opened later = Unit {0}
Leaves (Return result) [] later = ⊥
Leaves (Return result) (owner ∷ around) later = Unit {0}
Leaves End opened later = later ≡ []
Leaves Trap opened later = later ≡ []

-- the activations that go on have what they own, the host's own work too
abbrev pub SegmentsAre : (Owner → List Segment) → List Owner → List (List Segment) → Type 0
SegmentsAre owns opened begun =
    BegunAre innermost around_innermost (λ own begun. innermost begun ≡ own) owns opened begun

module _ (segment : Segment) (counts : ℕ → ℕ) (without with_it : Owner → List Segment) where
  outer_are : (owner : Owner) (around : List Owner) (begun : List (List Segment))
      → AddsSegment segment owner without with_it → IsOver counts around owner → SegmentsAre without around begun
      → SegmentsAre with_it around begun
  outer_are owner around begun adds over are =
      around_are innermost around_innermost (λ own begun. innermost begun ≡ own) counts owner (segment ∷ without owner)
      without with_it around begun adds over are

  -- the segment is the last of the innermost activation
  last_are : (opened : List Owner) (begun : List (List Segment))
      → AddsSegment segment (innermost_owner opened) without with_it → AreOpen counts opened → begun ≡ []
      → SegmentsAre without opened begun → SegmentsAre with_it opened ((segment ∷ []) ∷ begun)
  last_are [] begun adds are_open none are = ap (λ l. segment ∷ l) (sym (ap innermost none) ∙ are) ∙ sym adds.own
  last_are (owner ∷ around) begun adds are_open none are =
      let same : around_innermost begun ≡ begun = ap around_innermost none ∙ sym none in (
        ap (λ l. segment ∷ l) (sym (ap innermost none) ∙ are.0) ∙ sym adds.own,
        outer_are owner around begun adds are_open.0 (subst (SegmentsAre without around) same are.1),
      )

  pub next_are : (next : Next) (opened : List Owner) (later : List Segment) (begun : List (List Segment))
      → AddsSegment segment (innermost_owner opened) without with_it → AreOpen counts opened
      → Leaves next opened later → (later ≡ [] → begun ≡ [])
      → ((owner : Owner) → IsOver counts (calls_after next opened) owner → without owner ≡ [])
      → SegmentsAre without (calls_after next opened) begun
      → SegmentsAre with_it opened (with_segment segment next begun)
  next_are (Call func args) [] later begun adds are_open leaves none over are =
      ap (λ l. segment ∷ l) are ∙ sym adds.own
  next_are (Call func args) (owner ∷ around) later begun adds are_open leaves none over are = (
    ap (λ l. segment ∷ l) are.0 ∙ sym adds.own,
    outer_are owner around (around_innermost begun) adds are_open.0 are.1,
  )
  next_are (Return result) [] later begun adds are_open leaves none over are = absurd leaves
  next_are (Return result) (owner ∷ around) later begun adds are_open leaves none over are = (
    ap (λ l. segment ∷ l) (sym (over owner are_open.0)) ∙ sym adds.own,
    outer_are owner around begun adds are_open.0 are,
  )
  next_are End opened later begun adds are_open leaves none over are =
      last_are opened begun adds are_open (none leaves) are
  next_are Trap opened later begun adds are_open leaves none over are =
      last_are opened begun adds are_open (none leaves) are

-- ---- control reaches the host

pub origin_are : (owns : Owner → List Segment) (origin : Origin) (before : List Segment) (opened : List Owner)
    (begun : List (List Segment)) (calls : List (List (List Segment)))
    → SegmentsAre owns (calls_inside origin before opened) begun
    → SegmentsAre owns opened (with_origin origin begun calls).begun
origin_are owns Begin before opened begun calls are = are
origin_are owns (Imports import) before opened begun calls are = are.1
origin_are owns Back before opened begun calls are = are

module _ (import : ℕ) (segment : Segment) (without with_it : Owner → List Segment) where
  -- no call begins
  none_begins : (before : List Segment) (opened : List Owner) (count : ℕ)
      → AddsSegment segment (innermost_owner opened) without with_it → AreOpen (call_count before) opened
      → calls_from without import (call_count before import) count
      ≡ calls_from with_it import (call_count before import) count
  none_begins before opened count adds are_open =
      same_calls import without with_it (call_count before import) count (λ number from.
      adds.other (CallOf import number) (later_apart (call_count before) opened import number are_open from))

  pub origin_calls : (origin : Origin) (before later : List Segment) (opened : List Owner)
      (begun : List (List Segment)) (calls : List (List (List Segment)))
      → AddsSegment segment (innermost_owner (calls_inside origin before opened)) without with_it
      → AreOpen (call_count before) opened → SegmentsAre with_it (calls_inside origin before opened) begun
      → import < length calls
      → slice_index_or calls import []
      ≡ calls_from without import (count_with origin segment before import) (call_count later import)
      → slice_index_or (with_origin origin begun calls).calls import []
      ≡ calls_from with_it import (call_count before import) (count_with origin segment later import)
  origin_calls Begin before later opened begun calls adds are_open are below rest =
      rest ∙ none_begins before opened (call_count later import) adds are_open
  origin_calls (Imports other) before later opened begun calls adds are_open are below rest =
      call_begins import without with_it other (call_count before) segment (begins_in import before)
      (begins_in import later) (innermost begun) calls refl below are.0
      (λ number apart. adds.other (CallOf import number) apart) rest
  origin_calls Back before later opened begun calls adds are_open are below rest =
      rest ∙ none_begins before opened (call_count later import) adds are_open
