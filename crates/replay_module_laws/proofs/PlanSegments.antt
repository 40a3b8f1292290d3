-- The plan of a tape that fits a module has each segment of the tape once, in order, in the call to which it belongs.
use Rattle.std.proofs.Common.{◌≡◌, ℕ, zero, suc, ◌+◌, ◌<◌, ◌≤◌, List, [], ◌∷◌, length, Some, None, Bool, true, cond, inl, inr, refl, ap, arith}
use Rattle.std.specs.Prelude.{◌&&◌, nat_eq, nat_le, nat_lt, not, replicate, slice_get, slice_set, sum_by}
use Rattle.std.specs.Option.{option_to_list}
use Rattle.std.specs.List.{AllByRecursion, slice_index_or}
use Rattle.std.proofs.lemmas.Bool.Decides.{nat_tests}
use Rattle.std.proofs.lemmas.List.Sums.{sum_by-cons}
use Rattle.base.proofs.Booleans.{and_parts}
use Rattle.base.proofs.Options.{and_then_some, cond_none_some, cond_some}
use Rattle.std.proofs.lemmas.List.{nil_from_length}
use Rattle.wasm_syntax.specs.declared.modules.Module.{Module}
use Rattle.wasm_syntax.specs.Index.{func_type, imported_funcs}
use Rattle.trace_model.specs.declared.tapes.Origin.{Origin}
use Rattle.trace_model.specs.declared.tapes.Origin.TheVariants.{Begin, Import as Imports, Back}
use Rattle.trace_model.specs.declared.tapes.Next.{Next}
use Rattle.trace_model.specs.declared.tapes.Next.TheVariants.{Call, Return, End, Trap}
use Rattle.trace_model.specs.declared.tapes.Segment.{Segment}
use Rattle.trace_model.specs.Fitting.{came, effects_fit, fitting_step, gives_values, left, takes_values, types_of, unfit_from}
use Rattle.replay_module_spec.specs.Plans.{around_innermost, innermost, left_of, with_origin, with_segment}
use Rattle.replay_module_laws.specs.PlanLaws.{IsInOrder}
use Rattle.replay_module_laws.proofs.FittingPlans.{left_length, none_after, stepped}

-- ---- the number of open calls

-- control reaches the host: a call of an import opens one
abbrev pub Comes : (imports opened inside : ℕ) → Origin → Type 0
Comes imports opened inside (Imports import) = (inside ≡ suc opened) × (import < imports)
Comes imports opened inside origin = inside ≡ opened

-- control leaves the host: a return closes a call, and after an end or a trap there are no segments
abbrev pub Leaves : (inside next : ℕ) → Next → List Segment → Type 0
Leaves inside next (Call func args) later = inside ≡ next
Leaves inside next (Return result) later = inside ≡ suc next
Leaves inside next End later = later ≡ []
Leaves inside next Trap later = later ≡ []

-- the numbers of open calls follow from segment to segment
abbrev pub Follow : (imports opened : ℕ) → List Segment → Type 0
Follow imports opened [] = Unit {0}
Follow imports opened (segment ∷ later) =
    (inside : ℕ) × (next : ℕ) × Comes imports opened inside segment.origin × Leaves inside next segment.next later
    × Follow imports next later

module _ (m : Module) where
  comes : (at : ℕ) (origin : Origin) (opened inside : List ℕ) → came m at opened origin ≡ Some inside
      → Comes (imported_funcs m) (length opened) (length inside) origin
  comes at Begin opened inside h =
      let e = (cond_some (nat_eq at 0) (Some opened) inside h).1 in
      let same : inside ≡ opened = cc in
      ap length same
  comes at (Imports import) opened inside h =
      let p = cond_some (not (nat_eq at 0) && nat_lt import (imported_funcs m)) (Some (import ∷ opened)) inside h in
      let below = (and_parts (not (nat_eq at 0)) (nat_lt import (imported_funcs m)) p.0).1 in
      let e = p.1 in
      let same : inside ≡ import ∷ opened = cc in
      (ap length same, grind (arith, nat_tests, below))
  comes at Back opened inside h =
      let e = (cond_none_some (nat_eq at 0) (Some opened) inside h).1 in
      let same : inside ≡ opened = cc in
      ap length same

  leaves : (is_last : Bool) (way : Next) (inside next : List ℕ) (later : List Segment)
      → (is_last ≡ true → later ≡ []) → left m is_last inside way ≡ Some next
      → Leaves (length inside) (length next) way later
  leaves is_last (Call func args) inside next later last h =
      let e = (cond_some (nat_le (imported_funcs m) func && takes_values (types_of args) (func_type m func))
      (Some inside) next h).1 in
      let same : inside ≡ next = cc in
      ap length same
  leaves is_last (Return result) [] next later last h = absurd (cc h)
  leaves is_last (Return result) (import ∷ opened) next later last h =
      let e = (cond_some (gives_values (types_of (option_to_list result)) (func_type m import)) (Some opened) next h).1 in
      let same : opened ≡ next = cc in
      ap (λ l. suc (length l)) same
  leaves is_last End [] next later last h =
      let none : List ℕ = [] in last (cond_some is_last (Some none) next h).0
  leaves is_last End (import ∷ opened) next later last h = absurd (cc h)
  leaves is_last Trap [] next later last h = absurd (cc h)
  leaves is_last Trap (import ∷ opened) next later last h = last (cond_some is_last (Some (import ∷ opened)) next h).0

  pub follows : (segments : List Segment) (count at : ℕ) (opened : List ℕ) → count ≡ at + length segments
      → unfit_from m count at opened segments ≡ None → Follow (imported_funcs m) (length opened) segments
  follows [] count at opened long h = tt
  follows (segment ∷ later) count at opened long h =
      let is_last = nat_eq (suc at) count in
      let s = stepped (λ next. unfit_from m count (suc at) next later) (fitting_step m at is_last opened segment) at h in
      let c =
      and_then_some (came m at opened segment.origin)
      (λ inside. cond (effects_fit m segment.effects) (left m is_last inside segment.next) None) s.0 s.1 in
      let e = cond_some (effects_fit m segment.effects) (left m is_last c.0 segment.next) s.0 c.2 in (
        length c.0,
        length s.0,
        comes at segment.origin opened c.0 c.1,
        leaves is_last segment.next c.0 s.0 later (λ last. nil_from_length later (none_after at count (length later) long last))
            e.1,
        follows later count (suc at) s.0 (omega (arith, long)) s.2,
      )

-- ---- activations that have begun

-- a segment is the first of the innermost activation
pub first_is : (segment : Segment) (next : Next) (begun : List (List Segment))
    → slice_get (innermost (with_segment segment next begun)) 0 ≡ Some segment
first_is segment (Call func args) begun = refl
first_is segment (Return result) begun = refl
first_is segment End begun = refl
first_is segment Trap begun = refl

-- there is at most one activation more than there are open calls
segment_count : (segment : Segment) (way : Next) (inside next : ℕ) (later : List Segment) (begun : List (List Segment))
    → Leaves inside next way later → (later ≡ [] → begun ≡ []) → length begun ≤ suc next
    → length (with_segment segment way begun) ≤ suc inside
segment_count segment (Call func args) inside next later [] h none few = omega arith
segment_count segment (Call func args) inside next later (own ∷ around) h none few = omega (arith, h, few)
segment_count segment (Return result) inside next later begun h none few = omega (arith, h, few)
segment_count segment End inside next later begun h none few =
    let e = ap length (none h) in omega (arith, e)
segment_count segment Trap inside next later begun h none few =
    let e = ap length (none h) in omega (arith, e)

origin_count : (imports opened inside : ℕ) (origin : Origin) (begun : List (List Segment))
    (calls : List (List (List Segment))) → Comes imports opened inside origin → length begun ≤ suc inside
    → length (with_origin origin begun calls).begun ≤ suc opened
origin_count imports opened inside Begin begun calls h few = omega (arith, h, few)
origin_count imports opened inside (Imports import) [] calls h few = omega arith
origin_count imports opened inside (Imports import) (own ∷ around) calls h few =
    let e = h.0 in omega (arith, e, few)
origin_count imports opened inside Back begun calls h few = omega (arith, h, few)

none_begun : (imports : ℕ) (later : List Segment) → later ≡ [] → (left_of imports later).begun ≡ []
none_begun imports [] e = refl
none_begun imports (segment ∷ later) e = absurd (cc e)

pub begun_count : (imports opened : ℕ) (segments : List Segment) → Follow imports opened segments
    → length (left_of imports segments).begun ≤ suc opened
begun_count imports opened [] h = omega arith
begun_count imports opened (segment ∷ later) h =
    let rest = left_of imports later in
    origin_count imports opened h.0 segment.origin (with_segment segment segment.next rest.begun) rest.calls h.2
    (segment_count segment segment.next h.0 h.1 later rest.begun h.3 (none_begun imports later)
    (begun_count imports h.1 later h.4))

-- ---- sums

module _ (number : Segment → ℕ) where
  abbrev own_sum : List Segment → ℕ
  own_sum segments = sum_by number segments

  abbrev begun_sum : List (List Segment) → ℕ
  begun_sum begun = sum_by own_sum begun

  abbrev calls_sum : List (List (List Segment)) → ℕ
  calls_sum calls = sum_by begun_sum calls

  inner_sum : (begun : List (List Segment))
      → own_sum (innermost begun) + begun_sum (around_innermost begun) ≡ begun_sum begun
  inner_sum [] = refl
  inner_sum (segments ∷ around) = let sum = sum_by-cons own_sum segments around in omega (arith, sum)

  alone : (segment : Segment) (begun : List (List Segment))
      → begun_sum ((segment ∷ []) ∷ begun) ≡ number segment + begun_sum begun
  alone segment begun =
      let none : List Segment = [] in
      omega (arith, sum_by-cons own_sum (segment ∷ none) begun, sum_by-cons number segment none)

  segment_sum : (segment : Segment) (next : Next) (begun : List (List Segment))
      → begun_sum (with_segment segment next begun) ≡ number segment + begun_sum begun
  segment_sum segment (Call func args) begun =
      let inner = innermost begun in
      omega (
        arith,
        sum_by-cons own_sum (segment ∷ inner) (around_innermost begun),
        sum_by-cons number segment inner,
        inner_sum begun,
      )
  segment_sum segment (Return result) begun = alone segment begun
  segment_sum segment End begun = alone segment begun
  segment_sum segment Trap begun = alone segment begun

  set_sum : (calls : List (List (List Segment))) (import : ℕ) (first : List Segment) → import < length calls
      → calls_sum (slice_set calls import (first ∷ slice_index_or calls import [])) ≡ own_sum first + calls_sum calls
  set_sum [] import first below = absurd (omega (arith, below))
  set_sum (own ∷ calls) zero first below = omega (
    arith,
    sum_by-cons begun_sum (first ∷ own) calls,
    sum_by-cons own_sum first own,
    sum_by-cons begun_sum own calls,
  )
  set_sum (own ∷ calls) (suc import) first below = omega (
    arith,
    sum_by-cons begun_sum own (slice_set calls import (first ∷ slice_index_or calls import [])),
    sum_by-cons begun_sum own calls,
    set_sum calls import first (omega (arith, below)),
  )

  origin_sum : (imports opened inside : ℕ) (origin : Origin) (begun : List (List Segment))
      (calls : List (List (List Segment))) → Comes imports opened inside origin → length calls ≡ imports
      → begun_sum (with_origin origin begun calls).begun + calls_sum (with_origin origin begun calls).calls
      ≡ begun_sum begun + calls_sum calls
  origin_sum imports opened inside Begin begun calls h many = refl
  origin_sum imports opened inside (Imports import) begun calls h many =
      let below = h.1 in
      omega (arith, inner_sum begun, set_sum calls import (innermost begun) (omega (arith, below, many)))
  origin_sum imports opened inside Back begun calls h many = refl

  nothing_sum : (imports : ℕ) → calls_sum (replicate imports []) ≡ 0
  nothing_sum zero = refl
  nothing_sum (suc imports) =
      let none : List (List Segment) = [] in
      omega (arith, sum_by-cons begun_sum none (replicate imports none), nothing_sum imports)

  pub left_sum : (imports opened : ℕ) (segments : List Segment) → Follow imports opened segments
      → begun_sum (left_of imports segments).begun + calls_sum (left_of imports segments).calls ≡ own_sum segments
  left_sum imports opened [] h = let none = nothing_sum imports in omega (arith, none)
  left_sum imports opened (segment ∷ later) h =
      let rest = left_of imports later in
      omega (
        arith,
        origin_sum imports opened h.0 segment.origin (with_segment segment segment.next rest.begun) rest.calls h.2
            (left_length imports later),
        segment_sum segment segment.next rest.begun,
        left_sum imports h.1 later h.4,
        sum_by-cons number segment later,
      )

  pub only_sum : (begun : List (List Segment)) → length begun ≤ 1 → own_sum (innermost begun) ≡ begun_sum begun
  only_sum [] few = refl
  only_sum (segments ∷ []) few = let sum = sum_by-cons own_sum segments [] in omega (arith, sum)
  only_sum (segments ∷ (other ∷ around)) few = absurd (omega (arith, few))

-- ---- order

ordered_more : (segment : Segment) (segments others : List Segment) → IsInOrder segments others
    → IsInOrder segments (segment ∷ others)
ordered_more segment [] others h = tt
ordered_more segment (own ∷ segments) others h = inr h

module _ (segment : Segment) (others : List Segment) where
  abbrev AreOrdered : List Segment → List (List Segment) → Type 0
  AreOrdered others' lists = AllByRecursion (λ list. IsInOrder list others') lists

  lists_more : (lists : List (List Segment)) → AreOrdered others lists → AreOrdered (segment ∷ others) lists
  lists_more [] all = tt
  lists_more (list ∷ lists) all = (ordered_more segment list others all.0, lists_more lists all.1)

  calls_more : (calls : List (List (List Segment))) → AllByRecursion (AreOrdered others) calls
      → AllByRecursion (AreOrdered (segment ∷ others)) calls
  calls_more [] all = tt
  calls_more (lists ∷ calls) all = (lists_more lists all.0, calls_more calls all.1)

pub inner_ordered : (others : List Segment) (begun : List (List Segment))
    → AllByRecursion (λ list. IsInOrder list others) begun
    → IsInOrder (innermost begun) others × AllByRecursion (λ list. IsInOrder list others) (around_innermost begun)
inner_ordered others [] all = (tt, tt)
inner_ordered others (list ∷ around) all = all

segment_ordered : (segment : Segment) (next : Next) (others : List Segment) (begun : List (List Segment))
    → AllByRecursion (λ list. IsInOrder list others) begun
    → AllByRecursion (λ list. IsInOrder list (segment ∷ others)) (with_segment segment next begun)
segment_ordered segment (Call func args) others begun all =
    let inner = inner_ordered others begun all in
    (inl (refl, inner.0), lists_more segment others (around_innermost begun) inner.1)
segment_ordered segment (Return result) others begun all = (inl (refl, tt), lists_more segment others begun all)
segment_ordered segment End others begun all = (inl (refl, tt), lists_more segment others begun all)
segment_ordered segment Trap others begun all = (inl (refl, tt), lists_more segment others begun all)

set_ordered : (P : List Segment → Type 0) (calls : List (List (List Segment))) (import : ℕ) (first : List Segment)
    → P first → AllByRecursion (λ own. AllByRecursion P own) calls
    → AllByRecursion (λ own. AllByRecursion P own) (slice_set calls import (first ∷ slice_index_or calls import []))
set_ordered P [] import first own all = tt
set_ordered P (calls ∷ more) zero first own all = ((own, all.0), all.1)
set_ordered P (calls ∷ more) (suc import) first own all = (all.0, set_ordered P more import first own all.1)

origin_ordered : (others : List Segment) (origin : Origin) (begun : List (List Segment))
    (calls : List (List (List Segment))) → AllByRecursion (λ list. IsInOrder list others) begun
    → AllByRecursion (λ own. AllByRecursion (λ list. IsInOrder list others) own) calls
    → AllByRecursion (λ list. IsInOrder list others) (with_origin origin begun calls).begun
    × AllByRecursion (λ own. AllByRecursion (λ list. IsInOrder list others) own) (with_origin origin begun calls).calls
origin_ordered others Begin begun calls all own = (all, own)
origin_ordered others (Imports import) begun calls all own =
    let inner = inner_ordered others begun all in
    (inner.1, set_ordered (λ list. IsInOrder list others) calls import (innermost begun) inner.0 own)
origin_ordered others Back begun calls all own = (all, own)

no_calls_ordered : (P : List Segment → Type 0) (imports : ℕ)
    → AllByRecursion (λ own. AllByRecursion P own) (replicate imports [])
no_calls_ordered P zero = tt
no_calls_ordered P (suc imports) = (tt, no_calls_ordered P imports)

pub left_ordered : (imports : ℕ) (segments : List Segment)
    → AllByRecursion (λ list. IsInOrder list segments) (left_of imports segments).begun
    × AllByRecursion (λ own. AllByRecursion (λ list. IsInOrder list segments) own) (left_of imports segments).calls
left_ordered imports [] = (tt, no_calls_ordered (λ list. IsInOrder list []) imports)
left_ordered imports (segment ∷ later) =
    let rest = left_of imports later in
    let all = left_ordered imports later in
    origin_ordered (segment ∷ later) segment.origin (with_segment segment segment.next rest.begun) rest.calls
    (segment_ordered segment segment.next later rest.begun all.0) (calls_more segment later rest.calls all.1)
