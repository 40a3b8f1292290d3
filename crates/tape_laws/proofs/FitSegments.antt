-- The remaining observations of a run, as activities of the host with windows between them.
use Rattle.std.proofs.Common.{◌≡◌, ℕ, suc, ◌+◌, List, [], ◌∷◌, ◌++◌, length, None, Some, Bool, true, false, cond, nat_eq, refl, ap, ◌∙◌, arith}
use Rattle.std.specs.Prelude.{option_and_then}
use Rattle.std.specs.Option.{option_map_or}
use Rattle.std.proofs.lemmas.Bool.Decides.{nat_tests}
use Rattle.wasm_syntax.specs.declared.modules.Module.{Module}
use Rattle.trace_model.specs.declared.tapes.Origin.{Origin}
use Rattle.trace_model.specs.declared.tapes.Origin.TheVariants.{Begin}
use Rattle.trace_model.specs.declared.tapes.Next.{Next}
use Rattle.trace_model.specs.declared.tapes.Segment.{Segment}
use Rattle.trace_model.specs.Fitting.{came, left, effects_fit, fitting_step, unfit_from, first_unfit}
use Rattle.history_spec.specs.Store.{Store}
use Rattle.history_spec.specs.Configuration.{Activation, InModule, InMain, InImport}
use Rattle.record_replay_spec.specs.Observations.{Observation, Begins, Ends}
use Rattle.record_replay_spec.specs.Known.{Known, known_after, known_after_all}
use Rattle.record_replay_spec.specs.Windows.{window}
use Rattle.record_replay_spec.specs.Kept.{AreKeptSegments}
use Rattle.record_replay_spec.specs.Changes.{with_change}
use Rattle.tape_laws.specs.RealReads.{IsReadOf}
use Rattle.tape_laws.proofs.Stores.{IsHere}
use Rattle.tape_laws.proofs.Relation.{AreSeen}
use Rattle.tape_laws.proofs.KeptStores.{IsKept}
use Rattle.tape_laws.proofs.FitEffects.{needed_effects_fit}
use Rattle.tape_laws.proofs.NeededEffects.{needed_effects}

-- the imports whose calls are open, the innermost first
abbrev pub open_imports : List Activation → List ℕ
open_imports [] = []
open_imports (InModule frame ∷ below) = open_imports below
open_imports (InMain actions ∷ below) = open_imports below
open_imports (InImport import args actions end ∷ below) = import ∷ open_imports below

-- control comes to the host with this origin after the start of the run, and then these calls of imports are open
abbrev pub Comes : Module → Origin → (opened inside : List ℕ) → Type 0
Comes m origin opened inside = (at : ℕ) → nat_eq at 0 ≡ false → came m at opened origin ≡ Some inside

-- control leaves the host in this way, for the last time if no observation remains
abbrev pub Leaves : Module → Next → List Observation → (inside after : List ℕ) → Type 0
Leaves m next later inside after =
    (is_last : Bool) → (later ≡ [] → is_last ≡ true) → left m is_last inside next ≡ Some after

-- a window begins in a store that is kept, and reads first what that store holds
pub record IsWindow (m : Module) (known : Known) (seen : List Observation) : Type 0 where
  pub store : Store
  pub kept : IsKept m known store
  pub real : IsReadOf known seen store

-- the remaining activities fit the module, and each window reads what the store holds
abbrev pub AreActivities : Module → Known → (opened : List ℕ) → List Observation → Type 0
AreActivities m known opened [] = Unit {0}
AreActivities m known opened (Begins origin ∷ Ends next ∷ later) =
    (inside after : List ℕ) × Comes m origin opened inside × Leaves m next later inside after
    × IsWindow m known (window later) × AreActivities m known after later
AreActivities m known opened (Begins origin ∷ later) = ⊥
AreActivities m known opened (o ∷ later) = AreActivities m (known_after known o) opened later

-- from the end of an activity on, the activities fit the module, and each window reads what the store holds
abbrev pub AreFromEnd : Module → Known → (inside : List ℕ) → List Observation → Type 0
AreFromEnd m known inside (Ends next ∷ later) =
    (after : List ℕ) × Leaves m next later inside after × IsWindow m known (window later)
    × AreActivities m known after later
AreFromEnd m known inside later = ⊥

-- the remaining observations fit, by where control is
abbrev pub AreFrom : Module → Known → List Activation → List Observation → Type 0
AreFrom m known (InModule frame ∷ below) later = AreActivities m known (open_imports below) later
AreFrom m known stack later = AreFromEnd m known (open_imports stack) later

pub from_begin : (m : Module) (known : Known) (origin : Origin) (opened inside : List ℕ) (later : List Observation)
    → Comes m origin opened inside → AreFromEnd m known inside later
    → AreActivities m known opened (Begins origin ∷ later)
from_begin m known origin opened inside (Ends next ∷ later) comes are = (inside, are.0, comes, are.1, are.2, are.3)
from_begin m known origin opened inside [] comes are = absurd are
from_begin m known origin opened inside (o ∷ later) comes are = absurd are

-- the remaining observations before a step's own observations
pub after_seen : (m : Module) (known : Known) (store : Store) (opened : List ℕ) (seen later : List Observation)
    → AreSeen known store seen → AreActivities m (known_after_all known seen) opened later
    → AreActivities m known opened (seen ++ later)
after_seen m known store opened [] later are rest = rest
after_seen m known store opened (o ∷ seen) later are rest =
    one o are.0.here
    (after_seen m (known_after known o) (with_change store o) opened seen later are.1 rest)
  where
    one : (o : Observation) → IsHere store o → AreActivities m (known_after known o) opened (seen ++ later)
        → AreActivities m known opened (o ∷ seen ++ later)
    one (Begins origin) here rest = absurd here
    one o here rest = rest

-- ---- segments

-- the segments that activities need exist
pub needed_segments : (m : Module) (known : Known) (opened : List ℕ) (later : List Observation)
    → AreActivities m known opened later → (segments : List Segment) × AreKeptSegments known later segments
needed_segments m known opened [] are = ([], tt)
needed_segments m known opened (Begins origin ∷ Ends next ∷ later) are =
    let window_is = are.4 in
    let effects = needed_effects m known (window later) window_is.store window_is.kept window_is.real in
    let rest = needed_segments m known are.1 later are.5 in (
      record { origin = origin; effects = effects.0; next = next } ∷ rest.0,
      (record { begins = refl; leaves = refl; changes = effects.1 }, rest.1),
    )
needed_segments m known opened (Begins origin ∷ later) are = absurd are
needed_segments m known opened (o ∷ later) are = needed_segments m (known_after known o) opened later are

-- if no observation remains, the segment is the last
last_is_last : (known : Known) (later : List Observation) (segments : List Segment) (at count : ℕ)
    → at + suc (length segments) ≡ count → AreKeptSegments known later segments → later ≡ []
    → nat_eq (suc at) count ≡ true
last_is_last known [] [] at count long needed none = grind (arith, nat_tests, long)
last_is_last known [] (segment ∷ segments) at count long needed none = absurd needed
last_is_last known (o ∷ later) segments at count long needed none = cc

-- a segment fits, if it and the segments after it do
one_fits : (m : Module) (count at : ℕ) (known : Known) (opened inside after : List ℕ) (later : List Observation)
    (segment : Segment) (segments : List Segment) → came m at opened segment.origin ≡ Some inside
    → effects_fit m segment.effects ≡ true
    → ((is_last : Bool) → (later ≡ [] → is_last ≡ true) → left m is_last inside segment.next ≡ Some after)
    → at + suc (length segments) ≡ count → AreKeptSegments known later segments
    → unfit_from m count at opened (segment ∷ segments) ≡ unfit_from m count (suc at) after segments
one_fits m count at known opened inside after later segment segments comes fit leaves long needed =
    ap (λ o. option_map_or (λ next. unfit_from m count (suc at) next segments) o (Some at)) step
  where
    step : fitting_step m at (nat_eq (suc at) count) opened segment ≡ Some after
    step =
        ap (option_and_then
        (λ inside. cond (effects_fit m segment.effects) (left m (nat_eq (suc at) count) inside segment.next) None))
        comes
        ∙ ap (λ b. cond b (left m (nat_eq (suc at) count) inside segment.next) None) fit
        ∙ leaves (nat_eq (suc at) count) (last_is_last known later segments at count long needed)

-- needed segments after the first fit the module
pub needed_segments_fit : (m : Module) (count at : ℕ) (known : Known) (opened : List ℕ) (later : List Observation)
    (segments : List Segment) → nat_eq at 0 ≡ false → at + length segments ≡ count
    → AreActivities m known opened later → AreKeptSegments known later segments
    → unfit_from m count at opened segments ≡ None
needed_segments_fit m count at known opened [] [] past long are needed = refl
needed_segments_fit m count at known opened [] (segment ∷ segments) past long are needed = absurd needed
needed_segments_fit m count at known opened (Begins origin ∷ Ends next ∷ later) [] past long are needed = refl
needed_segments_fit m count at known opened (Begins origin ∷ Ends next ∷ later) (segment ∷ segments) past long are
    needed =
    one_fits m count at known opened are.0 are.1 later segment segments
    (ap (came m at opened) needed.0.begins ∙ are.2 at past)
    (needed_effects_fit m known (window later) are.4.store are.4.kept are.4.real segment.effects needed.0.changes)
    (λ is_last last. ap (left m is_last are.0) needed.0.leaves ∙ are.3 is_last last) long needed.1
    ∙ needed_segments_fit m count (suc at) known are.1 later segments (grind (arith, nat_tests)) (omega (arith, long))
    are.5 needed.1
needed_segments_fit m count at known opened (Begins origin ∷ later) segments past long are needed = absurd are
needed_segments_fit m count at known opened (o ∷ later) segments past long are needed =
    needed_segments_fit m count at (known_after known o) opened later segments past long are needed

-- ---- from the beginning of the run

-- the segments that a run needs exist
pub first_needed : (m : Module) (known : Known) (later : List Observation) → AreFromEnd m known [] later
    → (segments : List Segment) × AreKeptSegments known (Begins Begin ∷ later) segments
first_needed m known [] are = absurd are
first_needed m known (Ends next ∷ later) are =
    let at = are.2 in
    let effects = needed_effects m known (window later) at.store at.kept at.real in
    let rest = needed_segments m known are.0 later are.3 in (
      record { origin = Begin; effects = effects.0; next = next } ∷ rest.0,
      (record { begins = refl; leaves = refl; changes = effects.1 }, rest.1),
    )
first_needed m known (o ∷ later) are = absurd are

-- the segments that a run needs fit the module
pub first_fits : (m : Module) (known : Known) (later : List Observation) (segments : List Segment)
    → AreFromEnd m known [] later → AreKeptSegments known (Begins Begin ∷ later) segments
    → first_unfit m (record { segments = segments }) ≡ None
first_fits m known [] segments are needed = absurd are
first_fits m known (Ends next ∷ later) [] are needed = absurd needed
first_fits m known (Ends next ∷ later) (segment ∷ segments) are needed =
    let count : ℕ = length (segment ∷ segments) in
    let some : nat_eq count 0 ≡ false = grind (arith, nat_tests) in
    let long : 0 + suc (length segments) ≡ count = omega arith in
    ap (λ b. cond b (Some 0) (unfit_from m count 0 [] (segment ∷ segments))) some
    ∙ one_fits m count 0 known [] [] are.0 later segment segments (ap (came m 0 []) needed.0.begins)
    (needed_effects_fit m known (window later) are.2.store are.2.kept are.2.real segment.effects needed.0.changes)
    (λ is_last last. ap (left m is_last []) needed.0.leaves ∙ are.1 is_last last) long needed.1
    ∙ needed_segments_fit m count 1 known are.0 later segments refl (omega arith) are.3 needed.1
first_fits m known (o ∷ later) segments are needed = absurd are
