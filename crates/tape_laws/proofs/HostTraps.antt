-- The host traps only in a call of an import: the observations of a run show it, since its needed tape fits.
use Rattle.std.proofs.Common.{◌≡◌, ℕ, zero, suc, List, [], ◌∷◌, ◌++◌, length, Option, Some, None, Bool, true, false, cond, nat_eq, refl, sym, ap, ◌∙◌, subst, arith}
use Rattle.std.specs.Option.{option_map_or}
use Rattle.std.proofs.lemmas.Bool.Decides.{nat_tests}
use Rattle.std.proofs.lemmas.Option.{same_Some, none-some}
use Rattle.base.proofs.Options.{and_then_some, cond_some, cond_none_some}
use Rattle.wasm_syntax.specs.declared.modules.Module.{Module}
use Rattle.trace_model.specs.declared.tapes.Origin.{Origin}
use Rattle.trace_model.specs.declared.tapes.Origin.TheVariants.{Begin, Import, Back}
use Rattle.trace_model.specs.declared.tapes.Next.{Next}
use Rattle.trace_model.specs.declared.tapes.Next.TheVariants.{Call, Return, End, Trap}
use Rattle.trace_model.specs.declared.tapes.Segment.{Segment}
use Rattle.trace_model.specs.Fitting.{came, left, effects_fit, fitting_step, unfit_from, first_unfit}
use Rattle.history_spec.specs.Store.{Store}
use Rattle.record_replay_spec.specs.Observations.{Observation, Begins, Ends}
use Rattle.record_replay_spec.specs.Known.{Known, known_after}
use Rattle.record_replay_spec.specs.Kept.{AreKeptSegments}
use Rattle.record_replay_spec.specs.Changes.{with_change}
use Rattle.tape_laws.proofs.Relation.{AreSeen}
use Rattle.tape_laws.proofs.Stores.{IsHere}

-- the number of open calls after one ends
abbrev pub one_less : ℕ → ℕ
one_less zero = zero
one_less (suc opened) = opened

-- with this number of open calls of imports, the host traps only within one; `host` says whether control is at the
-- host
abbrev pub TrapsInside : (host : Bool) → (opened : ℕ) → List Observation → Type 0
TrapsInside host opened [] = Unit {0}
TrapsInside true opened (Ends (Return result) ∷ later) = TrapsInside false (one_less opened) later
TrapsInside true opened (Ends Trap ∷ later) = nat_eq opened 0 ≡ false
TrapsInside true opened (Ends next ∷ later) = TrapsInside false opened later
TrapsInside true opened (o ∷ later) = Unit {0}
TrapsInside false opened (Begins (Import import) ∷ later) = TrapsInside true (suc opened) later
TrapsInside false opened (Begins origin ∷ later) = TrapsInside true opened later
TrapsInside false opened (o ∷ later) = TrapsInside false opened later

-- what a step observes does not change whether the host traps only within a call
pub inside_after : (opened : ℕ) (known : Known) (store : Store) (items later : List Observation)
    → AreSeen known store items → TrapsInside false opened (items ++ later) → TrapsInside false opened later
inside_after opened known store [] later are h = h
inside_after opened known store (o ∷ items) later are h =
    inside_after opened (known_after known o) (with_change store o) items later are.1 (one o are.0.here h)
  where
    one : (o : Observation) → IsHere store o → TrapsInside false opened (o ∷ items ++ later)
        → TrapsInside false opened (items ++ later)
    one (Begins origin) here h = absurd here
    one o here h = h

-- ---- segments that fit

-- if no segment is at fault, this segment leads somewhere and no later one is at fault
some_after : (o : Option (List ℕ)) (rest : List ℕ → Option ℕ) (at : ℕ) → option_map_or rest o (Some at) ≡ None
    → (after : List ℕ) × (o ≡ Some after) × (rest after ≡ None)
some_after None rest at h = cc
some_after (Some after) rest at h = (after, refl, h)

-- an activity that fits, before what follows it
activity_inside : (m : Module) (at : ℕ) (is_last : Bool) (opened inside after : List ℕ) (origin : Origin) (next : Next)
    (later : List Observation) → came m at opened origin ≡ Some inside → left m is_last inside next ≡ Some after
    → TrapsInside false (length after) later → TrapsInside false (length opened) (Begins origin ∷ Ends next ∷ later)
activity_inside m at is_last opened inside after origin next later comes leaves rest = begun origin comes
  where
    same_after : (now : List ℕ) → Some now ≡ Some after → TrapsInside false (length now) later
    same_after now e = subst (λ l. TrapsInside false (length l) later) (sym (same_Some now after e)) rest

    ended : (next : Next) (inside : List ℕ) → left m is_last inside next ≡ Some after
        → TrapsInside true (length inside) (Ends next ∷ later)
    ended (Call func args) inside e = same_after inside (cond_some _ (Some inside) after e).1
    ended (Return result) [] e = absurd (none-some after e)
    ended (Return result) (import ∷ inside) e = same_after inside (cond_some _ (Some inside) after e).1
    ended End [] e = same_after [] (cond_some is_last (Some []) after e).1
    ended End (import ∷ inside) e = absurd (none-some after e)
    ended Trap [] e = absurd (none-some after e)
    ended Trap (import ∷ inside) e = grind (arith, nat_tests)

    from_there : (now : List ℕ) → Some now ≡ Some inside → TrapsInside true (length now) (Ends next ∷ later)
    from_there now e =
        subst (λ l. TrapsInside true (length l) (Ends next ∷ later)) (sym (same_Some now inside e))
        (ended next inside leaves)

    begun : (origin : Origin) → came m at opened origin ≡ Some inside
        → TrapsInside false (length opened) (Begins origin ∷ Ends next ∷ later)
    begun Begin e = from_there opened (cond_some (nat_eq at 0) (Some opened) inside e).1
    begun (Import import) e = from_there (import ∷ opened) (cond_some _ (Some (import ∷ opened)) inside e).1
    begun Back e = from_there opened (cond_none_some (nat_eq at 0) (Some opened) inside e).1

-- needed segments that fit
pub traps_inside : (m : Module) (count at : ℕ) (known : Known) (opened : List ℕ) (later : List Observation)
    (segments : List Segment) → AreKeptSegments known later segments → unfit_from m count at opened segments ≡ None
    → TrapsInside false (length opened) later
traps_inside m count at known opened [] segments needed fit = tt
traps_inside m count at known opened (Begins origin ∷ Ends next ∷ later) [] needed fit = absurd needed
traps_inside m count at known opened (Begins origin ∷ Ends next ∷ later) (segment ∷ segments) needed fit =
    let is_last = nat_eq (suc at) count in
    let a = some_after (fitting_step m at is_last opened segment)
    (λ after. unfit_from m count (suc at) after segments) at fit in
    let b = and_then_some (came m at opened segment.origin)
    (λ inside. cond (effects_fit m segment.effects) (left m is_last inside segment.next) None) a.0 a.1 in
    let leaves = (cond_some (effects_fit m segment.effects) (left m is_last b.0 segment.next) a.0 b.2).1 in
    activity_inside m at is_last opened b.0 a.0 origin next later
    (ap (came m at opened) (sym needed.0.begins) ∙ b.1)
    (ap (left m is_last b.0) (sym needed.0.leaves) ∙ leaves)
    (traps_inside m count (suc at) known a.0 later segments needed.1 a.2)
traps_inside m count at known opened (Begins origin ∷ later) segments needed fit = absurd needed
traps_inside m count at known opened (o ∷ later) segments needed fit =
    traps_inside m count at (known_after known o) opened later segments needed fit

-- the needed segments of a whole run that fit
pub first_inside : (m : Module) (known : Known) (later : List Observation) (segments : List Segment)
    → AreKeptSegments known (Begins Begin ∷ later) segments → first_unfit m (record { segments = segments }) ≡ None
    → TrapsInside true 0 later
first_inside m known later segments needed fit = go (nat_eq (length segments) 0) fit
  where
    go : (b : Bool) → cond b (Some 0) (unfit_from m (length segments) 0 [] segments) ≡ None → TrapsInside true 0 later
    go true e = cc
    go false e = traps_inside m (length segments) 0 known [] (Begins Begin ∷ later) segments needed e
