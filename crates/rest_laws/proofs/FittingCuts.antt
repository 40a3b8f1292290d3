-- A cut fits each module that its tape fits: the segments after the first do not ask how many are before them, and at a
-- top-level call no call of an import is open.
use Rattle.std.proofs.Common.{◌≡◌, ℕ, zero, suc, ◌+◌, List, [], ◌∷◌, length, Option, Some, None, Bool, true, false, cond, not, ◌&&◌, nat_eq, nat_lt, refl, sym, ap, ◌∙◌, subst, arith}
use Rattle.std.specs.Prelude.{option_and_then}
use Rattle.std.specs.Option.{option_map_or}
use Rattle.std.proofs.lemmas.Bool.Decides.{nat_tests}
use Rattle.std.proofs.lemmas.Option.{none-some, same_Some}
use Rattle.base.proofs.Booleans.{same_tests}
use Rattle.base.proofs.Options.{and_then_some, cond_some, cond_none_some}
use Rattle.wasm_syntax.specs.declared.modules.Module.{Module}
use Rattle.wasm_syntax.specs.Index.{imported_funcs}
use Rattle.trace_model.specs.declared.tapes.Effect.{Effect}
use Rattle.trace_model.specs.declared.tapes.Origin.{Origin}
use Rattle.trace_model.specs.declared.tapes.Origin.TheVariants.{Begin, Import, Back}
use Rattle.trace_model.specs.declared.tapes.Next.{Next}
use Rattle.trace_model.specs.declared.tapes.Next.TheVariants.{Call, Return, End, Trap}
use Rattle.trace_model.specs.declared.tapes.Segment.{Segment}
use Rattle.trace_model.specs.Fitting.{came, left, effects_fit, fitting_step, unfit_from, IsFitting}
use Rattle.rest_spec.specs.KnownBefore.{open_after, by_end}
use Rattle.rest_spec.specs.Cuts.{cut_of}
use Rattle.rest_laws.specs.FittingCuts.{CutsFit}

-- ---- segments after the first

-- how control comes after the first segment does not depend on the segment's number
same_came : (m : Module) (at other : ℕ) (opened : List ℕ) (origin : Origin) → nat_eq at 0 ≡ nat_eq other 0
    → came m at opened origin ≡ came m other opened origin
same_came m at other opened Begin same = ap (λ b. cond b (Some opened) None) same
same_came m at other opened (Import import) same =
    ap (λ b. cond (not b && nat_lt import (imported_funcs m)) (Some (import ∷ opened)) None) same
same_came m at other opened Back same = ap (λ b. cond b None (Some opened)) same

same_step : (m : Module) (at other : ℕ) (is_last other_last : Bool) (opened : List ℕ) (segment : Segment)
    → nat_eq at 0 ≡ nat_eq other 0 → is_last ≡ other_last
    → fitting_step m at is_last opened segment ≡ fitting_step m other other_last opened segment
same_step m at other is_last other_last opened segment past last =
    ap (option_and_then (λ inside. cond (effects_fit m segment.effects) (left m is_last inside segment.next) None))
    (same_came m at other opened segment.origin past)
    ∙ ap (λ b.
    option_and_then (λ inside. cond (effects_fit m segment.effects) (left m b inside segment.next) None)
    (came m other opened segment.origin)) last

-- segments after the first fit under other numbers, if as many are left
renumbered : (m : Module) (count at other_count other : ℕ) (opened : List ℕ) (segments : List Segment)
    → suc at + other_count ≡ suc other + count → unfit_from m count (suc at) opened segments ≡ None
    → unfit_from m other_count (suc other) opened segments ≡ None
renumbered m count at other_count other opened [] long fit = refl
renumbered m count at other_count other opened (segment ∷ segments) long fit =
    go (fitting_step m (suc at) (nat_eq (suc (suc at)) count) opened segment) fit
    (sym
    (same_step m (suc at) (suc other) (nat_eq (suc (suc at)) count) (nat_eq (suc (suc other)) other_count) opened
    segment past last))
    (λ next h. renumbered m count (suc at) other_count (suc other) next segments (omega (arith, long)) h)
  where
    past : nat_eq (suc at) 0 ≡ nat_eq (suc other) 0
    past = grind (arith, nat_tests)

    last : nat_eq (suc (suc at)) count ≡ nat_eq (suc (suc other)) other_count
    last =
        same_tests (nat_eq (suc (suc at)) count) (nat_eq (suc (suc other)) other_count)
        (λ h. grind (arith, nat_tests, long, h)) (λ h. grind (arith, nat_tests, long, h))

    go : (o : Option (List ℕ))
        → option_map_or (λ next. unfit_from m count (suc (suc at)) next segments) o (Some (suc at)) ≡ None
        → fitting_step m (suc other) (nat_eq (suc (suc other)) other_count) opened segment ≡ o
        → ((next : List ℕ) → unfit_from m count (suc (suc at)) next segments ≡ None
        → unfit_from m other_count (suc (suc other)) next segments ≡ None)
        → unfit_from m other_count (suc other) opened (segment ∷ segments) ≡ None
    go None h same rest = cc
    go (Some next) h same rest =
        ap (λ o.
        option_map_or (λ next. unfit_from m other_count (suc (suc other)) next segments) o (Some (suc other))) same
        ∙ rest next h

-- ---- the segment that makes the call

-- the calls of imports that are open, where control is with the host
came_open : (m : Module) (at : ℕ) (opened inside : List ℕ) (origin : Origin) → came m at opened origin ≡ Some inside
    → open_after origin (length opened) ≡ length inside
came_open m at opened inside Begin comes =
    ap length (same_Some opened inside (cond_some (nat_eq at 0) (Some opened) inside comes).1)
came_open m at opened inside (Import import) comes =
    ap length (same_Some (import ∷ opened) inside (cond_some _ (Some (import ∷ opened)) inside comes).1)
came_open m at opened inside Back comes =
    ap length (same_Some opened inside (cond_none_some (nat_eq at 0) (Some opened) inside comes).1)

-- a segment whose effects fit, with the segments after it; `after` are the calls that are open after it
module _ (m : Module) (effects : List Effect) (fit : effects_fit m effects ≡ true) (is_last : Bool) (after : List ℕ)
    (later cut : List Segment) (fit_later : unfit_from m (suc (length later)) 1 after later ≡ None)
    (rest : (number : ℕ) → cut_of number (length after) later ≡ Some cut → IsFitting m (record { segments = cut }))
  where
    -- the segments from this one on, as a tape
    abbrev from_here : Next → List Segment
    from_here next = record { origin = Begin; effects = effects; next = next } ∷ later

    -- the segment begins the cut
    here : (func : ℕ) (args : _) → left m is_last [] (Call func args) ≡ Some after
        → Some (from_here (Call func args)) ≡ Some cut → IsFitting m (record { segments = cut })
    here func args leaves is =
        subst (λ segments. IsFitting m (record { segments = segments })) (same_Some (from_here (Call func args)) cut is)
        (ap (λ b. cond b (Some 0) (unfit_from m (suc (length later)) 0 [] (from_here (Call func args)))) some
        ∙ ap (λ o. option_map_or (λ next. unfit_from m (suc (length later)) 1 next later) o (Some 0))
        (ap (λ b. cond b (left m is_last [] (Call func args)) None) fit ∙ leaves)
        ∙ fit_later)
      where
        some : nat_eq (length (from_here (Call func args))) 0 ≡ false
        some = grind (arith, nat_tests)

    -- the cut begins later
    beyond : (number : ℕ) (inside : List ℕ) → Some inside ≡ Some after → cut_of number (length inside) later ≡ Some cut
        → IsFitting m (record { segments = cut })
    beyond number inside same is =
        rest number (subst (λ opened. cut_of number (length opened) later ≡ Some cut) (same_Some inside after same) is)

    -- at the end of an activity
    at_end : (number : ℕ) (next : Next) (inside : List ℕ) → left m is_last inside next ≡ Some after
        → by_end (length inside) number next (Some (from_here next)) (λ n o. cut_of n o later) ≡ Some cut
        → IsFitting m (record { segments = cut })
    at_end zero (Call func args) [] leaves is = here func args leaves is
    at_end (suc number) (Call func args) [] leaves is = beyond number [] (cond_some _ (Some []) after leaves).1 is
    at_end number (Call func args) (import ∷ inside) leaves is =
        beyond number (import ∷ inside) (cond_some _ (Some (import ∷ inside)) after leaves).1 is
    at_end number (Return result) [] leaves is = absurd (none-some after leaves)
    at_end number (Return result) (import ∷ inside) leaves is =
        beyond number inside (cond_some _ (Some inside) after leaves).1 is
    at_end number End [] leaves is = beyond number [] (cond_some is_last (Some []) after leaves).1 is
    at_end number End (import ∷ inside) leaves is = absurd (none-some after leaves)
    at_end number Trap [] leaves is = absurd (none-some after leaves)
    at_end number Trap (import ∷ inside) leaves is =
        beyond number (import ∷ inside) (cond_some is_last (Some (import ∷ inside)) after leaves).1 is

-- ---- all segments

-- a cut of segments that fit fits
part_fits : (m : Module) (count at : ℕ) (opened : List ℕ) (segments cut : List Segment) (number : ℕ)
    → at + length segments ≡ count → unfit_from m count at opened segments ≡ None
    → cut_of number (length opened) segments ≡ Some cut → IsFitting m (record { segments = cut })
part_fits m count at opened [] cut number long fit is = cc
part_fits m count at opened (segment ∷ later) cut number long fit is =
    go (fitting_step m at (nat_eq (suc at) count) opened segment) refl fit
    (λ after n h. part_fits m count (suc at) after later cut n (omega (arith, long)) h)
  where
    go : (o : Option (List ℕ)) → fitting_step m at (nat_eq (suc at) count) opened segment ≡ o
        → option_map_or (λ next. unfit_from m count (suc at) next later) o (Some at) ≡ None
        → ((after : List ℕ) (n : ℕ) → unfit_from m count (suc at) after later ≡ None
        → cut_of n (length after) later ≡ Some cut → IsFitting m (record { segments = cut }))
        → IsFitting m (record { segments = cut })
    go None step h rest = cc
    go (Some after) step h rest =
        let is_last = nat_eq (suc at) count in
        let a =
        and_then_some (came m at opened segment.origin)
        (λ inside. cond (effects_fit m segment.effects) (left m is_last inside segment.next) None) after step in
        let b = cond_some (effects_fit m segment.effects) (left m is_last a.0 segment.next) after a.2 in
        at_end m segment.effects b.0 is_last after later cut
        (renumbered m count at (suc (length later)) 0 after later (omega (arith, long)) h) (λ n. rest after n h) number
        segment.next a.0 b.1
        (subst
        (λ o.
        by_end o number segment.next
        (Some (record { origin = Begin; effects = segment.effects; next = segment.next } ∷ later))
        (λ n o. cut_of n o later) ≡ Some cut)
        (came_open m at opened a.0 segment.origin a.1) is)

pub cuts_fit : CutsFit
cuts_fit m tape number cut fits is = go (nat_eq (length tape.segments) 0) fits
  where
    go : (b : Bool) → cond b (Some 0) (unfit_from m (length tape.segments) 0 [] tape.segments) ≡ None
        → IsFitting m (record { segments = cut })
    go true h = cc
    go false h =
        part_fits m (length tape.segments) 0 [] tape.segments cut number (omega arith) h is
