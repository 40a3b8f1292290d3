-- In a tape that fits a return closes a call that is open, and nothing follows an end or a trap.
use Rattle.std.proofs.Common.{◌≡◌, ℕ, suc, ◌+◌, List, [], ◌∷◌, length, Some, None, Bool, true, cond, ap, ◌∙◌, arith}
use Rattle.std.specs.Prelude.{◌&&◌, nat_eq, nat_lt, not}
use Rattle.std.proofs.lemmas.List.{nil_from_length}
use Rattle.std.proofs.lemmas.Option.{none-some, same_Some}
use Rattle.base.proofs.Options.{and_then_some, cond_none_some, cond_some}
use Rattle.wasm_syntax.specs.declared.modules.Module.{Module}
use Rattle.wasm_syntax.specs.Index.{imported_funcs}
use Rattle.trace_model.specs.declared.tapes.Origin.{Origin}
use Rattle.trace_model.specs.declared.tapes.Origin.TheVariants.{Begin, Import as Imports, Back}
use Rattle.trace_model.specs.declared.tapes.Next.{Next}
use Rattle.trace_model.specs.declared.tapes.Next.TheVariants.{Call, Return, End, Trap}
use Rattle.trace_model.specs.declared.tapes.Segment.{Segment}
use Rattle.trace_model.specs.Fitting.{came, effects_fit, fitting_step, left, unfit_from}
use Rattle.replay_module_laws.proofs.FittingPlans.{none_after, stepped}
use Rattle.plan_laws.specs.Owners.{Owner}
use Rattle.plan_laws.specs.TapeOwners.{calls_inside, calls_after}
use Rattle.plan_laws.proofs.Segments.{Leaves}

-- control leaves the host as the open calls allow, from these segments and open calls on
abbrev pub AreBalanced : (before : List Segment) → List Owner → List Segment → Type 0
AreBalanced before opened [] = Unit {0}
AreBalanced before opened (segment ∷ later) =
    Leaves segment.next (calls_inside segment.origin before opened) later
    × AreBalanced (segment ∷ before) (calls_after segment.next (calls_inside segment.origin before opened)) later

-- as many calls are open as the tape has open
abbrev AsMany : List Owner → List ℕ → Type 0
AsMany owners opened = length owners ≡ length opened

module _ (m : Module) where
  comes : (at : ℕ) (origin : Origin) (opened inside : List ℕ) (before : List Segment) (owners : List Owner)
      → AsMany owners opened → came m at opened origin ≡ Some inside
      → AsMany (calls_inside origin before owners) inside
  comes at Begin opened inside before owners many h =
      many ∙ ap length (same_Some opened inside (cond_some (nat_eq at 0) (Some opened) inside h).1)
  comes at (Imports import) opened inside before owners many h =
      let p = cond_some (not (nat_eq at 0) && nat_lt import (imported_funcs m)) (Some (import ∷ opened)) inside h in
      ap suc many ∙ ap length (same_Some (import ∷ opened) inside p.1)
  comes at Back opened inside before owners many h =
      many ∙ ap length (same_Some opened inside (cond_none_some (nat_eq at 0) (Some opened) inside h).1)

  leaves : (is_last : Bool) (way : Next) (inside next : List ℕ) (owners : List Owner) (later : List Segment)
      → (is_last ≡ true → later ≡ []) → AsMany owners inside → left m is_last inside way ≡ Some next
      → Leaves way owners later × AsMany (calls_after way owners) next
  leaves is_last (Call func args) inside next owners later last many h =
      (tt, many ∙ ap length (same_Some inside next (cond_some _ (Some inside) next h).1))
  leaves is_last (Return result) [] next owners later last many h = absurd (none-some next h)
  leaves is_last (Return result) (import ∷ opened) next [] later last many h = absurd (omega (arith, many))
  leaves is_last (Return result) (import ∷ opened) next (owner ∷ around) later last many h =
      let same = same_Some opened next (cond_some _ (Some opened) next h).1 in
      let fewer : length around ≡ length opened = omega (arith, many) in
      (tt, fewer ∙ ap length same)
  leaves is_last End [] next owners later last many h =
      let none : List ℕ = [] in
      let p = cond_some is_last (Some none) next h in
      (last p.0, many ∙ ap length (same_Some none next p.1))
  leaves is_last End (import ∷ opened) next owners later last many h = absurd (none-some next h)
  leaves is_last Trap [] next owners later last many h = absurd (none-some next h)
  leaves is_last Trap (import ∷ opened) next owners later last many h =
      let p = cond_some is_last (Some (import ∷ opened)) next h in
      (last p.0, many ∙ ap length (same_Some (import ∷ opened) next p.1))

  pub balanced : (segments : List Segment) (count at : ℕ) (opened : List ℕ) (before : List Segment)
      (owners : List Owner) → count ≡ at + length segments → AsMany owners opened
      → unfit_from m count at opened segments ≡ None → AreBalanced before owners segments
  balanced [] count at opened before owners long many h = tt
  balanced (segment ∷ later) count at opened before owners long many h =
      let is_last = nat_eq (suc at) count in
      let s = stepped (λ next. unfit_from m count (suc at) next later) (fitting_step m at is_last opened segment) at h in
      let c =
      and_then_some (came m at opened segment.origin)
      (λ inside. cond (effects_fit m segment.effects) (left m is_last inside segment.next) None) s.0 s.1 in
      let e = cond_some (effects_fit m segment.effects) (left m is_last c.0 segment.next) s.0 c.2 in
      let inside = calls_inside segment.origin before owners in
      let after =
      leaves is_last segment.next c.0 s.0 inside later
      (λ last. nil_from_length later (none_after at count (length later) long last))
      (comes at segment.origin opened c.0 before owners many c.1) e.1 in (
        after.0,
        balanced later count (suc at) s.0 (segment ∷ before) (calls_after segment.next inside) (omega (arith, long))
            after.1 s.2,
      )
