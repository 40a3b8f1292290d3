-- The plan of a tape that fits a module fits the module.
use Rattle.std.proofs.Common.{◌≡◌, ℕ, zero, suc, ◌+◌, ◌<◌, ◌≤◌, List, [], ◌∷◌, length, Option, Some, None, Bool, true, false, cond, refl, sym, ap, ◌∙◌, subst, arith, option_and_then}
use Rattle.std.specs.Prelude.{◌&&◌, nat_eq, nat_le, nat_lt, not, replicate, slice_get, slice_set}
use Rattle.std.specs.Option.{option_map_or, option_to_list}
use Rattle.std.specs.List.{AllByRecursion, list_all, slice_index_or}
use Rattle.std.proofs.lemmas.Bool.Decides.{nat_tests}
use Rattle.std.proofs.lemmas.List.{length-replicate, length-set}
use Rattle.std.proofs.lemmas.List.Elements.{All-from_recursion, recursion_from_All}
use Rattle.std.proofs.lemmas.Option.{get_or_from_slice_get}
use Rattle.base.proofs.Booleans.{and_parts}
use Rattle.base.proofs.Lists.{all_at, get_front, item_there}
use Rattle.base.proofs.Options.{and_then_some, cond_none_some, cond_some}
use Rattle.wasm_syntax.specs.declared.values.ValType.{ValType}
use Rattle.wasm_syntax.specs.declared.modules.Import.{Import}
use Rattle.wasm_syntax.specs.declared.modules.Module.{Module}
use Rattle.wasm_syntax.specs.Index.{func_type, imported_funcs, type_at}
use Rattle.wasm_syntax.specs.Validity.{IsImport, IsValid}
use Rattle.wasm_syntax.proofs.ValTypes.{types_same}
use Rattle.trace_model.specs.declared.tapes.Origin.{Origin}
use Rattle.trace_model.specs.declared.tapes.Origin.TheVariants.{Begin, Import as Imports, Back}
use Rattle.trace_model.specs.declared.tapes.Next.{Next}
use Rattle.trace_model.specs.declared.tapes.Next.TheVariants.{Call, Return, End, Trap}
use Rattle.trace_model.specs.declared.tapes.Segment.{Segment}
use Rattle.trace_model.specs.declared.tapes.Tape.{Tape}
use Rattle.trace_model.specs.Effects.{are_ordered}
use Rattle.trace_model.specs.Fitting.{IsFitting, came, effect_fits, effects_fit, fitting_step, gives_values, left, takes_values, types_of, unfit_from}
use Rattle.trace_model.specs.Weight.{next_weight}
use Rattle.replay_module_spec.specs.Plans.{around_innermost, innermost, left_of, plan_of, with_origin, with_segment}
use Rattle.replay_module_spec.specs.Functions.{original_type, start_type}
use Rattle.replay_module_spec.specs.Fragments.{import_types}
use Rattle.replay_module_laws.specs.Plans.{AreFit, CallsFit, NextFits, PlanFits, SegmentFits}
use Rattle.replay_module_laws.specs.Written.{IsConstantSegment, IsConstantTape}
use Rattle.replay_module_laws.proofs.Outside.{types_imported}

-- a choice between a fault and what else there is gives nothing if there is nothing else
pub cond_none : {o : Option ℕ} (b : Bool) → cond b (Some 0) o ≡ None → o ≡ None
cond_none true h = cc
cond_none false h = h

-- ---- lists by places

abbrev AllAt : {X : Type 0} → (ℕ → X → Type 0) → List X → Type 0
AllAt {X} P xs = (place : ℕ) (x : X) → slice_get xs place ≡ Some x → P place x

set_at : {X : Type 0} (P : ℕ → X → Type 0) (xs : List X) (i : ℕ) (y : X) → AllAt P xs → P i y
    → AllAt P (slice_set xs i y)
set_at P [] i y all own place x h = absurd (cc h)
set_at P (z ∷ xs) zero y all own zero x h = let same : y ≡ x = cc in subst (P 0) same own
set_at P (z ∷ xs) zero y all own (suc place) x h = all (suc place) x h
set_at P (z ∷ xs) (suc i) y all own zero x h = all 0 x h
set_at P (z ∷ xs) (suc i) y all own (suc place) x h =
    set_at (λ n. P (suc n)) xs i y (λ n x h. all (suc n) x h) own place x h

index_at : {X : Type 0} (P : ℕ → X → Type 0) (xs : List X) (i : ℕ) (other : X) → AllAt P xs → P i other
    → P i (slice_index_or xs i other)
index_at P [] i other all own = own
index_at P (x ∷ xs) zero other all own = all 0 x refl
index_at P (x ∷ xs) (suc i) other all own = index_at (λ n. P (suc n)) xs i other (λ n x h. all (suc n) x h) own

same_at : {X : Type 0} (P : ℕ → X → Type 0) (count : ℕ) (y : X) → ((place : ℕ) → P place y)
    → AllAt P (replicate count y)
same_at P zero y own place x h = absurd (cc h)
same_at P (suc count) y own zero x h = let same : y ≡ x = cc in subst (P 0) same (own 0)
same_at P (suc count) y own (suc place) x h = same_at (λ n. P (suc n)) count y (λ n. own (suc n)) place x h

pub stepped : {X : Type 0} (f : X → Option ℕ) (o : Option X) (at : ℕ) → option_map_or f o (Some at) ≡ None
    → (x : X) × (o ≡ Some x) × (f x ≡ None)
stepped f None at h = absurd (cc h)
stepped f (Some x) at h = (x, refl, h)

-- ---- how control leaves

pub next_weighs : (next : Next) → 1 ≤ next_weight next
next_weighs (Call func args) = omega arith
next_weighs (Return None) = omega arith
next_weighs (Return (Some value)) = omega arith
next_weighs End = omega arith
next_weighs Trap = omega arith

-- ---- the remaining tape

pub left_length : (imports : ℕ) (segments : List Segment) → length (left_of imports segments).calls ≡ imports
left_length imports [] = length-replicate {A = List (List Segment)} imports []
left_length imports (segment ∷ later) =
    by segment.origin (with_segment segment segment.next (left_of imports later).begun) (left_of imports later).calls
    (left_length imports later)
  where
    by : (origin : Origin) (begun : List (List Segment)) (calls : List (List (List Segment)))
        → length calls ≡ imports → length (with_origin origin begun calls).calls ≡ imports
    by Begin begun calls e = e
    by (Imports import) begun calls e = length-set calls import _ ∙ e
    by Back begun calls e = e

pub none_after : (at count more : ℕ) → count ≡ at + suc more → nat_eq (suc at) count ≡ true → more ≡ 0
none_after at count more long last =
    let same : suc at ≡ count = grind (arith, nat_tests, last) in omega (arith, long, same)

module _ (m : Module) (valid : IsValid m) where
  -- the results of an imported function
  abbrev import_results : ℕ → List ValType
  import_results import = (original_type m (slice_index_or (import_types m) import 0)).results

  abbrev results_in : List ℕ → List ValType
  results_in [] = []
  results_in (import ∷ opened) = import_results import

  abbrev AreImports : List ℕ → Type 0
  AreImports opened = AllByRecursion (λ import. import < imported_funcs m) opened

  -- the activations that have begun fit, for the imports whose calls are open
  abbrev BegunFit : List ℕ → List (List Segment) → Type 0
  BegunFit opened [] = Unit {0}
  BegunFit [] (segments ∷ around) = AreFit m [] segments
  BegunFit (import ∷ opened) (segments ∷ around) = AreFit m (import_results import) segments × BegunFit opened around

  abbrev CallsFitAt : ℕ → List (List Segment) → Type 0
  CallsFitAt import calls = AllByRecursion (AreFit m (import_results import)) calls

  typed : (import : ℕ) → import < imported_funcs m
      → func_type m import ≡ Some (original_type m (slice_index_or (import_types m) import 0))
  typed import below =
      let t = item_there (import_types m) import below in
      let own : slice_index_or (import_types m) import 0 ≡ t.0 =
      get_or_from_slice_get (import_types m) import t.0 0 t.1 in
      let there =
      all_at (λ ty. ty < length m.types) (import_types m) import t.0
      (All-from_recursion (λ ty. ty < length m.types) (import_types m)
      (types_imported m m.imports
      (recursion_from_All (λ (i : Import). IsImport m i.kind) m.imports valid.outside.imports))) t.1 in
      let x = item_there m.types t.0 there in
      ap (option_and_then (type_at m)) (get_front (import_types m) _ import below ∙ t.1)
      ∙ x.1 ∙ ap (λ x. Some x) (sym (get_or_from_slice_get m.types t.0 x.0 start_type x.1))
      ∙ ap (λ n. Some (original_type m n)) (sym own)

  given : (import : ℕ) (types : List ValType) → import < imported_funcs m
      → gives_values types (func_type m import) ≡ true → types ≡ import_results import
  given import types below h =
      types_same types (import_results import)
      (subst (λ o. gives_values types o ≡ true) (typed import below) h)

  -- ---- one segment

  -- the innermost activation fits, and so do those around it
  inner_fit : (opened : List ℕ) (begun : List (List Segment)) → BegunFit opened begun
      → AreFit m (results_in opened) (innermost begun)
  inner_fit [] [] fit = tt
  inner_fit (import ∷ opened) [] fit = tt
  inner_fit [] (segments ∷ around) fit = fit
  inner_fit (import ∷ opened) (segments ∷ around) fit = fit.0

  no_begun : (opened : List ℕ) → BegunFit opened []
  no_begun [] = tt
  no_begun (import ∷ opened) = tt

  around_fit : (import : ℕ) (opened : List ℕ) (begun : List (List Segment)) → BegunFit (import ∷ opened) begun
      → BegunFit opened (around_innermost begun)
  around_fit import opened [] fit = no_begun opened
  around_fit import opened (segments ∷ around) fit = fit.1

  call_fit : (opened : List ℕ) (begun : List (List Segment)) (segment : Segment)
      → SegmentFits m (results_in opened) segment → BegunFit opened begun
      → BegunFit opened ((segment ∷ innermost begun) ∷ around_innermost begun)
  call_fit [] begun segment own fit = (own, inner_fit [] begun fit)
  call_fit (import ∷ opened) begun segment own fit =
      ((own, inner_fit (import ∷ opened) begun fit), around_fit import opened begun fit)

  next_are : (is_last : Bool) (way : Next) (inside next : List ℕ) → AreImports inside
      → left m is_last inside way ≡ Some next → AreImports next
  next_are is_last (Call func args) inside next are h =
      let p = cond_some (nat_le (imported_funcs m) func && takes_values (types_of args) (func_type m func))
      (Some inside) next h in
      let e = p.1 in
      let same : inside ≡ next = cc in
      subst AreImports same are
  next_are is_last (Return result) [] next are h = absurd (cc h)
  next_are is_last (Return result) (import ∷ opened) next are h =
      let p = cond_some (gives_values (types_of (option_to_list result)) (func_type m import)) (Some opened) next h in
      let e = p.1 in
      let same : opened ≡ next = cc in
      subst AreImports same are.1
  next_are is_last End [] next are h =
      let none : List ℕ = [] in
      let p = cond_some is_last (Some none) next h in
      let e = p.1 in
      let same : none ≡ next = cc in
      subst AreImports same tt
  next_are is_last End (import ∷ opened) next are h = absurd (cc h)
  next_are is_last Trap [] next are h = absurd (cc h)
  next_are is_last Trap (import ∷ opened) next are h =
      let p = cond_some is_last (Some (import ∷ opened)) next h in
      let e = p.1 in
      let same : import ∷ opened ≡ next = cc in
      subst AreImports same are

  segment_fit : (segment : Segment) (is_last : Bool) (way : Next) (inside next : List ℕ)
      (begun : List (List Segment)) → AreImports inside
      → (NextFits m (results_in inside) way → SegmentFits m (results_in inside) segment)
      → (is_last ≡ true → begun ≡ []) → left m is_last inside way ≡ Some next → BegunFit next begun
      → BegunFit inside (with_segment segment way begun)
  segment_fit segment is_last (Call func args) inside next begun are own last h fit =
      let p = cond_some (nat_le (imported_funcs m) func && takes_values (types_of args) (func_type m func))
      (Some inside) next h in
      let q = and_parts (nat_le (imported_funcs m) func) (takes_values (types_of args) (func_type m func)) p.0 in
      let e = p.1 in
      let same : inside ≡ next = cc in
      call_fit inside begun segment (own q.1) (subst (λ o. BegunFit o begun) (sym same) fit)
  segment_fit segment is_last (Return result) [] next begun are own last h fit = absurd (cc h)
  segment_fit segment is_last (Return result) (import ∷ opened) next begun are own last h fit =
      let p = cond_some (gives_values (types_of (option_to_list result)) (func_type m import)) (Some opened) next h in
      let e = p.1 in
      let same : opened ≡ next = cc in (
        (own (given import (types_of (option_to_list result)) are.0 p.0), tt),
        subst (λ o. BegunFit o begun) (sym same) fit,
      )
  segment_fit segment is_last End [] next begun are own last h fit = (own refl, tt)
  segment_fit segment is_last End (import ∷ opened) next begun are own last h fit = absurd (cc h)
  segment_fit segment is_last Trap [] next begun are own last h fit = absurd (cc h)
  segment_fit segment is_last Trap (import ∷ opened) next begun are own last h fit =
      let p = cond_some is_last (Some (import ∷ opened)) next h in
      ((own tt, tt), subst (λ b. BegunFit opened b) (sym (last p.0)) (no_begun opened))

  inside_are : (at : ℕ) (origin : Origin) (opened inside : List ℕ) → AreImports opened
      → came m at opened origin ≡ Some inside → AreImports inside
  inside_are at Begin opened inside are h =
      let e = (cond_some (nat_eq at 0) (Some opened) inside h).1 in
      let same : opened ≡ inside = cc in
      subst AreImports same are
  inside_are at (Imports import) opened inside are h =
      let p = cond_some (not (nat_eq at 0) && nat_lt import (imported_funcs m)) (Some (import ∷ opened)) inside h in
      let below = (and_parts (not (nat_eq at 0)) (nat_lt import (imported_funcs m)) p.0).1 in
      let e = p.1 in
      let same : import ∷ opened ≡ inside = cc in
      subst AreImports same (grind (arith, nat_tests, below), are)
  inside_are at Back opened inside are h =
      let e = (cond_none_some (nat_eq at 0) (Some opened) inside h).1 in
      let same : opened ≡ inside = cc in
      subst AreImports same are

  origin_fit : (at : ℕ) (origin : Origin) (opened inside : List ℕ) (begun : List (List Segment))
      (calls : List (List (List Segment))) → came m at opened origin ≡ Some inside → BegunFit inside begun
      → AllAt CallsFitAt calls
      → BegunFit opened (with_origin origin begun calls).begun × AllAt CallsFitAt (with_origin origin begun calls).calls
  origin_fit at Begin opened inside begun calls h fit all =
      let e = (cond_some (nat_eq at 0) (Some opened) inside h).1 in
      let same : opened ≡ inside = cc in
      (subst (λ o. BegunFit o begun) (sym same) fit, all)
  origin_fit at (Imports import) opened inside begun calls h fit all =
      let e =
      (cond_some (not (nat_eq at 0) && nat_lt import (imported_funcs m)) (Some (import ∷ opened)) inside h).1 in
      let same : import ∷ opened ≡ inside = cc in
      let own = subst (λ o. BegunFit o begun) (sym same) fit in (
        around_fit import opened begun own,
        set_at CallsFitAt calls import (innermost begun ∷ slice_index_or calls import []) all
            (inner_fit (import ∷ opened) begun own, index_at CallsFitAt calls import [] all tt),
      )
  origin_fit at Back opened inside begun calls h fit all =
      let e = (cond_none_some (nat_eq at 0) (Some opened) inside h).1 in
      let same : opened ≡ inside = cc in
      (subst (λ o. BegunFit o begun) (sym same) fit, all)

  none_left : (later : List Segment) → length later ≡ 0 → (left_of (imported_funcs m) later).begun ≡ []
  none_left [] e = refl
  none_left (segment ∷ later) e = absurd (omega (arith, e))

  -- ---- all segments

  left_fits : (segments : List Segment) (count at : ℕ) (opened : List ℕ) → count ≡ at + length segments
      → AreImports opened → AllByRecursion IsConstantSegment segments → unfit_from m count at opened segments ≡ None
      → BegunFit opened (left_of (imported_funcs m) segments).begun
      × AllAt CallsFitAt (left_of (imported_funcs m) segments).calls
  left_fits [] count at opened long are constants h =
      (no_begun opened, same_at CallsFitAt (imported_funcs m) [] (λ place. tt))
  left_fits (segment ∷ later) count at opened long are constants h =
      let is_last = nat_eq (suc at) count in
      let s = stepped (λ next. unfit_from m count (suc at) next later) (fitting_step m at is_last opened segment) at h in
      let c =
      and_then_some (came m at opened segment.origin)
      (λ inside. cond (effects_fit m segment.effects) (left m is_last inside segment.next) None) s.0 s.1 in
      let e = cond_some (effects_fit m segment.effects) (left m is_last c.0 segment.next) s.0 c.2 in
      let effects = (and_parts (are_ordered segment.effects) (list_all (effect_fits m) segment.effects) e.0).1 in
      let inside = inside_are at segment.origin opened c.0 are c.1 in
      let next = next_are is_last segment.next c.0 s.0 inside e.1 in
      let rest = left_fits later count (suc at) s.0 (omega (arith, long)) next constants.1 s.2 in
      origin_fit at segment.origin opened c.0
      (with_segment segment segment.next (left_of (imported_funcs m) later).begun)
      (left_of (imported_funcs m) later).calls c.1
      (segment_fit segment is_last segment.next c.0 s.0 (left_of (imported_funcs m) later).begun inside
      (λ n. record { effects = effects; next = n; constants = constants.0 })
      (λ last. none_left later (none_after at count (length later) long last)) e.1 rest.0)
      rest.1

  calls_fit : (types : List ℕ) (calls : List (List (List Segment)))
      → ((i ty : ℕ) (own : List (List Segment)) → slice_get types i ≡ Some ty → slice_get calls i ≡ Some own
      → AllByRecursion (AreFit m (original_type m ty).results) own)
      → CallsFit m types calls
  calls_fit [] calls all = tt
  calls_fit (ty ∷ types) [] all = tt
  calls_fit (ty ∷ types) (own ∷ calls) all =
      (all 0 ty own refl refl, calls_fit types calls (λ i t o f g. all (suc i) t o f g))

  pub plan_fits : (tape : Tape) → IsFitting m tape → IsConstantTape tape → PlanFits m (plan_of (imported_funcs m) tape)
  plan_fits tape fits constants =
      let begins =
      left_fits tape.segments (length tape.segments) 0 [] (omega arith) tt constants
      (cond_none (nat_eq (length tape.segments) 0) fits) in
      record {
        begin = inner_fit [] (left_of (imported_funcs m) tape.segments).begun begins.0;
        imports =
            calls_fit (import_types m) (left_of (imported_funcs m) tape.segments).calls
            (λ i ty own f g.
            subst (λ n. AllByRecursion (AreFit m (original_type m n).results) own)
            (get_or_from_slice_get (import_types m) i ty 0 f) (begins.1 i own g));
      }
