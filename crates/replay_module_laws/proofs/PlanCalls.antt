-- The calls of each import in the plan of a tape, in the order in which they begin; and the whole plan.
use Rattle.std.proofs.Common.{◌≡◌, ℕ, zero, suc, ◌<◌, List, [], ◌∷◌, length, map, Option, Some, Bool, true, false, cond, refl, sym, ap, ◌∙◌, subst, arith}
use Rattle.std.specs.Prelude.{filter, nat_eq, replicate, slice_get, slice_set, All}
use Rattle.std.specs.List.{AllByRecursion, slice_index_or}
use Rattle.std.proofs.lemmas.Bool.Decides.{nat_tests}
use Rattle.std.proofs.lemmas.List.Elements.{All-from_recursion}
use Rattle.wasm_syntax.specs.declared.modules.Module.{Module}
use Rattle.wasm_syntax.specs.Index.{imported_funcs}
use Rattle.trace_model.specs.declared.tapes.Origin.{Origin}
use Rattle.trace_model.specs.declared.tapes.Origin.TheVariants.{Begin, Import as Imports, Back}
use Rattle.trace_model.specs.declared.tapes.Segment.{Segment}
use Rattle.trace_model.specs.declared.tapes.Tape.{Tape}
use Rattle.trace_model.specs.Fitting.{IsFitting}
use Rattle.replay_module_spec.specs.Plans.{innermost, left_of, plan_of, with_origin, with_segment}
use Rattle.replay_module_laws.specs.PlanLaws.{HasSegmentsOf, IsInOrder, is_call_of}
use Rattle.replay_module_laws.proofs.FittingPlans.{cond_none, left_length}
use Rattle.replay_module_laws.proofs.PlanSegments.{begun_count, first_is, follows, inner_ordered, left_ordered, left_sum, only_sum}

-- the first segment of each call
abbrev firsts : List (List Segment) → List (Option Segment)
firsts calls = map (λ (call : List Segment). slice_get call 0) calls

-- the segments to which control comes by a call of an import
abbrev begins : ℕ → List Segment → List (Option Segment)
begins import segments =
    map (λ (segment : Segment). Some segment)
    (filter (λ (segment : Segment). is_call_of import segment.origin) segments)

set_own : (calls : List (List (List Segment))) (import : ℕ) (own : List (List Segment)) → import < length calls
    → slice_index_or (slice_set calls import own) import [] ≡ own
set_own [] import own below = absurd (omega (arith, below))
set_own (calls ∷ more) zero own below = refl
set_own (calls ∷ more) (suc import) own below = set_own more import own (omega (arith, below))

set_other : (calls : List (List (List Segment))) (import other : ℕ) (own : List (List Segment))
    → (import ≡ other → ⊥)
    → slice_index_or (slice_set calls other own) import [] ≡ slice_index_or calls import []
set_other [] import other own apart = refl
set_other (calls ∷ more) zero zero own apart = absurd (apart refl)
set_other (calls ∷ more) zero (suc other) own apart = refl
set_other (calls ∷ more) (suc import) zero own apart = refl
set_other (calls ∷ more) (suc import) (suc other) own apart =
    set_other more import other own (λ same. apart (ap suc same))

abbrev the_none : List (List Segment)
the_none = []

module _ (import : ℕ) where
  origin_begins : (origin : Origin) (segment : Segment) (later : List Segment) (begun : List (List Segment))
      (calls : List (List (List Segment))) → import < length calls → segment.origin ≡ origin
      → slice_get (innermost begun) 0 ≡ Some segment
      → firsts (slice_index_or calls import []) ≡ begins import later
      → firsts (slice_index_or (with_origin origin begun calls).calls import [])
      ≡ map (λ (segment : Segment). Some segment)
      (cond (is_call_of import origin) (segment ∷ filter (λ (segment : Segment). is_call_of import segment.origin) later)
      (filter (λ (segment : Segment). is_call_of import segment.origin) later))
  origin_begins Begin segment later begun calls below from first rest = rest
  origin_begins (Imports other) segment later begun calls below from first rest = by (nat_eq import other) refl
    where
      by : (b : Bool) → nat_eq import other ≡ b
          → firsts (slice_index_or (slice_set calls other (innermost begun ∷ slice_index_or calls other [])) import [])
          ≡ map (λ (segment : Segment). Some segment)
          (cond b (segment ∷ filter (λ (segment : Segment). is_call_of import segment.origin) later)
          (filter (λ (segment : Segment). is_call_of import segment.origin) later))
      by true e =
          let same : other ≡ import = grind (arith, nat_tests, e) in
          subst (λ n. firsts (slice_index_or (slice_set calls n (innermost begun ∷ slice_index_or calls n [])) import [])
          ≡ Some segment ∷ begins import later)
          (sym same)
          (ap firsts (set_own calls import (innermost begun ∷ slice_index_or calls import []) below)
          ∙ ap (λ o. o ∷ firsts (slice_index_or calls import [])) first ∙ ap (λ l. Some segment ∷ l) rest)
      by false e =
          let apart : import ≡ other → ⊥ = λ same.
          let own : nat_eq import other ≡ true = grind (arith, nat_tests, same) in
          let lie : true ≡ false = sym own ∙ e in
          cc lie in
          ap firsts (set_other calls import other (innermost begun ∷ slice_index_or calls other []) apart) ∙ rest
  origin_begins Back segment later begun calls below from first rest = rest

  no_calls : (imports : ℕ) → slice_index_or (replicate imports the_none) import [] ≡ []
  no_calls imports = by imports import
    where
      by : (imports import : ℕ) → slice_index_or (replicate imports the_none) import [] ≡ []
      by zero import = refl
      by (suc imports) zero = refl
      by (suc imports) (suc import) = by imports import

  left_begins : (imports : ℕ) (segments : List Segment) → import < imports
      → firsts (slice_index_or (left_of imports segments).calls import []) ≡ begins import segments
  left_begins imports [] below = ap firsts (no_calls imports)
  left_begins imports (segment ∷ later) below =
      let rest = left_of imports later in
      let many = left_length imports later in
      origin_begins segment.origin segment later (with_segment segment segment.next rest.begun) rest.calls
      (omega (arith, below, many)) refl (first_is segment segment.next rest.begun) (left_begins imports later below)

-- ---- the whole plan

each_ordered : (P : List Segment → Type 0) (calls : List (List (List Segment)))
    → AllByRecursion (λ own. AllByRecursion P own) calls → AllByRecursion (λ own. All P own) calls
each_ordered P [] all = tt
each_ordered P (own ∷ calls) all = (All-from_recursion P own all.0, each_ordered P calls all.1)

pub plan_has : (m : Module) (tape : Tape) → IsFitting m tape
    → HasSegmentsOf (imported_funcs m) tape (plan_of (imported_funcs m) tape)
plan_has m tape fits =
    let imports = imported_funcs m in
    let left = left_of imports tape.segments in
    let flow =
    follows m tape.segments (length tape.segments) 0 [] (omega arith)
    (cond_none (nat_eq (length tape.segments) 0) fits) in
    let ordered = left_ordered imports tape.segments in
    let few = begun_count imports 0 tape.segments flow in
    record {
      imports = left_length imports tape.segments;
      begin_order = (inner_ordered tape.segments left.begun ordered.0).0;
      call_order =
          All-from_recursion (λ own. All (λ list. IsInOrder list tape.segments) own) left.calls
          (each_ordered (λ list. IsInOrder list tape.segments) left.calls ordered.1);
      once = λ number.
          let sum = left_sum number imports 0 tape.segments flow in
          let only = only_sum number left.begun (omega (arith, few)) in
          omega (arith, sum, only);
      calls = λ import below. left_begins import imports tape.segments below;
    }
