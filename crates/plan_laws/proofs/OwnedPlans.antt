-- The plan of a tape that fits has for each activation what it owns.
use Rattle.std.proofs.Common.{◌≡◌, ℕ, ◌<◌, List, [], ◌∷◌, length, refl, sym, ap, ◌∙◌, subst, arith}
use Rattle.std.specs.Prelude.{nat_eq}
use Rattle.std.specs.List.{slice_index_or}
use Rattle.std.proofs.lemmas.List.{get_or-replicate}
use Rattle.wasm_syntax.specs.Index.{imported_funcs}
use Rattle.trace_model.specs.declared.tapes.Segment.{Segment}
use Rattle.replay_module_spec.specs.declared.plans.Plan.{Plan}
use Rattle.replay_module_spec.specs.Plans.{left_of, with_segment}
use Rattle.replay_module_laws.proofs.FittingPlans.{cond_none, left_length}
use Rattle.plan_laws.specs.Owners.{Owner, Beginning}
use Rattle.plan_laws.specs.TapeOwners.{call_count, calls_inside, calls_after, owned_segments}
use Rattle.plan_laws.specs.Laws.{PlansAreOwned}
use Rattle.plan_laws.proofs.OpenCalls.{AreOpen}
use Rattle.plan_laws.proofs.Shares.{calls_from, each_import}
use Rattle.plan_laws.proofs.Segments.{SegmentsAre, adds_first, next_are, open_after, open_inside, origin_are, origin_calls, over_owns_none, owns_from}
use Rattle.plan_laws.proofs.BalancedTapes.{AreBalanced, balanced}

abbrev plan : List Segment → List (List (List Segment)) → Plan
plan begin imports = record { begin = begin; imports = imports }

-- at the end of a tape nothing is left
nothing_begun : (opened : List Owner) → SegmentsAre (λ owner. []) opened []
nothing_begun [] = refl
nothing_begun (owner ∷ around) = (refl, nothing_begun around)

-- what is left of a tape is what the activations own of the rest
left_owned : (imports : ℕ) (segments before : List Segment) (opened : List Owner) → AreOpen (call_count before) opened
    → AreBalanced before opened segments
    → SegmentsAre (owns_from before opened segments) opened (left_of imports segments).begun
    × ((import : ℕ) → import < imports → slice_index_or (left_of imports segments).calls import []
    ≡ calls_from (owns_from before opened segments) import (call_count before import) (call_count segments import))
left_owned imports [] before opened are_open goes =
    (nothing_begun opened, λ import below. get_or-replicate imports import [] [] below)
left_owned imports (segment ∷ later) before opened are_open goes =
    let left = left_of imports later in
    let inside = calls_inside segment.origin before opened in
    let after = calls_after segment.next inside in
    let counts = call_count (segment ∷ before) in
    let without = owns_from (segment ∷ before) after later in
    let with_it = owns_from before opened (segment ∷ later) in
    let open_now = open_inside segment.origin segment before opened are_open in
    let adds = adds_first before opened segment later in
    let rest =
    left_owned imports later (segment ∷ before) after (open_after segment.next counts inside open_now) goes.1 in
    let begun = with_segment segment segment.next left.begun in
    let are =
    next_are segment counts without with_it segment.next inside later left.begun adds open_now goes.0
    (ap (λ segments. (left_of imports segments).begun))
    (λ owner over. over_owns_none later (segment ∷ before) after owner over) rest.0 in (
      origin_are with_it segment.origin before opened begun left.calls are,
      λ import below.
          origin_calls import segment without with_it segment.origin before later opened begun left.calls adds are_open
          are (subst (λ count. import < count) (sym (left_length imports later)) below) (rest.1 import below),
    )

pub plans_owned : PlansAreOwned
plans_owned m tape fits =
    let imports = imported_funcs m in
    let segments = tape.segments in
    let left = left_of imports segments in
    let goes =
    balanced m segments (length segments) 0 [] [] [] (omega arith) refl
    (cond_none (nat_eq (length segments) 0) fits) in
    let owns = left_owned imports segments [] [] tt goes in
    let calls =
    each_import imports (call_count segments) (owned_segments segments) left.calls (left_length imports segments) owns.1 in
    ap (λ begin. plan begin left.calls) owns.0 ∙ ap (plan (owned_segments segments Beginning)) calls
