-- The lists of what is generated of a tape are short.
use Rattle.std.proofs.Common.{◌≡◌, ℕ, zero, suc, ◌+◌, ◌*◌, ◌^◌, ◌≤◌, List, [], ◌∷◌, ◌++◌, length, map, Bool, true, false, cond, ap, ◌∙◌, arith}
use Rattle.std.specs.Prelude.{All, drop, filter, nat_eq, sum_by, take}
use Rattle.std.specs.List.{AllByRecursion, list_any, range_with_len}
use Rattle.std.proofs.lemmas.List.{drop-drop, length-append, length-replicate}
use Rattle.std.proofs.lemmas.List.Elements.{All-from_recursion, All-replicate}
use Rattle.std.proofs.lemmas.List.FromFn.{length-range_with_len}
use Rattle.std.proofs.lemmas.List.Sums.{sum_by-cons}
use Rattle.base.proofs.Lists.{joined_all}
use Rattle.leb_bytes.specs.Unsigned.{u32_bytes}
use Rattle.wasm_syntax.specs.declared.forms.Form.TheVariants.{Replay}
use Rattle.wasm_syntax.specs.declared.limits.TheConstants.{MAX_TAPE_WEIGHT}
use Rattle.wasm_syntax.specs.declared.instructions.Instr.{Instr}
use Rattle.wasm_syntax.specs.declared.instructions.Instr.TheVariants.{BrTable}
use Rattle.wasm_syntax.specs.declared.modules.Func.{Func}
use Rattle.wasm_syntax.specs.declared.modules.Global.{Global}
use Rattle.wasm_syntax.specs.declared.modules.Module.{Module}
use Rattle.wasm_syntax.specs.Index.{all_globals, func_indices, imported_funcs}
use Rattle.wasm_syntax.specs.Validity.{IsFuncType, IsValid}
use Rattle.wasm_syntax.specs.Encoding.Encodable.{FitsInstr}
use Rattle.wasm_syntax.specs.Encoding.Shortest.{body_bytes, code_bytes, instr_bytes, run_bytes, vector_bytes}
use Rattle.wasm_syntax.proofs.Encoding.NotEmpty.{instr_bytes_some, run_bytes_some}
use Rattle.wasm_syntax.proofs.Encoding.Writing.{u32_some}
use Rattle.wasm_syntax.proofs.ItemLists.{items, items_as, items_cons, items_some, items_some_of, sized_length, vector_length}
use Rattle.trace_model.specs.declared.tapes.Segment.{Segment}
use Rattle.trace_model.specs.declared.tapes.Tape.{Tape}
use Rattle.trace_model.specs.Weight.{segment_weight, tape_weight}
use Rattle.replay_module_spec.specs.declared.groups.TheConstants.{GROUP_CALLS}
use Rattle.replay_module_spec.specs.Functions.{appended_types, group_count, group_func, group_funcs, groups, import_funcs}
use Rattle.replay_module_spec.specs.Fragments.{counter, fragment_of, helper_funcs, import_bodies, import_types, referred_funcs, start_index}
use Rattle.replay_module_spec.specs.Plans.{plan_of}
use Rattle.replay_module_laws.specs.Plans.{PlanFits}
use Rattle.replay_module_laws.proofs.FittingPlans.{next_weighs}
use Rattle.replay_module_laws.proofs.Functions.{functions}
use Rattle.replay_gen.specs.Bounds.{FitsIndices}
use Rattle.replay_encoding_laws.specs.ShortLists.{HasShortLabels, HasShortLists, HasShortParts, IsShort, IsShortFunc, IsShortType}
use Rattle.replay_encoding_laws.proofs.Bodies.{func_cost, group_most, import_most, part_cost, start_most}
use Rattle.replay_encoding_laws.proofs.FittingFuncs.{HasFittingCode, bodies_fit, groups_length, helpers_fit, imports_length}
use Rattle.replay_encoding_laws.proofs.Indices.{groups_weigh, params_few}
use Rattle.replay_encoding_laws.proofs.Modules.{globals_are_all, imported_most}
use Rattle.replay_encoding_laws.proofs.Plans.{activations_cost, all_cost, calls_cost, plan_cost}
use Rattle.replay_encoding_laws.proofs.Segments.{segment_cost}

-- ---- indices

pub short_indices : (m : Module) (tape : Tape) → HasShortLists m → tape_weight tape ≤ MAX_TAPE_WEIGHT
    → FitsIndices m (plan_of (imported_funcs m) tape)
short_indices m tape short weight =
    let globals = short.globals in
    let imports = short.imports in
    let funcs = short.funcs in
    let types = short.types in
    record {
      types = omega (arith, types);
      params = params_few (2 ^ 27) m short.params (omega arith);
      globals = omega (arith, globals, imports, globals_are_all m, imported_most m.imports);
      funcs = omega (arith, imports, funcs, functions m, imported_most m.imports, weight, groups_weigh m tape);
    }

-- ---- functions by their costs

module _ (most : ℕ) where
  abbrev IsWithin : Func → Type 0
  IsWithin func = func_cost func ≤ most

  imports_within : (m : Module) (counter first : ℕ) (types : List ℕ) (calls : List (List (List Segment)))
      → 100 + calls_cost 9 segment_cost calls ≤ most
      → AllByRecursion IsWithin (import_funcs m counter first types calls)
  imports_within m counter first [] calls few = tt
  imports_within m counter first (ty ∷ types) [] few = tt
  imports_within m counter first (ty ∷ types) (calls ∷ more) few = (
    omega (
      arith,
      import_most m ty counter first (group_count (length calls)),
      group_count_few (length calls),
      calls_few calls,
      few,
    ),
    imports_within m (counter + 1) (first + group_count (length calls)) types more (omega (arith, few)),
  )
    where
      group_count_few : (count : ℕ) → 21 * group_count count ≤ 21 + count
      group_count_few count = omega arith

      calls_few : (calls : List (List Segment)) → length calls ≤ activations_cost 9 segment_cost calls
      calls_few [] = omega arith
      calls_few (segments ∷ calls) = let later = calls_few calls in omega (arith, later)

  module _ (m : Module) (valid : All IsFuncType m.types) where
    parts_within : (ty : ℕ) (calls : List (List Segment)) (from count : ℕ)
        → 49 + activations_cost 9 segment_cost (drop (GROUP_CALLS * from) calls) ≤ most
        → AllByRecursion IsWithin (map (group_func m ty)
        (map (λ number. take GROUP_CALLS (drop (GROUP_CALLS * number) calls)) (range_with_len from count)))
    parts_within ty calls from zero few = tt
    parts_within ty calls from (suc count) few =
        let rest = drop (GROUP_CALLS * from) calls in
        let next : drop GROUP_CALLS rest ≡ drop (GROUP_CALLS * (from + 1)) calls =
        drop-drop GROUP_CALLS (GROUP_CALLS * from) calls
        ∙ ap (λ n. drop n calls) (omega arith) in
        let moved = ap (activations_cost 9 segment_cost) next in
        let parts = part_cost m valid GROUP_CALLS rest in (
          omega (arith, group_most m valid ty (take GROUP_CALLS rest), parts, few),
          parts_within ty calls (from + 1) count (omega (arith, parts, moved, few)),
        )

    groups_within : (types : List ℕ) (calls : List (List (List Segment)))
        → 49 + calls_cost 9 segment_cost calls ≤ most → AllByRecursion IsWithin (group_funcs m types calls)
    groups_within [] calls few = tt
    groups_within (ty ∷ types) [] few = tt
    groups_within (ty ∷ types) (calls ∷ more) few =
        joined_all IsWithin (map (group_func m ty) (groups calls)) (group_funcs m types more)
        (parts_within ty calls 0 (group_count (length calls)) (omega (arith, few)))
        (groups_within types more (omega (arith, few)))

-- the costs of segments, with 9 for each, are at most 40 for each unit of their weight
costs_few : (segments : List Segment) → all_cost 9 segment_cost segments ≤ 40 * sum_by segment_weight segments
costs_few [] = omega arith
costs_few (segment ∷ segments) =
    let sum = sum_by-cons segment_weight segment segments in
    omega (arith, sum, next_weighs segment.next, costs_few segments)

-- ---- lists within functions

labels_short : (i : Instr) → length (instr_bytes i) ≤ 2 ^ 27 → HasShortLabels i
unfolding instr_bytes
labels_short (BrTable labels default) few = omega (
  arith,
  few,
  length-append (vector_bytes u32_bytes labels) (u32_bytes default),
  vector_length u32_bytes labels,
  items_some u32_bytes u32_some labels,
)
labels_short i few = tt

all_labels_short : (body : List Instr) → items instr_bytes body ≤ 2 ^ 27 → AllByRecursion HasShortLabels body
all_labels_short [] few = tt
all_labels_short (i ∷ body) few =
    let parts = items_cons instr_bytes i body in
    (labels_short i (omega (arith, few, parts)), all_labels_short body (omega (arith, few, parts)))

func_short : (func : Func) → HasFittingCode func → func_cost func ≤ 2 ^ 27 → IsShortFunc func
unfolding code_bytes
func_short func fits few =
    let content = vector_bytes run_bytes func.locals ++ body_bytes func.body in
    let sized = sized_length content in
    let parts = length-append (vector_bytes run_bytes func.locals) (body_bytes func.body) in
    let code = items_as instr_bytes func.body in
    let runs = vector_length run_bytes func.locals in
    record {
      locals = omega (arith, few, sized, parts, runs, items_some run_bytes run_bytes_some func.locals);
      body = omega (
        arith,
        few,
        sized,
        parts,
        code,
        items_some_of (FitsInstr Replay) instr_bytes (instr_bytes_some Replay) func.body fits.1,
      );
      labels =
          All-from_recursion HasShortLabels func.body
          (all_labels_short func.body (omega (arith, few, sized, parts, code)));
    }

funcs_short : (most : ℕ) (funcs : List Func) → most ≤ 2 ^ 27 → AllByRecursion HasFittingCode funcs
    → AllByRecursion (IsWithin most) funcs → AllByRecursion IsShortFunc funcs
funcs_short most [] few fits within = tt
funcs_short most (func ∷ funcs) few fits within =
    let own = within.0 in
    (func_short func fits.0 (omega (arith, few, own)), funcs_short most funcs few fits.1 within.1)

-- ---- the whole part

filter_few : (test : ℕ → Bool) (xs : List ℕ) → length (filter test xs) ≤ length xs
filter_few test [] = omega arith
filter_few test (x ∷ xs) = by (test x) (filter_few test xs)
  where
    by : (b : Bool) → length (filter test xs) ≤ length xs
        → length (cond b (x ∷ filter test xs) (filter test xs)) ≤ suc (length xs)
    by true later = omega (arith, later)
    by false later = omega (arith, later)

types_short : AllByRecursion IsShortType appended_types
types_short = (
  record { params = omega arith; results = omega arith },
  (
    record { params = omega arith; results = omega arith },
    (
      record { params = omega arith; results = omega arith },
      (
        record { params = omega arith; results = omega arith },
        (
          record { params = omega arith; results = omega arith },
          (record { params = omega arith; results = omega arith }, tt),
        ),
      ),
    ),
  ),
)

pub parts_short : (m : Module) (tape : Tape) → IsValid m → HasShortLists m → IsShort (func_indices m)
    → PlanFits m (plan_of (imported_funcs m) tape) → tape_weight tape ≤ MAX_TAPE_WEIGHT
    → HasShortParts (fragment_of m (plan_of (imported_funcs m) tape))
parts_short m tape valid short funcs fits weight =
    let plan = plan_of (imported_funcs m) tape in
    let bodies = import_bodies m plan in
    let helpers = helper_funcs m plan in
    let most = 100 + 40 * tape_weight tape in
    let costs = plan_cost 9 segment_cost (imported_funcs m) tape in
    let few = costs_few tape.segments in
    let indices = short_indices m tape short weight in
    let imports = short.imports in
    let imported = imported_most m.imports in
    record {
      bodies = omega (
        arith,
        imports,
        imported,
        imports_length m (length (all_globals m)) (start_index m + 1) (import_types m) plan.imports,
      );
      helpers = omega (arith, groups_length m (import_types m) plan.imports, groups_weigh m tape, weight);
      types = omega arith;
      globals = omega (arith, imports, imported, length-replicate (imported_funcs m) counter);
      declared = omega (
        arith,
        funcs,
        filter_few (λ func. list_any (nat_eq func) (referred_funcs (bodies ++ (m.funcs ++ helpers))))
            (range_with_len 0 (start_index m)),
        length-range_with_len 0 (start_index m),
      );
      funcs =
          All-from_recursion IsShortFunc (bodies ++ helpers)
          (funcs_short most (bodies ++ helpers) (omega (arith, weight))
          (joined_all HasFittingCode bodies helpers (bodies_fit m plan indices) (helpers_fit m plan indices fits))
          (joined_all (IsWithin most) bodies helpers
          (imports_within most m (length (all_globals m)) (start_index m + 1) (import_types m) plan.imports
          (omega (arith, costs, few))) (
            omega (arith, start_most m valid.outside.types plan.begin, costs, few),
            groups_within most m valid.outside.types (import_types m) plan.imports (omega (arith, costs, few)),
          )));
      signatures = All-from_recursion IsShortType appended_types types_short;
      values = All-replicate (λ (g : Global). IsShort g.init) (imported_funcs m) counter (omega arith);
    }
