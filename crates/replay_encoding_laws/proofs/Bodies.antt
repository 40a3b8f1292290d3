-- The cost of generated functions: their type indices, their code, and for references the bytes of their declarations.
use Rattle.std.proofs.Common.{◌≡◌, ℕ, zero, suc, ◌+◌, ◌*◌, ◌≤◌, List, [], ◌∷◌, ◌++◌, length, map, refl, ap, ◌∙◌, arith}
use Rattle.std.specs.Prelude.{All, drop, reverse, take}
use Rattle.std.specs.List.{range_with_len}
use Rattle.std.proofs.lemmas.List.{drop-drop, length-append, length-map, reverse-append}
use Rattle.std.proofs.lemmas.List.FromFn.{length-range_with_len}
use Rattle.leb_bytes.specs.Unsigned.{unsigned_bytes, u32_bytes}
use Rattle.base.specs.declared.opcodes.TheConstants.{I32_ADD, I32_DIV_U, I32_REM_U}
use Rattle.wasm_syntax.specs.declared.instructions.Instr.{Instr}
use Rattle.wasm_syntax.specs.declared.instructions.Instr.TheVariants.{Unreachable, End, BrTable, LocalGet, Numeric}
use Rattle.wasm_syntax.specs.declared.modules.Func.{Func}
use Rattle.wasm_syntax.specs.declared.modules.Module.{Module}
use Rattle.wasm_syntax.specs.Nest.{Nest, Empty, flat}
use Rattle.wasm_syntax.specs.Validity.{IsFuncType}
use Rattle.wasm_syntax.specs.Encoding.Modules.{code_of}
use Rattle.wasm_syntax.specs.Encoding.Shortest.{body_bytes, code_bytes, instr_bytes, run_bytes, vector_bytes}
use Rattle.wasm_syntax.proofs.ItemLists.{u32_most, items, items_as, items_cons, items_nil, sized_length}
use Rattle.trace_model.specs.declared.tapes.Segment.{Segment}
use Rattle.history_spec.specs.Code.{i32_value}
use Rattle.replay_module_spec.specs.declared.groups.TheConstants.{GROUP_CALLS}
use Rattle.replay_module_spec.specs.Dispatch.{body_of, dispatch, nested, sequence}
use Rattle.replay_module_spec.specs.Effects.{i32_const}
use Rattle.replay_module_spec.specs.Functions.{count_code, group_call, group_count, group_func, group_nest, groups, group_funcs, import_func, import_funcs, import_nest, one_i32, original_type, start_func}
use Rattle.replay_module_spec.specs.Segments.{segments_code}
use Rattle.replay_encoding_laws.proofs.Instructions.{br_table_cost, total_cost, cost_append, const_cost, cost_is, marks, numeric_cost, at_index, fixed, total, total_append}
use Rattle.replay_encoding_laws.proofs.Plans.{activations_cost, calls_cost, segments_cost}
use Rattle.replay_encoding_laws.proofs.Segments.{segment_cost, segments_most}

-- ---- arms

-- the cost of arms with the block before each of them
abbrev arms_cost : List (List Instr) → ℕ
arms_cost [] = 0
arms_cost (arm ∷ arms) = 3 + total_cost arm + arms_cost arms

arms_append : (first later : List (List Instr)) → arms_cost (first ++ later) ≡ arms_cost first + arms_cost later
arms_append [] later = omega arith
arms_append (arm ∷ first) later = let e = arms_append first later in omega (arith, e)

arms_reversed : (arms : List (List Instr)) → arms_cost (reverse arms) ≡ arms_cost arms
arms_reversed [] = refl
arms_reversed (arm ∷ arms) =
    let turned = ap arms_cost (reverse-append (arm ∷ []) arms) in
    let parts = arms_append (reverse arms) (arm ∷ []) in
    let later = arms_reversed arms in
    omega (arith, turned, parts, later)

sequence_cost : (is : List Instr) (rest : Nest) → total_cost (flat (sequence is rest)) ≡ total_cost is + total_cost (flat rest)
sequence_cost [] rest = omega arith
sequence_cost (i ∷ is) rest = let e = sequence_cost is rest in omega (arith, e)

nested_cost : (inner : Nest) (arms : List (List Instr))
    → total_cost (flat (nested inner arms)) ≡ total_cost (flat inner) + arms_cost arms
nested_cost inner [] = omega arith
nested_cost inner (arm ∷ arms) =
    let parts = cost_append (flat (nested inner arms)) (End ∷ flat (sequence arm Empty)) in
    let own = sequence_cost arm Empty in
    let later = nested_cost inner arms in
    omega (arith, parts, own, later, fixed.block, fixed.ends)

dispatch_most : (selector : List Instr) (arms : List (List Instr))
    → total_cost (flat (dispatch selector arms)) ≤ 15 + total_cost selector + 5 * length arms + arms_cost arms
dispatch_most selector arms =
    let labels = range_with_len 0 (length arms) in
    let inner = selector ++ BrTable labels (length arms) ∷ [] in
    let whole = nested_cost (sequence inner Empty) ((Unreachable ∷ []) ∷ reverse arms) in
    let own = sequence_cost inner Empty in
    let parts = cost_append selector (BrTable labels (length arms) ∷ []) in
    let count = length-range_with_len 0 (length arms) in
    omega (
      arith,
      whole,
      own,
      parts,
      count,
      br_table_cost labels (length arms),
      fixed.unreachable,
      arms_reversed arms,
    )

body_cost : (nest : Nest) → total_cost (body_of nest) ≡ total_cost (flat nest) + 1
body_cost nest = let parts = cost_append (flat nest) (End ∷ []) in omega (arith, parts, fixed.ends)

-- ---- functions

abbrev pub all_marks : List Instr → ℕ
all_marks [] = 0
all_marks (i ∷ is) = marks i + all_marks is

cost_parts : (is : List Instr) → total_cost is ≡ items instr_bytes is + all_marks is
cost_parts [] = omega (arith, items_nil instr_bytes)
cost_parts (i ∷ is) = let later = cost_parts is in omega (arith, items_cons instr_bytes i is, cost_is i, later)

abbrev pub func_cost : Func → ℕ
func_cost func = length (u32_bytes func.ty) + length (code_bytes (code_of func)) + all_marks func.body

abbrev pub funcs_cost : List Func → ℕ
funcs_cost funcs = total func_cost funcs

pub funcs_append : (first later : List Func) → funcs_cost (first ++ later) ≡ funcs_cost first + funcs_cost later
funcs_append first later = total_append func_cost first later

func_most : (func : Func) → func_cost func ≤ 10 + length (vector_bytes run_bytes func.locals) + total_cost func.body
unfolding code_bytes
func_most func =
    let content = vector_bytes run_bytes func.locals ++ body_bytes func.body in
    omega (
      arith,
      u32_most func.ty,
      sized_length content,
      u32_most (length content),
      length-append (vector_bytes run_bytes func.locals) (body_bytes func.body),
      items_as instr_bytes func.body,
      cost_parts func.body,
    )

no_locals : length (vector_bytes run_bytes []) ≡ 1
unfolding u32_bytes unsigned_bytes
no_locals = refl

one_local : length (vector_bytes run_bytes (one_i32 ∷ [])) ≡ 3
unfolding u32_bytes unsigned_bytes
one_local = refl

selector_most : (local op : ℕ) → total_cost (LocalGet local ∷ i32_const GROUP_CALLS ∷ Numeric op ∷ []) ≤ 18
selector_most local op =
    omega (arith, (at_index local).local_get, const_cost (i32_value GROUP_CALLS), numeric_cost op)

-- ---- the function in an import's place

group_calls_cost : (local first count : ℕ) → arms_cost (map (group_call local) (range_with_len first count)) ≤ 16 * count
group_calls_cost local first zero = omega arith
group_calls_cost local first (suc count) = omega (
  arith,
  (at_index local).local_get,
  (at_index first).call,
  fixed.returns,
  group_calls_cost local (first + 1) count,
)

pub import_most : (m : Module) (ty counter first count : ℕ) → func_cost (import_func m ty counter first count) ≤ 77 + 21 * count
import_most m ty counter first count =
    let local = length (original_type m ty).params in
    let selector = LocalGet local ∷ i32_const GROUP_CALLS ∷ Numeric I32_DIV_U ∷ [] in
    let arms = map (group_call local) (range_with_len first count) in
    omega (
      arith,
      func_most (import_func m ty counter first count),
      one_local,
      body_cost (import_nest counter local first count),
      sequence_cost (count_code counter local) (dispatch selector arms),
      (at_index counter).global_get,
      (at_index local).local_tee,
      const_cost (i32_value 1),
      numeric_cost I32_ADD,
      (at_index counter).global_set,
      dispatch_most selector arms,
      selector_most local I32_DIV_U,
      length-map (range_with_len first count) (group_call local),
      length-range_with_len first count,
      group_calls_cost local first count,
    )

module _ (m : Module) (valid : All IsFuncType m.types) where
  -- ---- groups

  calls_arms : (calls : List (List Segment))
      → 5 * length (map (segments_code m) calls) + arms_cost (map (segments_code m) calls)
      ≤ activations_cost 9 segment_cost calls
  calls_arms [] = omega arith
  calls_arms (segments ∷ calls) = omega (arith, segments_most m valid segments, calls_arms calls)

  pub group_most : (ty : ℕ) (calls : List (List Segment))
      → func_cost (group_func m ty calls) ≤ 49 + activations_cost 9 segment_cost calls
  group_most ty calls =
      let selector = LocalGet 0 ∷ i32_const GROUP_CALLS ∷ Numeric I32_REM_U ∷ [] in
      omega (
        arith,
        func_most (group_func m ty calls),
        no_locals,
        body_cost (group_nest m calls),
        dispatch_most selector (map (segments_code m) calls),
        selector_most 0 I32_REM_U,
        calls_arms calls,
      )

  pub part_cost : (count : ℕ) (calls : List (List Segment))
      → activations_cost 9 segment_cost (take count calls) + activations_cost 9 segment_cost (drop count calls)
      ≡ activations_cost 9 segment_cost calls
  part_cost zero calls = omega arith
  part_cost (suc count) [] = omega arith
  part_cost (suc count) (segments ∷ calls) = let e = part_cost count calls in omega (arith, e)

  parts_most : (ty : ℕ) (calls : List (List Segment)) (from count : ℕ)
      → funcs_cost (map (group_func m ty)
      (map (λ number. take GROUP_CALLS (drop (GROUP_CALLS * number) calls)) (range_with_len from count)))
      ≤ 49 * count + activations_cost 9 segment_cost (drop (GROUP_CALLS * from) calls)
  parts_most ty calls from zero = omega arith
  parts_most ty calls from (suc count) =
      let rest = drop (GROUP_CALLS * from) calls in
      let next : drop GROUP_CALLS rest ≡ drop (GROUP_CALLS * (from + 1)) calls =
      drop-drop GROUP_CALLS (GROUP_CALLS * from) calls
      ∙ ap (λ n. drop n calls) (omega arith) in
      let moved = ap (activations_cost 9 segment_cost) next in
      let later = parts_most ty calls (from + 1) count in
      omega (arith, group_most ty (take GROUP_CALLS rest), part_cost GROUP_CALLS rest, moved, later)

  groups_most : (ty : ℕ) (calls : List (List Segment))
      → funcs_cost (map (group_func m ty) (groups calls))
      ≤ 49 * group_count (length calls) + activations_cost 9 segment_cost calls
  groups_most ty calls = parts_most ty calls 0 (group_count (length calls))

  -- ---- all functions

  group_count_most : (count : ℕ) → group_count count ≤ count
  group_count_most count = omega arith

  own_most : (calls : List (List Segment))
      → activations_cost 9 segment_cost calls + 70 * length calls ≤ activations_cost 80 segment_cost calls
  own_most [] = omega arith
  own_most (segments ∷ calls) = let later = own_most calls in omega (arith, later)

  pub funcs_most : (counter first : ℕ) (types : List ℕ) (calls : List (List (List Segment)))
      → funcs_cost (import_funcs m counter first types calls) + funcs_cost (group_funcs m types calls)
      ≤ 77 * length types + calls_cost 80 segment_cost calls
  funcs_most counter first [] calls = omega arith
  funcs_most counter first (ty ∷ types) [] = omega arith
  funcs_most counter first (ty ∷ types) (calls ∷ more) =
      let count = group_count (length calls) in
      omega (
        arith,
        import_most m ty counter first count,
        funcs_append (map (group_func m ty) (groups calls)) (group_funcs m types more),
        groups_most ty calls,
        group_count_most (length calls),
        own_most calls,
        funcs_most (counter + 1) (first + count) types more,
      )

  pub start_most : (segments : List Segment) → func_cost (start_func m segments) ≤ 13 + segments_cost segment_cost segments
  start_most segments = omega (
    arith,
    func_most (start_func m segments),
    no_locals,
    body_cost (sequence (segments_code m segments) Empty),
    sequence_cost (segments_code m segments) Empty,
    segments_most m valid segments,
  )
