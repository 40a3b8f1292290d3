-- The indices of a replay module have 32 bits, and the bound on its encoding is small.
use Rattle.std.proofs.Common.{◌≡◌, ℕ, ◌+◌, ◌*◌, ◌^◌, ◌<◌, ◌≤◌, List, [], ◌∷◌, ◌++◌, length, Option, Some, None, refl, sym, subst, inl, inr, arith}
use Rattle.std.specs.Prelude.{All}
use Rattle.std.proofs.lemmas.Bool.{cases_lt}
use Rattle.std.proofs.lemmas.List.{get_or_past, length-append}
use Rattle.wasm_syntax.specs.declared.limits.TheConstants.{MAX_TAPE_WEIGHT, MAX_ORIGINAL_BYTES}
use Rattle.wasm_syntax.specs.declared.signatures.FuncType.{FuncType}
use Rattle.wasm_syntax.specs.declared.modules.Import.{Import}
use Rattle.wasm_syntax.specs.declared.modules.ImportKind.{ImportKind}
use Rattle.wasm_syntax.specs.declared.modules.ImportKind.TheVariants as kinds
use Rattle.wasm_syntax.specs.declared.modules.Module.{Module}
use Rattle.wasm_syntax.specs.Index.{imported_funcs}
use Rattle.wasm_syntax.specs.Encoding.Shortest.{bounds_bytes, data_bytes, elem_bytes, encoding_of, global_bytes, global_type_bytes, import_bytes, import_kind_bytes, limits_bytes, sized_bytes}
use Rattle.wasm_syntax.proofs.Encoding.NotEmpty.{data_bytes_some, elem_bytes_some, global_bytes_some}
use Rattle.wasm_syntax.specs.ListsWithin.{HasListsWithin}
use Rattle.wasm_syntax.proofs.ItemLists.{items, items_cons, items_nil, items_some, sized_length}
use Rattle.wasm_syntax.proofs.SectionLists.{encoding_least, encoding_parts}
use Rattle.wasm_syntax.proofs.Encoding.Writing.{u32_some}
use Rattle.trace_model.specs.declared.tapes.Segment.{Segment}
use Rattle.trace_model.specs.declared.tapes.Tape.{Tape}
use Rattle.trace_model.specs.Weight.{tape_weight}
use Rattle.replay_module_spec.specs.Plans.{plan_of}
use Rattle.replay_module_spec.specs.Functions.{original_type, start_type}
use Rattle.replay_module_spec.specs.Fragments.{import_types}
use Rattle.replay_gen.specs.Bounds.{FitsIndices}
use Rattle.replay_gen.specs.Pieces.{group_total}
use Rattle.replay_module_spec.specs.Size.{max_bytes}
use Rattle.replay_encoding_laws.proofs.Plans.{activations_cost, all_cost, calls_cost, plan_cost}
use Rattle.replay_encoding_laws.proofs.Modules.{globals_are_all, imported_most, segments_weigh}
use Rattle.replay_encoding_laws.proofs.Sizes.{no_part}

-- ---- there are at most as many groups as segments

abbrev nothing : Segment → ℕ
nothing segment = 0

activations_many : (calls : List (List Segment)) → length calls ≤ activations_cost 1 nothing calls
activations_many [] = omega arith
activations_many (segments ∷ calls) = let later = activations_many calls in omega (arith, later)

groups_few : (types : List ℕ) (calls : List (List (List Segment)))
    → group_total types calls ≤ calls_cost 1 nothing calls
groups_few [] calls = omega arith
groups_few (ty ∷ types) [] = omega arith
groups_few (ty ∷ types) (calls ∷ more) =
    let own = activations_many calls in let later = groups_few types more in omega (arith, own, later)

all_many : (segments : List Segment) → all_cost 1 nothing segments ≡ length segments
all_many [] = refl
all_many (segment ∷ segments) = let later = all_many segments in omega (arith, later)

pub groups_weigh : (m : Module) (tape : Tape)
    → group_total (import_types m) (plan_of (imported_funcs m) tape).imports ≤ tape_weight tape
groups_weigh m tape = omega (
  arith,
  groups_few (import_types m) (plan_of (imported_funcs m) tape).imports,
  plan_cost 1 nothing (imported_funcs m) tape,
  all_many tape.segments,
  (segments_weigh tape.segments).count,
)

-- ---- the parts of an encoding

kind_some : (kind : ImportKind) → 2 ≤ length (import_kind_bytes kind)
unfolding limits_bytes global_type_bytes
kind_some (kinds.Func ty) = omega (arith, u32_some ty)
kind_some (kinds.Table limits) = omega arith
kind_some (kinds.Memory limits) = let some = by limits.max in omega (arith, some)
  where
    by : (max : Option ℕ) → 1 ≤ length (bounds_bytes limits.min max)
    by None = omega arith
    by (Some max) = omega arith
kind_some (kinds.Global ty) = omega arith

import_some : (i : Import) → 4 ≤ length (import_bytes i)
unfolding import_bytes
import_some i = omega (
  arith,
  length-append (sized_bytes i.module) (sized_bytes i.name ++ import_kind_bytes i.kind),
  length-append (sized_bytes i.name) (import_kind_bytes i.kind),
  sized_length i.module,
  u32_some (length i.module),
  sized_length i.name,
  u32_some (length i.name),
  kind_some i.kind,
)

pub imports_some : (imports : List Import) → 4 * length imports ≤ items import_bytes imports
imports_some [] = omega (arith, items_nil import_bytes)
imports_some (i ∷ imports) =
    omega (arith, items_cons import_bytes i imports, import_some i, imports_some imports)

without_customs : (m : Module) → length (encoding_of (record m { customs = [] })) ≤ length (encoding_of m)
without_customs m = omega (arith, encoding_parts m, encoding_parts (record m { customs = [] }), no_part)

-- the numbers of globals, segments and imports are small beside the length of the encoding
parts_few : (m : Module)
    → 16 * (length m.globals + (length m.elems + length m.datas)) + 28 * (4 * length m.imports)
    ≤ 28 * length (encoding_of (record m { customs = [] }))
parts_few m =
    let lower = encoding_least (record m { customs = [] }) in
    omega (
      arith,
      lower,
      imports_some m.imports,
      items_some global_bytes global_bytes_some m.globals,
      items_some elem_bytes elem_bytes_some m.elems,
      items_some data_bytes data_bytes_some m.datas,
    )

-- ---- the bound

pub bound_small : (m : Module) (tape : Tape) → length (encoding_of m) ≤ MAX_ORIGINAL_BYTES → tape_weight tape ≤ MAX_TAPE_WEIGHT
    → max_bytes m (tape_weight tape) < 2 ^ 32
bound_small m tape short weight = omega (
  arith,
  short,
  weight,
  without_customs m,
  parts_few m,
  globals_are_all m,
  imported_most m.imports,
)

-- ---- indices

pub params_few : (most : ℕ) (m : Module) → All (λ (ty : FuncType). length ty.params ≤ most) m.types → most < 2 ^ 32
    → (ty : ℕ) → length (original_type m ty).params < 2 ^ 32
params_few most m within few ty = elim (cases_lt ty (length m.types)) [
  | inl there ↦ let small = within ty start_type there in omega (arith, small, few)
  | inr past ↦
      subst (λ (t : FuncType). length t.params < 2 ^ 32) (sym (get_or_past m.types ty start_type past)) (omega arith)
]

pub indices_fit : (bytes : List ℕ) (m : Module) (tape : Tape) → HasListsWithin (length bytes) m
    → length (encoding_of m) ≤ length bytes → length bytes ≤ MAX_ORIGINAL_BYTES → tape_weight tape ≤ MAX_TAPE_WEIGHT
    → FitsIndices m (plan_of (imported_funcs m) tape)
indices_fit bytes m tape within least few weight = record {
  types = let parts = within.parts in omega (arith, parts, few);
  params = params_few (length bytes) m within.params (omega (arith, few));
  globals = omega (
    arith,
    least,
    few,
    without_customs m,
    parts_few m,
    globals_are_all m,
    imported_most m.imports,
  );
  funcs = let funcs = within.funcs in omega (arith, funcs, few, weight, groups_weigh m tape);
}
