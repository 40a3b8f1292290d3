-- The length of the shortest encoding of a replay module.
use Rattle.std.proofs.Common.{◌≡◌, ℕ, zero, suc, ◌+◌, ◌*◌, ◌≤◌, List, [], ◌∷◌, ◌++◌, length, map, Option, Some, None, codes, refl, arith}
use Rattle.std.specs.Prelude.{option_to_list, replicate, sum_by}
use Rattle.std.specs.List.{cons_option, zip}
use Rattle.std.proofs.lemmas.List.{length-append, length-map}
use Rattle.std.proofs.lemmas.List.Sums.{sum_by-cons}
use Rattle.leb_bytes.specs.Unsigned.{unsigned_bytes, u32_bytes}
use Rattle.base.specs.declared.marks.TheConstants.{ELEMENT_DECLARED, ELEMENT_FUNCS}
use Rattle.wasm_syntax.specs.declared.values.Val.{Val}
use Rattle.wasm_syntax.specs.declared.values.ValType.TheVariants.{I32}
use Rattle.wasm_syntax.specs.declared.signatures.GlobalType.{GlobalType}
use Rattle.wasm_syntax.specs.declared.signatures.Limits.{Limits}
use Rattle.wasm_syntax.specs.declared.instructions.Instr.{Instr}
use Rattle.wasm_syntax.specs.declared.instructions.Instr.TheVariants.{Const, End}
use Rattle.wasm_syntax.specs.declared.modules.ElemSeg.{ElemSeg}
use Rattle.wasm_syntax.specs.declared.modules.ElemSeg.TheVariants.{Active, Declared}
use Rattle.wasm_syntax.specs.declared.modules.DataSeg.{DataSeg}
use Rattle.wasm_syntax.specs.declared.modules.Export.{Export}
use Rattle.wasm_syntax.specs.declared.modules.ExportKind.TheVariants.{Func as FuncExport}
use Rattle.wasm_syntax.specs.declared.modules.Func.{Func}
use Rattle.wasm_syntax.specs.declared.modules.Global.{Global}
use Rattle.wasm_syntax.specs.declared.modules.Import.{Import}
use Rattle.wasm_syntax.specs.declared.modules.ImportKind.{ImportKind}
use Rattle.wasm_syntax.specs.declared.modules.ImportKind.TheVariants as kinds
use Rattle.wasm_syntax.specs.declared.modules.Module.{Module}
use Rattle.wasm_syntax.specs.Index.{all_globals, func_import, global_import, imported_funcs, imported_globals, of_kind}
use Rattle.wasm_syntax.specs.Encoding.Modules.{code_of}
use Rattle.wasm_syntax.specs.Encoding.Sections.{CustomSection}
use Rattle.wasm_syntax.specs.Encoding.Shortest.{body_bytes, bounds_bytes, code_bytes, content_bytes, custom_bytes, data_bytes, elem_bytes, export_bytes, export_kind_bytes, func_type_bytes, global_bytes, global_type_bytes, instr_bytes, limits_bytes, sized_bytes, table_type_bytes, vector_bytes}
use Rattle.wasm_syntax.proofs.ItemLists.{items, items_as, items_cons, items_nil, sized_length, u32_most, vector_length}
use Rattle.trace_model.specs.declared.tapes.Segment.{Segment}
use Rattle.trace_model.specs.Weight.{segment_weight}
use Rattle.history_spec.specs.Code.{i32_value, zero_of}
use Rattle.history_spec.specs.Instantiation.{constant, global_value}
use Rattle.replay_module_spec.specs.Functions.{appended_types}
use Rattle.replay_module_spec.specs.Fragments.{counter}
use Rattle.replay_module_spec.specs.Merge.{constant_body, constant_data, constant_elem, constant_global, constant_offset, declaration, layout_section, supplied_global}
use Rattle.replay_module_laws.proofs.FittingPlans.{next_weighs}
use Rattle.replay_encoding_laws.proofs.Instructions.{const_cost, cost_is, indices_most, fixed}
use Rattle.replay_encoding_laws.proofs.Plans.{all_cost}
use Rattle.replay_encoding_laws.proofs.Segments.{segment_cost}
use Rattle.replay_encoding_laws.proofs.Bodies.{funcs_cost}
use Rattle.replay_encoding_laws.proofs.References.{total_marks}

-- ---- types, limits

pub appended_length : items func_type_bytes appended_types ≡ 27
unfolding items func_type_bytes u32_bytes unsigned_bytes
appended_length = refl

bounds_most : (least : ℕ) (most : Option ℕ) → length (bounds_bytes least most) ≤ 11
bounds_most least None = omega (arith, u32_most least)
bounds_most least (Some most) =
    omega (arith, length-append (u32_bytes least) (u32_bytes most), u32_most least, u32_most most)

pub limits_most : (limits : Limits) → length (limits_bytes limits) ≤ 11
unfolding limits_bytes
limits_most limits = bounds_most limits.min limits.max

pub tables_most : (limits : Option Limits) → items table_type_bytes (option_to_list limits) ≤ 12
tables_most None = omega (arith, items_nil table_type_bytes)
tables_most (Some limits) = omega (
  arith,
  items_cons table_type_bytes limits [],
  items_nil table_type_bytes,
  limits_most limits,
)

pub memories_most : (limits : Option Limits) → items limits_bytes (option_to_list limits) ≤ 11
memories_most None = omega (arith, items_nil limits_bytes)
memories_most (Some limits) =
    omega (arith, items_cons limits_bytes limits [], items_nil limits_bytes, limits_most limits)

-- ---- constants

pub constant_most : (value : Val) → length (body_bytes (constant_body value)) ≤ 12
constant_most value = omega (
  arith,
  items_as instr_bytes (constant_body value),
  items_cons instr_bytes (Const value) (End ∷ []),
  items_cons instr_bytes End [],
  items_nil instr_bytes,
  const_cost value,
  cost_is (Const value),
  fixed.ends,
  cost_is End,
)

type_length : (ty : GlobalType) → length (global_type_bytes ty) ≡ 2
unfolding global_type_bytes
type_length ty = refl

pub global_length : (g : Global) → length (global_bytes g) ≡ 2 + length (body_bytes g.init)
unfolding global_bytes
global_length g = omega (arith, length-append (global_type_bytes g.ty) (body_bytes g.init), type_length g.ty)

pub supplied_most : (types : List GlobalType) (values : List Val)
    → items global_bytes (map supplied_global (zip types values)) ≤ 14 * length types
supplied_most [] values = omega (arith, items_nil global_bytes)
supplied_most (ty ∷ types) [] = omega (arith, items_nil global_bytes)
supplied_most (ty ∷ types) (value ∷ values) =
    let g = supplied_global (ty, value) in
    omega (
      arith,
      items_cons global_bytes g (map supplied_global (zip types values)),
      global_length g,
      constant_most value,
      supplied_most types values,
    )

-- each of some parts is at most 12 bytes longer with a constant in place of its expression
constants_most : {A : Type 0} (write : A → List ℕ) (with_constant : A → A)
    → ((x : A) → length (write (with_constant x)) ≤ length (write x) + 12) → (xs : List A)
    → items write (map with_constant xs) ≤ items write xs + 12 * length xs
constants_most write with_constant each [] = omega (arith, items_nil write)
constants_most write with_constant each (x ∷ xs) = omega (
  arith,
  items_cons write (with_constant x) (map with_constant xs),
  items_cons write x xs,
  each x,
  constants_most write with_constant each xs,
)

global_most : (imported : List Val) (g : Global)
    → length (global_bytes (constant_global imported g)) ≤ length (global_bytes g) + 12
global_most imported g = omega (
  arith,
  global_length (constant_global imported g),
  global_length g,
  constant_most (global_value imported g),
)

pub globals_most : (imported : List Val) (globals : List Global)
    → items global_bytes (map (constant_global imported) globals) ≤ items global_bytes globals + 12 * length globals
globals_most imported = constants_most global_bytes (constant_global imported) (global_most imported)

pub counters_most : (count : ℕ) → items global_bytes (replicate count counter) ≤ 14 * count
counters_most zero = omega (arith, items_nil global_bytes)
counters_most (suc count) = omega (
  arith,
  items_cons global_bytes counter (replicate count counter),
  global_length counter,
  constant_most (i32_value 0),
  counters_most count,
)

-- ---- segments

pub active_length : (table : ℕ) (offset : List Instr) (funcs : List ℕ)
    → length (elem_bytes (Active table offset funcs))
    ≡ length (u32_bytes table) + length (body_bytes offset) + length (vector_bytes u32_bytes funcs)
unfolding elem_bytes
active_length table offset funcs = omega (
  arith,
  length-append (u32_bytes table) (body_bytes offset ++ vector_bytes u32_bytes funcs),
  length-append (body_bytes offset) (vector_bytes u32_bytes funcs),
)

elem_most : (imported : List Val) (segment : ElemSeg)
    → length (elem_bytes (constant_elem imported segment)) ≤ length (elem_bytes segment) + 12
elem_most imported (Active table offset funcs) = omega (
  arith,
  active_length table (constant_offset imported offset) funcs,
  active_length table offset funcs,
  constant_most (constant imported (zero_of I32) offset),
)
elem_most imported (Declared funcs) = omega arith

pub elems_most : (imported : List Val) (elems : List ElemSeg)
    → items elem_bytes (map (constant_elem imported) elems) ≤ items elem_bytes elems + 12 * length elems
elems_most imported = constants_most elem_bytes (constant_elem imported) (elem_most imported)

declared_most : (funcs : List ℕ) → length (elem_bytes (Declared funcs)) ≤ 11 + 5 * length funcs
unfolding elem_bytes
declared_most funcs = omega (
  arith,
  length-append (u32_bytes ELEMENT_DECLARED) (ELEMENT_FUNCS ∷ vector_bytes u32_bytes funcs),
  u32_most ELEMENT_DECLARED,
  vector_length u32_bytes funcs,
  u32_most (length funcs),
  indices_most funcs,
)

pub declaration_most : (funcs : List ℕ) → items elem_bytes (declaration funcs) ≤ 11 + 5 * length funcs
declaration_most [] = omega (arith, items_nil elem_bytes)
declaration_most (func ∷ funcs) = omega (
  arith,
  items_cons elem_bytes (Declared (func ∷ funcs)) [],
  items_nil elem_bytes,
  declared_most (func ∷ funcs),
)

pub data_length : (segment : DataSeg)
    → length (data_bytes segment)
    ≡ length (u32_bytes segment.memory) + length (body_bytes segment.offset) + length (sized_bytes segment.bytes)
unfolding data_bytes
data_length segment = omega (
  arith,
  length-append (u32_bytes segment.memory) (body_bytes segment.offset ++ sized_bytes segment.bytes),
  length-append (body_bytes segment.offset) (sized_bytes segment.bytes),
)

data_most : (imported : List Val) (segment : DataSeg)
    → length (data_bytes (constant_data imported segment)) ≤ length (data_bytes segment) + 12
data_most imported segment = omega (
  arith,
  data_length (constant_data imported segment),
  data_length segment,
  constant_most (constant imported (zero_of I32) segment.offset),
)

pub datas_most : (imported : List Val) (datas : List DataSeg)
    → items data_bytes (map (constant_data imported) datas) ≤ items data_bytes datas + 12 * length datas
datas_most imported = constants_most data_bytes (constant_data imported) (data_most imported)

-- ---- functions

-- the function section and the code section together, and the marks of references
pub funcs_parts : (funcs : List Func)
    → items u32_bytes (map (λ func. func.ty) funcs) + items code_bytes (map code_of funcs) + total_marks funcs
    ≡ funcs_cost funcs
funcs_parts [] = omega (arith, items_nil u32_bytes, items_nil code_bytes)
funcs_parts (func ∷ funcs) = omega (
  arith,
  items_cons u32_bytes func.ty (map (λ func. func.ty) funcs),
  items_cons code_bytes (code_of func) (map code_of funcs),
  funcs_parts funcs,
)

-- ---- the export and the custom section

pub export_most : (func : ℕ)
    → items export_bytes (record { name = codes "_start"; kind = FuncExport func } ∷ []) ≤ 17
unfolding export_bytes
export_most func =
    let e : Export = record { name = codes "_start"; kind = FuncExport func } in
    omega (
      arith,
      items_cons export_bytes e [],
      items_nil export_bytes,
      length-append (sized_bytes (codes "_start")) (export_kind_bytes e.kind),
      sized_length (codes "_start"),
      u32_most 6,
      u32_most func,
    )

pub layout_most : (m : Module) → length (content_bytes (CustomSection (layout_section m))) ≤ 24
unfolding content_bytes custom_bytes
layout_most m = omega (
  arith,
  length-append (sized_bytes (codes "r3.layout")) (u32_bytes (imported_funcs m) ++ u32_bytes (length m.funcs)),
  sized_length (codes "r3.layout"),
  u32_most 9,
  length-append (u32_bytes (imported_funcs m)) (u32_bytes (length m.funcs)),
  u32_most (imported_funcs m),
  u32_most (length m.funcs),
)

-- ---- weights

-- the weight of segments: each weighs at least one, and at least what its code costs
pub record SegmentsWeigh (segments : List Segment) : Type 0 where
  pub count : length segments ≤ sum_by segment_weight segments
  pub cost : all_cost 80 segment_cost segments ≤ 96 * sum_by segment_weight segments

pub segments_weigh : (segments : List Segment) → SegmentsWeigh segments
segments_weigh [] = record { count = omega arith; cost = omega arith }
segments_weigh (segment ∷ segments) =
    let sum = sum_by-cons segment_weight segment segments in
    let one = next_weighs segment.next in
    let later = segments_weigh segments in
    record {
      count = (let more = later.count in omega (arith, sum, one, more));
      cost = (let more = later.cost in omega (arith, sum, one, more));
    }

-- ---- imports

cons_both : (kind : ImportKind) (funcs : List ℕ) (globals : List GlobalType)
    → length (cons_option (func_import kind) funcs) + length (cons_option (global_import kind) globals)
    ≤ 1 + length funcs + length globals
cons_both (kinds.Func ty) funcs globals = omega arith
cons_both (kinds.Table limits) funcs globals = omega arith
cons_both (kinds.Memory limits) funcs globals = omega arith
cons_both (kinds.Global ty) funcs globals = omega arith

pub imported_most : (imports : List Import)
    → length (of_kind func_import imports) + length (of_kind global_import imports) ≤ length imports
imported_most [] = omega arith
imported_most (i ∷ imports) = omega (
  arith,
  cons_both i.kind (of_kind func_import imports) (of_kind global_import imports),
  imported_most imports,
)

pub globals_are_all : (m : Module) → length (all_globals m) ≡ length (imported_globals m) + length m.globals
globals_are_all m = omega (
  arith,
  length-append (imported_globals m) (map (λ g. g.ty) m.globals),
  length-map m.globals (λ (g : Global). g.ty),
)
