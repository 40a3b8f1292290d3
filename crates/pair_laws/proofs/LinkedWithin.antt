-- The shortest encoding of a linked module takes at most four times as many bytes as those of both modules.
use Rattle.std.proofs.Common.{◌≡◌, ℕ, ◌+◌, ◌*◌, ◌^◌, ◌≤◌, List, [], ◌∷◌, map, length, Option, Some, None, option_map, sym, subst, arith}
use Rattle.std.specs.Prelude.{option_to_list}
use Rattle.std.specs.Option.{option_or}
use Rattle.std.proofs.lemmas.List.{length-map, map-append}
use Rattle.leb_bytes.specs.Unsigned.{u32_bytes}
use Rattle.wasm_syntax.specs.declared.modules.Module.{Module}
use Rattle.wasm_syntax.specs.declared.modules.Func.{Func}
use Rattle.wasm_syntax.specs.Encoding.Modules.{code_of}
use Rattle.wasm_syntax.specs.Encoding.Sections.{CodeSection, CustomSection, DataSection, ElementSection, ExportSection, FunctionSection, GlobalSection, ImportSection, MemorySection, StartSection, TableSection, TypeSection, Section}
use Rattle.wasm_syntax.specs.Encoding.Shortest.{code_bytes, content_bytes, data_bytes, elem_bytes, encoding_of, export_bytes, func_type_bytes, global_bytes, import_bytes, limits_bytes, section_bytes, table_type_bytes, unless_empty}
use Rattle.wasm_syntax.proofs.Encoding.NotEmpty.{func_type_bytes_some, global_bytes_some, import_bytes_some}
use Rattle.wasm_syntax.proofs.Encoding.Writing.{u32_some}
use Rattle.wasm_syntax.proofs.ItemLists.{items_cons, items_nil, items_some, section_most, u32_most}
use Rattle.wasm_syntax.proofs.SectionLists.{encoding_least, encoding_parts, part, part_is, vectors}
use Rattle.instance_spec.specs.declared.sides.Side.{Side}
use Rattle.instance_spec.specs.declared.sides.Side.TheVariants.{Left, Right}
use Rattle.instance_spec.specs.Instances.{Instance}
use Rattle.pair_spec.specs.Pairs.{ModulePair, Funcs, Globals}
use Rattle.pair_spec.specs.Numbers.{count_in, side_instance}
use Rattle.pair_spec.specs.Linked.{linked, linked_func}
use Rattle.pair_laws.specs.Laws.{AreLinkable}
use Rattle.pair_laws.specs.SizeLaws.{LinkedAreWithin}
use Rattle.pair_laws.proofs.GrownLists.{joined_grown, one_part, same_grown}
use Rattle.pair_laws.proofs.LinkedLengths.{codes_grown, datas_grown, elems_grown, exports_grown, functions_grown, globals_grown, imports_grown}
use Rattle.pair_laws.proofs.LinkedSizes.{counts_are_within}

-- ---- the start section

start_most : (func : ℕ) → part (StartSection func ∷ []) ≤ 11
unfolding content_bytes
start_most func = omega (
  arith,
  part_is (StartSection func ∷ []),
  items_cons section_bytes (StartSection func) [],
  items_nil section_bytes,
  section_most (StartSection func),
  u32_most func,
)

start_least : (func : ℕ) → 3 ≤ part (StartSection func ∷ [])
unfolding content_bytes
start_least func = omega (arith, one_part (StartSection func), u32_some func)

abbrev start_section : Option ℕ → List Section
start_section start = map StartSection (option_to_list start)

start_grown : (f g : ℕ → ℕ) (first second : Option ℕ)
    → part (start_section (option_or (option_map f first) (option_map g second)))
    ≤ 4 * part (start_section first) + 4 * part (start_section second)
start_grown f g (Some x) second = omega (arith, start_most (f x), start_least x)
start_grown f g None (Some y) = omega (arith, start_most (g y), start_least y)
start_grown f g None None = omega arith

no_sections : part [] ≡ 0
no_sections = omega (arith, part_is [], items_nil section_bytes)

-- ---- the module

module _ (pair : ModulePair) (linkable : AreLinkable pair)
    (few_types : length pair.left.types + length pair.right.types ≤ 2 ^ 28) (few_funcs : count_in pair Funcs ≤ 2 ^ 28)
    (few_globals : count_in pair Globals ≤ 2 ^ 28) where
  -- a section of the linked module takes at most four times as many bytes as those of both modules
  abbrev IsFourfold : (Module → List Section) → Type 0
  IsFourfold section = part (section (linked pair)) ≤ 4 * part (section pair.left) + 4 * part (section pair.right)

  abbrev i : Side → Instance
  i side = side_instance pair side

  types_part : IsFourfold (λ m. unless_empty TypeSection m.types)
  types_part =
      joined_grown TypeSection func_type_bytes vectors.types (same_grown func_type_bytes pair.left.types)
      (same_grown func_type_bytes pair.right.types)

  imports_part : IsFourfold (λ m. unless_empty ImportSection m.imports)
  imports_part =
      joined_grown ImportSection import_bytes vectors.imports (imports_grown (i Left) Left pair.left.imports)
      (imports_grown (i Right) Right pair.right.imports)

  abbrev type_of : Func → ℕ
  type_of f = f.ty

  functions_part : IsFourfold (λ m. unless_empty FunctionSection (map type_of m.funcs))
  functions_part =
      subst
      (λ types. part (unless_empty FunctionSection types)
      ≤ 4 * part (unless_empty FunctionSection (map type_of pair.left.funcs))
      + 4 * part (unless_empty FunctionSection (map type_of pair.right.funcs)))
      (sym (map-append type_of (map (linked_func (i Left)) pair.left.funcs) (map (linked_func (i Right)) pair.right.funcs)))
      (joined_grown FunctionSection u32_bytes vectors.functions
      (functions_grown pair linkable few_types few_funcs few_globals Left)
      (functions_grown pair linkable few_types few_funcs few_globals Right))

  tables_part : IsFourfold (λ m. unless_empty TableSection m.tables)
  tables_part =
      joined_grown TableSection table_type_bytes vectors.tables (same_grown table_type_bytes pair.left.tables)
      (same_grown table_type_bytes pair.right.tables)

  memories_part : IsFourfold (λ m. unless_empty MemorySection m.memories)
  memories_part =
      joined_grown MemorySection limits_bytes vectors.memories (same_grown limits_bytes pair.left.memories)
      (same_grown limits_bytes pair.right.memories)

  globals_part : IsFourfold (λ m. unless_empty GlobalSection m.globals)
  globals_part =
      joined_grown GlobalSection global_bytes vectors.globals
      (globals_grown pair linkable few_types few_funcs few_globals Left)
      (globals_grown pair linkable few_types few_funcs few_globals Right)

  exports_part : IsFourfold (λ m. unless_empty ExportSection m.exports)
  exports_part =
      joined_grown ExportSection export_bytes vectors.exports
      (exports_grown pair linkable few_types few_funcs few_globals Left)
      (exports_grown pair linkable few_types few_funcs few_globals Right)

  start_part : IsFourfold (λ m. start_section m.start)
  start_part = start_grown (i Left).funcs (i Right).funcs pair.left.start pair.right.start

  elems_part : IsFourfold (λ m. unless_empty ElementSection m.elems)
  elems_part =
      joined_grown ElementSection elem_bytes vectors.elems
      (elems_grown pair linkable few_types few_funcs few_globals Left)
      (elems_grown pair linkable few_types few_funcs few_globals Right)

  codes_part : IsFourfold (λ m. unless_empty CodeSection (map code_of m.funcs))
  codes_part =
      subst
      (λ codes. part (unless_empty CodeSection codes)
      ≤ 4 * part (unless_empty CodeSection (map code_of pair.left.funcs))
      + 4 * part (unless_empty CodeSection (map code_of pair.right.funcs)))
      (sym (map-append code_of (map (linked_func (i Left)) pair.left.funcs) (map (linked_func (i Right)) pair.right.funcs)))
      (joined_grown CodeSection code_bytes vectors.codes (codes_grown (i Left) pair.left.funcs)
      (codes_grown (i Right) pair.right.funcs))

  datas_part : IsFourfold (λ m. unless_empty DataSection m.datas)
  datas_part =
      joined_grown DataSection data_bytes vectors.datas
      (datas_grown pair linkable few_types few_funcs few_globals Left)
      (datas_grown pair linkable few_types few_funcs few_globals Right)

  customs_part : part (map CustomSection (linked pair).customs) ≡ 0
  customs_part = no_sections

  encoding_most : length (encoding_of (linked pair)) ≤ 4 * length (encoding_of pair.left) + 4 * length (encoding_of pair.right)
  encoding_most = omega (
    arith,
    encoding_parts (linked pair),
    encoding_parts pair.left,
    encoding_parts pair.right,
    types_part,
    imports_part,
    functions_part,
    tables_part,
    memories_part,
    globals_part,
    exports_part,
    start_part,
    elems_part,
    codes_part,
    datas_part,
    customs_part,
  )

-- a module has no more items than its encoding has bytes
few_items : (m : Module)
    → length m.types + length m.imports + length m.funcs + length m.globals ≤ length (encoding_of m)
few_items m = omega (
  arith,
  encoding_least m,
  items_some func_type_bytes func_type_bytes_some m.types,
  items_some import_bytes import_bytes_some m.imports,
  items_some u32_bytes u32_some (map (λ func. func.ty) m.funcs),
  length-map m.funcs (λ func. func.ty),
  items_some global_bytes global_bytes_some m.globals,
)

pub linked_are_within : LinkedAreWithin
linked_are_within pair linkable short_left short_right =
    let left = few_items pair.left in
    let right = few_items pair.right in
    let funcs = counts_are_within pair Funcs in
    let globals = counts_are_within pair Globals in
    let most =
    encoding_most pair linkable (omega (arith, left, right, short_left, short_right))
    (omega (arith, left, right, short_left, short_right, funcs))
    (omega (arith, left, right, short_left, short_right, globals)) in
    omega (arith, most, short_left, short_right)
