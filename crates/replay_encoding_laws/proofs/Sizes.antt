-- The shortest encoding of a replay module is within the bound.
use Rattle.std.proofs.Common.{◌≡◌, ℕ, ◌+◌, ◌*◌, ◌≤◌, List, [], ◌∷◌, ◌++◌, length, map, None, codes, refl, ap, arith}
use Rattle.std.specs.Prelude.{option_map, option_to_list, replicate}
use Rattle.std.specs.List.{zip}
use Rattle.leb_bytes.specs.Unsigned.{u32_bytes}
use Rattle.wasm_syntax.specs.declared.modules.ExportKind.TheVariants.{Func as FuncExport}
use Rattle.wasm_syntax.specs.declared.modules.Func.{Func}
use Rattle.wasm_syntax.specs.declared.modules.Module.{Module}
use Rattle.wasm_syntax.specs.Index.{all_globals, imported_funcs, imported_globals}
use Rattle.wasm_syntax.specs.Validity.{IsValid}
use Rattle.wasm_syntax.specs.Encoding.Forms.{IsCoreModule}
use Rattle.wasm_syntax.specs.Encoding.Modules.{code_of}
use Rattle.wasm_syntax.specs.Encoding.Sections.{CodeSection, CustomSection, DataSection, ElementSection, ExportSection, FunctionSection, GlobalSection, ImportSection, MemorySection, StartSection, TableSection, TypeSection}
use Rattle.wasm_syntax.specs.Encoding.Shortest.{code_bytes, data_bytes, elem_bytes, encoding_of, export_bytes, func_type_bytes, global_bytes, import_bytes, limits_bytes, section_bytes, table_type_bytes, unless_empty}
use Rattle.wasm_syntax.proofs.ItemLists.{items, items_append, items_cons, items_nil, section_most}
use Rattle.wasm_syntax.proofs.SectionLists.{encoding_least, encoding_parts, part, part_is, part_most, vectors}
use Rattle.trace_model.specs.declared.tapes.Tape.{Tape}
use Rattle.trace_model.specs.Weight.{tape_weight}
use Rattle.host_script.specs.declared.scripts.Supply.{Supply}
use Rattle.history_spec.specs.Instantiation.{memory_limits, table_limits}
use Rattle.replay_module_spec.specs.Plans.{plan_of}
use Rattle.replay_module_spec.specs.Functions.{appended_types}
use Rattle.replay_module_spec.specs.Fragments.{counter, fragment_of, helper_funcs, import_bodies, import_types, referred_funcs, referred_once, start_index}
use Rattle.replay_module_spec.specs.Merge.{constant_data, constant_elem, constant_global, declaration, layout_section, memory_written, replay_module, supplied_global}
use Rattle.replay_module_spec.specs.Size.{max_bytes}
use Rattle.replay_encoding_laws.proofs.Plans.{plan_cost}
use Rattle.replay_encoding_laws.proofs.Segments.{segment_cost}
use Rattle.replay_encoding_laws.proofs.Bodies.{funcs_append, funcs_cost, funcs_most, start_most}
use Rattle.replay_encoding_laws.proofs.References.{no_marks, once_most, total_marks, total_marks_are}
use Rattle.replay_encoding_laws.proofs.Modules.{appended_length, counters_most, datas_most, declaration_most, elems_most, export_most, funcs_parts, globals_are_all, globals_most, imported_most, layout_most, memories_most, segments_weigh, supplied_most, tables_most}

-- ---- sections

pub no_part : part [] ≡ 0
no_part = omega (arith, part_is [], items_nil section_bytes)

-- the encoding of a module without imports and start function has few more bytes than its sections' contents
encoding_upper : (r : Module) → r.imports ≡ [] → r.start ≡ None
    → length (encoding_of r)
    ≤ 107 + items func_type_bytes r.types + items u32_bytes (map (λ func. func.ty) r.funcs)
    + items table_type_bytes r.tables + items limits_bytes r.memories + items global_bytes r.globals
    + items export_bytes r.exports + items elem_bytes r.elems + items code_bytes (map code_of r.funcs)
    + items data_bytes r.datas + part (map CustomSection r.customs)
encoding_upper r alone still =
    let imports = ap (λ l. part (unless_empty ImportSection l)) alone in
    let start = ap (λ o. part (map StartSection (option_to_list o))) still in
    omega (
      arith,
      encoding_parts r,
      imports,
      start,
      no_part,
      part_most TypeSection func_type_bytes vectors.types r.types,
      part_most FunctionSection u32_bytes vectors.functions (map (λ func. func.ty) r.funcs),
      part_most TableSection table_type_bytes vectors.tables r.tables,
      part_most MemorySection limits_bytes vectors.memories r.memories,
      part_most GlobalSection global_bytes vectors.globals r.globals,
      part_most ExportSection export_bytes vectors.exports r.exports,
      part_most ElementSection elem_bytes vectors.elems r.elems,
      part_most CodeSection code_bytes vectors.codes (map code_of r.funcs),
      part_most DataSection data_bytes vectors.datas r.datas,
    )

layout_part : (m : Module) → part (map CustomSection (layout_section m ∷ [])) ≤ 30
layout_part m = omega (
  arith,
  part_is (CustomSection (layout_section m) ∷ []),
  items_cons section_bytes (CustomSection (layout_section m)) [],
  items_nil section_bytes,
  section_most (CustomSection (layout_section m)),
  layout_most m,
)

-- ---- functions and globals

-- generated functions around those of the original, and the declaration of the functions to which they refer
funcs_whole : (bodies own helpers : List Func) (declared : List ℕ) → total_marks own ≡ 0
    → length declared ≤ length (referred_funcs (bodies ++ (own ++ helpers)))
    → items u32_bytes (map (λ func. func.ty) (bodies ++ (own ++ helpers)))
    + items code_bytes (map code_of (bodies ++ (own ++ helpers))) + 5 * length declared
    ≤ funcs_cost bodies + funcs_cost helpers + items u32_bytes (map (λ func. func.ty) own)
    + items code_bytes (map code_of own)
funcs_whole bodies own helpers declared none few = omega (
  arith,
  funcs_parts (bodies ++ (own ++ helpers)),
  total_marks_are (bodies ++ (own ++ helpers)),
  funcs_append bodies (own ++ helpers),
  funcs_append own helpers,
  funcs_parts own,
)

-- the generated functions of a tape
generated_most : (m : Module) (tape : Tape) → IsValid m
    → funcs_cost (import_bodies m (plan_of (imported_funcs m) tape))
    + funcs_cost (helper_funcs m (plan_of (imported_funcs m) tape))
    ≤ 13 + 77 * imported_funcs m + 96 * tape_weight tape
generated_most m tape valid =
    let plan = plan_of (imported_funcs m) tape in
    omega (
      arith,
      funcs_most m valid.outside.types (length (all_globals m)) (start_index m + 1) (import_types m) plan.imports,
      start_most m valid.outside.types plan.begin,
      plan_cost 80 segment_cost (imported_funcs m) tape,
      (segments_weigh tape.segments).cost,
    )

globals_whole : (m : Module) (supply : Supply)
    → items global_bytes (map supplied_global (zip (imported_globals m) supply.globals)
    ++ (map (constant_global supply.globals) m.globals ++ replicate (imported_funcs m) counter))
    ≤ items global_bytes m.globals + 14 * length (all_globals m) + 14 * imported_funcs m
globals_whole m supply =
    let imported = map supplied_global (zip (imported_globals m) supply.globals) in
    let defined = map (constant_global supply.globals) m.globals in
    omega (
      arith,
      items_append global_bytes imported (defined ++ replicate (imported_funcs m) counter),
      items_append global_bytes defined (replicate (imported_funcs m) counter),
      supplied_most (imported_globals m) supply.globals,
      globals_most supply.globals m.globals,
      counters_most (imported_funcs m),
      globals_are_all m,
    )

-- ---- the whole module

pub replay_most : (m : Module) (supply : Supply) (tape : Tape) → IsValid m → IsCoreModule m
    → length (encoding_of (replay_module m supply (fragment_of m (plan_of (imported_funcs m) tape))))
    ≤ max_bytes m (tape_weight tape)
replay_most m supply tape valid core =
    let plan = plan_of (imported_funcs m) tape in
    let bodies = import_bodies m plan in
    let helpers = helper_funcs m plan in
    let funcs = bodies ++ (m.funcs ++ helpers) in
    let declared = referred_once (start_index m) funcs in
    let globals =
    map supplied_global (zip (imported_globals m) supply.globals)
    ++ (map (constant_global supply.globals) m.globals ++ replicate (imported_funcs m) counter) in
    let tables = option_to_list (table_limits m supply) in
    let memories = option_to_list (option_map memory_written (memory_limits m supply)) in
    let elems = map (constant_elem supply.globals) m.elems in
    let upper
    : length (encoding_of (replay_module m supply (fragment_of m plan)))
    ≤ 107 + items func_type_bytes (m.types ++ appended_types) + items u32_bytes (map (λ func. func.ty) funcs)
    + items table_type_bytes tables + items limits_bytes memories + items global_bytes globals
    + items export_bytes (record { name = codes "_start"; kind = FuncExport (start_index m) } ∷ [])
    + items elem_bytes (elems ++ declaration declared) + items code_bytes (map code_of funcs)
    + items data_bytes (map (constant_data supply.globals) m.datas)
    + part (map CustomSection (layout_section m ∷ [])) =
    encoding_upper (replay_module m supply (fragment_of m plan)) refl refl in
    let lower
    : 8 + items func_type_bytes m.types + items import_bytes m.imports
    + items u32_bytes (map (λ func. func.ty) m.funcs) + items global_bytes m.globals + items elem_bytes m.elems
    + items code_bytes (map code_of m.funcs) + items data_bytes m.datas
    ≤ length (encoding_of (record m { customs = [] })) =
    encoding_least (record m { customs = [] }) in
    let types = items_append func_type_bytes m.types appended_types in
    let functions =
    funcs_whole bodies m.funcs helpers declared (no_marks m.funcs core.funcs) (once_most (start_index m) funcs) in
    let generated = generated_most m tape valid in
    let kinds = imported_most m.imports in
    let segments = items_append elem_bytes elems (declaration declared) in
    omega (
      arith,
      upper,
      lower,
      types,
      appended_length,
      functions,
      generated,
      kinds,
      tables_most (table_limits m supply),
      memories_most (option_map memory_written (memory_limits m supply)),
      globals_whole m supply,
      export_most (start_index m),
      segments,
      elems_most supply.globals m.elems,
      declaration_most declared,
      datas_most supply.globals m.datas,
      layout_part m,
    )
