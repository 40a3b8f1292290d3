use Rattle.std.specs.Prelude.{flat_map}
use Rattle.base.specs.declared.marks.TheConstants.{SECTION_GLOBAL, SECTION_EXPORT, SECTION_ELEMENT, SECTION_CODE, SECTION_DATA}
use Rattle.wasm_encode.specs.Vectors.{vector_section}
use Rattle.wasm_encode.proofs.ModuleLemmas.{definitions_appended, of_equal}
use Rattle.wasm_syntax.specs.Encoding.Modules.{code_of}
use Rattle.wasm_syntax.specs.Encoding.Sections.{CustomSection}
use Rattle.wasm_syntax.specs.Encoding.Shortest.{code_bytes, data_bytes, elem_bytes, export_bytes, global_bytes, section_bytes}
use Rattle.wasm_encode.proofs.modules.write_definitions.Goals as goal

pub returns : goal.returns
returns c =
    definitions_appended c.args.module.now c.args.out.now.items _ _ _ _ _ _ _
    (of_equal (vector_section SECTION_GLOBAL global_bytes) _ _ _ _ c.as_slice.ensures c.in_ok-write_section.ensures)
    (of_equal (vector_section SECTION_EXPORT export_bytes) _ _ _ _ c.as_slice-2.ensures c.in_ok-write_section-2.ensures)
    c.in_ok-write_start.ensures
    (of_equal (vector_section SECTION_ELEMENT elem_bytes) _ _ _ _ c.as_slice-3.ensures c.in_ok-write_section-3.ensures)
    (of_equal (vector_section SECTION_CODE (λ func. code_bytes (code_of func))) _ _ _ _ c.as_slice-4.ensures
    c.in_ok-write_section-4.ensures)
    (of_equal (vector_section SECTION_DATA data_bytes) _ _ _ _ c.as_slice-5.ensures c.in_ok-write_section-5.ensures)
    (of_equal (flat_map (λ custom. section_bytes (CustomSection custom))) _ _ _ _ c.as_slice-6.ensures
    c.in_ok-write_items.ensures)
