-- The two parts of a module's sections, between which the memory section ends.
use Rattle.std.specs.Prelude.{ℕ, List, ◌++◌, flat_map}
use Rattle.leb_bytes.specs.Unsigned.{u32_bytes}
use Rattle.base.specs.declared.marks.TheConstants.{SECTION_TYPE, SECTION_IMPORT, SECTION_FUNCTION, SECTION_TABLE, SECTION_MEMORY, SECTION_GLOBAL, SECTION_EXPORT, SECTION_ELEMENT, SECTION_CODE, SECTION_DATA}
use Rattle.wasm_encode.specs.Vectors.{start_section, vector_section}
use Rattle.wasm_syntax.specs.Encoding.Modules.{code_of}
use Rattle.wasm_syntax.specs.Encoding.Sections.{CustomSection}
use Rattle.wasm_syntax.specs.Encoding.Shortest.{code_bytes, data_bytes, elem_bytes, export_bytes, func_type_bytes, global_bytes, import_bytes, limits_bytes, section_bytes, table_type_bytes}
use Rattle.wasm_syntax.specs.declared.modules.Module.{Module}

-- the sections of types, imports, functions, tables and memories
unfoldable pub declarations_of : Module → List ℕ
declarations_of m =
    vector_section SECTION_TYPE func_type_bytes m.types
    ++ (vector_section SECTION_IMPORT import_bytes m.imports
    ++ (vector_section SECTION_FUNCTION (λ func. u32_bytes func.ty) m.funcs
    ++ (vector_section SECTION_TABLE table_type_bytes m.tables
    ++ vector_section SECTION_MEMORY limits_bytes m.memories)))

-- the sections of globals, exports, start, segments and code, and the custom sections
unfoldable pub definitions_of : Module → List ℕ
definitions_of m =
    vector_section SECTION_GLOBAL global_bytes m.globals
    ++ (vector_section SECTION_EXPORT export_bytes m.exports
    ++ (start_section m.start
    ++ (vector_section SECTION_ELEMENT elem_bytes m.elems
    ++ (vector_section SECTION_CODE (λ func. code_bytes (code_of func)) m.funcs
    ++ (vector_section SECTION_DATA data_bytes m.datas
    ++ flat_map (λ custom. section_bytes (CustomSection custom)) m.customs)))))
