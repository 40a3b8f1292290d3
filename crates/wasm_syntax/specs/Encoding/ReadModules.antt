-- Reading sections and modules, and the place at which that ends: the plain program of the encoding and of the place
-- of a fault (Core 1.0, 5.5).
use Rattle.std.specs.Prelude.{ℕ, zero, suc, ◌-◌, List, [], ◌∷◌, length, flat_map, Option, Some, None, option_map, option_and_then, cond, nat_lt}
use Rattle.leb_bytes.specs.Unsigned.{first_u32}
use Rattle.base.specs.declared.marks.TheConstants.{SECTION_CUSTOM, SECTION_TYPE, SECTION_IMPORT, SECTION_FUNCTION, SECTION_TABLE, SECTION_MEMORY, SECTION_GLOBAL, SECTION_EXPORT, SECTION_START, SECTION_ELEMENT, SECTION_CODE, SECTION_DATA}
use Rattle.wasm_syntax.specs.Encoding.Sections.{Code, Section, CustomSection, TypeSection, ImportSection, FunctionSection, TableSection, MemorySection, GlobalSection, ExportSection, StartSection, ElementSection, CodeSection, DataSection, id_of}
use Rattle.wasm_syntax.specs.Encoding.Modules.{preamble, types_in, imports_in, functions_in, tables_in, memories_in, globals_in, exports_in, starts_in, elems_in, codes_in, datas_in, customs_in}
use Rattle.wasm_syntax.specs.Encoding.Combinators.{Reader, map_read, first_exactly, by_mark, Rows, row_at, first_vector, whole, first_sized}
use Rattle.wasm_syntax.specs.Encoding.Readers.{first_name, first_indices, first_func_type, first_limits, first_table_type, first_import, first_global, first_export, first_elem, first_data, first_code}
use Rattle.wasm_syntax.specs.declared.forms.Form.{Form}
use Rattle.wasm_syntax.specs.declared.modules.Func.{Func}
use Rattle.wasm_syntax.specs.declared.modules.Custom.{Custom}
use Rattle.wasm_syntax.specs.declared.modules.Module.{Module}

-- a custom section, of all of the bytes
abbrev pub custom_of : List ℕ → Option Custom
custom_of bytes = option_map (λ name. record { name = name.0; bytes = name.1 }) (first_name bytes)

-- for each id, what a section holds
abbrev pub section_rows : Form → Rows Section
section_rows form =
    (SECTION_CUSTOM, map_read CustomSection (first_sized custom_of))
    ∷ (SECTION_TYPE, map_read TypeSection (first_sized (whole (first_vector first_func_type))))
    ∷ (SECTION_IMPORT, map_read ImportSection (first_sized (whole (first_vector first_import))))
    ∷ (SECTION_FUNCTION, map_read FunctionSection (first_sized (whole first_indices)))
    ∷ (SECTION_TABLE, map_read TableSection (first_sized (whole (first_vector first_table_type))))
    ∷ (SECTION_MEMORY, map_read MemorySection (first_sized (whole (first_vector first_limits))))
    ∷ (SECTION_GLOBAL, map_read GlobalSection (first_sized (whole (first_vector (first_global form)))))
    ∷ (SECTION_EXPORT, map_read ExportSection (first_sized (whole (first_vector first_export))))
    ∷ (SECTION_START, map_read StartSection (first_sized (whole first_u32)))
    ∷ (SECTION_ELEMENT, map_read ElementSection (first_sized (whole (first_vector (first_elem form)))))
    ∷ (SECTION_CODE, map_read CodeSection (first_sized (whole (first_vector (first_code form)))))
    ∷ (SECTION_DATA, map_read DataSection (first_sized (whole (first_vector (first_data form)))))
    ∷ []

unfoldable pub first_section : Form → Reader Section
first_section form bytes = by_mark (row_at (section_rows form)) bytes

-- the last id after a section, if the section may follow one of another id
abbrev pub last_after : ℕ → Section → Option ℕ
last_after last (CustomSection custom) = Some last
last_after last section = cond (nat_lt last (id_of section)) (Some (id_of section)) None

-- the next section, the last id after it, and the bytes after it
abbrev pub with_last : ℕ → Section × List ℕ → Option (Section × ℕ × List ℕ)
with_last last first = option_map (λ id. (first.0, id, first.1)) (last_after last first.0)

unfoldable pub next_section : Form → ℕ → List ℕ → Option (Section × ℕ × List ℕ)
next_section form last bytes = option_and_then (with_last last) (first_section form bytes)

-- the sections and the bytes that are left, after one more section at the front
abbrev pub with_section : Section → List Section × List ℕ → List Section × List ℕ
with_section first others = (first ∷ others.0, others.1)

unfoldable pub lawful_sections : Form → ℕ → ℕ → List ℕ → List Section × List ℕ
lawful_sections form zero last bytes = ([], bytes)
lawful_sections form (suc most) last bytes =
    elim (next_section form last bytes) [
      | None ↦ ([], bytes)
      | Some next ↦ with_section next.0 (lawful_sections form most next.1 next.2)
    ]

-- the sections after the preamble, and what is left
unfoldable pub read_sections : Form → List ℕ → Option (List Section × List ℕ)
read_sections form bytes =
    option_map (λ start. lawful_sections form (length bytes) 0 start.1) (first_exactly preamble bytes)

-- functions made of their types and the rest of them, if there are as many of both
abbrev pub funcs_of : List ℕ → List Code → Option (List Func)
funcs_of [] [] = Some []
funcs_of (ty ∷ types) (code ∷ codes) =
    option_map (λ funcs. record { ty = ty; locals = code.locals; body = code.body } ∷ funcs) (funcs_of types codes)
funcs_of types codes = None

abbrev pub first_of : List ℕ → Option ℕ
first_of [] = None
first_of (n ∷ others) = Some n

abbrev pub module_with : List Section → List Func → Module
module_with sections funcs = record {
  types = flat_map types_in sections;
  imports = flat_map imports_in sections;
  funcs = funcs;
  tables = flat_map tables_in sections;
  memories = flat_map memories_in sections;
  globals = flat_map globals_in sections;
  exports = flat_map exports_in sections;
  start = first_of (flat_map starts_in sections);
  elems = flat_map elems_in sections;
  datas = flat_map datas_in sections;
  customs = flat_map customs_in sections;
}

abbrev pub module_of : List Section → Option Module
module_of sections =
    option_map (module_with sections) (funcs_of (flat_map functions_in sections) (flat_map codes_in sections))

-- the module of sections that are all of the bytes
abbrev pub whole_module : List Section → List ℕ → Option Module
whole_module sections [] = module_of sections
whole_module sections (b ∷ rest) = None

-- the module that the bytes encode
unfoldable pub read_module : Form → List ℕ → Option Module
read_module form bytes = option_and_then (λ read. whole_module read.0 read.1) (read_sections form bytes)

-- the place of the fault of bytes that encode no module
abbrev pub place_after : ℕ → Option (List Section × List ℕ) → ℕ
place_after all None = 0
place_after all (Some read) = all - length read.1

unfoldable pub fault_place : Form → List ℕ → ℕ
fault_place form bytes = place_after (length bytes) (read_sections form bytes)
