-- The shortest encodings of sections, and what the sections of one kind hold.
use Rattle.std.proofs.Common.{◌≡◌, ℕ, ◌<◌, ◌≤◌, ◌^◌, ◌⊎◌, List, [], ◌∷◌, length, map, refl, ap, inl, inr, arith}
use Rattle.std.specs.Prelude.{IsUtf8}
use Rattle.std.specs.List.{AllByRecursion}
use Rattle.std.proofs.lemmas.List.{length-append}
use Rattle.leb_bytes.specs.Unsigned.{EncodesU32, u32_bytes}
use Rattle.wasm_syntax.specs.declared.forms.Form.{Form}
use Rattle.wasm_syntax.specs.Encoding.Types.{EncodesFuncType, EncodesLimits, EncodesTableType}
use Rattle.wasm_syntax.specs.Encoding.Sections.{EncodesImport, EncodesGlobal, EncodesExport, EncodesElemSeg, EncodesCode, EncodesDataSeg, Section, CustomSection, TypeSection, ImportSection, FunctionSection, TableSection, MemorySection, GlobalSection, ExportSection, StartSection, ElementSection, CodeSection, DataSection, id_of, EncodesContent, EncodesSection}
use Rattle.wasm_syntax.specs.Encoding.Modules.{types_in, imports_in, functions_in, tables_in, memories_in, globals_in, exports_in, starts_in, elems_in, codes_in, datas_in}
use Rattle.wasm_syntax.specs.Encoding.Encodable.{FitsU32, FitsFuncType, FitsLimits, FitsImport, FitsGlobal, FitsExport, FitsElemSeg, FitsDataSeg}
use Rattle.wasm_syntax.specs.Encoding.Shortest.{sized_bytes, func_type_bytes, limits_bytes, table_type_bytes, import_bytes, global_bytes, export_bytes, elem_bytes, data_bytes, code_bytes, content_bytes, section_bytes, unless_empty}
use Rattle.wasm_syntax.proofs.Encoding.Numbers.{NumberLaws}
use Rattle.wasm_syntax.proofs.Encoding.Writing.{IsBest, u32_best, vector_best, u32_some, u32_rise}
use Rattle.wasm_syntax.proofs.Encoding.BestTypes.{func_type_best, limits_best, table_type_best}
use Rattle.wasm_syntax.proofs.Encoding.NotEmpty.{func_type_bytes_some, import_bytes_some, table_type_bytes_some, limits_bytes_some, global_bytes_some, export_bytes_some, elem_bytes_some, code_bytes_some, data_bytes_some}
use Rattle.wasm_syntax.proofs.Encoding.BestItems.{FitsCode, code_best, import_best, global_best, export_best, elem_best, data_best, custom_best}

-- ---- sections

module _ (laws : NumberLaws) (form : Form) where
  abbrev pub FitsContent : Section → Type 0
  FitsContent (CustomSection custom) = IsUtf8 custom.name
  FitsContent (TypeSection held) = AllByRecursion FitsFuncType held
  FitsContent (ImportSection held) = AllByRecursion FitsImport held
  FitsContent (FunctionSection held) = AllByRecursion FitsU32 held
  FitsContent (TableSection held) = AllByRecursion FitsLimits held
  FitsContent (MemorySection held) = AllByRecursion FitsLimits held
  FitsContent (GlobalSection held) = AllByRecursion (FitsGlobal form) held
  FitsContent (ExportSection held) = AllByRecursion FitsExport held
  FitsContent (StartSection func) = FitsU32 func
  FitsContent (ElementSection held) = AllByRecursion (FitsElemSeg form) held
  FitsContent (CodeSection held) = AllByRecursion (FitsCode laws form) held
  FitsContent (DataSection held) = AllByRecursion (FitsDataSeg form) held

  pub content_best : (section : Section)
      → IsBest (λ bytes. EncodesContent form bytes section) (FitsContent section) (content_bytes section)
  unfolding content_bytes
  content_best (CustomSection custom) = custom_best laws custom
  content_best (TypeSection held) = vector_best laws EncodesFuncType FitsFuncType func_type_bytes func_type_bytes_some (func_type_best laws) held
  content_best (ImportSection held) = vector_best laws EncodesImport FitsImport import_bytes import_bytes_some (import_best laws) held
  content_best (FunctionSection held) = vector_best laws EncodesU32 FitsU32 u32_bytes u32_some (u32_best laws) held
  content_best (TableSection held) = vector_best laws EncodesTableType FitsLimits table_type_bytes table_type_bytes_some (table_type_best laws) held
  content_best (MemorySection held) = vector_best laws EncodesLimits FitsLimits limits_bytes limits_bytes_some (limits_best laws) held
  content_best (GlobalSection held) = vector_best laws (EncodesGlobal form) (FitsGlobal form) global_bytes global_bytes_some (global_best laws form) held
  content_best (ExportSection held) = vector_best laws EncodesExport FitsExport export_bytes export_bytes_some (export_best laws) held
  content_best (StartSection func) = u32_best laws func
  content_best (ElementSection held) = vector_best laws (EncodesElemSeg form) (FitsElemSeg form) elem_bytes elem_bytes_some (elem_best laws form) held
  content_best (CodeSection held) = vector_best laws (EncodesCode form) (FitsCode laws form) code_bytes code_bytes_some (code_best laws form) held
  content_best (DataSection held) = vector_best laws (EncodesDataSeg form) (FitsDataSeg form) data_bytes data_bytes_some (data_best laws form) held

  -- what fits, in a section that isn't too large
  abbrev pub Fits : Section → Type 0
  Fits section = FitsContent section × (length (content_bytes section) < 2 ^ 32)

  pub section_encodes : (section : Section) → Fits section → EncodesSection form (section_bytes section) section
  unfolding section_bytes
  section_encodes section fits =
      let size = u32_bytes (length (content_bytes section)) in (
        sized_bytes (content_bytes section),
        refl,
        (
          size,
          content_bytes section,
          refl,
          laws.u32_shortest.encodes (length (content_bytes section)) fits.1,
          (content_best section).encodes fits.0 fits.1,
        ),
      )

  pub section_fits : (bytes : List ℕ) (section : Section) → EncodesSection form bytes section → Fits section
  section_fits bytes section h =
      let size = h.2 in
      let few = (laws.u32_range size.0 (length size.1) size.3).0 in
      let least = (content_best section).least size.1 size.4 in
      ((content_best section).fits size.1 size.4, omega (arith, few, least))

  pub section_least : (bytes : List ℕ) (section : Section) → EncodesSection form bytes section
      → length (section_bytes section) ≤ length bytes
  unfolding section_bytes
  section_least bytes section h =
      let size = h.2 in
      let least = (content_best section).least size.1 size.4 in
      omega (
        arith,
        ap length h.1,
        ap length size.2,
        length-append size.0 size.1,
        length-append (u32_bytes (length (content_bytes section))) (content_bytes section),
        least,
        laws.u32_shortest.least size.0 (length size.1) size.3,
        u32_rise (length (content_bytes section)) (length size.1) least,
      )

-- ---- the sections of one kind

-- `part` is what sections of the id hold, and `build` makes their section of it, if there is anything
pub record IsPart {A : Type 0} (id : ℕ) (build : List A → List Section) (part : Section → List A) : Type 0 where
  pub positive : 0 < id
  pub none : build [] ≡ []
  pub mine : (section : Section) → id_of section ≡ id
      → (build (part section) ≡ []) ⊎ (build (part section) ≡ section ∷ [])
  pub other : (section : Section) → (id_of section ≡ id → ⊥) → part section ≡ []

types_mine : (section : Section) → id_of section ≡ 1
    → (unless_empty TypeSection (types_in section) ≡ []) ⊎ (unless_empty TypeSection (types_in section) ≡ section ∷ [])
types_mine (TypeSection []) e = inl refl
types_mine (TypeSection (x ∷ xs)) e = inr refl
types_mine section e = absurd (omega arith)

types_other : (section : Section) → (id_of section ≡ 1 → ⊥) → types_in section ≡ []
types_other (TypeSection held) h = absurd (h refl)
types_other section h = refl

pub types_part : IsPart 1 (unless_empty TypeSection) types_in
types_part = record { positive = omega arith; none = refl; mine = types_mine; other = types_other }

imports_mine : (section : Section) → id_of section ≡ 2
    → (unless_empty ImportSection (imports_in section) ≡ []) ⊎ (unless_empty ImportSection (imports_in section) ≡ section ∷ [])
imports_mine (ImportSection []) e = inl refl
imports_mine (ImportSection (x ∷ xs)) e = inr refl
imports_mine section e = absurd (omega arith)

imports_other : (section : Section) → (id_of section ≡ 2 → ⊥) → imports_in section ≡ []
imports_other (ImportSection held) h = absurd (h refl)
imports_other section h = refl

pub imports_part : IsPart 2 (unless_empty ImportSection) imports_in
imports_part = record { positive = omega arith; none = refl; mine = imports_mine; other = imports_other }

functions_mine : (section : Section) → id_of section ≡ 3
    → (unless_empty FunctionSection (functions_in section) ≡ []) ⊎ (unless_empty FunctionSection (functions_in section) ≡ section ∷ [])
functions_mine (FunctionSection []) e = inl refl
functions_mine (FunctionSection (x ∷ xs)) e = inr refl
functions_mine section e = absurd (omega arith)

functions_other : (section : Section) → (id_of section ≡ 3 → ⊥) → functions_in section ≡ []
functions_other (FunctionSection held) h = absurd (h refl)
functions_other section h = refl

pub functions_part : IsPart 3 (unless_empty FunctionSection) functions_in
functions_part = record { positive = omega arith; none = refl; mine = functions_mine; other = functions_other }

tables_mine : (section : Section) → id_of section ≡ 4
    → (unless_empty TableSection (tables_in section) ≡ []) ⊎ (unless_empty TableSection (tables_in section) ≡ section ∷ [])
tables_mine (TableSection []) e = inl refl
tables_mine (TableSection (x ∷ xs)) e = inr refl
tables_mine section e = absurd (omega arith)

tables_other : (section : Section) → (id_of section ≡ 4 → ⊥) → tables_in section ≡ []
tables_other (TableSection held) h = absurd (h refl)
tables_other section h = refl

pub tables_part : IsPart 4 (unless_empty TableSection) tables_in
tables_part = record { positive = omega arith; none = refl; mine = tables_mine; other = tables_other }

memories_mine : (section : Section) → id_of section ≡ 5
    → (unless_empty MemorySection (memories_in section) ≡ []) ⊎ (unless_empty MemorySection (memories_in section) ≡ section ∷ [])
memories_mine (MemorySection []) e = inl refl
memories_mine (MemorySection (x ∷ xs)) e = inr refl
memories_mine section e = absurd (omega arith)

memories_other : (section : Section) → (id_of section ≡ 5 → ⊥) → memories_in section ≡ []
memories_other (MemorySection held) h = absurd (h refl)
memories_other section h = refl

pub memories_part : IsPart 5 (unless_empty MemorySection) memories_in
memories_part = record { positive = omega arith; none = refl; mine = memories_mine; other = memories_other }

globals_mine : (section : Section) → id_of section ≡ 6
    → (unless_empty GlobalSection (globals_in section) ≡ []) ⊎ (unless_empty GlobalSection (globals_in section) ≡ section ∷ [])
globals_mine (GlobalSection []) e = inl refl
globals_mine (GlobalSection (x ∷ xs)) e = inr refl
globals_mine section e = absurd (omega arith)

globals_other : (section : Section) → (id_of section ≡ 6 → ⊥) → globals_in section ≡ []
globals_other (GlobalSection held) h = absurd (h refl)
globals_other section h = refl

pub globals_part : IsPart 6 (unless_empty GlobalSection) globals_in
globals_part = record { positive = omega arith; none = refl; mine = globals_mine; other = globals_other }

exports_mine : (section : Section) → id_of section ≡ 7
    → (unless_empty ExportSection (exports_in section) ≡ []) ⊎ (unless_empty ExportSection (exports_in section) ≡ section ∷ [])
exports_mine (ExportSection []) e = inl refl
exports_mine (ExportSection (x ∷ xs)) e = inr refl
exports_mine section e = absurd (omega arith)

exports_other : (section : Section) → (id_of section ≡ 7 → ⊥) → exports_in section ≡ []
exports_other (ExportSection held) h = absurd (h refl)
exports_other section h = refl

pub exports_part : IsPart 7 (unless_empty ExportSection) exports_in
exports_part = record { positive = omega arith; none = refl; mine = exports_mine; other = exports_other }

starts_mine : (section : Section) → id_of section ≡ 8
    → (map StartSection (starts_in section) ≡ []) ⊎ (map StartSection (starts_in section) ≡ section ∷ [])
starts_mine (StartSection func) e = inr refl
starts_mine section e = absurd (omega arith)

starts_other : (section : Section) → (id_of section ≡ 8 → ⊥) → starts_in section ≡ []
starts_other (StartSection held) h = absurd (h refl)
starts_other section h = refl

pub starts_part : IsPart 8 (map StartSection) starts_in
starts_part = record { positive = omega arith; none = refl; mine = starts_mine; other = starts_other }

elems_mine : (section : Section) → id_of section ≡ 9
    → (unless_empty ElementSection (elems_in section) ≡ []) ⊎ (unless_empty ElementSection (elems_in section) ≡ section ∷ [])
elems_mine (ElementSection []) e = inl refl
elems_mine (ElementSection (x ∷ xs)) e = inr refl
elems_mine section e = absurd (omega arith)

elems_other : (section : Section) → (id_of section ≡ 9 → ⊥) → elems_in section ≡ []
elems_other (ElementSection held) h = absurd (h refl)
elems_other section h = refl

pub elems_part : IsPart 9 (unless_empty ElementSection) elems_in
elems_part = record { positive = omega arith; none = refl; mine = elems_mine; other = elems_other }

codes_mine : (section : Section) → id_of section ≡ 10
    → (unless_empty CodeSection (codes_in section) ≡ []) ⊎ (unless_empty CodeSection (codes_in section) ≡ section ∷ [])
codes_mine (CodeSection []) e = inl refl
codes_mine (CodeSection (x ∷ xs)) e = inr refl
codes_mine section e = absurd (omega arith)

codes_other : (section : Section) → (id_of section ≡ 10 → ⊥) → codes_in section ≡ []
codes_other (CodeSection held) h = absurd (h refl)
codes_other section h = refl

pub codes_part : IsPart 10 (unless_empty CodeSection) codes_in
codes_part = record { positive = omega arith; none = refl; mine = codes_mine; other = codes_other }

datas_mine : (section : Section) → id_of section ≡ 11
    → (unless_empty DataSection (datas_in section) ≡ []) ⊎ (unless_empty DataSection (datas_in section) ≡ section ∷ [])
datas_mine (DataSection []) e = inl refl
datas_mine (DataSection (x ∷ xs)) e = inr refl
datas_mine section e = absurd (omega arith)

datas_other : (section : Section) → (id_of section ≡ 11 → ⊥) → datas_in section ≡ []
datas_other (DataSection held) h = absurd (h refl)
datas_other section h = refl

pub datas_part : IsPart 11 (unless_empty DataSection) datas_in
datas_part = record { positive = omega arith; none = refl; mine = datas_mine; other = datas_other }
