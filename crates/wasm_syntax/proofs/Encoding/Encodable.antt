-- What has an encoding, counts and sizes apart.
use Rattle.std.proofs.Common.{ℕ, ◌<◌, ◌≤◌, ◌^◌, List, [], ◌∷◌, length, map, Option, Some, None, sym, subst, arith}
use Rattle.std.specs.Prelude.{IsUtf8, IfSome, flat_map, option_to_list}
use Rattle.std.specs.List.{AllByRecursion}
use Rattle.std.proofs.lemmas.List.{length-append}
use Rattle.leb_bytes.specs.Unsigned.{u32_bytes}
use Rattle.wasm_syntax.specs.declared.forms.Form.{Form}
use Rattle.wasm_syntax.specs.declared.signatures.FuncType.{FuncType}
use Rattle.wasm_syntax.specs.declared.signatures.Limits.{Limits}
use Rattle.wasm_syntax.specs.declared.modules.Import.{Import}
use Rattle.wasm_syntax.specs.declared.modules.Export.{Export}
use Rattle.wasm_syntax.specs.declared.modules.Func.{Func}
use Rattle.wasm_syntax.specs.declared.modules.Global.{Global}
use Rattle.wasm_syntax.specs.declared.modules.ElemSeg.{ElemSeg}
use Rattle.wasm_syntax.specs.declared.modules.DataSeg.{DataSeg}
use Rattle.wasm_syntax.specs.declared.modules.Custom.{Custom}
use Rattle.wasm_syntax.specs.declared.modules.Module.{Module}
use Rattle.wasm_syntax.specs.Encoding.Sections.{Code, Section, CustomSection, TypeSection, ImportSection, FunctionSection, TableSection, MemorySection, GlobalSection, ExportSection, StartSection, ElementSection, CodeSection, DataSection}
use Rattle.wasm_syntax.specs.Encoding.Modules.{preamble, types_in, imports_in, functions_in, tables_in, memories_in, globals_in, exports_in, starts_in, elems_in, codes_in, datas_in, customs_in, code_of, Encodes}
use Rattle.wasm_syntax.specs.Encoding.Encodable.{FitsU32, FitsFuncType, FitsLimits, FitsImport, FitsFunc, FitsGlobal, FitsExport, FitsElemSeg, FitsDataSeg, IsEncodable}
use Rattle.wasm_syntax.specs.Encoding.Shortest.{content_bytes, section_bytes, unless_empty, sections_of, encoding_of}
use Rattle.wasm_syntax.proofs.Encoding.Numbers.{NumberLaws}
use Rattle.wasm_syntax.proofs.Encoding.BestItems.{FitsCode}
use Rattle.wasm_syntax.proofs.Encoding.BestSections.{FitsContent, Fits}
use Rattle.wasm_syntax.proofs.Encoding.BestModules.{all_append, each_fits, fitting_encodes}

-- a section is longer than its content
pub content_le : (section : Section) → length (content_bytes section) ≤ length (section_bytes section)
unfolding section_bytes
content_le section = omega (arith, length-append (u32_bytes (length (content_bytes section))) (content_bytes section))

all_flat : {A : Type 0} (Q : Section → Type 0) (P : A → Type 0) (part : Section → List A)
    → ((section : Section) → Q section → AllByRecursion P (part section))
    → (sections : List Section) → AllByRecursion Q sections → AllByRecursion P (flat_map part sections)
all_flat Q P part each [] all = tt
all_flat Q P part each (section ∷ rest) all =
    all_append P (part section) (flat_map part rest) (each section all.0) (all_flat Q P part each rest all.1)

module _ (laws : NumberLaws) (form : Form) where
  -- ---- from the module to its sections

  list_fits : {A : Type 0} (P : A → Type 0) (make : List A → Section)
      → ((xs : List A) → AllByRecursion P xs → FitsContent laws form (make xs))
      → (xs : List A) → AllByRecursion P xs → AllByRecursion (FitsContent laws form) (unless_empty make xs)
  list_fits P make into [] all = tt
  list_fits P make into (x ∷ xs) all = (into (x ∷ xs) all, tt)

  start_fits : (start : Option ℕ) → IfSome start FitsU32
      → AllByRecursion (FitsContent laws form) (map StartSection (option_to_list start))
  start_fits None h = tt
  start_fits (Some n) h = (h, tt)

  customs_fit : (customs : List Custom) → AllByRecursion (λ custom. IsUtf8 custom.name) customs
      → AllByRecursion (FitsContent laws form) (map CustomSection customs)
  customs_fit [] all = tt
  customs_fit (custom ∷ customs) all = (all.0, customs_fit customs all.1)

  types_of_funcs : (funcs : List Func) → AllByRecursion (FitsFunc form) funcs
      → AllByRecursion FitsU32 (map (λ func. func.ty) funcs)
  types_of_funcs [] all = tt
  types_of_funcs (func ∷ funcs) all = (all.0.0, types_of_funcs funcs all.1)

  codes_of_funcs : (funcs : List Func) → AllByRecursion (FitsFunc form) funcs
      → AllByRecursion (FitsCode laws form) (map code_of funcs)
  codes_of_funcs [] all = tt
  codes_of_funcs (func ∷ funcs) all = ((all.0.1, all.0.2), codes_of_funcs funcs all.1)

  contents_fit : (m : Module) → IsEncodable form m → AllByRecursion (FitsContent laws form) (sections_of m)
  unfolding sections_of
  contents_fit m h =
      all_append (FitsContent laws form) _ _ (list_fits FitsFuncType TypeSection (λ xs all. all) m.types h.types) (
      all_append (FitsContent laws form) _ _ (list_fits FitsImport ImportSection (λ xs all. all) m.imports h.imports) (
      all_append (FitsContent laws form) _ _ (list_fits FitsU32 FunctionSection (λ xs all. all)
      (map (λ func. func.ty) m.funcs) (types_of_funcs m.funcs h.funcs)) (
      all_append (FitsContent laws form) _ _ (list_fits FitsLimits TableSection (λ xs all. all) m.tables h.tables) (
      all_append (FitsContent laws form) _ _ (list_fits FitsLimits MemorySection (λ xs all. all) m.memories h.memories) (
      all_append (FitsContent laws form) _ _ (list_fits (FitsGlobal form) GlobalSection (λ xs all. all) m.globals h.globals) (
      all_append (FitsContent laws form) _ _ (list_fits FitsExport ExportSection (λ xs all. all) m.exports h.exports) (
      all_append (FitsContent laws form) _ _ (start_fits m.start h.start) (
      all_append (FitsContent laws form) _ _ (list_fits (FitsElemSeg form) ElementSection (λ xs all. all) m.elems h.elems) (
      all_append (FitsContent laws form) _ _ (list_fits (FitsCode laws form) CodeSection (λ xs all. all)
      (map code_of m.funcs) (codes_of_funcs m.funcs h.funcs)) (
      all_append (FitsContent laws form) _ _ (list_fits (FitsDataSeg form) DataSection (λ xs all. all) m.datas h.datas) (
      customs_fit m.customs h.customs)))))))))))

  short_fit : (sections : List Section) → AllByRecursion (FitsContent laws form) sections
      → length (flat_map section_bytes sections) < 2 ^ 32 → AllByRecursion (Fits laws form) sections
  short_fit [] all few = tt
  short_fit (section ∷ rest) all few =
      let long = length-append (section_bytes section) (flat_map section_bytes rest) in
      ((all.0, omega (arith, content_le section)), short_fit rest all.1 (omega arith))

  pub encodable_encodes : (m : Module) → IsEncodable form m → length (encoding_of m) < 2 ^ 32
      → Encodes form (encoding_of m) m
  unfolding encoding_of
  encodable_encodes m h few =
      fitting_encodes laws form m (short_fit (sections_of m) (contents_fit m h)
      (omega (arith, length-append preamble (flat_map section_bytes (sections_of m)))))

  -- ---- from the sections to the module

  contents : (sections : List Section) → AllByRecursion (Fits laws form) sections
      → AllByRecursion (FitsContent laws form) sections
  contents [] all = tt
  contents (section ∷ rest) all = (all.0.0, contents rest all.1)

  types_fit : (section : Section) → FitsContent laws form section → AllByRecursion FitsFuncType (types_in section)
  types_fit (TypeSection held) h = h
  types_fit section h = tt

  imports_fit : (section : Section) → FitsContent laws form section → AllByRecursion FitsImport (imports_in section)
  imports_fit (ImportSection held) h = h
  imports_fit section h = tt

  functions_fit : (section : Section) → FitsContent laws form section → AllByRecursion FitsU32 (functions_in section)
  functions_fit (FunctionSection held) h = h
  functions_fit section h = tt

  tables_fit : (section : Section) → FitsContent laws form section → AllByRecursion FitsLimits (tables_in section)
  tables_fit (TableSection held) h = h
  tables_fit section h = tt

  memories_fit : (section : Section) → FitsContent laws form section → AllByRecursion FitsLimits (memories_in section)
  memories_fit (MemorySection held) h = h
  memories_fit section h = tt

  globals_fit : (section : Section) → FitsContent laws form section
      → AllByRecursion (FitsGlobal form) (globals_in section)
  globals_fit (GlobalSection held) h = h
  globals_fit section h = tt

  exports_fit : (section : Section) → FitsContent laws form section → AllByRecursion FitsExport (exports_in section)
  exports_fit (ExportSection held) h = h
  exports_fit section h = tt

  starts_fit : (section : Section) → FitsContent laws form section → AllByRecursion FitsU32 (starts_in section)
  starts_fit (StartSection held) h = (h, tt)
  starts_fit section h = tt

  elems_fit : (section : Section) → FitsContent laws form section → AllByRecursion (FitsElemSeg form) (elems_in section)
  elems_fit (ElementSection held) h = h
  elems_fit section h = tt

  codes_fit : (section : Section) → FitsContent laws form section
      → AllByRecursion (FitsCode laws form) (codes_in section)
  codes_fit (CodeSection held) h = h
  codes_fit section h = tt

  datas_fit : (section : Section) → FitsContent laws form section → AllByRecursion (FitsDataSeg form) (datas_in section)
  datas_fit (DataSection held) h = h
  datas_fit section h = tt

  custom_fits : (section : Section) → FitsContent laws form section
      → AllByRecursion (λ (c : Custom). IsUtf8 c.name) (customs_in section)
  custom_fits (CustomSection held) h = (h, tt)
  custom_fits section h = tt

  funcs_fit : (funcs : List Func) → AllByRecursion FitsU32 (map (λ func. func.ty) funcs)
      → AllByRecursion (FitsCode laws form) (map code_of funcs) → AllByRecursion (FitsFunc form) funcs
  funcs_fit [] types codes = tt
  funcs_fit (func ∷ funcs) types codes = ((types.0, codes.0.0, codes.0.1), funcs_fit funcs types.1 codes.1)

  some_fits : (start : Option ℕ) → AllByRecursion FitsU32 (option_to_list start) → IfSome start FitsU32
  some_fits None all = tt
  some_fits (Some n) all = all.0

  pub encodes_encodable : (bytes : List ℕ) (m : Module) → Encodes form bytes m → IsEncodable form m
  encodes_encodable bytes m h =
      let all = contents h.sections (each_fits laws form h.encoded.behind h.sections h.encoded.each) in
      let ss = h.sections in
      record {
        types =
            subst (λ (xs : List FuncType). AllByRecursion FitsFuncType xs) (sym h.hold.types)
            (all_flat (FitsContent laws form) FitsFuncType types_in types_fit ss all);
        imports =
            subst (λ (xs : List Import). AllByRecursion FitsImport xs) (sym h.hold.imports)
            (all_flat (FitsContent laws form) FitsImport imports_in imports_fit ss all);
        tables =
            subst (λ (xs : List Limits). AllByRecursion FitsLimits xs) (sym h.hold.tables)
            (all_flat (FitsContent laws form) FitsLimits tables_in tables_fit ss all);
        memories =
            subst (λ (xs : List Limits). AllByRecursion FitsLimits xs) (sym h.hold.memories)
            (all_flat (FitsContent laws form) FitsLimits memories_in memories_fit ss all);
        globals =
            subst (λ (xs : List Global). AllByRecursion (FitsGlobal form) xs) (sym h.hold.globals)
            (all_flat (FitsContent laws form) (FitsGlobal form) globals_in globals_fit ss all);
        exports =
            subst (λ (xs : List Export). AllByRecursion FitsExport xs) (sym h.hold.exports)
            (all_flat (FitsContent laws form) FitsExport exports_in exports_fit ss all);
        elems =
            subst (λ (xs : List ElemSeg). AllByRecursion (FitsElemSeg form) xs) (sym h.hold.elems)
            (all_flat (FitsContent laws form) (FitsElemSeg form) elems_in elems_fit ss all);
        datas =
            subst (λ (xs : List DataSeg). AllByRecursion (FitsDataSeg form) xs) (sym h.hold.datas)
            (all_flat (FitsContent laws form) (FitsDataSeg form) datas_in datas_fit ss all);
        customs =
            subst (λ (xs : List Custom). AllByRecursion (λ (c : Custom). IsUtf8 c.name) xs) (sym h.hold.customs)
            (all_flat (FitsContent laws form) (λ (c : Custom). IsUtf8 c.name) customs_in custom_fits ss all);
        funcs =
            funcs_fit m.funcs (subst (λ (xs : List ℕ). AllByRecursion FitsU32 xs) (sym h.hold.functions)
            (all_flat (FitsContent laws form) FitsU32 functions_in functions_fit ss all))
            (subst (λ (xs : List Code). AllByRecursion (FitsCode laws form) xs) (sym h.hold.codes)
            (all_flat (FitsContent laws form) (FitsCode laws form) codes_in codes_fit ss all));
        start =
            some_fits m.start (subst (λ (xs : List ℕ). AllByRecursion FitsU32 xs) (sym h.hold.start)
            (all_flat (FitsContent laws form) FitsU32 starts_in starts_fit ss all));
      }
