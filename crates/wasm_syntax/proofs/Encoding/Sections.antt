-- What holds of the encodings of sections, and of their reader.
use Rattle.std.proofs.Common.{◌≡◌, ℕ, List, ◌++◌, Some, refl, ap, ◌∙◌, subst}
use Rattle.std.specs.Prelude.{option_map}
use Rattle.base.proofs.Options.{map_some}
use Rattle.leb_bytes.specs.Encoding.{IsReadBy}
use Rattle.leb_bytes.specs.Unsigned.{EncodesU32, first_u32}
use Rattle.wasm_syntax.specs.declared.forms.Form.{Form}
use Rattle.wasm_syntax.specs.Encoding.Grammar.{Grammar, Sized, VectorOf}
use Rattle.wasm_syntax.specs.Encoding.Types.{EncodesIndices, EncodesFuncType, EncodesLimits, EncodesTableType}
use Rattle.wasm_syntax.specs.Encoding.Sections.{EncodesCustom, EncodesImport, EncodesGlobal, EncodesExport, EncodesElemSeg, EncodesCode, EncodesDataSeg, Section, CustomSection, TypeSection, ImportSection, FunctionSection, TableSection, MemorySection, GlobalSection, ExportSection, StartSection, ElementSection, CodeSection, DataSection, EncodesSection}
use Rattle.wasm_syntax.specs.Encoding.Combinators.{Reader, by_mark, row_at, first_vector, whole, first_sized}
use Rattle.wasm_syntax.specs.Encoding.Readers.{first_name, first_indices, first_func_type, first_limits, first_table_type, first_import, first_global, first_export, first_elem, first_data, first_code}
use Rattle.wasm_syntax.specs.Encoding.ReadModules.{custom_of, section_rows, first_section}
use Rattle.wasm_syntax.proofs.Encoding.Tools.{by_mark_found, rows_well, read_finds, read_only}
use Rattle.wasm_syntax.proofs.Encoding.Lists.{IsReadWhole, whole_is, vector_is, sized_is}
use Rattle.wasm_syntax.proofs.Encoding.Numbers.{NumberLaws, name_is, indices_is}
use Rattle.wasm_syntax.proofs.Encoding.Types.{func_type_is, limits_is, table_type_is}
use Rattle.wasm_syntax.proofs.Encoding.Items.{import_is, global_is, export_is, elem_is, data_is, code_is}

module _ (laws : NumberLaws) where
  custom_is : IsReadWhole EncodesCustom custom_of
  custom_is = record {
    found = λ bytes c e.
        let m = map_some (λ (name : List ℕ × List ℕ). record { name = name.0; bytes = name.1 }) (first_name bytes) c e in
        let f = (name_is laws).found bytes m.0.1 m.0.0 m.1 in
        subst (λ x. EncodesCustom bytes x) m.2 (f.0, m.0.1, f.2, f.1, refl);
    only = λ bytes c h.
        ap custom_of h.2 ∙ ap (option_map (λ (name : List ℕ × List ℕ). record { name = name.0; bytes = name.1 })) ((name_is laws).only h.0 h.1 c.name h.3)
        ∙ ap (λ content. Some (record { name = c.name; bytes = content })) h.4;
  }

  all_is : {A : Type 0} (E : Grammar A) (read : Reader A) → IsReadBy E read
      → IsReadBy (Sized E) (first_sized (whole read))
  all_is E read is = sized_is laws.u32 E (whole read) (whole_is E read is)

  list_is : {A : Type 0} (E : Grammar A) (read : Reader A) → IsReadBy E read
      → IsReadBy (Sized (VectorOf E)) (first_sized (whole (first_vector read)))
  list_is E read is = all_is (VectorOf E) (first_vector read) (vector_is laws.u32 E read is)

  section_only : (form : Form) (bytes rest : List ℕ) (section : Section) → EncodesSection form bytes section
      → by_mark (row_at (section_rows form)) (bytes ++ rest) ≡ Some (section, rest)
  section_only form bytes rest (CustomSection held) h =
      read_only (row_at (section_rows form)) 0 (Sized EncodesCustom) (first_sized custom_of) CustomSection refl
      (sized_is laws.u32 EncodesCustom custom_of custom_is) bytes rest held h
  section_only form bytes rest (TypeSection held) h =
      read_only (row_at (section_rows form)) 1 (Sized (VectorOf EncodesFuncType))
      (first_sized (whole (first_vector first_func_type))) TypeSection refl
      (list_is EncodesFuncType first_func_type (func_type_is laws)) bytes rest held h
  section_only form bytes rest (ImportSection held) h =
      read_only (row_at (section_rows form)) 2 (Sized (VectorOf EncodesImport))
      (first_sized (whole (first_vector first_import))) ImportSection refl
      (list_is EncodesImport first_import (import_is laws)) bytes rest held h
  section_only form bytes rest (FunctionSection held) h =
      read_only (row_at (section_rows form)) 3 (Sized EncodesIndices) (first_sized (whole first_indices))
      FunctionSection refl (all_is EncodesIndices first_indices (indices_is laws)) bytes rest held h
  section_only form bytes rest (TableSection held) h =
      read_only (row_at (section_rows form)) 4 (Sized (VectorOf EncodesTableType))
      (first_sized (whole (first_vector first_table_type))) TableSection refl
      (list_is EncodesTableType first_table_type (table_type_is laws)) bytes rest held h
  section_only form bytes rest (MemorySection held) h =
      read_only (row_at (section_rows form)) 5 (Sized (VectorOf EncodesLimits))
      (first_sized (whole (first_vector first_limits))) MemorySection refl
      (list_is EncodesLimits first_limits (limits_is laws)) bytes rest held h
  section_only form bytes rest (GlobalSection held) h =
      read_only (row_at (section_rows form)) 6 (Sized (VectorOf (EncodesGlobal form)))
      (first_sized (whole (first_vector (first_global form)))) GlobalSection refl
      (list_is (EncodesGlobal form) (first_global form) (global_is laws form)) bytes rest held h
  section_only form bytes rest (ExportSection held) h =
      read_only (row_at (section_rows form)) 7 (Sized (VectorOf EncodesExport))
      (first_sized (whole (first_vector first_export))) ExportSection refl
      (list_is EncodesExport first_export (export_is laws)) bytes rest held h
  section_only form bytes rest (StartSection held) h =
      read_only (row_at (section_rows form)) 8 (Sized EncodesU32) (first_sized (whole first_u32)) StartSection refl
      (all_is EncodesU32 first_u32 (laws.u32)) bytes rest held h
  section_only form bytes rest (ElementSection held) h =
      read_only (row_at (section_rows form)) 9 (Sized (VectorOf (EncodesElemSeg form)))
      (first_sized (whole (first_vector (first_elem form)))) ElementSection refl
      (list_is (EncodesElemSeg form) (first_elem form) (elem_is laws form)) bytes rest held h
  section_only form bytes rest (CodeSection held) h =
      read_only (row_at (section_rows form)) 10 (Sized (VectorOf (EncodesCode form)))
      (first_sized (whole (first_vector (first_code form)))) CodeSection refl
      (list_is (EncodesCode form) (first_code form) (code_is laws form)) bytes rest held h
  section_only form bytes rest (DataSection held) h =
      read_only (row_at (section_rows form)) 11 (Sized (VectorOf (EncodesDataSeg form)))
      (first_sized (whole (first_vector (first_data form)))) DataSection refl
      (list_is (EncodesDataSeg form) (first_data form) (data_is laws form)) bytes rest held h

  pub section_is : (form : Form) → IsReadBy (EncodesSection form) (first_section form)
  unfolding first_section
  section_is form = record {
    found = by_mark_found (EncodesSection form) (row_at (section_rows form)) (rows_well (EncodesSection form) (section_rows form) (
      read_finds (EncodesSection form) (Sized EncodesCustom) 0 (first_sized custom_of) CustomSection
          (sized_is laws.u32 EncodesCustom custom_of custom_is) (λ bytes a h. (bytes, refl, h)),
      (
        read_finds (EncodesSection form) (Sized (VectorOf EncodesFuncType)) 1
            (first_sized (whole (first_vector first_func_type))) TypeSection
            (list_is EncodesFuncType first_func_type (func_type_is laws)) (λ bytes a h. (bytes, refl, h)),
        (
          read_finds (EncodesSection form) (Sized (VectorOf EncodesImport)) 2
              (first_sized (whole (first_vector first_import))) ImportSection
              (list_is EncodesImport first_import (import_is laws)) (λ bytes a h. (bytes, refl, h)),
          (
            read_finds (EncodesSection form) (Sized EncodesIndices) 3 (first_sized (whole first_indices))
                FunctionSection (all_is EncodesIndices first_indices (indices_is laws)) (λ bytes a h. (bytes, refl, h)),
            (
              read_finds (EncodesSection form) (Sized (VectorOf EncodesTableType)) 4
                  (first_sized (whole (first_vector first_table_type))) TableSection
                  (list_is EncodesTableType first_table_type (table_type_is laws)) (λ bytes a h. (bytes, refl, h)),
              (
                read_finds (EncodesSection form) (Sized (VectorOf EncodesLimits)) 5
                    (first_sized (whole (first_vector first_limits))) MemorySection
                    (list_is EncodesLimits first_limits (limits_is laws)) (λ bytes a h. (bytes, refl, h)),
                (
                  read_finds (EncodesSection form) (Sized (VectorOf (EncodesGlobal form))) 6
                      (first_sized (whole (first_vector (first_global form)))) GlobalSection
                      (list_is (EncodesGlobal form) (first_global form) (global_is laws form))
                      (λ bytes a h. (bytes, refl, h)),
                  (
                    read_finds (EncodesSection form) (Sized (VectorOf EncodesExport)) 7
                        (first_sized (whole (first_vector first_export))) ExportSection
                        (list_is EncodesExport first_export (export_is laws)) (λ bytes a h. (bytes, refl, h)),
                    (
                      read_finds (EncodesSection form) (Sized EncodesU32) 8 (first_sized (whole first_u32)) StartSection
                          (all_is EncodesU32 first_u32 (laws.u32)) (λ bytes a h. (bytes, refl, h)),
                      (
                        read_finds (EncodesSection form) (Sized (VectorOf (EncodesElemSeg form))) 9
                            (first_sized (whole (first_vector (first_elem form)))) ElementSection
                            (list_is (EncodesElemSeg form) (first_elem form) (elem_is laws form))
                            (λ bytes a h. (bytes, refl, h)),
                        (
                          read_finds (EncodesSection form) (Sized (VectorOf (EncodesCode form))) 10
                              (first_sized (whole (first_vector (first_code form)))) CodeSection
                              (list_is (EncodesCode form) (first_code form) (code_is laws form))
                              (λ bytes a h. (bytes, refl, h)),
                          (
                            read_finds (EncodesSection form) (Sized (VectorOf (EncodesDataSeg form))) 11
                                (first_sized (whole (first_vector (first_data form)))) DataSection
                                (list_is (EncodesDataSeg form) (first_data form) (data_is laws form))
                                (λ bytes a h. (bytes, refl, h)),
                            tt,
                          ),
                        ),
                      ),
                    ),
                  ),
                ),
              ),
            ),
          ),
        ),
      ),
    ));
    only = section_only form;
  }
