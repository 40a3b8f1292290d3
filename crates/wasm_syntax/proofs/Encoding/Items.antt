-- What holds of the encodings of the items of sections, and of their readers.
use Rattle.std.proofs.Common.{◌≡◌, ℕ, List, [], ◌∷◌, ◌++◌, cond, Some, None, refl, ap, sym, ◌∙◌, subst, append_assoc, inl, inr}
use Rattle.std.specs.Prelude.{option_map, option_and_then, nat_eq}
use Rattle.std.proofs.lemmas.Bool.{eqb-true}
use Rattle.std.proofs.lemmas.Option.{none-some, some_pair_parts}
use Rattle.base.proofs.Options.{map_some, and_then_some}
use Rattle.leb_bytes.specs.Encoding.{IsReadBy}
use Rattle.leb_bytes.specs.Unsigned.{EncodesU32, first_u32}
use Rattle.wasm_syntax.specs.declared.forms.Form.{Form}
use Rattle.wasm_syntax.specs.declared.forms.Form.TheVariants.{Core, Replay}
use Rattle.wasm_syntax.specs.declared.instructions.Instr.{Instr}
use Rattle.wasm_syntax.specs.declared.modules.Import.{Import}
use Rattle.wasm_syntax.specs.declared.modules.ImportKind.{ImportKind}
use Rattle.wasm_syntax.specs.declared.modules.ImportKind.TheVariants as imports
use Rattle.wasm_syntax.specs.declared.modules.Export.{Export}
use Rattle.wasm_syntax.specs.declared.modules.ExportKind.{ExportKind}
use Rattle.wasm_syntax.specs.declared.modules.ExportKind.TheVariants as exports
use Rattle.wasm_syntax.specs.declared.modules.Global.{Global}
use Rattle.wasm_syntax.specs.declared.modules.ElemSeg.{ElemSeg}
use Rattle.wasm_syntax.specs.declared.modules.ElemSeg.TheVariants.{Active, Declared}
use Rattle.wasm_syntax.specs.declared.modules.DataSeg.{DataSeg}
use Rattle.wasm_syntax.specs.Encoding.Grammar.{Grammar, ◌then◌, Sized}
use Rattle.wasm_syntax.specs.Encoding.Types.{EncodesBytes, EncodesIndices, EncodesName, EncodesLimits, EncodesTableType, EncodesGlobalType}
use Rattle.wasm_syntax.specs.Encoding.Instructions.{EncodesExpr}
use Rattle.wasm_syntax.specs.Encoding.Sections.{EncodesImportKind, EncodesImport, EncodesGlobal, EncodesExportKind, EncodesExport, EncodesElemSeg, EncodesDataSeg, EncodesLocals, Code, EncodesCode}
use Rattle.wasm_syntax.specs.Encoding.Combinators.{map_read, first_then, by_mark, row_at, whole, first_sized}
use Rattle.wasm_syntax.specs.Encoding.Readers.{first_bytes, first_name, first_indices, first_limits, first_table_type, first_global_type, first_expr, import_kind_rows, first_import_kind, import_of, first_import, global_of, first_global, export_kind_rows, first_export_kind, export_of, first_export, active_of, elem_after, first_elem, data_of, first_data, first_locals, code_of_parts, first_code}
use Rattle.wasm_syntax.proofs.Encoding.Tools.{as_read_is, then_is, by_mark_found, rows_well, read_finds, read_only}
use Rattle.wasm_syntax.proofs.Encoding.Lists.{whole_is, sized_is}
use Rattle.wasm_syntax.proofs.Encoding.Numbers.{NumberLaws, bytes_is, name_is, indices_is}
use Rattle.wasm_syntax.proofs.Encoding.Types.{limits_is, table_type_is, global_type_is}
use Rattle.wasm_syntax.proofs.Encoding.Instructions.{chosen}
use Rattle.wasm_syntax.proofs.Encoding.Expressions.{expr_is}
use Rattle.wasm_syntax.proofs.Encoding.Locals.{locals_is}

module _ (laws : NumberLaws) where
  -- ---- imports

  import_kind_only : (bytes rest : List ℕ) (kind : ImportKind) → EncodesImportKind bytes kind
      → by_mark (row_at import_kind_rows) (bytes ++ rest) ≡ Some (kind, rest)
  import_kind_only bytes rest (imports.Func ty) h = read_only (row_at import_kind_rows) 0x00 EncodesU32 first_u32 imports.Func refl laws.u32 bytes rest ty h
  import_kind_only bytes rest (imports.Table limits) h =
      read_only (row_at import_kind_rows) 0x01 EncodesTableType first_table_type imports.Table refl (table_type_is laws) bytes rest limits h
  import_kind_only bytes rest (imports.Memory limits) h =
      read_only (row_at import_kind_rows) 0x02 EncodesLimits first_limits imports.Memory refl (limits_is laws) bytes rest limits h
  import_kind_only bytes rest (imports.Global ty) h =
      read_only (row_at import_kind_rows) 0x03 EncodesGlobalType first_global_type imports.Global refl global_type_is bytes rest ty h

  import_kind_is : IsReadBy EncodesImportKind first_import_kind
  unfolding first_import_kind
  import_kind_is = record {
    found = by_mark_found EncodesImportKind (row_at import_kind_rows) (rows_well EncodesImportKind import_kind_rows (
      read_finds EncodesImportKind EncodesU32 0x00 first_u32 imports.Func laws.u32 (λ bytes a h. (bytes, refl, h)),
      (
        read_finds EncodesImportKind EncodesTableType 0x01 first_table_type imports.Table (table_type_is laws) (λ bytes a h. (bytes, refl, h)),
        (
          read_finds EncodesImportKind EncodesLimits 0x02 first_limits imports.Memory (limits_is laws) (λ bytes a h. (bytes, refl, h)),
          (read_finds EncodesImportKind EncodesGlobalType 0x03 first_global_type imports.Global global_type_is (λ bytes a h. (bytes, refl, h)), tt),
        ),
      ),
    ));
    only = import_kind_only;
  }

  pub import_is : IsReadBy EncodesImport first_import
  unfolding first_import
  import_is =
      let kind = then_is EncodesName EncodesImportKind first_name first_import_kind (name_is laws) import_kind_is in
      let is = as_read_is (EncodesName then EncodesName then EncodesImportKind) (first_then first_name (first_then first_name first_import_kind)) import_of
      (λ (i : Import). (i.module, (i.name, i.kind))) (λ parts. refl) (λ i. refl)
      (then_is EncodesName (EncodesName then EncodesImportKind) first_name (first_then first_name first_import_kind) (name_is laws) kind) in
      record { found = is.found; only = is.only }

  -- ---- globals

  pub global_is : (form : Form) → IsReadBy (EncodesGlobal form) (first_global form)
  unfolding first_global
  global_is form =
      let is = as_read_is (EncodesGlobalType then EncodesExpr form) (first_then first_global_type (first_expr form)) global_of
      (λ (g : Global). (g.ty, g.init)) (λ parts. refl) (λ g. refl)
      (then_is EncodesGlobalType (EncodesExpr form) first_global_type (first_expr form) global_type_is (expr_is laws form)) in
      record { found = is.found; only = is.only }

  -- ---- exports

  export_kind_only : (bytes rest : List ℕ) (kind : ExportKind) → EncodesExportKind bytes kind
      → by_mark (row_at export_kind_rows) (bytes ++ rest) ≡ Some (kind, rest)
  export_kind_only bytes rest (exports.Func n) h = read_only (row_at export_kind_rows) 0x00 EncodesU32 first_u32 exports.Func refl laws.u32 bytes rest n h
  export_kind_only bytes rest (exports.Table n) h = read_only (row_at export_kind_rows) 0x01 EncodesU32 first_u32 exports.Table refl laws.u32 bytes rest n h
  export_kind_only bytes rest (exports.Memory n) h = read_only (row_at export_kind_rows) 0x02 EncodesU32 first_u32 exports.Memory refl laws.u32 bytes rest n h
  export_kind_only bytes rest (exports.Global n) h = read_only (row_at export_kind_rows) 0x03 EncodesU32 first_u32 exports.Global refl laws.u32 bytes rest n h

  export_kind_is : IsReadBy EncodesExportKind first_export_kind
  unfolding first_export_kind
  export_kind_is = record {
    found = by_mark_found EncodesExportKind (row_at export_kind_rows) (rows_well EncodesExportKind export_kind_rows (
      read_finds EncodesExportKind EncodesU32 0x00 first_u32 exports.Func laws.u32 (λ bytes a h. (bytes, refl, h)),
      (
        read_finds EncodesExportKind EncodesU32 0x01 first_u32 exports.Table laws.u32 (λ bytes a h. (bytes, refl, h)),
        (
          read_finds EncodesExportKind EncodesU32 0x02 first_u32 exports.Memory laws.u32 (λ bytes a h. (bytes, refl, h)),
          (read_finds EncodesExportKind EncodesU32 0x03 first_u32 exports.Global laws.u32 (λ bytes a h. (bytes, refl, h)), tt),
        ),
      ),
    ));
    only = export_kind_only;
  }

  pub export_is : IsReadBy EncodesExport first_export
  unfolding first_export
  export_is =
      let is = as_read_is (EncodesName then EncodesExportKind) (first_then first_name first_export_kind) export_of
      (λ (e : Export). (e.name, e.kind)) (λ parts. refl) (λ e. refl)
      (then_is EncodesName EncodesExportKind first_name first_export_kind (name_is laws) export_kind_is) in
      record { found = is.found; only = is.only }

  -- ---- element segments

  active_is : (form : Form)
      → IsReadBy (EncodesExpr form then EncodesIndices) (first_then (first_expr form) first_indices)
  active_is form = then_is (EncodesExpr form) EncodesIndices (first_expr form) first_indices (expr_is laws form) (indices_is laws)

  -- after the number that begins a segment
  Behind : Form → ℕ → List ℕ → ElemSeg → Type 0
  Behind form kind bytes seg = (count : List ℕ) → EncodesU32 count kind → EncodesElemSeg form (count ++ bytes) seg

  active_found : (form : Form) (kind : ℕ) (input rest : List ℕ) (seg : ElemSeg)
      → ((bytes : List ℕ) (parts : List Instr × List ℕ) → (EncodesExpr form then EncodesIndices) bytes parts → Behind form kind bytes (active_of kind parts))
      → map_read (active_of kind) (first_then (first_expr form) first_indices) input ≡ Some (seg, rest)
      → (bytes : List ℕ) × Behind form kind bytes seg × (input ≡ bytes ++ rest)
  active_found form kind input rest seg into e =
      let m = map_some (λ (first : (List Instr × List ℕ) × List ℕ). (active_of kind first.0, first.1))
      (first_then (first_expr form) first_indices input) (seg, rest) e in
      let parts = some_pair_parts (active_of kind m.0.0) seg m.0.1 rest (ap Some m.2) in
      let f = (active_is form).found input m.0.1 m.0.0 m.1 in
      (f.0, subst (λ s. Behind form kind f.0 s) parts.0 (into f.0 m.0.0 f.1), f.2 ∙ ap (λ r. f.0 ++ r) parts.1)

  declared_found : (kind : ℕ) (input rest : List ℕ) (seg : ElemSeg) → kind ≡ 3
      → by_mark (row_at ((0x00, map_read Declared first_indices) ∷ [])) input ≡ Some (seg, rest)
      → (bytes : List ℕ) × Behind Replay kind bytes seg × (input ≡ bytes ++ rest)
  unfolding Behind
  declared_found kind input rest seg three e =
      let Marks : Grammar ElemSeg = λ bytes s. Behind Replay kind bytes s in
      by_mark_found Marks (row_at ((0x00, map_read Declared first_indices) ∷ [])) (rows_well Marks ((0x00, map_read Declared first_indices) ∷ []) (
        read_finds Marks EncodesIndices 0x00 first_indices Declared (indices_is laws)
            (λ bytes funcs h count n. (count, 0x00 ∷ bytes, refl, subst (λ k. EncodesU32 count k) three n, (bytes, refl, h))),
        tt,
      )) input rest seg e

  elem_found : (form : Form) (kind : ℕ) (input rest : List ℕ) (seg : ElemSeg)
      → elem_after form kind input ≡ Some (seg, rest)
      → (bytes : List ℕ) × Behind form kind bytes seg × (input ≡ bytes ++ rest)
  unfolding Behind
  elem_found Core kind input rest seg e = active_found Core kind input rest seg (λ bytes parts h count n. (count, bytes, refl, n, h)) e
  elem_found Replay kind input rest seg e =
      elim (chosen (nat_eq kind 0) (map_read (active_of kind) (first_then (first_expr Replay) first_indices) input)
      (cond (nat_eq kind 3) (by_mark (row_at ((0x00, map_read Declared first_indices) ∷ [])) input) None) (Some (seg, rest)) e) [
        | inl active ↦ active_found Replay kind input rest seg (λ bytes parts h count n. (eqb-true kind 0 active.0, (count, bytes, refl, n, h))) active.1
        | inr other ↦ elim (chosen (nat_eq kind 3) (by_mark (row_at ((0x00, map_read Declared first_indices) ∷ [])) input) None (Some (seg, rest)) other.1) [
          | inl declared ↦ declared_found kind input rest seg (eqb-true kind 3 declared.0) declared.1
          | inr none ↦ absurd (none-some _ none.1)
        ]
      ]

  active_only : (form : Form) (table : ℕ) (bytes rest : List ℕ) (offset : List Instr) (funcs : List ℕ)
      → ((input : List ℕ) → elem_after form table input ≡ map_read (active_of table) (first_then (first_expr form) first_indices) input)
      → (EncodesU32 then EncodesExpr form then EncodesIndices) bytes (table, (offset, funcs))
      → first_elem form (bytes ++ rest) ≡ Some (Active table offset funcs, rest)
  unfolding first_elem
  active_only form table bytes rest offset funcs behind h =
      ap (λ bs. first_elem form (bs ++ rest)) h.2
      ∙ ap (first_elem form) (append_assoc h.0 h.1 rest)
      ∙ ap (option_and_then (λ (kind : ℕ × List ℕ). elem_after form kind.0 kind.1)) (laws.u32.only h.0 (h.1 ++ rest) table h.3)
      ∙ behind (h.1 ++ rest)
      ∙ ap (option_map (λ (first : (List Instr × List ℕ) × List ℕ). (active_of table first.0, first.1))) ((active_is form).only h.1 rest (offset, funcs) h.4)

  zero_behind : (table : ℕ) → table ≡ 0 → (input : List ℕ)
      → elem_after Replay table input ≡ map_read (active_of table) (first_then (first_expr Replay) first_indices) input
  zero_behind table none input =
      subst
      (λ t. elem_after Replay t input ≡ map_read (active_of t) (first_then (first_expr Replay) first_indices) input)
      (sym none) refl

  elem_only : (form : Form) (bytes rest : List ℕ) (seg : ElemSeg) → EncodesElemSeg form bytes seg
      → first_elem form (bytes ++ rest) ≡ Some (seg, rest)
  unfolding first_elem
  elem_only Core bytes rest (Active table offset funcs) h = active_only Core table bytes rest offset funcs (λ input. refl) h
  elem_only Core bytes rest (Declared funcs) h = absurd h
  elem_only Replay bytes rest (Active table offset funcs) h = active_only Replay table bytes rest offset funcs (zero_behind table h.0) h.1
  elem_only Replay bytes rest (Declared funcs) h =
      ap (λ bs. first_elem Replay (bs ++ rest)) h.2
      ∙ ap (first_elem Replay) (append_assoc h.0 h.1 rest)
      ∙ ap (option_and_then (λ (kind : ℕ × List ℕ). elem_after Replay kind.0 kind.1)) (laws.u32.only h.0 (h.1 ++ rest) 3 h.3)
      ∙ read_only (row_at ((0x00, map_read Declared first_indices) ∷ [])) 0x00 EncodesIndices first_indices Declared refl (indices_is laws) h.1 rest funcs h.4

  pub elem_is : (form : Form) → IsReadBy (EncodesElemSeg form) (first_elem form)
  unfolding first_elem Behind
  elem_is form = record {
    found = λ input rest seg e.
        let b = and_then_some (first_u32 input) (λ (kind : ℕ × List ℕ). elem_after form kind.0 kind.1) (seg, rest) e in
        let n = laws.u32.found input b.0.1 b.0.0 b.1 in
        let f = elem_found form b.0.0 b.0.1 rest seg b.2 in
        (n.0 ++ f.0, f.1 n.0 n.1, n.2 ∙ ap (λ r. n.0 ++ r) f.2 ∙ sym (append_assoc n.0 f.0 rest));
    only = elem_only form;
  }

  -- ---- data segments and code

  pub data_is : (form : Form) → IsReadBy (EncodesDataSeg form) (first_data form)
  unfolding first_data
  data_is form =
      let bytes = then_is (EncodesExpr form) EncodesBytes (first_expr form) first_bytes (expr_is laws form) (bytes_is laws) in
      let is = as_read_is (EncodesU32 then EncodesExpr form then EncodesBytes) (first_then first_u32 (first_then (first_expr form) first_bytes)) data_of
      (λ (d : DataSeg). (d.memory, (d.offset, d.bytes))) (λ parts. refl) (λ d. refl)
      (then_is EncodesU32 (EncodesExpr form then EncodesBytes) first_u32 (first_then (first_expr form) first_bytes) laws.u32 bytes) in
      record { found = is.found; only = is.only }

  pub code_is : (form : Form) → IsReadBy (EncodesCode form) (first_code form)
  unfolding first_code
  code_is form =
      let parts = then_is EncodesLocals (EncodesExpr form) first_locals (first_expr form) (locals_is laws) (expr_is laws form) in
      let all = whole_is (EncodesLocals then EncodesExpr form) (first_then first_locals (first_expr form)) parts in
      let is = as_read_is (Sized (EncodesLocals then EncodesExpr form)) (first_sized (whole (first_then first_locals (first_expr form)))) code_of_parts
      (λ (code : Code). (code.locals, code.body)) (λ two. refl) (λ code. refl)
      (sized_is laws.u32 (EncodesLocals then EncodesExpr form) (whole (first_then first_locals (first_expr form))) all) in
      record { found = is.found; only = is.only }
