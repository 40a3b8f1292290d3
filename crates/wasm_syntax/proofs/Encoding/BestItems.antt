-- The shortest encodings of the items of sections.
use Rattle.std.proofs.Common.{◌≡◌, ℕ, ◌+◌, ◌<◌, ◌≤◌, ◌^◌, List, [], ◌∷◌, ◌++◌, length, refl, sym, ◌∙◌, subst, inl, inr, arith}
use Rattle.std.specs.Prelude.{IsUtf8, flat_map, sum_by}
use Rattle.std.specs.List.{AllByRecursion}
use Rattle.std.proofs.lemmas.Bool.Decides.{eqb_tells}
use Rattle.std.proofs.lemmas.List.{length-append}
use Rattle.std.proofs.lemmas.List.Sums.{sum_by-cons}
use Rattle.leb_bytes.specs.Unsigned.{EncodesU32, u32_bytes}
use Rattle.wasm_syntax.specs.declared.forms.Form.{Form}
use Rattle.wasm_syntax.specs.declared.forms.Form.TheVariants.{Core, Replay}
use Rattle.wasm_syntax.specs.declared.signatures.GlobalType.{GlobalType}
use Rattle.wasm_syntax.specs.declared.instructions.Instr.{Instr}
use Rattle.wasm_syntax.specs.declared.modules.ImportKind.{ImportKind}
use Rattle.wasm_syntax.specs.declared.modules.ImportKind.TheVariants as imports
use Rattle.wasm_syntax.specs.declared.modules.ExportKind.TheVariants as exports
use Rattle.wasm_syntax.specs.declared.modules.Run.{Run}
use Rattle.wasm_syntax.specs.declared.modules.ElemSeg.TheVariants.{Active, Declared}
use Rattle.wasm_syntax.specs.declared.modules.Custom.{Custom}
use Rattle.wasm_syntax.specs.Encoding.Grammar.{Raw, Marked, ◌then◌, VectorOf}
use Rattle.wasm_syntax.specs.Encoding.Types.{EncodesBytes, EncodesIndices, EncodesName, EncodesValType, EncodesLimits, EncodesTableType, EncodesGlobalType}
use Rattle.wasm_syntax.specs.Encoding.Instructions.{EncodesExpr}
use Rattle.wasm_syntax.specs.Encoding.Sections.{EncodesCustom, EncodesImportKind, EncodesImport, EncodesGlobal, EncodesExportKind, EncodesExport, EncodesElemSeg, EncodesDataSeg, EncodesRun, EncodesLocals, Code, EncodesCode}
use Rattle.wasm_syntax.specs.Encoding.Encodable.{FitsU32, FitsValType, FitsLimits, FitsBody, FitsImportKind, FitsImport, FitsRun, FitsLocals, FitsGlobal, FitsExportKind, FitsExport, FitsElemSeg, FitsDataSeg}
use Rattle.wasm_syntax.specs.Encoding.Shortest.{sized_bytes, vector_bytes, val_type_byte, val_type_bytes, limits_bytes, table_type_bytes, global_type_bytes, body_bytes, custom_bytes, import_kind_bytes, import_bytes, global_bytes, export_kind_bytes, export_bytes, elem_bytes, data_bytes, run_bytes, code_bytes}
use Rattle.wasm_syntax.specs.Encoding.Readers.{with_run, runs_of}
use Rattle.wasm_syntax.proofs.Encoding.Numbers.{NumberLaws}
use Rattle.wasm_syntax.proofs.Encoding.Locals.{runs_of_are, runs_of_same, one_runs}
use Rattle.wasm_syntax.proofs.Encoding.Writing.{IsBest, IsWrittenBy, raw_best, marked_best, under_best, then_best, u32_best, sized_best, vector_best, u32_some, u32_rise, u32_sum, refit, none_best}
use Rattle.wasm_syntax.proofs.Encoding.BestTypes.{bytes_best, name_best, indices_best, val_type_best, global_type_best, limits_best, table_type_best, body_best}

pub sized_some : (content : List ℕ) → 0 < length (sized_bytes content)
sized_some content = omega (arith, length-append (u32_bytes (length content)) content, u32_some (length content))

-- ---- locals: runs that are joined take no more bytes

count : Run → ℕ
count run = run.count

cost : List Run → ℕ
cost runs = length (flat_map run_bytes runs)

run_cost : (r : Run) → length (run_bytes r) ≡ length (u32_bytes r.count) + 1
run_cost r = length-append (u32_bytes r.count) (val_type_bytes r.ty)

cost_cons : (r : Run) (rest : List Run) → cost (r ∷ rest) ≡ length (u32_bytes r.count) + 1 + cost rest
unfolding cost
cost_cons r rest = omega (arith, length-append (run_bytes r) (flat_map run_bytes rest), run_cost r)

with_run_cost : (r : Run) (rest : List Run) → cost (with_run r rest) ≤ length (u32_bytes r.count) + 1 + cost rest
with_run_cost r [] = omega (arith, cost_cons r [])
with_run_cost r (s ∷ rest) = elim (eqb_tells (val_type_byte r.ty) (val_type_byte s.ty)) [
  | inl e ↦ rw (e.0) (omega (arith, cost_cons (record { count = r.count + s.count; ty = s.ty }) rest, cost_cons s rest, u32_sum r.count s.count))
  | inr e ↦ rw (e.0) (omega (arith, cost_cons r (s ∷ rest)))
]

runs_of_cost : (written : List Run) → cost (runs_of written) ≤ cost written
runs_of_cost [] = omega arith
runs_of_cost (r ∷ rest) = elim (eqb_tells r.count 0) [
  | inl e ↦ rw (e.0) (omega (arith, cost_cons r rest, runs_of_cost rest))
  | inr e ↦ rw (e.0) (omega (arith, cost_cons r rest, runs_of_cost rest, with_run_cost r (runs_of rest)))
]

with_run_length : (r : Run) (rest : List Run) → length (with_run r rest) ≤ 1 + length rest
with_run_length r [] = omega arith
with_run_length r (s ∷ rest) = elim (eqb_tells (val_type_byte r.ty) (val_type_byte s.ty)) [
  | inl e ↦ rw (e.0) (omega arith)
  | inr e ↦ rw (e.0) (omega arith)
]

runs_of_length : (written : List Run) → length (runs_of written) ≤ length written
runs_of_length [] = omega arith
runs_of_length (r ∷ rest) = elim (eqb_tells r.count 0) [
  | inl e ↦ rw (e.0) (omega (arith, runs_of_length rest))
  | inr e ↦ rw (e.0) (omega (arith, runs_of_length rest, with_run_length r (runs_of rest)))
]

-- as many locals
total : List Run → ℕ
total runs = sum_by (λ run. run.count) runs

total_cons : (r : Run) (rest : List Run) → total (r ∷ rest) ≡ r.count + total rest
unfolding total
total_cons r rest = sum_by-cons (λ (run : Run). run.count) r rest

with_run_total : (r : Run) (rest : List Run) → total (with_run r rest) ≡ r.count + total rest
with_run_total r [] = total_cons r []
with_run_total r (s ∷ rest) = elim (eqb_tells (val_type_byte r.ty) (val_type_byte s.ty)) [
  | inl e ↦ rw (e.0) (omega (arith, total_cons (record { count = r.count + s.count; ty = s.ty }) rest, total_cons s rest))
  | inr e ↦ rw (e.0) (total_cons r (s ∷ rest))
]

runs_of_total : (written : List Run) → total (runs_of written) ≡ total written
runs_of_total [] = refl
runs_of_total (r ∷ rest) = elim (eqb_tells r.count 0) [
  | inl e ↦ rw (e.0) (omega (arith, total_cons r rest, runs_of_total rest, e.1))
  | inr e ↦ rw (e.0) (omega (arith, total_cons r rest, runs_of_total rest, with_run_total r (runs_of rest)))
]

-- the type of a run of locals can be encoded
abbrev HasType : Run → Type 0
HasType run = FitsValType run.ty

with_run_types : (r : Run) (rest : List Run) → HasType r → AllByRecursion HasType rest
    → AllByRecursion HasType (with_run r rest)
with_run_types r [] h all = (h, tt)
with_run_types r (s ∷ rest) h all = elim (eqb_tells (val_type_byte r.ty) (val_type_byte s.ty)) [
  | inl e ↦ rw (e.0) all
  | inr e ↦ rw (e.0) (h, all)
]

runs_of_types : (written : List Run) → AllByRecursion HasType written → AllByRecursion HasType (runs_of written)
runs_of_types [] all = tt
runs_of_types (r ∷ rest) all = elim (eqb_tells r.count 0) [
  | inl e ↦ rw (e.0) (runs_of_types rest all.1)
  | inr e ↦ rw (e.0) (with_run_types r (runs_of rest) all.0 (runs_of_types rest all.1))
]

runs_fit : (runs : List Run) → AllByRecursion HasType runs → total runs < 2 ^ 32 → AllByRecursion FitsRun runs
runs_fit [] all few = tt
runs_fit (r ∷ rest) all few =
    let sum = total_cons r rest in
    ((omega arith, all.0), runs_fit rest all.1 (omega arith))

have_types : (runs : List Run) → AllByRecursion FitsRun runs → AllByRecursion HasType runs
have_types [] all = tt
have_types (r ∷ rest) all = (all.0.1, have_types rest all.1)

module _ (laws : NumberLaws) where
  run_best : IsWrittenBy EncodesRun FitsRun run_bytes
  run_best run = then_best EncodesU32 EncodesValType FitsU32 FitsValType u32_bytes val_type_bytes (u32_best laws) val_type_best run.count run.ty

  runs_best : IsWrittenBy (VectorOf EncodesRun) (AllByRecursion FitsRun) (vector_bytes run_bytes)
  runs_best = vector_best laws EncodesRun FitsRun run_bytes (λ run. omega (arith, run_cost run)) run_best

  locals_best : IsWrittenBy EncodesLocals FitsLocals (vector_bytes run_bytes)
  unfolding cost total
  locals_best locals = record {
    encodes = λ fits few. record { written = locals; vector = (runs_best locals).encodes fits.1 few; few = fits.2; are_runs = fits.0; same = refl };
    fits = λ bytes h.
        let are : runs_of h.written ≡ locals = one_runs (runs_of h.written) locals (runs_of_are h.written) h.are_runs (runs_of_same h.written ∙ sym h.same) in
        let few : total (runs_of h.written) < 2 ^ 32 = omega (arith, runs_of_total h.written, h.few) in
        let types = runs_of_types h.written (have_types h.written ((runs_best h.written).fits bytes h.vector)) in
        subst (λ (runs : List Run). FitsLocals runs) are (runs_of_are h.written, runs_fit (runs_of h.written) types few, few);
    least = λ bytes h.
        let are : runs_of h.written ≡ locals = one_runs (runs_of h.written) locals (runs_of_are h.written) h.are_runs (runs_of_same h.written ∙ sym h.same) in
        let best = (runs_best h.written).least bytes h.vector in
        subst (λ (runs : List Run). length (vector_bytes run_bytes runs) ≤ length bytes) are
        (omega (
          arith,
          best,
          length-append (u32_bytes (length h.written)) (flat_map run_bytes h.written),
          length-append (u32_bytes (length (runs_of h.written))) (flat_map run_bytes (runs_of h.written)),
          u32_rise (length (runs_of h.written)) (length h.written) (runs_of_length h.written),
          runs_of_cost h.written,
        ));
  }

  abbrev pub FitsCode : Form → Code → Type 0
  FitsCode form code = FitsLocals code.locals × FitsBody form code.body

  pub code_best : (form : Form) → IsWrittenBy (EncodesCode form) (FitsCode form) code_bytes
  unfolding code_bytes
  code_best form code =
      sized_best laws (EncodesLocals then EncodesExpr form) (λ (p : List Run × List Instr). FitsLocals p.0 × FitsBody form p.1)
      (λ (p : List Run × List Instr). vector_bytes run_bytes p.0 ++ body_bytes p.1)
      (λ (p : List Run × List Instr). then_best EncodesLocals (EncodesExpr form) FitsLocals (FitsBody form)
      (vector_bytes run_bytes) body_bytes locals_best (body_best laws form) p.0 p.1) (code.locals, code.body)

  -- ---- imports, globals, exports, segments, custom sections

  import_kind_best : IsWrittenBy EncodesImportKind FitsImportKind import_kind_bytes
  import_kind_best (imports.Func ty) = marked_best 0x00 EncodesU32 FitsU32 u32_bytes (u32_best laws) ty
  import_kind_best (imports.Table limits) = marked_best 0x01 EncodesTableType FitsLimits table_type_bytes (table_type_best laws) limits
  import_kind_best (imports.Memory limits) = marked_best 0x02 EncodesLimits FitsLimits limits_bytes (limits_best laws) limits
  import_kind_best (imports.Global ty) = marked_best 0x03 EncodesGlobalType (λ (g : GlobalType). FitsValType g.ty) global_type_bytes global_type_best ty

  pub import_best : IsWrittenBy EncodesImport FitsImport import_bytes
  unfolding import_bytes
  import_best i = refit (λ bytes. EncodesImport bytes i) (sized_bytes i.module ++ (sized_bytes i.name ++ import_kind_bytes i.kind))
      (λ fits. (fits.0, (fits.1, fits.2))) (λ both. (both.0, both.1.0, both.1.1))
      (then_best EncodesName (EncodesName then EncodesImportKind) (λ name. IsUtf8 name) (λ (p : List ℕ × ImportKind). IsUtf8 p.0 × FitsImportKind p.1)
      sized_bytes (λ (p : List ℕ × ImportKind). sized_bytes p.0 ++ import_kind_bytes p.1) (name_best laws)
      (λ (p : List ℕ × ImportKind). then_best EncodesName EncodesImportKind
      (λ name. IsUtf8 name) FitsImportKind sized_bytes import_kind_bytes (name_best laws) import_kind_best p.0 p.1)
      i.module (i.name, i.kind))

  pub global_best : (form : Form) → IsWrittenBy (EncodesGlobal form) (FitsGlobal form) global_bytes
  unfolding global_bytes
  global_best form g =
      then_best EncodesGlobalType (EncodesExpr form) (λ (ty : GlobalType). FitsValType ty.ty)
      (FitsBody form) global_type_bytes body_bytes global_type_best (body_best laws form) g.ty g.init

  export_kind_best : IsWrittenBy EncodesExportKind FitsExportKind export_kind_bytes
  export_kind_best (exports.Func n) = marked_best 0x00 EncodesU32 FitsU32 u32_bytes (u32_best laws) n
  export_kind_best (exports.Table n) = marked_best 0x01 EncodesU32 FitsU32 u32_bytes (u32_best laws) n
  export_kind_best (exports.Memory n) = marked_best 0x02 EncodesU32 FitsU32 u32_bytes (u32_best laws) n
  export_kind_best (exports.Global n) = marked_best 0x03 EncodesU32 FitsU32 u32_bytes (u32_best laws) n

  pub export_best : IsWrittenBy EncodesExport FitsExport export_bytes
  unfolding export_bytes
  export_best e =
      then_best EncodesName EncodesExportKind (λ name. IsUtf8 name) FitsExportKind sized_bytes export_kind_bytes
      (name_best laws) export_kind_best e.name e.kind

  active_best : (form : Form) (table : ℕ) (offset : List Instr) (funcs : List ℕ)
      → IsBest (λ bytes. (EncodesU32 then EncodesExpr form then EncodesIndices) bytes (table, (offset, funcs)))
      (FitsU32 table × (FitsBody form offset × AllByRecursion FitsU32 funcs))
      (u32_bytes table ++ (body_bytes offset ++ vector_bytes u32_bytes funcs))
  active_best form table offset funcs =
      then_best EncodesU32 (EncodesExpr form then EncodesIndices) FitsU32 (λ (p : List Instr × List ℕ). FitsBody form p.0 × AllByRecursion FitsU32 p.1)
      u32_bytes (λ (p : List Instr × List ℕ). body_bytes p.0 ++ vector_bytes u32_bytes p.1) (u32_best laws)
      (λ (p : List Instr × List ℕ). then_best (EncodesExpr form) EncodesIndices (FitsBody form)
      (AllByRecursion FitsU32) body_bytes (vector_bytes u32_bytes) (body_best laws form) (indices_best laws) p.0 p.1)
      table (offset, funcs)

  pub elem_best : (form : Form) → IsWrittenBy (EncodesElemSeg form) (FitsElemSeg form) elem_bytes
  unfolding elem_bytes
  elem_best Core (Active table offset funcs) =
      refit (λ bytes. EncodesElemSeg Core bytes (Active table offset funcs)) (u32_bytes table ++ (body_bytes offset ++ vector_bytes u32_bytes funcs))
      (λ fits. (fits.0, (fits.1, fits.2))) (λ both. (both.0, both.1.0, both.1.1)) (active_best Core table offset funcs)
  elem_best Core (Declared funcs) = none_best (u32_bytes 3 ++ 0x00 ∷ vector_bytes u32_bytes funcs)
  elem_best Replay (Active table offset funcs) =
      refit (λ bytes. EncodesElemSeg Replay bytes (Active table offset funcs)) (u32_bytes table ++ (body_bytes offset ++ vector_bytes u32_bytes funcs))
      (λ fits. (fits.0, (subst (λ n. FitsU32 n) (sym fits.0) (omega arith), (fits.1, fits.2)))) (λ both. (both.0, both.1.1.0, both.1.1.1))
      (under_best {C = table ≡ 0} (λ bytes. (EncodesU32 then EncodesExpr Replay then EncodesIndices) bytes (table, (offset, funcs)))
      (FitsU32 table × (FitsBody Replay offset × AllByRecursion FitsU32 funcs))
      (u32_bytes table ++ (body_bytes offset ++ vector_bytes u32_bytes funcs)) (active_best Replay table offset funcs))
  elem_best Replay (Declared funcs) =
      refit (λ bytes. EncodesElemSeg Replay bytes (Declared funcs)) (u32_bytes 3 ++ 0x00 ∷ vector_bytes u32_bytes funcs)
      (λ fits. (omega arith, fits)) (λ both. both.1)
      (then_best EncodesU32 (Marked 0x00 EncodesIndices) FitsU32 (AllByRecursion FitsU32) u32_bytes (λ (ns : List ℕ). 0x00 ∷ vector_bytes u32_bytes ns)
      (u32_best laws) (marked_best 0x00 EncodesIndices (AllByRecursion FitsU32) (vector_bytes u32_bytes) (indices_best laws)) 3 funcs)

  pub data_best : (form : Form) → IsWrittenBy (EncodesDataSeg form) (FitsDataSeg form) data_bytes
  unfolding data_bytes
  data_best form d =
      refit (λ bytes. EncodesDataSeg form bytes d) (u32_bytes d.memory ++ (body_bytes d.offset ++ sized_bytes d.bytes))
      (λ fits. (fits.0, (fits.1, tt))) (λ both. (both.0, both.1.0))
      (then_best EncodesU32 (EncodesExpr form then EncodesBytes) FitsU32 (λ (p : List Instr × List ℕ). FitsBody form p.0 × Unit {0})
      u32_bytes (λ (p : List Instr × List ℕ). body_bytes p.0 ++ sized_bytes p.1) (u32_best laws)
      (λ (p : List Instr × List ℕ). then_best (EncodesExpr form) EncodesBytes (FitsBody form)
      (λ content. Unit {0}) body_bytes sized_bytes (body_best laws form) (bytes_best laws) p.0 p.1)
      d.memory (d.offset, d.bytes))

  pub custom_best : IsWrittenBy EncodesCustom (λ (c : Custom). IsUtf8 c.name) custom_bytes
  unfolding custom_bytes
  custom_best c =
      refit (λ bytes. EncodesCustom bytes c) (sized_bytes c.name ++ c.bytes) (λ fits. (fits, tt)) (λ both. both.0)
      (then_best EncodesName Raw (λ name. IsUtf8 name) (λ content. Unit {0}) sized_bytes (λ content. content) (name_best laws) raw_best c.name c.bytes)
