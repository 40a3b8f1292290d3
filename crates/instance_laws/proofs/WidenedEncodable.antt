-- The widened module of one that has an encoding has one.
use Rattle.std.proofs.Common.{ℕ, ◌+◌, ◌≤◌, ◌^◌, List, [], ◌∷◌, map, length, Option, Some, None, Bool, true, false, cond, nat_lt, IsTrue, option_map, codes, refl, arith}
use Rattle.std.specs.Prelude.{IfSome, IsUtf8}
use Rattle.std.specs.List.{AllByRecursion}
use Rattle.std.proofs.lemmas.List.Elements.{All-weaker, recursion_from_All}
use Rattle.std.proofs.lemmas.Str.{IsUtf8-from_ascii}
use Rattle.base.proofs.Lists.{joined_all}
use Rattle.wasm_syntax.specs.declared.forms.Form.{Form}
use Rattle.wasm_syntax.specs.declared.forms.Form.TheVariants as forms
use Rattle.wasm_syntax.specs.declared.forms.Form.TheVariants.{Replay}
use Rattle.wasm_syntax.specs.declared.values.ValType.{ValType}
use Rattle.wasm_syntax.specs.declared.values.ValType.TheVariants.{FuncRef}
use Rattle.wasm_syntax.specs.declared.instructions.Instr.{Instr}
use Rattle.wasm_syntax.specs.declared.instructions.Instr.TheVariants.{Call, CallIndirect, GlobalGet, GlobalSet, RefFunc}
use Rattle.wasm_syntax.specs.declared.modules.Module.{Module}
use Rattle.wasm_syntax.specs.declared.modules.Func.{Func}
use Rattle.wasm_syntax.specs.declared.modules.ExportKind.{ExportKind}
use Rattle.wasm_syntax.specs.declared.modules.ExportKind.TheVariants as exports
use Rattle.wasm_syntax.specs.declared.modules.ElemSeg.{ElemSeg}
use Rattle.wasm_syntax.specs.declared.modules.ElemSeg.TheVariants.{Active, Declared}
use Rattle.wasm_syntax.specs.Encoding.Encodable.{FitsBody, FitsElemSeg, FitsExport, FitsExportKind, FitsFunc, FitsFuncType, FitsImport, FitsInstr, FitsU32, FitsValType, IsEncodable}
use Rattle.wasm_syntax.specs.Encoding.Forms.{AreCoreInstrs, IsCoreInstr, IsCoreSeg, IsOfTableZero}
use Rattle.wasm_syntax.specs.Encoding.Laws.{CoreIsInReplay}
use Rattle.wasm_syntax.specs.Index.{imported_funcs}
use Rattle.wasm_syntax.specs.Typing.{is_number}
use Rattle.wasm_syntax.specs.Validity.{IsValid, AreNumbers, IsElem, IsFuncType}
use Rattle.wasm_syntax.proofs.ValidParts.{each_ascii, elem_of_zero}
use Rattle.instance_spec.specs.declared.decls.Decl.{Decl}
use Rattle.instance_spec.specs.Instances.{Instance, moved_up, resolved_instr}
use Rattle.instance_spec.specs.Renamed.{renamed_nest}
use Rattle.instance_spec.specs.ForeignRuns.{numbers}
use Rattle.instance_spec.specs.Widened.{foreign_exports, foreign_imports, renamed_elem, renamed_export, renamed_func, renamed_kind, widened}
use Rattle.instance_spec.specs.WidenedLaws.{AreWritable, WidenedAreCore, WidenedAreEncodable}
use Rattle.instance_laws.proofs.RenamedTrees.{body_kept}

pub mapped_all : {A B : Type 0} (P : A → Type 0) (Q : B → Type 0) (f : A → B) → ((x : A) → P x → Q (f x))
    → (xs : List A) → AllByRecursion P xs → AllByRecursion Q (map f xs)
mapped_all P Q f each [] all = tt
mapped_all P Q f each (x ∷ xs) all = (each x all.0, mapped_all P Q f each xs all.1)

-- ---- the form Core

pub core_kept : (i : Instance) (instr : Instr) → IsCoreInstr instr → IsCoreInstr (resolved_instr i instr)
core_kept i (Call func) is = tt
core_kept i (CallIndirect ty) is = tt
core_kept i (GlobalGet global) is = tt
core_kept i (GlobalSet global) is = tt
core_kept i (RefFunc func) is = is
core_kept i instr is = is

core_seg_kept : (i : Instance) (elem : ElemSeg) → IsCoreSeg elem → IsCoreSeg (renamed_elem i elem)
core_seg_kept i (Active table offset funcs) is = is
core_seg_kept i (Declared funcs) is = is

pub widened_are_core : WidenedAreCore
widened_are_core m decls core =
    let i = numbers m (length decls) in
    record {
      funcs =
          mapped_all (λ (f : Func). AreCoreInstrs f.body) (λ (f : Func). AreCoreInstrs f.body) (renamed_func i)
          (λ f is. mapped_all IsCoreInstr IsCoreInstr (resolved_instr i) (core_kept i) f.body is) m.funcs core.funcs;
      globals = core.globals;
      elems = mapped_all IsCoreSeg IsCoreSeg (renamed_elem i) (core_seg_kept i) m.elems core.elems;
      datas = core.datas;
    }

-- ---- names

foreign_text : IsUtf8 (codes "foreign")
foreign_text = IsUtf8-from_ascii (codes "foreign") (each_ascii (codes "foreign") refl)

-- ---- declared functions

number_fits : (ty : ValType) → IsTrue (is_number ty) → FitsValType ty
number_fits FuncRef is = cc
number_fits ty is = tt

numbers_fit : (types : List ValType) → AreNumbers types → AllByRecursion FitsValType types
numbers_fit types are =
    recursion_from_All FitsValType types (All-weaker (λ t. IsTrue (is_number t)) FitsValType number_fits types are)

types_fit : (decls : List Decl) → AllByRecursion (λ (d : Decl). IsFuncType d.ty) decls
    → AllByRecursion FitsFuncType (map (λ (d : Decl). d.ty) decls)
types_fit decls are =
    mapped_all (λ (d : Decl). IsFuncType d.ty) FitsFuncType (λ (d : Decl). d.ty)
    (λ d is. (numbers_fit d.ty.params is.params, numbers_fit d.ty.results is.results)) decls are

imports_fit : (at : ℕ) (decls : List Decl) → AllByRecursion (λ (d : Decl). IsUtf8 d.name) decls
    → at + length decls ≤ 2 ^ 32 → AllByRecursion FitsImport (foreign_imports at decls)
imports_fit at [] names few = tt
imports_fit at (d ∷ decls) names few =
    ((foreign_text, names.0, omega (arith, few)), imports_fit (at + 1) decls names.1 (omega (arith, few)))

exports_fit : (at : ℕ) (decls : List Decl) → AllByRecursion (λ (d : Decl). IsUtf8 d.name) decls
    → at + length decls ≤ 2 ^ 32 → AllByRecursion FitsExport (foreign_exports at decls)
exports_fit at [] names few = tt
exports_fit at (d ∷ decls) names few =
    ((names.0, omega (arith, few)), exports_fit (at + 1) decls names.1 (omega (arith, few)))

-- ---- renamed parts

module _ (m : Module) (q : ℕ) where
  abbrev i : Instance
  i = numbers m q

  func_low : (func : ℕ) → FitsU32 func → FitsU32 (i.funcs func)
  func_low func low = by (nat_lt func (imported_funcs m))
    where
      by : (b : Bool) → FitsU32 (cond b func (moved_up q func))
      by true = low
      by false = omega arith

  instr_fits : (form : Form) (instr : Instr) → FitsInstr form instr → FitsInstr form (resolved_instr i instr)
  instr_fits form (Call func) fits = func_low func fits
  instr_fits form (CallIndirect ty) fits = fits
  instr_fits form (GlobalGet global) fits = fits
  instr_fits form (GlobalSet global) fits = fits
  instr_fits form (RefFunc func) fits = (fits.0, func_low func fits.1)
  instr_fits form instr fits = fits

  body_fits : (form : Form) (body : List Instr) → FitsBody form body → FitsBody form (map (resolved_instr i) body)
  body_fits form body fits =
      record {
        instructions =
            mapped_all (FitsInstr form) (FitsInstr form) (resolved_instr i) (instr_fits form) body fits.instructions;
        nest = renamed_nest i fits.nest;
        is_body = body_kept i fits.nest body fits.is_body;
      }

  func_fits : (form : Form) (f : Func) → FitsFunc form f → FitsFunc form (renamed_func i f)
  func_fits form f fits = (fits.0, fits.1, body_fits form f.body fits.2)

  kind_fits : (kind : ExportKind) → FitsExportKind kind → FitsExportKind (renamed_kind i kind)
  kind_fits (exports.Func func) fits = func_low func fits
  kind_fits (exports.Table table) fits = fits
  kind_fits (exports.Memory memory) fits = fits
  kind_fits (exports.Global global) fits = fits

  start_fits : (start : Option ℕ) → IfSome start FitsU32 → IfSome (option_map i.funcs start) FitsU32
  start_fits None fits = tt
  start_fits (Some func) fits = func_low func fits

  funcs_fit : (funcs : List ℕ) → AllByRecursion FitsU32 funcs → AllByRecursion FitsU32 (map i.funcs funcs)
  funcs_fit funcs fit = mapped_all FitsU32 FitsU32 i.funcs func_low funcs fit

  elem_fits : (form : Form) (elem : ElemSeg) → FitsElemSeg form elem → FitsElemSeg form (renamed_elem i elem)
  elem_fits forms.Core (Active table offset funcs) fits = (fits.0, fits.1, funcs_fit funcs fits.2)
  elem_fits forms.Core (Declared funcs) fits = fits
  elem_fits forms.Replay (Active table offset funcs) fits = (fits.0, fits.1, funcs_fit funcs fits.2)
  elem_fits forms.Replay (Declared funcs) fits = funcs_fit funcs fits

-- ---- the module

same_form : (form : Form) (m : Module) (decls : List Decl) → IsEncodable form m → AreWritable m decls
    → IsEncodable form (widened m decls)
same_form form m decls fits writable =
    let q = length decls in
    let i = numbers m q in
    let names = recursion_from_All (λ (d : Decl). IsUtf8 d.name) decls writable.names in
    let types = recursion_from_All (λ (d : Decl). IsFuncType d.ty) decls writable.are.types in
    let few = writable.are.few in
    record {
      types = joined_all FitsFuncType m.types (map (λ (d : Decl). d.ty) decls) fits.types (types_fit decls types);
      imports =
          joined_all FitsImport m.imports (foreign_imports (length m.types) decls) fits.imports
          (imports_fit (length m.types) decls names writable.few_types);
      funcs = mapped_all (FitsFunc form) (FitsFunc form) (renamed_func i) (func_fits m q form) m.funcs fits.funcs;
      tables = fits.tables;
      memories = fits.memories;
      globals = fits.globals;
      exports =
          joined_all FitsExport (map (renamed_export i) m.exports) (foreign_exports (imported_funcs m) decls)
          (mapped_all FitsExport FitsExport (renamed_export i) (λ e fit. (fit.0, kind_fits m q e.kind fit.1)) m.exports fits.exports)
          (exports_fit (imported_funcs m) decls names (omega (arith, few)));
      start = start_fits m q m.start fits.start;
      elems = mapped_all (FitsElemSeg form) (FitsElemSeg form) (renamed_elem i) (elem_fits m q form) m.elems fits.elems;
      datas = fits.datas;
      customs = fits.customs;
    }

-- a valid module that has an encoding in the form Core has one in the form Replay
pub replay_form : CoreIsInReplay → (m : Module) → IsValid m → IsEncodable forms.Core m → IsEncodable Replay m
replay_form in_replay m valid fits =
    in_replay m fits
    (recursion_from_All IsOfTableZero m.elems
    (All-weaker (IsElem m) IsOfTableZero (elem_of_zero m valid.outside.one_table) m.elems valid.outside.elems))

pub widened_are_encodable : CoreIsInReplay → WidenedAreEncodable
widened_are_encodable in_replay =
    record {
      same_form = same_form;
      core_form = λ m decls fits valid writable.
          same_form Replay m decls (replay_form in_replay m valid fits) writable;
    }
