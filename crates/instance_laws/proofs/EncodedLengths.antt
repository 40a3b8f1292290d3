-- How many bytes the parts of a widened module take in its shortest encoding: a part of the original takes at most five
-- times as many as before, since a number takes at least one and at most five.
use Rattle.std.proofs.Common.{◌≡◌, ℕ, ◌+◌, ◌*◌, ◌≤◌, List, [], ◌∷◌, ◌++◌, map, length, codes, refl, arith, length-append}
use Rattle.leb_bytes.specs.Unsigned.{u32_bytes}
use Rattle.base.specs.declared.marks.TheConstants.{ELEMENT_DECLARED, ELEMENT_FUNCS}
use Rattle.wasm_syntax.specs.declared.values.ValType.{ValType}
use Rattle.wasm_syntax.specs.declared.signatures.FuncType.{FuncType}
use Rattle.wasm_syntax.specs.declared.instructions.Instr.{Instr}
use Rattle.wasm_syntax.specs.declared.instructions.Instr.TheVariants.{Call, CallIndirect, GlobalGet, GlobalSet, RefFunc}
use Rattle.wasm_syntax.specs.declared.modules.Func.{Func}
use Rattle.wasm_syntax.specs.declared.modules.Import.{Import}
use Rattle.wasm_syntax.specs.declared.modules.ImportKind.TheVariants.{Func as FuncImport}
use Rattle.wasm_syntax.specs.declared.modules.Export.{Export}
use Rattle.wasm_syntax.specs.declared.modules.ExportKind.{ExportKind}
use Rattle.wasm_syntax.specs.declared.modules.ExportKind.TheVariants as exports
use Rattle.wasm_syntax.specs.declared.modules.ElemSeg.{ElemSeg}
use Rattle.wasm_syntax.specs.declared.modules.ElemSeg.TheVariants.{Active, Declared}
use Rattle.wasm_syntax.specs.Encoding.Modules.{code_of}
use Rattle.wasm_syntax.specs.Encoding.Shortest.{body_bytes, code_bytes, elem_bytes, export_bytes, export_kind_bytes, func_type_bytes, import_bytes, import_kind_bytes, instr_bytes, run_bytes, sized_bytes, val_type_bytes, vector_bytes}
use Rattle.wasm_syntax.proofs.ItemLists.{items, items_as, items_cons, items_nil, sized_length, u32_most, vector_length}
use Rattle.wasm_syntax.proofs.Encoding.Writing.{u32_some}
use Rattle.instance_spec.specs.declared.decls.Decl.{Decl}
use Rattle.instance_spec.specs.DeclSizes.{decls_size}
use Rattle.instance_spec.specs.Instances.{Instance, resolved_instr}
use Rattle.instance_spec.specs.Widened.{foreign_exports, foreign_imports, renamed_elem, renamed_export, renamed_func, renamed_kind}

-- ---- numbers, and items one after another

number_grown : (x y : ℕ) → length (u32_bytes y) ≤ 5 * length (u32_bytes x)
number_grown x y = omega (arith, u32_most y, u32_some x)

items_grown : {A : Type 0} (write : A → List ℕ) (f : A → A)
    → ((x : A) → length (write (f x)) ≤ 5 * length (write x)) → (xs : List A)
    → items write (map f xs) ≤ 5 * items write xs
items_grown write f each [] = omega (arith, items_nil write)
items_grown write f each (x ∷ xs) = omega (
  arith,
  items_cons write (f x) (map f xs),
  items_cons write x xs,
  each x,
  items_grown write f each xs,
)

vector_grown : {A : Type 0} (write : A → List ℕ) (xs ys : List A) → items write ys ≤ 5 * items write xs
    → length (vector_bytes write ys) ≤ 5 * length (vector_bytes write xs)
vector_grown write xs ys h =
    omega (arith, vector_length write xs, vector_length write ys, number_grown (length xs) (length ys), h)

sized_grown : (content more : List ℕ) → length more ≤ 5 * length content
    → length (sized_bytes more) ≤ 5 * length (sized_bytes content)
sized_grown content more h =
    omega (arith, sized_length content, sized_length more, number_grown (length content) (length more), h)

once : (n : ℕ) → n ≤ 5 * n
once n = omega arith

-- ---- renamed parts

module _ (i : Instance) where
  instr_grown : (instr : Instr) → length (instr_bytes (resolved_instr i instr)) ≤ 5 * length (instr_bytes instr)
  unfolding instr_bytes
  instr_grown (Call func) = omega (arith, number_grown func (i.funcs func))
  instr_grown (CallIndirect ty) = omega (
    arith,
    length-append (u32_bytes ty) (0x00 ∷ []),
    length-append (u32_bytes (i.types ty)) (0x00 ∷ []),
    number_grown ty (i.types ty),
  )
  instr_grown (GlobalGet global) = omega (arith, number_grown global (i.globals global))
  instr_grown (GlobalSet global) = omega (arith, number_grown global (i.globals global))
  instr_grown (RefFunc func) = omega (arith, number_grown func (i.funcs func))
  instr_grown instr = once (length (instr_bytes instr))

  code_grown : (f : Func) → length (code_bytes (code_of (renamed_func i f))) ≤ 5 * length (code_bytes (code_of f))
  unfolding code_bytes
  code_grown f =
      let locals = vector_bytes run_bytes f.locals in
      let body = map (resolved_instr i) f.body in
      sized_grown (locals ++ body_bytes f.body) (locals ++ body_bytes body) (omega (
        arith,
        length-append locals (body_bytes f.body),
        length-append locals (body_bytes body),
        items_as instr_bytes f.body,
        items_as instr_bytes body,
        items_grown instr_bytes (resolved_instr i) instr_grown f.body,
      ))

  pub codes_grown : (funcs : List Func)
      → items code_bytes (map code_of (map (renamed_func i) funcs)) ≤ 5 * items code_bytes (map code_of funcs)
  codes_grown [] = omega (arith, items_nil code_bytes)
  codes_grown (f ∷ funcs) = omega (
    arith,
    items_cons code_bytes (code_of (renamed_func i f)) (map code_of (map (renamed_func i) funcs)),
    items_cons code_bytes (code_of f) (map code_of funcs),
    code_grown f,
    codes_grown funcs,
  )

  kind_grown : (kind : ExportKind)
      → length (export_kind_bytes (renamed_kind i kind)) ≤ 5 * length (export_kind_bytes kind)
  kind_grown (exports.Func func) = omega (arith, number_grown func (i.funcs func))
  kind_grown (exports.Table table) = once (length (export_kind_bytes (exports.Table table)))
  kind_grown (exports.Memory memory) = once (length (export_kind_bytes (exports.Memory memory)))
  kind_grown (exports.Global global) = once (length (export_kind_bytes (exports.Global global)))

  export_grown : (e : Export) → length (export_bytes (renamed_export i e)) ≤ 5 * length (export_bytes e)
  unfolding export_bytes
  export_grown e = omega (
    arith,
    length-append (sized_bytes e.name) (export_kind_bytes e.kind),
    length-append (sized_bytes e.name) (export_kind_bytes (renamed_kind i e.kind)),
    kind_grown e.kind,
  )

  pub exports_grown : (es : List Export)
      → items export_bytes (map (renamed_export i) es) ≤ 5 * items export_bytes es
  exports_grown es = items_grown export_bytes (renamed_export i) export_grown es

  funcs_grown : (funcs : List ℕ)
      → length (vector_bytes u32_bytes (map i.funcs funcs)) ≤ 5 * length (vector_bytes u32_bytes funcs)
  funcs_grown funcs =
      vector_grown u32_bytes funcs (map i.funcs funcs)
      (items_grown u32_bytes i.funcs (λ func. number_grown func (i.funcs func)) funcs)

  elem_grown : (elem : ElemSeg) → length (elem_bytes (renamed_elem i elem)) ≤ 5 * length (elem_bytes elem)
  unfolding elem_bytes
  elem_grown (Active table offset funcs) =
      let before = vector_bytes u32_bytes funcs in
      let after = vector_bytes u32_bytes (map i.funcs funcs) in
      omega (
        arith,
        length-append (u32_bytes table) (body_bytes offset ++ before),
        length-append (u32_bytes table) (body_bytes offset ++ after),
        length-append (body_bytes offset) before,
        length-append (body_bytes offset) after,
        funcs_grown funcs,
      )
  elem_grown (Declared funcs) =
      let before = vector_bytes u32_bytes funcs in
      let after = vector_bytes u32_bytes (map i.funcs funcs) in
      omega (
        arith,
        length-append (u32_bytes ELEMENT_DECLARED) (ELEMENT_FUNCS ∷ before),
        length-append (u32_bytes ELEMENT_DECLARED) (ELEMENT_FUNCS ∷ after),
        funcs_grown funcs,
      )

  pub elems_grown : (elems : List ElemSeg)
      → items elem_bytes (map (renamed_elem i) elems) ≤ 5 * items elem_bytes elems
  elems_grown elems = items_grown elem_bytes (renamed_elem i) elem_grown elems

-- ---- declared functions

values_length : (types : List ValType) → items val_type_bytes types ≡ length types
values_length [] = omega (arith, items_nil val_type_bytes)
values_length (ty ∷ types) = omega (arith, items_cons val_type_bytes ty types, values_length types)

type_most : (ty : FuncType) → length (func_type_bytes ty) ≤ 11 + length ty.params + length ty.results
unfolding func_type_bytes
type_most ty = omega (
  arith,
  length-append (vector_bytes val_type_bytes ty.params) (vector_bytes val_type_bytes ty.results),
  vector_length val_type_bytes ty.params,
  vector_length val_type_bytes ty.results,
  values_length ty.params,
  values_length ty.results,
  u32_most (length ty.params),
  u32_most (length ty.results),
)

abbrev foreign : List ℕ
foreign = codes "foreign"

foreign_length : length foreign ≡ 7
foreign_length = refl

abbrev import_of : (ty : ℕ) → Decl → Import
import_of ty d = record { «module» = foreign; name = d.name; kind = FuncImport ty }

import_most : (ty : ℕ) (d : Decl) → length (import_bytes (import_of ty d)) ≤ 23 + length d.name
unfolding import_bytes
import_most ty d = omega (
  arith,
  length-append (sized_bytes foreign) (sized_bytes d.name ++ import_kind_bytes (FuncImport ty)),
  length-append (sized_bytes d.name) (import_kind_bytes (FuncImport ty)),
  sized_length foreign,
  sized_length d.name,
  foreign_length,
  u32_most (length foreign),
  u32_most (length d.name),
  u32_most ty,
)

abbrev export_of : (func : ℕ) → Decl → Export
export_of func d = record { name = d.name; kind = exports.Func func }

export_most : (func : ℕ) (d : Decl) → length (export_bytes (export_of func d)) ≤ 11 + length d.name
unfolding export_bytes
export_most func d = omega (
  arith,
  length-append (sized_bytes d.name) (export_kind_bytes (exports.Func func)),
  sized_length d.name,
  u32_most (length d.name),
  u32_most func,
)

-- the types, imports and exports of declared functions take at most twice as many bytes as the declarations
pub declared_most : (ty func : ℕ) (decls : List Decl)
    → items func_type_bytes (map (λ (d : Decl). d.ty) decls) + items import_bytes (foreign_imports ty decls)
    + items export_bytes (foreign_exports func decls)
    ≤ 2 * decls_size decls
declared_most ty func [] =
    omega (arith, items_nil func_type_bytes, items_nil import_bytes, items_nil export_bytes)
declared_most ty func (d ∷ decls) = omega (
  arith,
  items_cons func_type_bytes d.ty (map (λ (d : Decl). d.ty) decls),
  items_cons import_bytes (import_of ty d) (foreign_imports (ty + 1) decls),
  items_cons export_bytes (export_of func d) (foreign_exports (func + 1) decls),
  type_most d.ty,
  import_most ty d,
  export_most func d,
  declared_most (ty + 1) (func + 1) decls,
)
