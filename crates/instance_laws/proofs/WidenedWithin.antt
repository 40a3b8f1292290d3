-- The shortest encoding of a widened module is within the bound.
use Rattle.std.proofs.Common.{◌≡◌, ℕ, ◌+◌, ◌*◌, ◌≤◌, List, [], ◌∷◌, ◌++◌, map, length, Option, Some, None, option_map, ap, arith}
use Rattle.std.specs.Prelude.{option_to_list}
use Rattle.wasm_syntax.specs.declared.modules.Module.{Module}
use Rattle.wasm_syntax.specs.Index.{imported_funcs}
use Rattle.wasm_syntax.specs.Encoding.Modules.{code_of}
use Rattle.wasm_syntax.specs.Encoding.Sections.{CodeSection, CustomSection, DataSection, ElementSection, ExportSection, FunctionSection, GlobalSection, ImportSection, MemorySection, StartSection, TableSection, TypeSection, Section}
use Rattle.wasm_syntax.specs.Encoding.Shortest.{code_bytes, content_bytes, elem_bytes, encoding_of, export_bytes, func_type_bytes, import_bytes, section_bytes, unless_empty}
use Rattle.wasm_syntax.proofs.ItemLists.{items, items_append, items_cons, items_nil, list_least, section_most, u32_most, IsVectorOf}
use Rattle.wasm_syntax.proofs.SectionLists.{encoding_parts, part, part_is, part_most, vectors}
use Rattle.instance_spec.specs.declared.decls.Decl.{Decl}
use Rattle.instance_spec.specs.DeclSizes.{decls_size}
use Rattle.instance_spec.specs.Instances.{Instance}
use Rattle.instance_spec.specs.ForeignRuns.{numbers}
use Rattle.instance_spec.specs.Widened.{foreign_exports, foreign_imports, renamed_elem, renamed_export, renamed_func, widened}
use Rattle.instance_laws.specs.SizeLaws.{WidenedAreWithin}
use Rattle.instance_laws.proofs.EncodedLengths.{codes_grown, declared_most, elems_grown, exports_grown}
use Rattle.instance_laws.proofs.WidenedParts.{types_kept}

-- ---- sections

-- the section of a list whose items take at most five times as many bytes as those of another, and some more
list_grown : {A : Type 0} (make : List A → Section) (write : A → List ℕ) → IsVectorOf make write
    → (xs ys : List A) (more : ℕ) → items write ys ≤ 5 * items write xs + more
    → part (unless_empty make ys) ≤ 11 + 5 * part (unless_empty make xs) + more
list_grown make write is xs ys more h = omega (
  arith,
  part_most make write is ys,
  part_is (unless_empty make xs),
  list_least make write is xs,
  h,
)

-- the section of a list with further items
list_joined : {A : Type 0} (make : List A → Section) (write : A → List ℕ) → IsVectorOf make write
    → (xs ys more : List A) → items write ys ≤ 5 * items write xs
    → part (unless_empty make (ys ++ more)) ≤ 11 + 5 * part (unless_empty make xs) + items write more
list_joined make write is xs ys more h =
    list_grown make write is xs (ys ++ more) (items write more) (omega (arith, items_append write ys more, h))

start_most : (start : Option ℕ) → part (map StartSection (option_to_list start)) ≤ 11
unfolding content_bytes
start_most None = omega (arith, part_is [], items_nil section_bytes)
start_most (Some func) = omega (
  arith,
  part_is (StartSection func ∷ []),
  items_cons section_bytes (StartSection func) [],
  items_nil section_bytes,
  section_most (StartSection func),
  u32_most func,
)

-- ---- the module

module _ (m : Module) (decls : List Decl) where
  abbrev i : Instance
  i = numbers m (length decls)

  parts : length (encoding_of (widened m decls))
      ≡ 8 + (part (unless_empty TypeSection (m.types ++ map (λ (d : Decl). d.ty) decls))
      + part (unless_empty ImportSection (m.imports ++ foreign_imports (length m.types) decls))
      + part (unless_empty FunctionSection (map (λ func. func.ty) (map (renamed_func i) m.funcs)))
      + part (unless_empty TableSection m.tables) + part (unless_empty MemorySection m.memories)
      + part (unless_empty GlobalSection m.globals)
      + part (unless_empty ExportSection (map (renamed_export i) m.exports ++ foreign_exports (imported_funcs m) decls))
      + part (map StartSection (option_to_list (option_map i.funcs m.start)))
      + part (unless_empty ElementSection (map (renamed_elem i) m.elems))
      + part (unless_empty CodeSection (map code_of (map (renamed_func i) m.funcs)))
      + part (unless_empty DataSection m.datas) + part (map CustomSection m.customs))
  parts = encoding_parts (widened m decls)

  functions_kept : part (unless_empty FunctionSection (map (λ func. func.ty) (map (renamed_func i) m.funcs)))
      ≡ part (unless_empty FunctionSection (map (λ func. func.ty) m.funcs))
  functions_kept = ap (λ types. part (unless_empty FunctionSection types)) (types_kept i m.funcs)

  encoding_most : length (encoding_of (widened m decls)) ≤ 5 * length (encoding_of m) + 2 * decls_size decls + 66
  encoding_most = omega (
    arith,
    parts,
    encoding_parts m,
    list_joined TypeSection func_type_bytes vectors.types m.types m.types (map (λ (d : Decl). d.ty) decls) (omega arith),
    list_joined ImportSection import_bytes vectors.imports m.imports m.imports (foreign_imports (length m.types) decls)
        (omega arith),
    functions_kept,
    list_joined ExportSection export_bytes vectors.exports m.exports (map (renamed_export i) m.exports)
        (foreign_exports (imported_funcs m) decls) (exports_grown i m.exports),
    start_most (option_map i.funcs m.start),
    list_grown ElementSection elem_bytes vectors.elems m.elems (map (renamed_elem i) m.elems) 0
        (let h = elems_grown i m.elems in omega (arith, h)),
    list_grown CodeSection code_bytes vectors.codes (map code_of m.funcs) (map code_of (map (renamed_func i) m.funcs)) 0
        (let h = codes_grown i m.funcs in omega (arith, h)),
    declared_most (length m.types) (imported_funcs m) decls,
  )

pub widened_are_within : WidenedAreWithin
widened_are_within m decls short small = omega (arith, encoding_most m decls, short, small)
