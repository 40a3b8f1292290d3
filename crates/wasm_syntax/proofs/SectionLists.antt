-- How many bytes the sections of a module take in its shortest encoding.
use Rattle.std.proofs.Common.{◌≡◌, ℕ, ◌+◌, ◌≤◌, List, ◌++◌, length, map, flat_map, refl, ap, ◌∙◌, arith}
use Rattle.std.specs.Prelude.{option_to_list}
use Rattle.std.proofs.lemmas.List.{length-append}
use Rattle.leb_bytes.specs.Unsigned.{u32_bytes}
use Rattle.wasm_syntax.specs.declared.modules.Module.{Module}
use Rattle.wasm_syntax.specs.Encoding.Sections.{Section, CustomSection, TypeSection, ImportSection, FunctionSection, TableSection, MemorySection, GlobalSection, ExportSection, StartSection, ElementSection, CodeSection, DataSection}
use Rattle.wasm_syntax.specs.Encoding.Modules.{preamble, code_of}
use Rattle.wasm_syntax.specs.Encoding.Shortest.{func_type_bytes, import_bytes, table_type_bytes, limits_bytes, global_bytes, export_bytes, elem_bytes, code_bytes, data_bytes, content_bytes, section_bytes, unless_empty, sections_of, encoding_of}
use Rattle.wasm_syntax.proofs.ItemLists.{items, items_append, list_least, list_most, IsVectorOf}

-- ---- all of them

-- how many bytes these sections take
pub part : List Section → ℕ
part sections = items section_bytes sections

pub part_is : (sections : List Section) → part sections ≡ items section_bytes sections
unfolding part
part_is sections = refl

part-append : (a b : List Section) → part (a ++ b) ≡ part a + part b
unfolding part
part-append a b = items_append section_bytes a b

part-append_twelve : (a b c d e f g h i j k l : List Section)
    → part (a ++ (b ++ (c ++ (d ++ (e ++ (f ++ (g ++ (h ++ (i ++ (j ++ (k ++ l)))))))))))
    ≡ part a + part b + part c + part d + part e + part f + part g + part h + part i + part j + part k + part l
part-append_twelve a b c d e f g h i j k l = omega (
  arith,
  part-append a (b ++ (c ++ (d ++ (e ++ (f ++ (g ++ (h ++ (i ++ (j ++ (k ++ l)))))))))),
  part-append b (c ++ (d ++ (e ++ (f ++ (g ++ (h ++ (i ++ (j ++ (k ++ l))))))))),
  part-append c (d ++ (e ++ (f ++ (g ++ (h ++ (i ++ (j ++ (k ++ l)))))))),
  part-append d (e ++ (f ++ (g ++ (h ++ (i ++ (j ++ (k ++ l))))))),
  part-append e (f ++ (g ++ (h ++ (i ++ (j ++ (k ++ l)))))),
  part-append f (g ++ (h ++ (i ++ (j ++ (k ++ l))))),
  part-append g (h ++ (i ++ (j ++ (k ++ l)))),
  part-append h (i ++ (j ++ (k ++ l))),
  part-append i (j ++ (k ++ l)),
  part-append j (k ++ l),
  part-append k l,
)

pub encoding_parts : (m : Module)
    → length (encoding_of m)
    ≡ 8 + (part (unless_empty TypeSection m.types) + part (unless_empty ImportSection m.imports)
    + part (unless_empty FunctionSection (map (λ func. func.ty) m.funcs))
    + part (unless_empty TableSection m.tables) + part (unless_empty MemorySection m.memories)
    + part (unless_empty GlobalSection m.globals) + part (unless_empty ExportSection m.exports)
    + part (map StartSection (option_to_list m.start)) + part (unless_empty ElementSection m.elems)
    + part (unless_empty CodeSection (map code_of m.funcs)) + part (unless_empty DataSection m.datas)
    + part (map CustomSection m.customs))
unfolding encoding_of sections_of part items
encoding_parts m =
    length-append preamble (flat_map section_bytes (sections_of m))
    ∙ ap (λ n. 8 + n) (part-append_twelve
    (unless_empty TypeSection m.types)
    (unless_empty ImportSection m.imports)
    (unless_empty FunctionSection (map (λ func. func.ty) m.funcs))
    (unless_empty TableSection m.tables)
    (unless_empty MemorySection m.memories)
    (unless_empty GlobalSection m.globals)
    (unless_empty ExportSection m.exports)
    (map StartSection (option_to_list m.start))
    (unless_empty ElementSection m.elems)
    (unless_empty CodeSection (map code_of m.funcs))
    (unless_empty DataSection m.datas)
    (map CustomSection m.customs))

-- ---- the sections that are vectors

-- how the items of each such section are written
pub record AreVectors : Type 0 where
  pub types : IsVectorOf TypeSection func_type_bytes
  pub imports : IsVectorOf ImportSection import_bytes
  pub functions : IsVectorOf FunctionSection u32_bytes
  pub tables : IsVectorOf TableSection table_type_bytes
  pub memories : IsVectorOf MemorySection limits_bytes
  pub globals : IsVectorOf GlobalSection global_bytes
  pub exports : IsVectorOf ExportSection export_bytes
  pub elems : IsVectorOf ElementSection elem_bytes
  pub codes : IsVectorOf CodeSection code_bytes
  pub datas : IsVectorOf DataSection data_bytes

pub vectors : AreVectors
unfolding content_bytes
vectors = record {
  types = λ xs. refl;
  imports = λ xs. refl;
  functions = λ xs. refl;
  tables = λ xs. refl;
  memories = λ xs. refl;
  globals = λ xs. refl;
  exports = λ xs. refl;
  elems = λ xs. refl;
  codes = λ xs. refl;
  datas = λ xs. refl;
}

-- the section of a list takes its items' bytes at least, and few more
part_least : {A : Type 0} (make : List A → Section) (write : A → List ℕ) → IsVectorOf make write → (xs : List A)
    → items write xs ≤ part (unless_empty make xs)
part_least make write is xs = omega (arith, part_is (unless_empty make xs), list_least make write is xs)

pub part_most : {A : Type 0} (make : List A → Section) (write : A → List ℕ) → IsVectorOf make write → (xs : List A)
    → part (unless_empty make xs) ≤ 11 + items write xs
part_most make write is xs = omega (arith, part_is (unless_empty make xs), list_most make write is xs)

-- an encoding is no shorter than the contents of its sections
pub encoding_least : (m : Module)
    → 8 + items func_type_bytes m.types + items import_bytes m.imports
    + items u32_bytes (map (λ func. func.ty) m.funcs) + items global_bytes m.globals + items elem_bytes m.elems
    + items code_bytes (map code_of m.funcs) + items data_bytes m.datas
    ≤ length (encoding_of m)
encoding_least m = omega (
  arith,
  encoding_parts m,
  part_least TypeSection func_type_bytes vectors.types m.types,
  part_least ImportSection import_bytes vectors.imports m.imports,
  part_least FunctionSection u32_bytes vectors.functions (map (λ func. func.ty) m.funcs),
  part_least GlobalSection global_bytes vectors.globals m.globals,
  part_least ElementSection elem_bytes vectors.elems m.elems,
  part_least CodeSection code_bytes vectors.codes (map code_of m.funcs),
  part_least DataSection data_bytes vectors.datas m.datas,
)
