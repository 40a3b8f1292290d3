-- A module's encoding by its sections.
use Rattle.std.proofs.Common.{◌≡◌, ℕ, ◌+◌, List, [], ◌∷◌, ◌++◌, length, refl, ap, sym, ◌∙◌, append_assoc, append-nil, arith}
use Rattle.std.specs.Prelude.{Option, Some, None, map, flat_map, option_to_list}
use Rattle.std.proofs.lemmas.Grind.{flat_map-append}
use Rattle.std.proofs.lemmas.List.{length-append, length-map}
use Rattle.std.proofs.lemmas.List.Folds.{flat_map-map}
use Rattle.leb_bytes.specs.Unsigned.{u32_bytes}
use Rattle.base.specs.declared.marks.TheConstants.{SECTION_TYPE, SECTION_IMPORT, SECTION_FUNCTION, SECTION_TABLE, SECTION_MEMORY, SECTION_GLOBAL, SECTION_EXPORT, SECTION_ELEMENT, SECTION_CODE, SECTION_DATA}
use Rattle.wasm_encode.specs.Parts.{declarations_of, definitions_of}
use Rattle.wasm_encode.specs.Vectors.{start_section, vector_section}
use Rattle.wasm_syntax.specs.Encoding.Modules.{code_of, preamble}
use Rattle.wasm_syntax.specs.Encoding.Sections.{Section, CustomSection, TypeSection, ImportSection, FunctionSection, TableSection, MemorySection, GlobalSection, ExportSection, StartSection, ElementSection, CodeSection, DataSection}
use Rattle.wasm_syntax.specs.Encoding.Shortest.{code_bytes, content_bytes, data_bytes, elem_bytes, encoding_of, export_bytes, func_type_bytes, global_bytes, import_bytes, limits_bytes, section_bytes, sections_of, sized_bytes, table_type_bytes, unless_empty, vector_bytes}
use Rattle.wasm_syntax.specs.declared.modules.Func.{Func}
use Rattle.wasm_syntax.specs.declared.modules.Module.{Module}

-- the bytes of sections, one after another
abbrev all_bytes : List Section → List ℕ
all_bytes = flat_map section_bytes

-- the section of a list, if it is not empty
listed : {A : Type 0} (make : List A → Section) (id : ℕ) (write : A → List ℕ)
    → ((xs : List A) → section_bytes (make xs) ≡ id ∷ sized_bytes (vector_bytes write xs))
    → (xs : List A) → all_bytes (unless_empty make xs) ≡ vector_section id write xs
listed make id write is [] = refl
listed make id write is (x ∷ xs) = append-nil (section_bytes (make (x ∷ xs))) ∙ is (x ∷ xs)

-- what is written of a part of each item
of_parts : {A B : Type 0} (id : ℕ) (write : B → List ℕ) (part : A → B) (xs : List A)
    → vector_section id write (map part xs) ≡ vector_section id (λ x. write (part x)) xs
of_parts id write part [] = refl
of_parts id write part (x ∷ xs) =
    ap (λ items. id ∷ sized_bytes items)
    (ap (λ count. u32_bytes count ++ flat_map write (map part (x ∷ xs))) (length-map (x ∷ xs) part)
    ∙ ap (λ items. u32_bytes (length (x ∷ xs)) ++ items) (flat_map-map write part (x ∷ xs)))

start_listed : (start : Option ℕ) → all_bytes (map StartSection (option_to_list start)) ≡ start_section start
unfolding section_bytes content_bytes
start_listed None = refl
start_listed (Some func) = append-nil (section_bytes (StartSection func))

-- what is written of each section that is a vector
abbrev IsListed : {A : Type 0} → (List A → Section) → ℕ → (A → List ℕ) → Type 0
IsListed {A} make id write = (xs : List A) → all_bytes (unless_empty make xs) ≡ vector_section id write xs

record AreListed : Type 0 where
  types : IsListed TypeSection SECTION_TYPE func_type_bytes
  imports : IsListed ImportSection SECTION_IMPORT import_bytes
  functions : IsListed FunctionSection SECTION_FUNCTION u32_bytes
  tables : IsListed TableSection SECTION_TABLE table_type_bytes
  memories : IsListed MemorySection SECTION_MEMORY limits_bytes
  globals : IsListed GlobalSection SECTION_GLOBAL global_bytes
  exports : IsListed ExportSection SECTION_EXPORT export_bytes
  elems : IsListed ElementSection SECTION_ELEMENT elem_bytes
  codes : IsListed CodeSection SECTION_CODE code_bytes
  datas : IsListed DataSection SECTION_DATA data_bytes

all_listed : AreListed
unfolding section_bytes content_bytes
all_listed = record {
  types = listed TypeSection SECTION_TYPE func_type_bytes (λ xs. refl);
  imports = listed ImportSection SECTION_IMPORT import_bytes (λ xs. refl);
  functions = listed FunctionSection SECTION_FUNCTION u32_bytes (λ xs. refl);
  tables = listed TableSection SECTION_TABLE table_type_bytes (λ xs. refl);
  memories = listed MemorySection SECTION_MEMORY limits_bytes (λ xs. refl);
  globals = listed GlobalSection SECTION_GLOBAL global_bytes (λ xs. refl);
  exports = listed ExportSection SECTION_EXPORT export_bytes (λ xs. refl);
  elems = listed ElementSection SECTION_ELEMENT elem_bytes (λ xs. refl);
  codes = listed CodeSection SECTION_CODE code_bytes (λ xs. refl);
  datas = listed DataSection SECTION_DATA data_bytes (λ xs. refl);
}

-- what is written of each section that holds a part of each item
part_listed : {A B : Type 0} (make : List B → Section) (id : ℕ) (write : B → List ℕ) → IsListed make id write
    → (part : A → B) (xs : List A)
    → all_bytes (unless_empty make (map part xs)) ≡ vector_section id (λ x. write (part x)) xs
part_listed make id write is part xs = is (map part xs) ∙ of_parts id write part xs

-- sections in front of others
all_bytes-append : (xs ys : List Section) (a b : List ℕ) → all_bytes xs ≡ a → all_bytes ys ≡ b
    → all_bytes (xs ++ ys) ≡ a ++ b
all_bytes-append xs ys a b front rest =
    flat_map-append section_bytes xs ys ∙ ap (λ x. x ++ all_bytes ys) front ∙ ap (λ y. a ++ y) rest

regrouped : (a b c d e rest : List ℕ) → a ++ (b ++ (c ++ (d ++ (e ++ rest)))) ≡ (a ++ (b ++ (c ++ (d ++ e)))) ++ rest
regrouped a b c d e rest = sym (simp append_assoc)

-- the encoding in the parts in which it is written
pub encoding_parts : (m : Module) → encoding_of m ≡ preamble ++ (declarations_of m ++ definitions_of m)
unfolding encoding_of sections_of declarations_of definitions_of
encoding_parts m =
    ap (λ x. preamble ++ x)
    (all_bytes-append _ _ _ _ (all_listed.types m.types)
    (all_bytes-append _ _ _ _ (all_listed.imports m.imports)
    (all_bytes-append _ _ _ _ (part_listed FunctionSection SECTION_FUNCTION u32_bytes all_listed.functions (λ (func : Func). func.ty) m.funcs)
    (all_bytes-append _ _ _ _ (all_listed.tables m.tables)
    (all_bytes-append _ _ _ _ (all_listed.memories m.memories)
    (all_bytes-append _ _ _ _ (all_listed.globals m.globals)
    (all_bytes-append _ _ _ _ (all_listed.exports m.exports)
    (all_bytes-append _ _ _ _ (start_listed m.start)
    (all_bytes-append _ _ _ _ (all_listed.elems m.elems)
    (all_bytes-append _ _ _ _ (part_listed CodeSection SECTION_CODE code_bytes all_listed.codes code_of m.funcs)
    (all_bytes-append _ _ _ _ (all_listed.datas m.datas) (flat_map-map section_bytes CustomSection m.customs)))))))))))
    ∙ regrouped (vector_section SECTION_TYPE func_type_bytes m.types)
    (vector_section SECTION_IMPORT import_bytes m.imports)
    (vector_section SECTION_FUNCTION (λ func. u32_bytes func.ty) m.funcs)
    (vector_section SECTION_TABLE table_type_bytes m.tables)
    (vector_section SECTION_MEMORY limits_bytes m.memories) _)

-- what was appended for a list was appended for an equal one
pub of_equal : {A : Type 0} (write : List A → List ℕ) (out new : List ℕ) (xs ys : List A) → xs ≡ ys
    → new ≡ out ++ write xs → new ≡ out ++ write ys
of_equal write out new xs ys same h = h ∙ ap (λ zs. out ++ write zs) same

-- the second part, of seven pieces that were appended one after the other
pub definitions_appended : (m : Module) (out a b c d e f all : List ℕ)
    → a ≡ out ++ vector_section SECTION_GLOBAL global_bytes m.globals
    → b ≡ a ++ vector_section SECTION_EXPORT export_bytes m.exports
    → c ≡ b ++ start_section m.start
    → d ≡ c ++ vector_section SECTION_ELEMENT elem_bytes m.elems
    → e ≡ d ++ vector_section SECTION_CODE (λ func. code_bytes (code_of func)) m.funcs
    → f ≡ e ++ vector_section SECTION_DATA data_bytes m.datas
    → all ≡ f ++ flat_map (λ custom. section_bytes (CustomSection custom)) m.customs
    → all ≡ out ++ definitions_of m
unfolding definitions_of
definitions_appended m out a b c d e f all ha hb hc hd he hf h =
    h ∙ ap (λ x. x ++ flat_map (λ custom. section_bytes (CustomSection custom)) m.customs)
    (hf ∙ ap (λ x. x ++ vector_section SECTION_DATA data_bytes m.datas)
    (he ∙ ap (λ x. x ++ vector_section SECTION_CODE (λ func. code_bytes (code_of func)) m.funcs)
    (hd ∙ ap (λ x. x ++ vector_section SECTION_ELEMENT elem_bytes m.elems)
    (hc ∙ ap (λ x. x ++ start_section m.start)
    (hb ∙ ap (λ x. x ++ vector_section SECTION_EXPORT export_bytes m.exports) ha)))))
    ∙ simp append_assoc

-- the whole, of three pieces
pub encoding_appended : (m : Module) (out front all_bytes-append all : List ℕ) → front ≡ out ++ preamble
    → all_bytes-append ≡ front ++ declarations_of m
    → all ≡ all_bytes-append ++ definitions_of m → all ≡ out ++ encoding_of m
encoding_appended m out front all_bytes-append all h hd hf =
    hf ∙ ap (λ x. x ++ definitions_of m) (hd ∙ ap (λ x. x ++ declarations_of m) h)
    ∙ append_assoc (out ++ preamble) (declarations_of m) (definitions_of m)
    ∙ append_assoc out preamble (declarations_of m ++ definitions_of m)
    ∙ ap (λ x. out ++ x) (sym (encoding_parts m))

-- how long the encoding is, by its parts
pub encoding_length : (m : Module)
    → length (encoding_of m) ≡ 8 + (length (declarations_of m) + length (definitions_of m))
encoding_length m =
    omega (
      arith,
      ap length (encoding_parts m),
      length-append preamble (declarations_of m ++ definitions_of m),
      length-append (declarations_of m) (definitions_of m),
    )
