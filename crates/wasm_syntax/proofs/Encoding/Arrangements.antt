-- The sections that a module is written in, and those that it was read from.
use Rattle.std.proofs.Common.{◌≡◌, ℕ, ◌<◌, ◌≤◌, ◌⊎◌, List, [], ◌∷◌, ◌++◌, map, Option, Some, None, refl, ap, sym, ◌∙◌, inl, inr, arith}
use Rattle.std.specs.Prelude.{flat_map, option_to_list}
use Rattle.std.proofs.lemmas.List.{append-nil}
use Rattle.std.proofs.lemmas.Grind.{flat_map-append}
use Rattle.wasm_syntax.specs.declared.signatures.FuncType.{FuncType}
use Rattle.wasm_syntax.specs.declared.signatures.Limits.{Limits}
use Rattle.wasm_syntax.specs.declared.modules.Import.{Import}
use Rattle.wasm_syntax.specs.declared.modules.Export.{Export}
use Rattle.wasm_syntax.specs.declared.modules.Global.{Global}
use Rattle.wasm_syntax.specs.declared.modules.ElemSeg.{ElemSeg}
use Rattle.wasm_syntax.specs.declared.modules.DataSeg.{DataSeg}
use Rattle.wasm_syntax.specs.declared.modules.Custom.{Custom}
use Rattle.wasm_syntax.specs.declared.modules.Module.{Module}
use Rattle.wasm_syntax.specs.Encoding.Sections.{Code, Section, CustomSection, TypeSection, ImportSection, FunctionSection, TableSection, MemorySection, GlobalSection, ExportSection, StartSection, ElementSection, CodeSection, DataSection, id_of}
use Rattle.wasm_syntax.specs.Encoding.Modules.{AreInOrder, types_in, imports_in, functions_in, tables_in, memories_in, globals_in, exports_in, starts_in, elems_in, codes_in, datas_in, customs_in, code_of, AreSectionsOf}
use Rattle.wasm_syntax.specs.Encoding.Shortest.{unless_empty, sections_of}
use Rattle.wasm_syntax.specs.Encoding.ReadModules.{last_after}
use Rattle.wasm_syntax.proofs.Encoding.Order.{behind_order}

-- the sections of such lists
abbrev pub arranged : (types : List FuncType) (imports : List Import) (functions : List ℕ) (tables memories : List Limits)
    (globals : List Global) (exports : List Export) (starts : List ℕ) (elems : List ElemSeg) (codes : List Code)
    (datas : List DataSeg) (customs : List Custom) → List Section
arranged types imports functions tables memories globals exports starts elems codes datas customs =
    unless_empty TypeSection types ++ (unless_empty ImportSection imports ++ (unless_empty FunctionSection functions
    ++ (unless_empty TableSection tables ++ (unless_empty MemorySection memories ++ (unless_empty GlobalSection globals
    ++ (unless_empty ExportSection exports ++ (map StartSection starts ++ (unless_empty ElementSection elems
    ++ (unless_empty CodeSection codes ++ (unless_empty DataSection datas ++ map CustomSection customs))))))))))

pub arranged_of : (m : Module)
    → sections_of m ≡ arranged m.types m.imports (map (λ func. func.ty) m.funcs) m.tables m.memories m.globals m.exports
    (option_to_list m.start) m.elems (map code_of m.funcs) m.datas m.customs
unfolding sections_of
arranged_of m = refl

abbrev pub arranged_from : List Section → List Section
arranged_from sections =
    arranged (flat_map types_in sections) (flat_map imports_in sections) (flat_map functions_in sections)
    (flat_map tables_in sections) (flat_map memories_in sections) (flat_map globals_in sections)
    (flat_map exports_in sections) (flat_map starts_in sections) (flat_map elems_in sections)
    (flat_map codes_in sections) (flat_map datas_in sections) (flat_map customs_in sections)

pub arranged_same : (m : Module) (sections : List Section) → AreSectionsOf m sections
    → sections_of m ≡ arranged_from sections
arranged_same m sections h =
    arranged_of m
    ∙ (λ i. arranged (h.types i) (h.imports i) (h.functions i) (h.tables i) (h.memories i) (h.globals i) (h.exports i)
    (h.start i) (h.elems i) (h.codes i) (h.datas i) (h.customs i))

-- ---- order

pub order_cases : (last : ℕ) (section : Section) (rest : List Section) → AreInOrder last (section ∷ rest)
    → ((id_of section ≡ 0) × AreInOrder last rest) ⊎ ((last < id_of section) × AreInOrder (id_of section) rest)
order_cases last (CustomSection custom) rest h = inl (refl, h)
order_cases last section rest h = inr h

relax : (low high : ℕ) (sections : List Section) → low ≤ high → AreInOrder high sections → AreInOrder low sections
relax low high [] le h = tt
relax low high (CustomSection custom ∷ rest) le h = relax low high rest le h
relax low high (section ∷ rest) le h = (omega (arith, h.0), h.1)

order_list : {A : Type 0} (last id : ℕ) (make : List A → Section)
    → ((xs : List A) → last_after last (make xs) ≡ Some id) → last ≤ id
    → (xs : List A) (rest : List Section) → AreInOrder id rest → AreInOrder last (unless_empty make xs ++ rest)
order_list last id make behind le [] rest h = relax last id rest le h
order_list last id make behind le (x ∷ xs) rest h = behind_order last id (make (x ∷ xs)) rest (behind (x ∷ xs)) h

order_start : (start : Option ℕ) (rest : List Section) → AreInOrder 8 rest
    → AreInOrder 7 (map StartSection (option_to_list start) ++ rest)
order_start None rest h = relax 7 8 rest (omega arith) h
order_start (Some n) rest h = (omega arith, h)

order_customs : (last : ℕ) (customs : List Custom) → AreInOrder last (map CustomSection customs)
order_customs last [] = tt
order_customs last (custom ∷ customs) = order_customs last customs

pub sections_in_order : (m : Module) → AreInOrder 0 (sections_of m)
unfolding sections_of
sections_in_order m =
    order_list 0 1 TypeSection (λ xs. refl) (omega arith) m.types _
    (order_list 1 2 ImportSection (λ xs. refl) (omega arith) m.imports _
    (order_list 2 3 FunctionSection (λ xs. refl) (omega arith) (map (λ func. func.ty) m.funcs) _
    (order_list 3 4 TableSection (λ xs. refl) (omega arith) m.tables _
    (order_list 4 5 MemorySection (λ xs. refl) (omega arith) m.memories _
    (order_list 5 6 GlobalSection (λ xs. refl) (omega arith) m.globals _
    (order_list 6 7 ExportSection (λ xs. refl) (omega arith) m.exports _
    (order_start m.start _
    (order_list 8 9 ElementSection (λ xs. refl) (omega arith) m.elems _
    (order_list 9 10 CodeSection (λ xs. refl) (omega arith) (map code_of m.funcs) _
    (order_list 10 11 DataSection (λ xs. refl) (omega arith) m.datas _
    (order_customs 11 m.customs)))))))))))

-- ---- what the sections of a module hold

-- a part of sections that empty sections do not have
abbrev HasNoneInEmpty : {A : Type 0} → (Section → List A) → Type 0
HasNoneInEmpty {A} part =
    (part (TypeSection []) ≡ []) × (part (ImportSection []) ≡ []) × (part (FunctionSection []) ≡ [])
    × (part (TableSection []) ≡ []) × (part (MemorySection []) ≡ []) × (part (GlobalSection []) ≡ [])
    × (part (ExportSection []) ≡ []) × (part (ElementSection []) ≡ []) × (part (CodeSection []) ≡ [])
    × (part (DataSection []) ≡ [])

-- the section of a list has the list's items even if the list is empty
of_list : {A B : Type 0} (part : Section → List A) (make : List B → Section) → part (make []) ≡ []
    → (xs : List B) (rest : List Section) (others : List A) → flat_map part rest ≡ others
    → flat_map part (unless_empty make xs ++ rest) ≡ part (make xs) ++ others
of_list part make none [] rest others is = is ∙ sym (ap (λ ys. ys ++ others) none)
of_list part make none (x ∷ xs) rest others is = ap (λ ys. part (make (x ∷ xs)) ++ ys) is

of_start : {A : Type 0} (part : Section → List A) (start : Option ℕ) (starts : List A)
    → flat_map part (map StartSection (option_to_list start)) ≡ starts → (rest : List Section) (others : List A)
    → flat_map part rest ≡ others → flat_map part (map StartSection (option_to_list start) ++ rest) ≡ starts ++ others
of_start part start starts here rest others is =
    flat_map-append part (map StartSection (option_to_list start)) rest ∙ ap (λ ys. ys ++ flat_map part rest) here
    ∙ ap (λ ys. starts ++ ys) is

no_starts : {A : Type 0} (part : Section → List A) → ((n : ℕ) → part (StartSection n) ≡ [])
    → (start : Option ℕ) → flat_map part (map StartSection (option_to_list start)) ≡ []
no_starts part none None = refl
no_starts part none (Some n) = ap (λ ys. ys ++ []) (none n)

all_starts : (start : Option ℕ) → flat_map starts_in (map StartSection (option_to_list start)) ≡ option_to_list start
all_starts None = refl
all_starts (Some n) = refl

no_customs : {A : Type 0} (part : Section → List A) → ((c : Custom) → part (CustomSection c) ≡ [])
    → (customs : List Custom) → flat_map part (map CustomSection customs) ≡ []
no_customs part none [] = refl
no_customs part none (c ∷ customs) =
    ap (λ ys. ys ++ flat_map part (map CustomSection customs)) (none c) ∙ no_customs part none customs

all_customs : (customs : List Custom) → flat_map customs_in (map CustomSection customs) ≡ customs
all_customs [] = refl
all_customs (c ∷ customs) = ap (λ (cs : List Custom). c ∷ cs) (all_customs customs)

-- what all sections of a module have of a part, if the start section and the custom ones have these
abbrev parts_in : {A : Type 0} → (Section → List A) → Module → List A → List A → List A
parts_in {A} part m starts customs =
    part (TypeSection m.types)
    ++ (part (ImportSection m.imports)
    ++ (part (FunctionSection (map (λ func. func.ty) m.funcs))
    ++ (part (TableSection m.tables)
    ++ (part (MemorySection m.memories)
    ++ (part (GlobalSection m.globals)
    ++ (part (ExportSection m.exports)
    ++ (starts
    ++ (part (ElementSection m.elems)
    ++ (part (CodeSection (map code_of m.funcs))
    ++ (part (DataSection m.datas)
    ++ customs))))))))))

parts_of : {A : Type 0} (part : Section → List A) → HasNoneInEmpty part → (m : Module) (starts customs : List A)
    → flat_map part (map StartSection (option_to_list m.start)) ≡ starts
    → flat_map part (map CustomSection m.customs) ≡ customs
    → flat_map part (sections_of m) ≡ parts_in part m starts customs
unfolding sections_of
parts_of part none m starts customs starts-are customs-are =
    of_list part TypeSection none.0 m.types _ _
    (of_list part ImportSection none.1 m.imports _ _
    (of_list part FunctionSection none.2 (map (λ func. func.ty) m.funcs) _ _
    (of_list part TableSection none.3 m.tables _ _
    (of_list part MemorySection none.4 m.memories _ _
    (of_list part GlobalSection none.5 m.globals _ _
    (of_list part ExportSection none.6 m.exports _ _
    (of_start part m.start starts starts-are _ _
    (of_list part ElementSection none.7 m.elems _ _
    (of_list part CodeSection none.8 (map code_of m.funcs) _ _
    (of_list part DataSection none.9 m.datas _ _
    customs-are))))))))))

-- a part that neither the start section nor a custom one has
plain_part : {A : Type 0} (part : Section → List A) → HasNoneInEmpty part → ((n : ℕ) → part (StartSection n) ≡ [])
    → ((c : Custom) → part (CustomSection c) ≡ []) → (m : Module) (xs : List A) → parts_in part m [] [] ≡ xs ++ []
    → xs ≡ flat_map part (sections_of m)
plain_part part none starts customs m xs is =
    sym (parts_of part none m [] [] (no_starts part starts m.start) (no_customs part customs m.customs)
    ∙ is ∙ append-nil xs)

pub sections_hold : (m : Module) → AreSectionsOf m (sections_of m)
sections_hold m = record {
  types = plain_part types_in (refl, refl, refl, refl, refl, refl, refl, refl, refl, refl) (λ n. refl) (λ c. refl) m
      m.types refl;
  imports = plain_part imports_in (refl, refl, refl, refl, refl, refl, refl, refl, refl, refl) (λ n. refl) (λ c. refl) m
      m.imports refl;
  functions = plain_part functions_in (refl, refl, refl, refl, refl, refl, refl, refl, refl, refl) (λ n. refl) (λ c. refl) m
      (map (λ func. func.ty) m.funcs) refl;
  codes = plain_part codes_in (refl, refl, refl, refl, refl, refl, refl, refl, refl, refl) (λ n. refl) (λ c. refl) m
      (map code_of m.funcs) refl;
  tables = plain_part tables_in (refl, refl, refl, refl, refl, refl, refl, refl, refl, refl) (λ n. refl) (λ c. refl) m
      m.tables refl;
  memories = plain_part memories_in (refl, refl, refl, refl, refl, refl, refl, refl, refl, refl) (λ n. refl) (λ c. refl) m
      m.memories refl;
  globals = plain_part globals_in (refl, refl, refl, refl, refl, refl, refl, refl, refl, refl) (λ n. refl) (λ c. refl) m
      m.globals refl;
  exports = plain_part exports_in (refl, refl, refl, refl, refl, refl, refl, refl, refl, refl) (λ n. refl) (λ c. refl) m
      m.exports refl;
  start = sym (parts_of starts_in (refl, refl, refl, refl, refl, refl, refl, refl, refl, refl) m (option_to_list m.start) []
      (all_starts m.start) (no_customs starts_in (λ c. refl) m.customs) ∙ append-nil (option_to_list m.start));
  elems = plain_part elems_in (refl, refl, refl, refl, refl, refl, refl, refl, refl, refl) (λ n. refl) (λ c. refl) m
      m.elems refl;
  datas = plain_part datas_in (refl, refl, refl, refl, refl, refl, refl, refl, refl, refl) (λ n. refl) (λ c. refl) m
      m.datas refl;
  customs = sym (parts_of customs_in (refl, refl, refl, refl, refl, refl, refl, refl, refl, refl) m [] m.customs
      (no_starts customs_in (λ n. refl) m.start) (all_customs m.customs));
}
