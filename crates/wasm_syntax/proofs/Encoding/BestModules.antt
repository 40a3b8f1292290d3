-- The shortest encoding of a module is an encoding, and no encoding is shorter.
use Rattle.std.proofs.Common.{◌≡◌, ℕ, ◌+◌, ◌≤◌, cond, List, [], ◌∷◌, ◌++◌, length, map, refl, ap, sym, ◌∙◌, subst, inl, inr, arith}
use Rattle.std.specs.Prelude.{flat_map, nat_eq}
use Rattle.std.specs.List.{AllByRecursion}
use Rattle.std.proofs.lemmas.Bool.Decides.{eqb_tells}
use Rattle.std.proofs.lemmas.List.{length-append, append-nil}
use Rattle.std.proofs.lemmas.List.Concat.{flat_map-append}
use Rattle.wasm_syntax.specs.declared.forms.Form.{Form}
use Rattle.wasm_syntax.specs.declared.modules.Module.{Module}
use Rattle.wasm_syntax.specs.Encoding.Grammar.{Each}
use Rattle.wasm_syntax.specs.Encoding.Sections.{Section, CustomSection, TypeSection, ImportSection, FunctionSection, TableSection, MemorySection, GlobalSection, ExportSection, StartSection, ElementSection, CodeSection, DataSection, id_of, EncodesSection}
use Rattle.wasm_syntax.specs.Encoding.Modules.{preamble, AreInOrder, types_in, imports_in, functions_in, tables_in, memories_in, globals_in, exports_in, starts_in, elems_in, codes_in, datas_in, customs_in, Encodes}
use Rattle.wasm_syntax.specs.Encoding.Shortest.{section_bytes, unless_empty, sections_of, encoding_of}
use Rattle.wasm_syntax.proofs.Encoding.Numbers.{NumberLaws}
use Rattle.wasm_syntax.proofs.Encoding.BestSections.{Fits, section_encodes, section_fits, section_least, IsPart, types_part, imports_part, functions_part, tables_part, memories_part, globals_part, exports_part, starts_part, elems_part, codes_part, datas_part}
use Rattle.wasm_syntax.proofs.Encoding.Arrangements.{arranged_from, arranged_same, order_cases, sections_in_order, sections_hold}

pub all_append : {A : Type 0} (P : A → Type 0) (xs ys : List A) → AllByRecursion P xs → AllByRecursion P ys
    → AllByRecursion P (xs ++ ys)
all_append P [] ys h k = k
all_append P (x ∷ xs) ys h k = (h.0, all_append P xs ys h.1 k)

-- ---- the section of an id

-- no sections with this id come after the id, or after a greater one
gone : {A : Type 0} (id : ℕ) (build : List A → List Section) (part : Section → List A) → IsPart id build part
    → (last : ℕ) (sections : List Section) → id ≤ last → AreInOrder last sections → flat_map part sections ≡ []
gone id build part is last [] past h = refl
gone id build part is last (section ∷ rest) past h = elim (order_cases last section rest h) [
  | inl custom ↦ ap (λ xs. xs ++ flat_map part rest) (is.other section (λ e. omega (arith, is.positive, custom.0, e)))
      ∙ gone id build part is last rest past custom.1
  | inr more ↦ ap (λ xs. xs ++ flat_map part rest) (is.other section (λ e. omega (arith, more.0, e)))
      ∙ gone id build part is (id_of section) rest (omega (arith, more.0)) more.1
]

-- what the sections hold of the first one's kind, it holds alone
alone : {A : Type 0} (id : ℕ) (build : List A → List Section) (part : Section → List A) → IsPart id build part
    → (last : ℕ) (section : Section) (rest : List Section) → id_of section ≡ id → AreInOrder last (section ∷ rest)
    → flat_map part (section ∷ rest) ≡ part section
alone id build part is last section rest e h = elim (order_cases last section rest h) [
  | inl custom ↦ absurd (omega (arith, is.positive, custom.0, e))
  | inr more ↦ ap (λ xs. part section ++ xs) (gone id build part is (id_of section) rest (omega (arith, e)) more.1)
      ∙ append-nil (part section)
]

rest_in_order : (last : ℕ) (section : Section) (rest : List Section) → AreInOrder last (section ∷ rest)
    → (id : ℕ) × AreInOrder id rest
rest_in_order last section rest h = elim (order_cases last section rest h) [ inl custom ↦ (last, custom.1) | inr more ↦ (id_of section, more.1) ]

other_kind : {A : Type 0} (id : ℕ) (build : List A → List Section) (part : Section → List A) → IsPart id build part
    → (section : Section) (rest : List Section) → (id_of section ≡ id → ⊥)
    → flat_map part (section ∷ rest) ≡ flat_map part rest
other_kind id build part is section rest h = ap (λ xs. xs ++ flat_map part rest) (is.other section h)

-- what holds of each section holds of the one that is made
kept : {A : Type 0} (id : ℕ) (build : List A → List Section) (part : Section → List A) → IsPart id build part
    → (P : Section → Type 0) (last : ℕ) (sections : List Section) → AreInOrder last sections → AllByRecursion P sections
    → AllByRecursion P (build (flat_map part sections))
kept id build part is P last [] h all = subst (λ xs. AllByRecursion P xs) (sym is.none) tt
kept id build part is P last (section ∷ rest) h all = elim (eqb_tells (id_of section) id) [
  | inl e ↦
      let same = alone id build part is last section rest e.1 h in
      subst (λ xs. AllByRecursion P (build xs)) (sym same) (elim (is.mine section e.1) [
        | inl none ↦ subst (λ xs. AllByRecursion P xs) (sym none) tt
        | inr one ↦ subst (λ xs. AllByRecursion P xs) (sym one) (all.0, tt)
      ])
  | inr e ↦
      let order = rest_in_order last section rest h in
      subst (λ xs. AllByRecursion P (build xs)) (sym (other_kind id build part is section rest e.1)) (kept id build part is P order.0 rest order.1 all.1)
]

kept_customs : (P : Section → Type 0) (sections : List Section) → AllByRecursion P sections
    → AllByRecursion P (map CustomSection (flat_map customs_in sections))
kept_customs P [] all = tt
kept_customs P (CustomSection custom ∷ rest) all = (all.0, kept_customs P rest all.1)
kept_customs P (section ∷ rest) all = kept_customs P rest all.1

-- ---- lengths

cost : List Section → ℕ
cost sections = length (flat_map section_bytes sections)

-- the length of the sections of an id
share : ℕ → List Section → ℕ
share id [] = 0
share id (section ∷ rest) = cond (nat_eq (id_of section) id) (length (section_bytes section)) 0 + share id rest

share_no_more : {A : Type 0} (id : ℕ) (build : List A → List Section) (part : Section → List A) → IsPart id build part
    → (last : ℕ) (sections : List Section) → AreInOrder last sections
    → cost (build (flat_map part sections)) ≤ share id sections
unfolding cost share
share_no_more id build part is last [] h = rw (is.none) (omega arith)
share_no_more id build part is last (section ∷ rest) h = elim (eqb_tells (id_of section) id) [
  | inl e ↦ rw (alone id build part is last section rest e.1 h, e.0) (elim (is.mine section e.1) [
    | inl none ↦ rw (none) (omega arith)
    | inr one ↦ rw (one) (omega (arith, ap length (append-nil (section_bytes section))))
  ])
  | inr e ↦
      let order = rest_in_order last section rest h in
      rw (other_kind id build part is section rest e.1, e.0) (omega (arith, share_no_more id build part is order.0 rest order.1))
]

share_customs : (sections : List Section) → cost (map CustomSection (flat_map customs_in sections)) ≤ share 0 sections
unfolding cost share
share_customs [] = omega arith
share_customs (CustomSection custom ∷ rest) =
    omega (
      arith,
      length-append (section_bytes (CustomSection custom))
          (flat_map section_bytes (map CustomSection (flat_map customs_in rest))),
      share_customs rest,
    )
share_customs (section ∷ rest) = omega (arith, share_customs rest)

shares : (sections : List Section)
    → share 0 sections + share 1 sections + share 2 sections + share 3 sections + share 4 sections + share 5 sections + share 6 sections + share 7 sections
    + share 8 sections + share 9 sections + share 10 sections + share 11 sections ≡ cost sections
unfolding cost share
shares [] = refl
shares (CustomSection custom ∷ rest) =
    omega (arith, length-append (section_bytes (CustomSection custom)) (flat_map section_bytes rest), shares rest)
shares (section ∷ rest) =
    omega (arith, length-append (section_bytes section) (flat_map section_bytes rest), shares rest)

cost_front : (xs ys : List Section) (a b : ℕ) → cost xs ≤ a → cost ys ≤ b → cost (xs ++ ys) ≤ a + b
unfolding cost
cost_front xs ys a b first rest =
    rw (flat_map-append section_bytes xs ys) (omega (arith, length-append (flat_map section_bytes xs) (flat_map section_bytes ys), first, rest))

arranged_no_longer : (last : ℕ) (sections : List Section) → AreInOrder last sections
    → cost (arranged_from sections) ≤ cost sections
arranged_no_longer last sections h =
    let all : cost (arranged_from sections) ≤ share 1 sections + (share 2 sections
    + (share 3 sections + (share 4 sections + (share 5 sections + (share 6 sections + (share 7 sections
    + (share 8 sections + (share 9 sections + (share 10 sections + (share 11 sections + share 0 sections)))))))))) =
    cost_front _ _ _ _ (share_no_more 1 (unless_empty TypeSection) types_in types_part last sections h) (
    cost_front _ _ _ _ (share_no_more 2 (unless_empty ImportSection) imports_in imports_part last sections h) (
    cost_front _ _ _ _ (share_no_more 3 (unless_empty FunctionSection) functions_in functions_part last sections h) (
    cost_front _ _ _ _ (share_no_more 4 (unless_empty TableSection) tables_in tables_part last sections h) (
    cost_front _ _ _ _ (share_no_more 5 (unless_empty MemorySection) memories_in memories_part last sections h) (
    cost_front _ _ _ _ (share_no_more 6 (unless_empty GlobalSection) globals_in globals_part last sections h) (
    cost_front _ _ _ _ (share_no_more 7 (unless_empty ExportSection) exports_in exports_part last sections h) (
    cost_front _ _ _ _ (share_no_more 8 (map StartSection) starts_in starts_part last sections h) (
    cost_front _ _ _ _ (share_no_more 9 (unless_empty ElementSection) elems_in elems_part last sections h) (
    cost_front _ _ _ _ (share_no_more 10 (unless_empty CodeSection) codes_in codes_part last sections h) (
    cost_front _ _ _ _ (share_no_more 11 (unless_empty DataSection) datas_in datas_part last sections h) (
    share_customs sections))))))))))) in
    omega (arith, shares sections, all)

arranged_keep : (P : Section → Type 0) (last : ℕ) (sections : List Section) → AreInOrder last sections
    → AllByRecursion P sections → AllByRecursion P (arranged_from sections)
arranged_keep P last sections h all =
    all_append P _ _ (kept 1 (unless_empty TypeSection) types_in types_part P last sections h all) (
    all_append P _ _ (kept 2 (unless_empty ImportSection) imports_in imports_part P last sections h all) (
    all_append P _ _ (kept 3 (unless_empty FunctionSection) functions_in functions_part P last sections h all) (
    all_append P _ _ (kept 4 (unless_empty TableSection) tables_in tables_part P last sections h all) (
    all_append P _ _ (kept 5 (unless_empty MemorySection) memories_in memories_part P last sections h all) (
    all_append P _ _ (kept 6 (unless_empty GlobalSection) globals_in globals_part P last sections h all) (
    all_append P _ _ (kept 7 (unless_empty ExportSection) exports_in exports_part P last sections h all) (
    all_append P _ _ (kept 8 (map StartSection) starts_in starts_part P last sections h all) (
    all_append P _ _ (kept 9 (unless_empty ElementSection) elems_in elems_part P last sections h all) (
    all_append P _ _ (kept 10 (unless_empty CodeSection) codes_in codes_part P last sections h all) (
    all_append P _ _ (kept 11 (unless_empty DataSection) datas_in datas_part P last sections h all) (
    kept_customs P sections all)))))))))))

-- ---- the module

module _ (laws : NumberLaws) (form : Form) where
  each_encodes : (sections : List Section) → AllByRecursion (Fits laws form) sections
      → Each (EncodesSection form) (flat_map section_bytes sections) sections
  each_encodes [] all = refl
  each_encodes (section ∷ rest) all =
      (section_bytes section, flat_map section_bytes rest, refl, section_encodes laws form section all.0, each_encodes rest all.1)

  pub each_fits : (bytes : List ℕ) (sections : List Section) → Each (EncodesSection form) bytes sections
      → AllByRecursion (Fits laws form) sections
  each_fits bytes [] h = tt
  each_fits bytes (section ∷ rest) h = (section_fits laws form h.0 section h.3, each_fits h.1 rest h.4)

  each_least : (bytes : List ℕ) (sections : List Section) → Each (EncodesSection form) bytes sections
      → cost sections ≤ length bytes
  unfolding cost
  each_least bytes [] h = omega arith
  each_least bytes (section ∷ rest) h =
      omega (
        arith,
        ap length h.2,
        length-append h.0 h.1,
        length-append (section_bytes section) (flat_map section_bytes rest),
        section_least laws form h.0 section h.3,
        each_least h.1 rest h.4,
      )

  -- sections that fit are an encoding of their module
  pub fitting_encodes : (m : Module) → AllByRecursion (Fits laws form) (sections_of m) → Encodes form (encoding_of m) m
  unfolding encoding_of
  fitting_encodes m all = record {
    sections = sections_of m;
    encoded = record {
      behind = flat_map section_bytes (sections_of m);
      begins = refl;
      each = each_encodes (sections_of m) all;
      in_order = sections_in_order m;
    };
    hold = sections_hold m;
  }

  -- if a module has an encoding, the shortest one is an encoding of it
  pub shortest_encodes : (bytes : List ℕ) (m : Module) → Encodes form bytes m → Encodes form (encoding_of m) m
  shortest_encodes bytes m h =
      let all = each_fits h.encoded.behind h.sections h.encoded.each in
      let kept_all = arranged_keep (Fits laws form) 0 h.sections h.encoded.in_order all in
      fitting_encodes m (subst (λ sections. AllByRecursion (Fits laws form) sections) (sym (arranged_same m h.sections h.hold)) kept_all)

  pub shortest_least : (bytes : List ℕ) (m : Module) → Encodes form bytes m → length (encoding_of m) ≤ length bytes
  unfolding cost encoding_of
  shortest_least bytes m h =
      omega (
        arith,
        ap length h.encoded.begins,
        length-append preamble h.encoded.behind,
        length-append preamble (flat_map section_bytes (sections_of m)),
        ap cost (arranged_same m h.sections h.hold),
        arranged_no_longer 0 h.sections h.encoded.in_order,
        each_least h.encoded.behind h.sections h.encoded.each,
      )
