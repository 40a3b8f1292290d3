-- What a draft holds after sections in lawful order is what the sections hold: since each kind comes at most once,
-- its list may replace the one in the draft, which is empty.
use Rattle.std.proofs.Common.{◌≡◌, ℕ, ◌<◌, ◌≤◌, ◌≢◌, ◌⊎◌, List, [], ◌∷◌, ◌++◌, Option, Some, None, refl, ap, sym, ◌∙◌, inl, inr, append_assoc, append-nil, arith}
use Rattle.std.specs.Prelude.{flat_map, option_map, option_to_list}
use Rattle.std.proofs.lemmas.Bool.{cases_lt}
use Rattle.wasm_syntax.specs.Encoding.Sections.{Section, CustomSection, TypeSection, ImportSection, FunctionSection, TableSection, MemorySection, GlobalSection, ExportSection, StartSection, ElementSection, CodeSection, DataSection, id_of}
use Rattle.wasm_syntax.specs.Encoding.Modules.{AreInOrder, types_in, imports_in, functions_in, tables_in, memories_in, globals_in, exports_in, starts_in, elems_in, codes_in, datas_in, customs_in}
use Rattle.wasm_syntax.specs.Encoding.ReadModules.{first_of, funcs_of, module_of}
use Rattle.wasm_syntax.proofs.Encoding.Arrangements.{order_cases}
use Rattle.wasm_decode.specs.declared.draft.Draft.{Draft}
use Rattle.wasm_decode.specs.Drafts.{empty_draft, draft_with, draft_with_all, module_of_draft}

-- a section of this kind replaces the list, and a section of another kind leaves it
abbrev IsPart : {A : Type 0} → ℕ → (Draft → List A) → (Section → List A) → Type 0
IsPart id get held =
    (section : Section) (draft : Draft)
    → ((id_of section ≡ id) × (get (draft_with section draft) ≡ held section))
    ⊎ ((id_of section ≢ id) × (get (draft_with section draft) ≡ get draft) × (held section ≡ []))

-- if a section of the kind can no longer come
after : {A : Type 0} (id : ℕ) (get : Draft → List A) (held : Section → List A) → IsPart id get held → 0 < id
    → (last : ℕ) (sections : List Section) → id ≤ last → AreInOrder last sections
    → (draft : Draft) → (get (draft_with_all sections draft) ≡ get draft) × (flat_map held sections ≡ [])
after id get held part some last [] past order draft = (refl, refl)
after id get held part some last (section ∷ rest) past order draft =
    elim (order_cases last section rest order) [
      | inl custom ↦ go (λ (e : id_of section ≡ id). omega arith)
          (after id get held part some last rest past custom.1 (draft_with section draft))
      | inr other ↦ go (λ (e : id_of section ≡ id). omega arith)
          (after id get held part some (id_of section) rest (omega arith) other.1 (draft_with section draft))
    ]
  where
    go : (id_of section ≢ id)
        → (get (draft_with_all rest (draft_with section draft)) ≡ get (draft_with section draft))
        × (flat_map held rest ≡ [])
        → (get (draft_with_all rest (draft_with section draft)) ≡ get draft) × (held section ++ flat_map held rest ≡ [])
    go differs h = elim (part section draft) [
      | inl same ↦ absurd (differs same.0)
      | inr kept ↦ (h.0 ∙ kept.1, ap (λ items. items ++ flat_map held rest) kept.2 ∙ h.1)
    ]

-- if a section of the kind may still come
upto : {A : Type 0} (id : ℕ) (get : Draft → List A) (held : Section → List A) → IsPart id get held → 0 < id
    → (last : ℕ) (sections : List Section) → last < id → AreInOrder last sections
    → (draft : Draft) → get draft ≡ [] → get (draft_with_all sections draft) ≡ flat_map held sections
upto id get held part some last [] before order draft empty = empty
upto id get held part some last (section ∷ rest) before order draft empty =
    elim (part section draft) [
      | inl same ↦ elim (order_cases last section rest order) [
        | inl custom ↦ absurd (omega arith)
        | inr other ↦
            let h = after id get held part some (id_of section) rest (omega arith) other.1 (draft_with section draft) in
            h.0 ∙ same.1 ∙ sym (append-nil (held section)) ∙ sym (ap (λ items. held section ++ items) h.1)
      ]
      | inr kept ↦ elim (order_cases last section rest order) [
        | inl custom ↦ later kept.2
            (upto id get held part some last rest before custom.1 (draft_with section draft) (kept.1 ∙ empty))
        | inr other ↦ elim (cases_lt (id_of section) id) [
          | inl below ↦ later kept.2
              (upto id get held part some (id_of section) rest below other.1 (draft_with section draft) (kept.1 ∙ empty))
          | inr above ↦
              let h = after id get held part some (id_of section) rest above other.1 (draft_with section draft) in
              h.0 ∙ kept.1 ∙ empty ∙ sym h.1 ∙ sym (ap (λ items. items ++ flat_map held rest) kept.2)
        ]
      ]
    ]
  where
    later : held section ≡ [] → get (draft_with_all rest (draft_with section draft)) ≡ flat_map held rest
        → get (draft_with_all rest (draft_with section draft)) ≡ held section ++ flat_map held rest
    later none h = h ∙ sym (ap (λ items. items ++ flat_map held rest) none)

-- custom sections come one after another
customs : (sections : List Section) (draft : Draft)
    → (draft_with_all sections draft).parts.customs ≡ draft.parts.customs ++ flat_map customs_in sections
customs [] draft = sym (append-nil draft.parts.customs)
customs (section ∷ rest) draft =
    customs rest (draft_with section draft)
    ∙ ap (λ items. items ++ flat_map customs_in rest) (one section)
    ∙ append_assoc draft.parts.customs (customs_in section) (flat_map customs_in rest)
  where
    one : (s : Section) → (draft_with s draft).parts.customs ≡ draft.parts.customs ++ customs_in s
    one (CustomSection custom) = refl
    one other = sym (append-nil draft.parts.customs)

types : IsPart 1 (λ d. d.parts.types) types_in
types (TypeSection held) draft = inl (refl, refl)
types other draft = inr (λ e. omega arith, refl, refl)

imports : IsPart 2 (λ d. d.parts.imports) imports_in
imports (ImportSection held) draft = inl (refl, refl)
imports other draft = inr (λ e. omega arith, refl, refl)

functions : IsPart 3 (λ d. d.functions) functions_in
functions (FunctionSection held) draft = inl (refl, refl)
functions other draft = inr (λ e. omega arith, refl, refl)

tables : IsPart 4 (λ d. d.parts.tables) tables_in
tables (TableSection held) draft = inl (refl, refl)
tables other draft = inr (λ e. omega arith, refl, refl)

memories : IsPart 5 (λ d. d.parts.memories) memories_in
memories (MemorySection held) draft = inl (refl, refl)
memories other draft = inr (λ e. omega arith, refl, refl)

globals : IsPart 6 (λ d. d.parts.globals) globals_in
globals (GlobalSection held) draft = inl (refl, refl)
globals other draft = inr (λ e. omega arith, refl, refl)

exports : IsPart 7 (λ d. d.parts.exports) exports_in
exports (ExportSection held) draft = inl (refl, refl)
exports other draft = inr (λ e. omega arith, refl, refl)

starts : IsPart 8 (λ d. option_to_list d.parts.start) starts_in
starts (StartSection held) draft = inl (refl, refl)
starts other draft = inr (λ e. omega arith, refl, refl)

elems : IsPart 9 (λ d. d.parts.elems) elems_in
elems (ElementSection held) draft = inl (refl, refl)
elems other draft = inr (λ e. omega arith, refl, refl)

codes : IsPart 10 (λ d. d.codes) codes_in
codes (CodeSection held) draft = inl (refl, refl)
codes other draft = inr (λ e. omega arith, refl, refl)

datas : IsPart 11 (λ d. d.parts.datas) datas_in
datas (DataSection held) draft = inl (refl, refl)
datas other draft = inr (λ e. omega arith, refl, refl)

first_start : (start : Option ℕ) → first_of (option_to_list start) ≡ start
first_start None = refl
first_start (Some func) = refl

pub drafted : (sections : List Section) → AreInOrder 0 sections
    → module_of_draft (draft_with_all sections empty_draft) ≡ module_of sections
drafted sections order = λ i. option_map (λ funcs. record {
  types = held 1 (λ d. d.parts.types) types_in types (omega arith) refl i;
  imports = held 2 (λ d. d.parts.imports) imports_in imports (omega arith) refl i;
  funcs = funcs;
  tables = held 4 (λ d. d.parts.tables) tables_in tables (omega arith) refl i;
  memories = held 5 (λ d. d.parts.memories) memories_in memories (omega arith) refl i;
  globals = held 6 (λ d. d.parts.globals) globals_in globals (omega arith) refl i;
  exports = held 7 (λ d. d.parts.exports) exports_in exports (omega arith) refl i;
  start = start i;
  elems = held 9 (λ d. d.parts.elems) elems_in elems (omega arith) refl i;
  datas = held 11 (λ d. d.parts.datas) datas_in datas (omega arith) refl i;
  customs = customs sections empty_draft i;
}) (funcs_of (held 3 (λ d. d.functions) functions_in functions (omega arith) refl i)
    (held 10 (λ d. d.codes) codes_in codes (omega arith) refl i))
  where
    held : {A : Type 0} (id : ℕ) (get : Draft → List A) (held_in : Section → List A) → IsPart id get held_in → 0 < id
        → get empty_draft ≡ [] → get (draft_with_all sections empty_draft) ≡ flat_map held_in sections
    held id get held_in part some empty = upto id get held_in part some 0 sections some order empty_draft empty

    start : (draft_with_all sections empty_draft).parts.start ≡ first_of (flat_map starts_in sections)
    start =
        sym (first_start (draft_with_all sections empty_draft).parts.start)
        ∙ ap first_of (held 8 (λ d. option_to_list d.parts.start) starts_in starts (omega arith) refl)
