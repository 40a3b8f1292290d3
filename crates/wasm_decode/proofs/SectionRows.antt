-- What the rows of sections hold at the last ids, and past them.
use Rattle.std.proofs.Common.{◌≡◌, ℕ, ◌<◌, List, [], ◌∷◌, Option, Some, None, Bool, true, false, cond, nat_eq, refl, sym, ap, ◌∙◌, subst, arith}
use Rattle.std.specs.Prelude.{Result, option_and_then, nat_le, ◌&&◌}
use Rattle.std.proofs.lemmas.Bool.Decides.{nat_tests}
use Rattle.base.specs.declared.marks.TheConstants.{SECTION_ELEMENT, SECTION_CODE, SECTION_DATA}
use Rattle.base.proofs.Booleans.{and_parts}
use Rattle.wasm_syntax.specs.declared.forms.Form.{Form}
use Rattle.wasm_syntax.specs.Encoding.Combinators.{Reader, Rows, row_at, first_sized, first_vector, map_read, whole}
use Rattle.wasm_syntax.specs.Encoding.Readers.{first_code, first_elem}
use Rattle.wasm_syntax.specs.Encoding.ReadModules.{first_section, section_rows}
use Rattle.wasm_syntax.specs.Encoding.Sections.{Section, CodeSection, ElementSection}
use Rattle.leb_bytes.specs.declared.unread.Unread.{Unread}
use Rattle.leb_bytes.specs.ReadResults.{Gives}

-- ---- the last ids

abbrev elements : Form → Reader Section
elements form = map_read ElementSection (first_sized (whole (first_vector (first_elem form))))

abbrev codes : Form → Reader Section
codes form = map_read CodeSection (first_sized (whole (first_vector (first_code form))))

elements_at : (form : Form) (bytes : List ℕ) → first_section form (SECTION_ELEMENT ∷ bytes) ≡ elements form bytes
unfolding first_section
elements_at form bytes = refl

codes_at : (form : Form) (bytes : List ℕ) → first_section form (SECTION_CODE ∷ bytes) ≡ codes form bytes
unfolding first_section
codes_at form bytes = refl

-- what is read after the mark of a section
gives_after : {A : Type 0} (view : A → Section × List ℕ) (result : Result A Unread) (form : Form)
    (mark : ℕ) (read : Reader Section) → ((bytes : List ℕ) → first_section form (mark ∷ bytes) ≡ read bytes)
    → (id : ℕ) (bytes all : List ℕ) → all ≡ id ∷ bytes → id ≡ mark → Gives view result (read bytes)
    → Gives view result (first_section form all)
gives_after view result form mark read reads id bytes all are is gives =
    subst (Gives view result)
    (sym (ap (first_section form) (are ∙ ap (λ (n : ℕ). n ∷ bytes) is) ∙ reads bytes)) gives

pub gives_elements : {A : Type 0} (view : A → Section × List ℕ) (result : Result A Unread) (form : Form) (id : ℕ)
    (bytes all : List ℕ) → all ≡ id ∷ bytes → id ≡ SECTION_ELEMENT → Gives view result (elements form bytes)
    → Gives view result (first_section form all)
gives_elements view result form = gives_after view result form SECTION_ELEMENT (elements form) (elements_at form)

pub gives_codes : {A : Type 0} (view : A → Section × List ℕ) (result : Result A Unread) (form : Form) (id : ℕ)
    (bytes all : List ℕ) → all ≡ id ∷ bytes → id ≡ SECTION_CODE → Gives view result (codes form bytes)
    → Gives view result (first_section form all)
gives_codes view result form = gives_after view result form SECTION_CODE (codes form) (codes_at form)

-- ---- past them

abbrev are_within : {A : Type 0} → ℕ → Rows A → Bool
are_within most [] = true
are_within most (row ∷ rows) = nat_le row.0 most && are_within most rows

no_row : {A : Type 0} (rows : Rows A) (most mark : ℕ) → are_within most rows ≡ true → most < mark
    → row_at rows mark ≡ None
no_row [] most mark within high = refl
no_row (row ∷ rows) most mark within high =
    let parts = and_parts (nat_le row.0 most) (are_within most rows) within in
    let differs : nat_eq row.0 mark ≡ false = grind (arith, nat_tests, parts.0, high) in
    ap (λ (b : Bool). cond b (Some row.1) (row_at rows mark)) differs ∙ no_row rows most mark parts.1 high

pub no_section : (form : Form) (id : ℕ) (bytes all : List ℕ) → all ≡ id ∷ bytes → SECTION_DATA < id
    → first_section form all ≡ None
unfolding first_section
no_section form id bytes all are high =
    ap (first_section form) are
    ∙ ap (λ (choice : Option (Reader Section)). option_and_then (λ (read : Reader Section). read bytes) choice)
    (no_row (section_rows form) SECTION_DATA id refl high)
