-- A section takes at least its id off the bytes.
use Rattle.std.proofs.Common.{◌≡◌, ℕ, ◌<◌, ◌≤◌, List, [], ◌∷◌, length, take, drop, Option, Some, None, Bool, true, false, cond, refl, ap, sym, ◌∙◌, subst, arith, inl, inr, eq-eqb, ne_eqb, length-append, length-drop}
use Rattle.std.specs.Prelude.{nat_lt, option_map, option_and_then}
use Rattle.std.specs.List.{AllByRecursion}
use Rattle.std.proofs.lemmas.Bool.{cases_eq}
use Rattle.std.proofs.lemmas.Option.{same_Some, none-some, some_pair_parts}
use Rattle.leb_bytes.specs.Encoding.{IsReadBy}
use Rattle.leb_bytes.specs.Unsigned.{EncodesU32, first_u32}
use Rattle.wasm_syntax.specs.declared.forms.Form.{Form}
use Rattle.wasm_syntax.specs.Encoding.Combinators.{Reader, Rows, row_at, map_read, first_sized, first_vector, whole}
use Rattle.wasm_syntax.specs.Encoding.Readers.{first_indices, first_func_type, first_limits, first_table_type, first_import, first_global, first_export, first_elem, first_data, first_code}
use Rattle.wasm_syntax.specs.Encoding.Sections.{Section, CustomSection, TypeSection, ImportSection, FunctionSection, TableSection, MemorySection, GlobalSection, ExportSection, StartSection, ElementSection, CodeSection, DataSection}
use Rattle.wasm_syntax.specs.Encoding.ReadModules.{custom_of, section_rows, first_section}

abbrev Shortens : {A : Type 0} → Reader A → Type 0
Shortens {A} read = (bytes rest : List ℕ) (x : A) → read bytes ≡ Some (x, rest) → length rest ≤ length bytes

remade : {A B : Type 0} (make : A → B) (read : Reader A) → Shortens read → Shortens (map_read make read)
remade {A} {B} make read shortens bytes rest x e = go (read bytes) refl e
  where
    go : (o : Option (A × List ℕ)) → read bytes ≡ o
        → option_map {U = B × List ℕ} (λ (first : A × List ℕ). (make first.0, first.1)) o ≡ Some (x, rest)
        → length rest ≤ length bytes
    go None b f = absurd (none-some (x, rest) f)
    go (Some first) b f =
        subst (λ r. length r ≤ length bytes) (some_pair_parts (make first.0) x first.1 rest f).1
        (shortens bytes first.1 first.0 b)

module _ (is : IsReadBy EncodesU32 first_u32) where
  size_after : (bytes : List ℕ) (size : ℕ × List ℕ) → first_u32 bytes ≡ Some size → length size.1 ≤ length bytes
  size_after bytes size e =
      let f = is.found bytes size.1 size.0 e in
      omega (arith, ap length f.2, length-append f.0 size.1)

  sized : {A : Type 0} (f : List ℕ → Option A) → Shortens (first_sized f)
  sized {A} f bytes rest x e = go (first_u32 bytes) refl e
    where
      content : (size : ℕ × List ℕ) → length size.1 ≤ length bytes → (short : Bool) (o : Option A)
          → cond {A = Option (A × List ℕ)} short None (option_map (λ (y : A). (y, drop size.0 size.1)) o)
          ≡ Some (x, rest)
          → length rest ≤ length bytes
      content size within true o g = absurd (none-some (x, rest) g)
      content size within false None g = absurd (none-some (x, rest) g)
      content size within false (Some y) g =
          let left : length (drop size.0 size.1) ≤ length bytes = omega (arith, length-drop size.0 size.1) in
          subst (λ r. length r ≤ length bytes) (some_pair_parts y x (drop size.0 size.1) rest g).1 left

      go : (o : Option (ℕ × List ℕ)) → first_u32 bytes ≡ o
          → option_and_then (λ (size : ℕ × List ℕ). cond {A = Option (A × List ℕ)} (nat_lt (length size.1) size.0)
          None (option_map (λ (y : A). (y, drop size.0 size.1)) (f (take size.0 size.1)))) o ≡ Some (x, rest)
          → length rest ≤ length bytes
      go None b g = absurd (none-some (x, rest) g)
      go (Some size) b g =
          content size (size_after bytes size b) (nat_lt (length size.1) size.0) (f (take size.0 size.1)) g

  row : {A B : Type 0} (make : A → B) (f : List ℕ → Option A) → Shortens (map_read make (first_sized f))
  row make f = remade make (first_sized f) (sized f)

  rows_shorten : {A : Type 0} (rows : Rows A) → AllByRecursion (λ row. Shortens row.1) rows
      → (mark : ℕ) (read : Reader A) → row_at rows mark ≡ Some read → Shortens read
  rows_shorten [] all mark read e = absurd (none-some _ e)
  rows_shorten {A} (row ∷ rows) all mark read e = elim (cases_eq row.0 mark) [
    | inl same ↦
        let taken : Some row.1
        ≡ Some read = sym (ap (λ b. cond b (Some row.1) (row_at rows mark)) (eq-eqb row.0 mark same)) ∙ e in
        subst (λ (r : Reader A). Shortens r) (same_Some row.1 read taken) all.0
    | inr other ↦ rows_shorten rows all.1 mark read
        (sym (ap (λ b. cond b (Some row.1) (row_at rows mark)) (ne_eqb row.0 mark other)) ∙ e)
  ]

  pub section_shortens : (form : Form) (bytes rest : List ℕ) (section : Section)
      → first_section form bytes ≡ Some (section, rest) → length rest < length bytes
  unfolding first_section
  section_shortens form [] rest section e = absurd (none-some _ e)
  section_shortens form (mark ∷ bytes) rest section e = go (row_at (section_rows form) mark) refl e
    where
      all : AllByRecursion (λ (r : ℕ × Reader Section). Shortens r.1) (section_rows form)
      all = (
        row CustomSection custom_of,
        (
          row TypeSection (whole (first_vector first_func_type)),
          (
            row ImportSection (whole (first_vector first_import)),
            (
              row FunctionSection (whole first_indices),
              (
                row TableSection (whole (first_vector first_table_type)),
                (
                  row MemorySection (whole (first_vector first_limits)),
                  (
                    row GlobalSection (whole (first_vector (first_global form))),
                    (
                      row ExportSection (whole (first_vector first_export)),
                      (
                        row StartSection (whole first_u32),
                        (
                          row ElementSection (whole (first_vector (first_elem form))),
                          (
                            row CodeSection (whole (first_vector (first_code form))),
                            (
                              row DataSection (whole (first_vector (first_data form))),
                              tt,
                            ),
                          ),
                        ),
                      ),
                    ),
                  ),
                ),
              ),
            ),
          ),
        ),
      )

      go : (o : Option (Reader Section)) → row_at (section_rows form) mark ≡ o
          → option_and_then (λ (read : Reader Section). read bytes) o ≡ Some (section, rest)
          → length rest < length (mark ∷ bytes)
      go None b f = absurd (none-some _ f)
      go (Some read) b f =
          let fewer = rows_shorten (section_rows form) all mark read b bytes rest section f in
          omega (arith, fewer)
