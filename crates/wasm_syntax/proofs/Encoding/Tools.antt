-- What holds of the parts that grammars and their readers are made of.
use Rattle.std.proofs.Common.{◌≡◌, ℕ, cond, List, [], ◌∷◌, ◌++◌, Option, Some, refl, ap, sym, ◌∙◌, subst, append_assoc, inl, inr, eq-eqb, ne_eqb}
use Rattle.std.specs.Prelude.{option_map, option_and_then, nat_eq}
use Rattle.std.specs.List.{AllByRecursion}
use Rattle.std.proofs.lemmas.Bool.{cases_eq, eqb-true}
use Rattle.std.proofs.lemmas.Option.{none-some, some_pair_parts, same_Some}
use Rattle.base.proofs.Options.{map_some, and_then_some, cond_some}
use Rattle.leb_bytes.specs.Encoding.{IsReadBy}
use Rattle.leb_bytes.specs.Unsigned.{EncodesU32, first_u32}
use Rattle.wasm_syntax.specs.Encoding.Grammar.{Grammar, Exactly, Marked, ◌then◌}
use Rattle.wasm_syntax.specs.Encoding.Combinators.{Reader, always, map_read, first_then, first_exactly, by_mark, by_number, Rows, row_at}

-- ---- what is read, made into something else

pub as_read_is : {A B : Type 0} (E : Grammar A) (read : Reader A) (make : A → B) (back : B → A)
    → ((a : A) → back (make a) ≡ a) → ((b : B) → make (back b) ≡ b) → IsReadBy E read
    → IsReadBy (λ bytes b. E bytes (back b)) (map_read make read)
as_read_is {A} {B} E read make back there again is = record {
  found = λ input rest b e.
      let m = map_some (λ (first : A × List ℕ). (make first.0, first.1)) (read input) (b, rest) e in
      let parts = some_pair_parts (make m.0.0) b m.0.1 rest (ap Some m.2) in
      let f = is.found input m.0.1 m.0.0 m.1 in
      let same : m.0.0 ≡ back b = sym (there m.0.0) ∙ ap back parts.0 in
      (f.0, subst (λ a. E f.0 a) same f.1, f.2 ∙ ap (λ r. f.0 ++ r) parts.1);
  only =
      λ bytes rest b h.
      ap (option_map (λ (first : A × List ℕ). (make first.0, first.1))) (is.only bytes rest (back b) h)
      ∙ ap (λ x. Some (x, rest)) (again b);
}

-- ---- one after another

pub then_is : {A B : Type 0} (E : Grammar A) (F : Grammar B) (read : Reader A) (other : Reader B) → IsReadBy E read
    → IsReadBy F other → IsReadBy (E then F) (first_then read other)
then_is {A} {B} E F read other e-is f-is = record {
  found = λ input rest v e.
      let b = and_then_some (read input) (λ (first : A × List ℕ).
      option_map (λ (second : B × List ℕ). ((first.0, second.0), second.1)) (other first.1)) (v, rest) e in
      let m = map_some (λ (second : B × List ℕ). ((b.0.0, second.0), second.1)) (other b.0.1) (v, rest) b.2 in
      let one = e-is.found input b.0.1 b.0.0 b.1 in
      let two = f-is.found b.0.1 m.0.1 m.0.0 m.1 in
      let both : (E then F) (one.0 ++ two.0) (b.0.0, m.0.0) = (one.0, two.0, refl, one.1, two.1) in
      let parts : input ≡ (one.0 ++ two.0) ++ m.0.1 = one.2 ∙ ap (λ r. one.0 ++ r) two.2 ∙ sym (append_assoc one.0 two.0 m.0.1) in (
        one.0 ++ two.0,
        subst (λ (p : (A × B) × List ℕ). (E then F) (one.0 ++ two.0) p.0) m.2 both,
        subst (λ (p : (A × B) × List ℕ). input ≡ (one.0 ++ two.0) ++ p.1) m.2 parts,
      );
  only = λ bytes rest v h.
      ap (λ bs. first_then read other (bs ++ rest)) h.2
      ∙ ap (first_then read other) (append_assoc h.0 h.1 rest)
      ∙ ap (option_and_then (λ (first : A × List ℕ). option_map
      (λ (second : B × List ℕ). ((first.0, second.0), second.1)) (other first.1))) (e-is.only h.0 (h.1 ++ rest) v.0 h.3)
      ∙ ap (option_map (λ (second : B × List ℕ). ((v.0, second.0), second.1))) (f-is.only h.1 rest v.1 h.4);
}

-- ---- just these bytes

exactly_found : (word input rest : List ℕ) (it : Unit {0}) → first_exactly word input ≡ Some (it, rest)
    → input ≡ word ++ rest
exactly_found [] input rest it e = (some_pair_parts tt it input rest e).1
exactly_found (b ∷ word) [] rest it e = absurd (none-some _ e)
exactly_found (b ∷ word) (c ∷ input) rest it e =
    let g = cond_some (nat_eq b c) (first_exactly word input) (it, rest) e in
    let same : c ≡ b = sym (eqb-true b c g.0) in
    rw (same) (ap (λ r. b ∷ r) (exactly_found word input rest it g.1))

exactly_only : (word rest : List ℕ) → first_exactly word (word ++ rest) ≡ Some (tt, rest)
exactly_only [] rest = refl
exactly_only (b ∷ word) rest = rw (eq-eqb b b refl) (exactly_only word rest)

pub exactly_is : (word : List ℕ) → IsReadBy (Exactly word) (first_exactly word)
exactly_is word = record {
  found = λ input rest it e. (word, refl, exactly_found word input rest it e);
  only = λ bytes rest it h. ap (λ bs. first_exactly word (bs ++ rest)) h ∙ exactly_only word rest;
}

-- ---- by the first byte

-- a reader that is chosen at a mark finds what is encoded after it
abbrev pub FindsBehind : {A : Type 0} → Grammar A → ℕ → Reader A → Type 0
FindsBehind {A} E mark read =
    (input rest : List ℕ) (x : A) → read input ≡ Some (x, rest) → (bytes : List ℕ) × E (mark ∷ bytes) x × (input ≡ bytes ++ rest)

abbrev pub ChoosesWell : {A : Type 0} → Grammar A → (ℕ → Option (Reader A)) → Type 0
ChoosesWell {A} E choose = (mark : ℕ) (read : Reader A) → choose mark ≡ Some read → FindsBehind E mark read

pub by_mark_found : {A : Type 0} (E : Grammar A) (choose : ℕ → Option (Reader A)) → ChoosesWell E choose
    → (input rest : List ℕ) (x : A) → by_mark choose input ≡ Some (x, rest)
    → (bytes : List ℕ) × E bytes x × (input ≡ bytes ++ rest)
by_mark_found E choose well [] rest x e = absurd (none-some _ e)
by_mark_found {A} E choose well (mark ∷ input) rest x e =
    let b = and_then_some (choose mark) (λ (read : Reader A). read input) (x, rest) e in
    let f = well mark b.0 b.1 input rest x b.2 in
    (mark ∷ f.0, f.1, ap (λ r. mark ∷ r) f.2)

abbrev pub RowFinds : {A : Type 0} → Grammar A → ℕ × Reader A → Type 0
RowFinds E row = FindsBehind E row.0 row.1

pub rows_well : {A : Type 0} (E : Grammar A) (rows : Rows A) → AllByRecursion (RowFinds E) rows
    → ChoosesWell E (row_at rows)
rows_well E [] all mark read e = absurd (none-some _ e)
rows_well {A} E (row ∷ rows) all mark read e = elim (cases_eq row.0 mark) [
  | inl same ↦
      let taken : Some row.1 ≡ Some read =
      sym (ap (λ b. cond b (Some row.1) (row_at rows mark)) (ap (nat_eq row.0) (sym same) ∙ eq-eqb row.0 row.0 refl))
      ∙ e in
      subst (λ (r : Reader A). FindsBehind E mark r) (same_Some row.1 read taken) (subst (λ m. FindsBehind E m row.1) same all.0)
  | inr other ↦ rows_well E rows all.1 mark read (sym (ap (λ b. cond b (Some row.1) (row_at rows mark)) (ne_eqb row.0 mark other)) ∙ e)
]

pub done_finds : {A : Type 0} (E : Grammar A) (mark : ℕ) (x : A) → E (mark ∷ []) x → FindsBehind E mark (always x)
done_finds E mark x h input rest y e =
    let parts = some_pair_parts x y input rest e in
    ([], subst (λ z. E (mark ∷ []) z) parts.0 h, parts.1)

pub read_finds : {A B : Type 0} (E : Grammar B) (F : Grammar A) (mark : ℕ) (read : Reader A) (make : A → B)
    → IsReadBy F read → ((bytes : List ℕ) (a : A) → F bytes a → E (mark ∷ bytes) (make a))
    → FindsBehind E mark (map_read make read)
read_finds {A} E F mark read make is into input rest y e =
    let m = map_some (λ (first : A × List ℕ). (make first.0, first.1)) (read input) (y, rest) e in
    let parts = some_pair_parts (make m.0.0) y m.0.1 rest (ap Some m.2) in
    let f = is.found input m.0.1 m.0.0 m.1 in
    (f.0, subst (λ z. E (mark ∷ f.0) z) parts.0 (into f.0 m.0.0 f.1), f.2 ∙ ap (λ r. f.0 ++ r) parts.1)

pub plain_finds : {A : Type 0} (E F : Grammar A) (mark : ℕ) (read : Reader A)
    → IsReadBy F read → ((bytes : List ℕ) (a : A) → F bytes a → E (mark ∷ bytes) a) → FindsBehind E mark read
plain_finds E F mark read is into input rest y e =
    let f = is.found input rest y e in
    (f.0, into f.0 y f.1, f.2)

-- ---- by a number

-- a list of a number and bytes, in which the bytes are after any spelling of the number
abbrev pub Numbered : {A : Type 0} → Grammar A → Grammar A
Numbered E [] x = ⊥
Numbered E (number ∷ bytes) x = (spelled : List ℕ) → EncodesU32 spelled number → E (spelled ++ bytes) x

pub numbered_finds : {A : Type 0} (E : Grammar A) (mark : ℕ) (choose : ℕ → Option (Reader A)) → IsReadBy EncodesU32 first_u32
    → ChoosesWell (Numbered (λ bytes x. E (mark ∷ bytes) x)) choose → FindsBehind E mark (by_number choose)
numbered_finds {A} E mark choose u32 well input rest x e =
    let b = and_then_some (first_u32 input) (λ (number : ℕ × List ℕ). option_and_then (λ (read : Reader A). read number.1) (choose number.0)) (x, rest) e in
    let r = and_then_some (choose b.0.0) (λ (read : Reader A). read b.0.1) (x, rest) b.2 in
    let one = u32.found input b.0.1 b.0.0 b.1 in
    let two = well b.0.0 r.0 r.1 b.0.1 rest x r.2 in
    (one.0 ++ two.0, two.1 one.0 one.1, one.2 ∙ ap (λ bs. one.0 ++ bs) two.2 ∙ sym (append_assoc one.0 two.0 rest))

-- ---- what is encoded after a mark is read if its reader is chosen

pub done_only : {A : Type 0} (choose : ℕ → Option (Reader A)) (mark : ℕ) (x : A) → choose mark ≡ Some (always x)
    → (bytes rest : List ℕ) → bytes ≡ mark ∷ [] → by_mark choose (bytes ++ rest) ≡ Some (x, rest)
done_only {A} choose mark x chosen bytes rest h =
    ap (λ bs. by_mark choose (bs ++ rest)) h ∙ ap (option_and_then (λ (read : Reader A). read rest)) chosen

-- a reader that reads one value from its encodings, chosen at a mark
behind_only : {A B : Type 0} (choose : ℕ → Option (Reader B)) (mark : ℕ) (E : Grammar A) (read : Reader B) (a : A) (b : B) (rest : List ℕ)
    → choose mark ≡ Some read → ((bytes : List ℕ) → E bytes a → read (bytes ++ rest) ≡ Some (b, rest))
    → (bytes : List ℕ) → Marked mark E bytes a → by_mark choose (bytes ++ rest) ≡ Some (b, rest)
behind_only {A} {B} choose mark E read a b rest chosen only bytes h =
    ap (λ bs. by_mark choose (bs ++ rest)) h.1
    ∙ ap (option_and_then (λ (r : Reader B). r (h.0 ++ rest))) chosen
    ∙ only h.0 h.2

pub read_only : {A B : Type 0} (choose : ℕ → Option (Reader B)) (mark : ℕ) (F : Grammar A) (read : Reader A) (make : A → B)
    → choose mark ≡ Some (map_read make read) → IsReadBy F read
    → (bytes rest : List ℕ) (a : A) → Marked mark F bytes a → by_mark choose (bytes ++ rest) ≡ Some (make a, rest)
read_only {A} choose mark F read make chosen is bytes rest a h =
    behind_only choose mark F (map_read make read) a (make a) rest chosen
    (λ bytes h. ap (option_map (λ (first : A × List ℕ). (make first.0, first.1))) (is.only bytes rest a h)) bytes h

pub plain_only : {A : Type 0} (choose : ℕ → Option (Reader A)) (mark : ℕ) (F : Grammar A) (read : Reader A)
    → choose mark ≡ Some read → IsReadBy F read
    → (bytes rest : List ℕ) (a : A) → Marked mark F bytes a → by_mark choose (bytes ++ rest) ≡ Some (a, rest)
plain_only choose mark F read chosen is bytes rest a h =
    behind_only choose mark F read a a rest chosen (λ bytes h. is.only bytes rest a h) bytes h

pub numbered_only : {A B : Type 0} (choose numbered : ℕ → Option (Reader B)) (mark number : ℕ) (F : Grammar A) (read : Reader A) (make : A → B)
    → choose mark ≡ Some (by_number numbered) → numbered number ≡ Some (map_read make read)
    → IsReadBy EncodesU32 first_u32 → IsReadBy F read
    → (bytes rest : List ℕ) (a : A) → Marked mark (EncodesU32 then F) bytes (number, a) → by_mark choose (bytes ++ rest) ≡ Some (make a, rest)
numbered_only {A} {B} choose numbered mark number F read make chosen row u32 is bytes rest a h =
    behind_only choose mark (EncodesU32 then F) (by_number numbered) (number, a) (make a) rest chosen
    (λ bytes h.
    ap (λ bs. by_number numbered (bs ++ rest)) h.2
    ∙ ap (by_number numbered) (append_assoc h.0 h.1 rest)
    ∙ ap (option_and_then (λ (found : ℕ × List ℕ). option_and_then (λ (r : Reader B). r found.1) (numbered found.0))) (u32.only h.0 (h.1 ++ rest) number h.3)
    ∙ ap (option_and_then (λ (r : Reader B). r (h.1 ++ rest))) row
    ∙ ap (option_map (λ (first : A × List ℕ). (make first.0, first.1))) (is.only h.1 rest a h.4)) bytes h
