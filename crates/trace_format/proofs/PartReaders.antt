-- Readers of what has one encoding: numbers, parts one after another, options, lists, bytes.
use Rattle.std.proofs.Common.{◌≡◌, ℕ, ◌+◌, ◌<◌, ◌≤◌, ◌^◌, false, cond, List, [], ◌∷◌, ◌++◌, length, take, drop, Option, Some, None, refl, ap, sym, ◌∙◌, subst, append_assoc, eq-eqb, arith}
use Rattle.std.specs.Prelude.{flat_map, nat_eq, nat_lt, option_and_then, IfSome}
use Rattle.std.specs.List.{AllByRecursion}
use Rattle.std.proofs.lemmas.Bool.{eqb-true, le-ltb, ltb-false}
use Rattle.std.proofs.lemmas.Bool.Decides.{nat_tests}
use Rattle.std.proofs.lemmas.List.{take_at, drop_at, take-append-drop, length-append, length-take}
use Rattle.std.proofs.lemmas.Option.{some_pair_parts}
use Rattle.base.proofs.Options.{and_then_some, cond_none_some, cond_some}
use Rattle.leb_bytes.specs.Encoding.{IsReadBy}
use Rattle.leb_bytes.specs.Unsigned.{first_u32, u32_bytes}
use Rattle.wasm_syntax.specs.Encoding.Combinators.{Reader, by_mark, first_items, first_then, map_read, row_at}
use Rattle.wasm_syntax.specs.Encoding.Encodable.{FitsU32}
use Rattle.wasm_syntax.specs.Encoding.Grammar.{Each, Grammar, ◌then◌}
use Rattle.wasm_syntax.specs.Encoding.Readers.{first_raw}
use Rattle.wasm_syntax.specs.Encoding.Shortest.{sized_bytes, vector_bytes}
use Rattle.wasm_syntax.proofs.Encoding.Lists.{items_found, items_only}
use Rattle.wasm_syntax.proofs.Encoding.Tools.{FindsBehind, by_mark_found, done_finds, done_only, read_finds, read_only, rows_well, then_is}
use Rattle.trace_bytes.specs.declared.tags.TheConstants.{OPTION_NONE, OPTION_SOME}
use Rattle.trace_bytes.specs.Spelling.{option_bytes}
use Rattle.trace_format.specs.Laws.{NumberLaws, Spells}
use Rattle.trace_format.specs.Reading.{first_bytes, first_counted, first_number, first_option, first_some, if_shortest, option_rows}

-- a reader of a grammar reads an equivalent grammar
pub same_grammar : {A : Type 0} (E F : Grammar A) (read : Reader A)
    → ((bytes : List ℕ) (x : A) → E bytes x → F bytes x) → ((bytes : List ℕ) (x : A) → F bytes x → E bytes x)
    → IsReadBy E read → IsReadBy F read
same_grammar E F read there back is = record {
  found = λ input rest x e. let f = is.found input rest x e in (f.0, there f.0 x f.1, f.2);
  only = λ bytes rest x h. is.only bytes rest x (back bytes x h);
}

-- ---- one after another

pub then_reads : {A B : Type 0} (F : A → Type 0) (s : A → List ℕ) (G : B → Type 0) (t : B → List ℕ)
    (read : Reader A) (other : Reader B) → IsReadBy (Spells F s) read → IsReadBy (Spells G t) other
    → IsReadBy (Spells (λ (p : A × B). F p.0 × G p.1) (λ (p : A × B). s p.0 ++ t p.1)) (first_then read other)
then_reads {A} {B} F s G t read other is also =
    same_grammar (Spells F s then Spells G t) (Spells (λ (p : A × B). F p.0 × G p.1) (λ (p : A × B). s p.0 ++ t p.1))
    (first_then read other)
    (λ bytes p h. record {
      fits = (h.3.fits, h.4.fits);
      spelled = h.2 ∙ ap (λ r. r ++ h.1) h.3.spelled ∙ ap (λ r. s p.0 ++ r) h.4.spelled;
    })
    (λ bytes p h. (
      s p.0,
      t p.1,
      h.spelled,
      record { fits = h.fits.0; spelled = refl },
      record { fits = h.fits.1; spelled = refl },
    ))
    (then_is (Spells F s) (Spells G t) read other is also)

-- ---- after a mark

pub row_finds : {A B : Type 0} (G : B → Type 0) (t : B → List ℕ) (F : A → Type 0) (s : A → List ℕ) (mark : ℕ)
    (read : Reader A) (make : A → B) → IsReadBy (Spells F s) read
    → ((x : A) → F x → G (make x)) → ((x : A) → t (make x) ≡ mark ∷ s x)
    → FindsBehind (Spells G t) mark (map_read make read)
row_finds G t F s mark read make is fits spelled =
    read_finds (Spells G t) (Spells F s) mark read make is
    (λ bytes x h. record { fits = fits x h.fits; spelled = ap (λ r. mark ∷ r) h.spelled ∙ sym (spelled x) })

pub row_only : {A B : Type 0} (choose : ℕ → Option (Reader B)) (F : A → Type 0) (s : A → List ℕ) (mark : ℕ)
    (read : Reader A) (make : A → B) → choose mark ≡ Some (map_read make read) → IsReadBy (Spells F s) read
    → (bytes rest : List ℕ) (x : A) → F x → bytes ≡ mark ∷ s x → by_mark choose (bytes ++ rest) ≡ Some (make x, rest)
row_only choose F s mark read make chosen is bytes rest x fits spelled =
    read_only choose mark (Spells F s) read make chosen is bytes rest x
    (s x, spelled, record { fits = fits; spelled = refl })

-- ---- options

module _ {A : Type 0} (F : A → Type 0) (s : A → List ℕ) (read : Reader A) (is : IsReadBy (Spells F s) read) where
  option_only : (bytes rest : List ℕ) (o : Option A) → IfSome o F → bytes ≡ option_bytes s o
      → first_option read (bytes ++ rest) ≡ Some (o, rest)
  option_only bytes rest None fits h = done_only (row_at (option_rows read)) OPTION_NONE None refl bytes rest h
  option_only bytes rest (Some x) fits h =
      row_only (row_at (option_rows read)) F s OPTION_SOME read Some refl is bytes rest x fits h

  pub option_reads : IsReadBy (Spells (λ (o : Option A). IfSome o F) (option_bytes s)) (first_option read)
  option_reads =
      let E : Grammar (Option A) = Spells (λ (o : Option A). IfSome o F) (option_bytes s) in
      record {
        found = by_mark_found E (row_at (option_rows read)) (rows_well E (option_rows read) (
          done_finds E OPTION_NONE None (record { fits = tt; spelled = refl }),
          (
            row_finds (λ (o : Option A). IfSome o F) (option_bytes s) F s OPTION_SOME read Some is (λ x fits. fits) (λ x. refl),
            tt,
          ),
        ));
        only = λ bytes rest o h. option_only bytes rest o h.fits h.spelled;
      }

-- ---- items one after another

module _ {A : Type 0} (F : A → Type 0) (s : A → List ℕ) where
  pub each_spelled : (xs : List A) (bytes : List ℕ) → Each (Spells F s) bytes xs
      → AllByRecursion F xs × (bytes ≡ flat_map s xs)
  each_spelled [] bytes h = (tt, h)
  each_spelled (x ∷ xs) bytes h =
      let others = each_spelled xs h.1 h.4 in (
        (h.3.fits, others.0),
        h.2 ∙ ap (λ r. r ++ h.1) h.3.spelled ∙ ap (λ r. s x ++ r) others.1,
      )

  pub spelled_each : (xs : List A) → AllByRecursion F xs → Each (Spells F s) (flat_map s xs) xs
  spelled_each [] fit = refl
  spelled_each (x ∷ xs) fit =
      (s x, flat_map s xs, refl, record { fits = fit.0; spelled = refl }, spelled_each xs fit.1)

-- ---- a given number of bytes

raw_found : (count : ℕ) (input rest content : List ℕ) → first_raw count input ≡ Some (content, rest)
    → (length content ≡ count) × (input ≡ content ++ rest)
raw_found count input rest content e =
    let g = cond_none_some (nat_lt (length input) count) (Some (take count input, drop count input)) (content, rest) e in
    let parts = some_pair_parts (take count input) content (drop count input) rest g.1 in
    let long : count ≤ length input = ltb-false (length input) count g.0 in
    let full : length (take count input) ≡ count = omega (arith, length-take count input, long) in (
      ap length (sym parts.0) ∙ full,
      sym (take-append-drop count input) ∙ ap (λ r. r ++ drop count input) parts.0 ∙ ap (λ r. content ++ r) parts.1,
    )

raw_only : (content rest : List ℕ) (count : ℕ) → length content ≡ count
    → first_raw count (content ++ rest) ≡ Some (content, rest)
raw_only content rest count is =
    let long : nat_lt (length (content ++ rest)) count ≡ false = le-ltb _ _ (omega (arith, length-append content rest, is)) in
    rw (long, take_at content rest count is, drop_at content rest count is) refl

pub raw_reads : (count : ℕ)
    → IsReadBy (Spells (λ (content : List ℕ). length content ≡ count) (λ content. content)) (first_raw count)
raw_reads count = record {
  found = λ input rest content e.
      let f = raw_found count input rest content e in (content, record { fits = f.0; spelled = refl }, f.1);
  only = λ bytes rest content h.
      ap (λ bs. first_raw count (bs ++ rest)) h.spelled ∙ raw_only content rest count h.fits;
}

module _ (laws : NumberLaws) where
  -- ---- numbers

  pub number_reads : IsReadBy (Spells FitsU32 u32_bytes) first_number
  unfolding first_number
  number_reads = record {
    found = λ input rest n e.
        let b = and_then_some (first_u32 input) (if_shortest (length input)) (n, rest) e in
        let g = cond_some (nat_eq (length input) (length (u32_bytes b.0.0) + length b.0.1)) (Some b.0) (n, rest) b.2 in
        let parts = some_pair_parts b.0.0 n b.0.1 rest g.1 in
        let f = laws.read.found input b.0.1 b.0.0 b.1 in
        let long : length input ≡ length (u32_bytes b.0.0) + length b.0.1 = eqb-true _ _ g.0 in
        let count : length f.0 ≡ length (u32_bytes b.0.0) =
        omega (arith, long, ap length f.2, length-append f.0 b.0.1) in
        let spelled : Spells FitsU32 u32_bytes f.0 b.0.0 =
        record { fits = (laws.range f.0 b.0.0 f.1).0; spelled = laws.shortest.alone f.0 b.0.0 f.1 count } in
        (f.0, subst (λ k. Spells FitsU32 u32_bytes f.0 k) parts.0 spelled, f.2 ∙ ap (λ r. f.0 ++ r) parts.1);
    only = λ bytes rest n h.
        let read = laws.read.only (u32_bytes n) rest n (laws.shortest.encodes n h.fits) in
        ap (λ bs. option_and_then (if_shortest (length (bs ++ rest))) (first_u32 (bs ++ rest))) h.spelled
        ∙ ap (option_and_then (if_shortest (length (u32_bytes n ++ rest)))) read
        ∙ ap (λ b. cond b (Some (n, rest)) None) (eq-eqb _ _ (length-append (u32_bytes n) rest));
  }

  -- ---- lists with their counts, bytes with theirs

  pub counted_reads : {A : Type 0} (F : A → Type 0) (s : A → List ℕ) (read : Reader A) → IsReadBy (Spells F s) read
      → IsReadBy (Spells (λ (xs : List A). (length xs < 2 ^ 32) × AllByRecursion F xs) (vector_bytes s)) (first_counted read)
  counted_reads {A} F s read is = record {
    found = λ input rest xs e.
        let b = and_then_some (first_number input) (λ (count : ℕ × List ℕ). first_items read count.0 count.1) (xs, rest) e in
        let n = number_reads.found input b.0.1 b.0.0 b.1 in
        let items = items_found (Spells F s) read is b.0.0 b.0.1 rest xs b.2 in
        let all = each_spelled F s xs items.0 items.1 in (
          n.0 ++ items.0,
          record {
            fits = (subst (λ k. k < 2 ^ 32) (sym items.2) n.1.fits, all.0);
            spelled = ap (λ r. r ++ items.0) (n.1.spelled ∙ ap u32_bytes (sym items.2))
                ∙ ap (λ r. u32_bytes (length xs) ++ r) all.1;
          },
          n.2 ∙ ap (λ r. n.0 ++ r) items.3 ∙ sym (append_assoc n.0 items.0 rest),
        );
    only = λ bytes rest xs h.
        let count = u32_bytes (length xs) in
        let items = flat_map s xs in
        ap (λ bs. first_counted read (bs ++ rest)) h.spelled
        ∙ ap (first_counted read) (append_assoc count items rest)
        ∙ ap (option_and_then (λ (n : ℕ × List ℕ). first_items read n.0 n.1))
        (number_reads.only count (items ++ rest) (length xs) (record { fits = h.fits.0; spelled = refl }))
        ∙ items_only (Spells F s) read is items rest xs (spelled_each F s xs h.fits.1);
  }

  abbrev pub AreFew : List ℕ → Type 0
  AreFew content = (0 < length content) × (length content < 2 ^ 32)

  pub bytes_reads : IsReadBy (Spells AreFew sized_bytes) first_bytes
  unfolding first_bytes
  bytes_reads = record {
    found = λ input rest content e.
        let b = and_then_some (first_number input) (λ (count : ℕ × List ℕ). first_some count.0 count.1) (content, rest) e in
        let g = cond_none_some (nat_eq b.0.0 0) (first_raw b.0.0 b.0.1) (content, rest) b.2 in
        let n = number_reads.found input b.0.1 b.0.0 b.1 in
        let raw = raw_found b.0.0 b.0.1 rest content g.1 in
        let none : nat_eq b.0.0 0 ≡ false = g.0 in
        let some : 0 < b.0.0 = grind (arith, nat_tests, none) in (
          n.0 ++ content,
          record {
            fits = (subst (λ k. 0 < k) (sym raw.0) some, subst (λ k. k < 2 ^ 32) (sym raw.0) n.1.fits);
            spelled = ap (λ r. r ++ content) (n.1.spelled ∙ ap u32_bytes (sym raw.0));
          },
          n.2 ∙ ap (λ r. n.0 ++ r) raw.1 ∙ sym (append_assoc n.0 content rest),
        );
    only = λ bytes rest content h.
        let count = u32_bytes (length content) in
        let some : nat_eq (length content) 0 ≡ false = grind (arith, nat_tests, h.fits.0) in
        ap (λ bs. option_and_then (λ (n : ℕ × List ℕ). first_some n.0 n.1) (first_number (bs ++ rest))) h.spelled
        ∙ ap (λ bs. option_and_then (λ (n : ℕ × List ℕ). first_some n.0 n.1) (first_number bs)) (append_assoc count content rest)
        ∙ ap (option_and_then (λ (n : ℕ × List ℕ). first_some n.0 n.1))
        (number_reads.only count (content ++ rest) (length content) (record { fits = h.fits.1; spelled = refl }))
        ∙ ap (λ b. cond b None (first_raw (length content) (content ++ rest))) some
        ∙ raw_only content rest (length content) refl;
  }
