-- What holds of vectors and of sized parts, and of their readers.
use Rattle.std.proofs.Common.{◌≡◌, ℕ, zero, suc, ◌≤◌, false, cond, List, [], ◌∷◌, ◌++◌, length, take, drop, Option, Some, None, refl, ap, sym, ◌∙◌, subst, append_assoc, arith}
use Rattle.std.specs.Prelude.{option_map, option_and_then, nat_lt}
use Rattle.std.proofs.lemmas.Bool.{ltb-false, le-ltb}
use Rattle.std.proofs.lemmas.List.{take_at, drop_at, take-append-drop, length-append, length-take, append-nil}
use Rattle.std.proofs.lemmas.Option.{none-some, some_pair_parts, same_Some}
use Rattle.base.proofs.Options.{map_some, and_then_some, cond_none_some}
use Rattle.leb_bytes.specs.Encoding.{IsReadBy}
use Rattle.leb_bytes.specs.Unsigned.{EncodesU32, first_u32}
use Rattle.wasm_syntax.specs.Encoding.Grammar.{Grammar, Sized, Each, VectorOf}
use Rattle.wasm_syntax.specs.Encoding.Combinators.{Reader, first_items, first_vector, if_at_end, whole, first_sized}

-- ---- all of the bytes

-- the program reads what all of the bytes encode
pub record IsReadWhole {A : Type 0} (E : Grammar A) (all : List ℕ → Option A) : Type 0 where
  pub found : (bytes : List ℕ) (x : A) → all bytes ≡ Some x → E bytes x
  pub only : (bytes : List ℕ) (x : A) → E bytes x → all bytes ≡ Some x

ended_some : {A : Type 0} (x y : A) (rest : List ℕ) → if_at_end x rest ≡ Some y → (rest ≡ []) × (x ≡ y)
ended_some x y [] e = (refl, same_Some x y e)
ended_some x y (b ∷ rest) e = absurd (none-some _ e)

pub whole_is : {A : Type 0} (E : Grammar A) (read : Reader A) → IsReadBy E read → IsReadWhole E (whole read)
whole_is {A} E read is = record {
  found = λ bytes x e.
      let b = and_then_some (read bytes) (λ (first : A × List ℕ). if_at_end first.0 first.1) x e in
      let ended = ended_some b.0.0 x b.0.1 b.2 in
      let f = is.found bytes b.0.1 b.0.0 b.1 in
      let all : bytes ≡ f.0 = f.2 ∙ ap (λ r. f.0 ++ r) ended.0 ∙ append-nil f.0 in
      subst (λ bs. E bs x) (sym all) (subst (λ y. E f.0 y) ended.1 f.1);
  only = λ bytes x h.
      ap (option_and_then (λ (first : A × List ℕ). if_at_end first.0 first.1)) (ap read (sym (append-nil bytes)) ∙ is.only bytes [] x h);
}

-- ---- items one after another

module _ {A : Type 0} (E : Grammar A) (read : Reader A) (is : IsReadBy E read) where
  pub items_found : (count : ℕ) (input rest : List ℕ) (xs : List A) → first_items read count input ≡ Some (xs, rest)
      → (bytes : List ℕ) × Each E bytes xs × (length xs ≡ count) × (input ≡ bytes ++ rest)
  items_found zero input rest xs e =
      let parts = some_pair_parts [] xs input rest e in
      ([], subst (λ ys. Each E [] ys) parts.0 refl, ap length (sym parts.0), parts.1)
  items_found (suc more) input rest xs e =
      let b = and_then_some (read input) (λ (first : A × List ℕ). option_map
      (λ (others : List A × List ℕ). (first.0 ∷ others.0, others.1)) (first_items read more first.1)) (xs, rest) e in
      let m = map_some (λ (others : List A × List ℕ). (b.0.0 ∷ others.0, others.1)) (first_items read more b.0.1) (xs, rest) b.2 in
      let parts = some_pair_parts (b.0.0 ∷ m.0.0) xs m.0.1 rest (ap Some m.2) in
      let one = is.found input b.0.1 b.0.0 b.1 in
      let others = items_found more b.0.1 m.0.1 m.0.0 m.1 in
      let all : Each E (one.0 ++ others.0) (b.0.0 ∷ m.0.0) = (one.0, others.0, refl, one.1, others.1) in
      let split : input ≡ (one.0 ++ others.0) ++ m.0.1 = one.2 ∙ ap (λ r. one.0 ++ r) others.3 ∙ sym (append_assoc one.0 others.0 m.0.1) in (
        one.0 ++ others.0,
        subst (λ ys. Each E (one.0 ++ others.0) ys) parts.0 all,
        ap length (sym parts.0) ∙ ap suc others.2,
        split ∙ ap (λ r. (one.0 ++ others.0) ++ r) parts.1,
      )

  pub items_only : (bytes rest : List ℕ) (xs : List A) → Each E bytes xs
      → first_items read (length xs) (bytes ++ rest) ≡ Some (xs, rest)
  items_only bytes rest [] h = ap (λ bs. Some ([], bs ++ rest)) h
  items_only bytes rest (x ∷ xs) h =
      ap (λ bs. first_items read (suc (length xs)) (bs ++ rest)) h.2
      ∙ ap (first_items read (suc (length xs))) (append_assoc h.0 h.1 rest)
      ∙ ap (option_and_then (λ (first : A × List ℕ).
      option_map (λ (others : List A × List ℕ). (first.0 ∷ others.0, others.1)) (first_items read (length xs) first.1)))
      (is.only h.0 (h.1 ++ rest) x h.3)
      ∙ ap (option_map (λ (others : List A × List ℕ). (x ∷ others.0, others.1))) (items_only h.1 rest xs h.4)

module _ (u32 : IsReadBy EncodesU32 first_u32) where
  pub vector_is : {A : Type 0} (E : Grammar A) (read : Reader A) → IsReadBy E read
      → IsReadBy (VectorOf E) (first_vector read)
  vector_is {A} E read is = record {
    found = λ input rest xs e.
        let b = and_then_some (first_u32 input) (λ (count : ℕ × List ℕ). first_items read count.0 count.1) (xs, rest) e in
        let count = u32.found input b.0.1 b.0.0 b.1 in
        let items = items_found E read is b.0.0 b.0.1 rest xs b.2 in (
          count.0 ++ items.0,
          (count.0, items.0, refl, subst (λ n. EncodesU32 count.0 n) (sym items.2) count.1, items.1),
          count.2 ∙ ap (λ r. count.0 ++ r) items.3 ∙ sym (append_assoc count.0 items.0 rest),
        );
    only = λ bytes rest xs h.
        ap (λ bs. first_vector read (bs ++ rest)) h.2
        ∙ ap (first_vector read) (append_assoc h.0 h.1 rest)
        ∙ ap (option_and_then (λ (count : ℕ × List ℕ). first_items read count.0 count.1)) (u32.only h.0 (h.1 ++ rest) (length xs) h.3)
        ∙ items_only E read is h.1 rest xs h.4;
  }

  pub sized_is : {A : Type 0} (E : Grammar A) (all : List ℕ → Option A) → IsReadWhole E all
      → IsReadBy (Sized E) (first_sized all)
  sized_is {A} E all is = record {
    found = λ input rest x e.
        let b = and_then_some (first_u32 input) (λ (size : ℕ × List ℕ). cond (nat_lt (length size.1) size.0) None
        (option_map (λ (y : A). (y, drop size.0 size.1)) (all (take size.0 size.1)))) (x, rest) e in
        let n = b.0.0 in
        let behind = b.0.1 in
        let g = cond_none_some (nat_lt (length behind) n) (option_map (λ (y : A). (y, drop n behind)) (all (take n behind))) (x, rest) b.2 in
        let m = map_some (λ (y : A). (y, drop n behind)) (all (take n behind)) (x, rest) g.1 in
        let parts = some_pair_parts m.0 x (drop n behind) rest (ap Some m.2) in
        let size = u32.found input behind n b.1 in
        let long : n ≤ length behind = ltb-false (length behind) n g.0 in
        let count : length (take n behind) ≡ n = omega (arith, length-take n behind) in (
          size.0 ++ take n behind,
          (
            size.0,
            take n behind,
            refl,
            subst (λ k. EncodesU32 size.0 k) (sym count) size.1,
            subst (λ y. E (take n behind) y) parts.0 (is.found (take n behind) m.0 m.1),
          ),
          size.2 ∙ ap (λ r. size.0 ++ r) (sym (take-append-drop n behind) ∙ ap (λ r. take n behind ++ r) parts.1)
              ∙ sym (append_assoc size.0 (take n behind) rest),
        );
    only = λ bytes rest x h.
        let n = length h.1 in
        let long : nat_lt (length (h.1 ++ rest)) n ≡ false = le-ltb (length (h.1 ++ rest)) n (omega (arith, length-append h.1 rest)) in
        ap (λ bs. first_sized all (bs ++ rest)) h.2
        ∙ ap (first_sized all) (append_assoc h.0 h.1 rest)
        ∙ ap (option_and_then (λ (size : ℕ × List ℕ). cond (nat_lt (length size.1) size.0) None
        (option_map (λ (y : A). (y, drop size.0 size.1)) (all (take size.0 size.1))))) (u32.only h.0 (h.1 ++ rest) n h.3)
        ∙ rw (long, take_at h.1 rest n refl, drop_at h.1 rest n refl, is.only h.1 x h.4) refl;
  }
