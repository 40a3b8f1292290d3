-- What holds of the parts that shortest encodings are made of.
use Rattle.std.proofs.Common.{◌≡◌, ℕ, zero, suc, ◌+◌, ◌/◌, ◌<◌, ◌≤◌, ◌^◌, List, [], ◌∷◌, ◌++◌, length, refl, ap, inl, inr, arith}
use Rattle.std.specs.Prelude.{flat_map}
use Rattle.std.specs.List.{AllByRecursion}
use Rattle.std.proofs.lemmas.Bool.{cases_lt}
use Rattle.std.proofs.lemmas.Bool.Decides.{nat_tests}
use Rattle.std.proofs.lemmas.List.{length-append}
use Rattle.leb_bytes.specs.Unsigned.{EncodesU32, unsigned_bytes, u32_bytes}
use Rattle.wasm_syntax.specs.Encoding.Grammar.{Grammar, Exactly, Raw, Marked, ◌then◌, Sized, Each, VectorOf}
use Rattle.wasm_syntax.specs.Encoding.Encodable.{FitsU32}
use Rattle.wasm_syntax.specs.Encoding.Shortest.{sized_bytes, vector_bytes}
use Rattle.wasm_syntax.proofs.Encoding.Numbers.{NumberLaws}

-- `best` is an encoding if there is one that is short enough for sizes and counts, and no encoding is shorter
pub record IsBest (E : List ℕ → Type 0) (Fits : Type 0) (best : List ℕ) : Type 0 where
  pub encodes : Fits → length best < 2 ^ 32 → E best
  pub fits : (bytes : List ℕ) → E bytes → Fits
  pub least : (bytes : List ℕ) → E bytes → length best ≤ length bytes

abbrev pub IsWrittenBy : {A : Type 0} → Grammar A → (A → Type 0) → (A → List ℕ) → Type 0
IsWrittenBy {A} E Fits write = (x : A) → IsBest (λ bytes. E bytes x) (Fits x) (write x)

-- ---- lengths of numbers

bytes_small : (more n : ℕ) → n < 2 ^ 7 → length (unsigned_bytes more n) ≡ 1
unfolding unsigned_bytes
bytes_small zero n small = refl
bytes_small (suc more) n small = grind (arith, nat_tests)

bytes_large : (more n : ℕ) → 2 ^ 7 ≤ n
    → length (unsigned_bytes (suc more) n) ≡ suc (length (unsigned_bytes more (n / 2 ^ 7)))
unfolding unsigned_bytes
bytes_large more n large = grind (arith, nat_tests)

bytes_one : (n : ℕ) → length (unsigned_bytes zero n) ≡ 1
unfolding unsigned_bytes
bytes_one n = refl

pub bytes_some : (more n : ℕ) → 0 < length (unsigned_bytes more n)
bytes_some zero n = omega (arith, bytes_one n)
bytes_some (suc more) n = elim (cases_lt n (2 ^ 7)) [
  | inl small ↦ omega (arith, bytes_small (suc more) n small)
  | inr large ↦ omega (arith, bytes_large more n large)
]

bytes_rise : (more a b : ℕ) → a ≤ b → length (unsigned_bytes more a) ≤ length (unsigned_bytes more b)
bytes_rise zero a b le = omega (arith, bytes_one a, bytes_one b)
bytes_rise (suc more) a b le = elim (cases_lt a (2 ^ 7)) [
  | inl small ↦ omega (arith, bytes_small (suc more) a small, bytes_some (suc more) b)
  | inr large ↦
      let higher : a / 2 ^ 7 ≤ b / 2 ^ 7 = omega arith in
      omega (arith, bytes_large more a large, bytes_large more b (omega arith), bytes_rise more (a / 2 ^ 7) (b / 2 ^ 7) higher)
]

-- the bytes of a sum are no more than those of both numbers
bytes_sum : (more a b c : ℕ) → c ≤ a + b + 1
    → length (unsigned_bytes more c) ≤ length (unsigned_bytes more a) + length (unsigned_bytes more b)
bytes_sum zero a b c le = omega (arith, bytes_one a, bytes_one b, bytes_one c)
bytes_sum (suc more) a b c le = elim (cases_lt c (2 ^ 7)) [
  | inl small ↦ omega (arith, bytes_small (suc more) c small, bytes_some (suc more) a)
  | inr large ↦
      let here = bytes_large more c large in
      let rest = bytes_sum more (a / 2 ^ 7) (b / 2 ^ 7) (c / 2 ^ 7) (omega arith) in
      elim (cases_lt a (2 ^ 7)) [
        | inl a-small ↦ elim (cases_lt b (2 ^ 7)) [
          | inl b-small ↦ omega (arith, here, bytes_small more (c / 2 ^ 7) (omega arith), bytes_small (suc more) a a-small, bytes_small (suc more) b b-small)
          | inr b-large ↦ omega (arith, here, rest, bytes_small (suc more) a a-small, bytes_large more b b-large, bytes_small more (a / 2 ^ 7) (omega arith))
        ]
        | inr a-large ↦ elim (cases_lt b (2 ^ 7)) [
          | inl b-small ↦ omega (arith, here, rest, bytes_large more a a-large, bytes_small (suc more) b b-small, bytes_small more (b / 2 ^ 7) (omega arith))
          | inr b-large ↦ omega (arith, here, rest, bytes_large more a a-large, bytes_large more b b-large)
        ]
      ]
]

pub u32_some : (n : ℕ) → 0 < length (u32_bytes n)
unfolding u32_bytes
u32_some n = bytes_some 4 n

pub u32_rise : (a b : ℕ) → a ≤ b → length (u32_bytes a) ≤ length (u32_bytes b)
unfolding u32_bytes
u32_rise a b le = bytes_rise 4 a b le

pub u32_sum : (a b : ℕ) → length (u32_bytes (a + b)) ≤ length (u32_bytes a) + length (u32_bytes b)
unfolding u32_bytes
u32_sum a b = bytes_sum 4 a b (a + b) (omega arith)

-- ---- the parts

pub exactly_best : (word : List ℕ) → IsBest (λ bytes. Exactly word bytes tt) (Unit {0}) word
exactly_best word = record { encodes = λ fits few. refl; fits = λ bytes h. tt; least = λ bytes h. omega (arith, ap length h) }

pub raw_best : IsWrittenBy Raw (λ content. Unit {0}) (λ content. content)
raw_best content = record { encodes = λ fits few. refl; fits = λ bytes h. tt; least = λ bytes h. omega (arith, ap length h) }

pub marked_best : {A : Type 0} (mark : ℕ) (E : Grammar A) (Fits : A → Type 0) (write : A → List ℕ)
    → IsWrittenBy E Fits write
    → IsWrittenBy (Marked mark E) Fits (λ x. mark ∷ write x)
marked_best mark E Fits write is x = record {
  encodes = λ fits few. (write x, refl, (is x).encodes fits (omega arith));
  fits = λ bytes h. (is x).fits h.0 h.2;
  least = λ bytes h. omega (arith, ap length h.1, (is x).least h.0 h.2);
}

-- under a condition that both have
pub under_best : {C : Type 0} (E : List ℕ → Type 0) (Fits : Type 0) (best : List ℕ) → IsBest E Fits best
    → IsBest (λ bytes. C × E bytes) (C × Fits) best
under_best E Fits best is = record {
  encodes = λ fits few. (fits.0, is.encodes fits.1 few);
  fits = λ bytes h. (h.0, is.fits bytes h.1);
  least = λ bytes h. is.least bytes h.1;
}

pub then_best : {A B : Type 0} (E : Grammar A) (F : Grammar B) (P : A → Type 0) (Q : B → Type 0) (write : A → List ℕ) (other : B → List ℕ)
    → IsWrittenBy E P write → IsWrittenBy F Q other
    → (x : A) (y : B) → IsBest (λ bytes. (E then F) bytes (x, y)) (P x × Q y) (write x ++ other y)
then_best E F P Q write other e-is f-is x y = record {
  encodes = λ fits few.
      let long = length-append (write x) (other y) in
      (write x, other y, refl, (e-is x).encodes fits.0 (omega arith), (f-is y).encodes fits.1 (omega arith));
  fits = λ bytes h. ((e-is x).fits h.0 h.3, (f-is y).fits h.1 h.4);
  least = λ bytes h.
      omega (arith, ap length h.2, length-append h.0 h.1, length-append (write x) (other y), (e-is x).least h.0 h.3, (f-is y).least h.1 h.4);
}

pub each_best : {A : Type 0} (E : Grammar A) (Fits : A → Type 0) (write : A → List ℕ) → IsWrittenBy E Fits write
    → IsWrittenBy (Each E) (AllByRecursion Fits) (flat_map write)
each_best E Fits write is [] = record { encodes = λ fits few. refl; fits = λ bytes h. tt; least = λ bytes h. omega arith }
each_best E Fits write is (x ∷ xs) =
    let rest = each_best E Fits write is xs in
    record {
      encodes = λ fits few.
          let long = length-append (write x) (flat_map write xs) in
          (write x, flat_map write xs, refl, (is x).encodes fits.0 (omega arith), rest.encodes fits.1 (omega arith));
      fits = λ bytes h. ((is x).fits h.0 h.3, rest.fits h.1 h.4);
      least = λ bytes h.
          omega (arith, ap length h.2, length-append h.0 h.1, length-append (write x) (flat_map write xs), (is x).least h.0 h.3, rest.least h.1 h.4);
    }

pub count_le : {A : Type 0} (write : A → List ℕ) → ((x : A) → 0 < length (write x)) → (xs : List A)
    → length xs ≤ length (flat_map write xs)
count_le write some [] = omega arith
count_le write some (x ∷ xs) =
    omega (arith, length-append (write x) (flat_map write xs), some x, count_le write some xs)

module _ (laws : NumberLaws) where
  pub u32_best : IsWrittenBy EncodesU32 FitsU32 u32_bytes
  u32_best n = record {
    encodes = λ fits few. laws.u32_shortest.encodes n fits;
    fits = λ bytes h. (laws.u32_range bytes n h).0;
    least = λ bytes h. laws.u32_shortest.least bytes n h;
  }

  pub sized_best : {A : Type 0} (E : Grammar A) (Fits : A → Type 0) (write : A → List ℕ) → IsWrittenBy E Fits write
      → IsWrittenBy (Sized E) Fits (λ x. sized_bytes (write x))
  sized_best E Fits write is x = record {
    encodes = λ fits few.
        let long = length-append (u32_bytes (length (write x))) (write x) in
        (u32_bytes (length (write x)), write x, refl, laws.u32_shortest.encodes (length (write x)) (omega arith), (is x).encodes fits (omega arith));
    fits = λ bytes h. (is x).fits h.1 h.4;
    least = λ bytes h.
        omega (
          arith,
          ap length h.2,
          length-append h.0 h.1,
          length-append (u32_bytes (length (write x))) (write x),
          (is x).least h.1 h.4,
          laws.u32_shortest.least h.0 (length h.1) h.3,
          u32_rise (length (write x)) (length h.1) ((is x).least h.1 h.4),
        );
  }

  pub vector_best : {A : Type 0} (E : Grammar A) (Fits : A → Type 0) (write : A → List ℕ)
      → ((x : A) → 0 < length (write x)) → IsWrittenBy E Fits write
      → IsWrittenBy (VectorOf E) (AllByRecursion Fits) (vector_bytes write)
  vector_best E Fits write some is xs =
      let items = each_best E Fits write is xs in
      record {
        encodes = λ fits few.
            let long = length-append (u32_bytes (length xs)) (flat_map write xs) in
            let count = count_le write some xs in
            (u32_bytes (length xs), flat_map write xs, refl, laws.u32_shortest.encodes (length xs) (omega arith), items.encodes fits (omega arith));
        fits = λ bytes h. items.fits h.1 h.4;
        least = λ bytes h.
            omega (
              arith,
              ap length h.2,
              length-append h.0 h.1,
              length-append (u32_bytes (length xs)) (flat_map write xs),
              items.least h.1 h.4,
              laws.u32_shortest.least h.0 (length xs) h.3,
            );
      }

-- the shortest encoding, with what fits stated in another way
pub refit : {P Q : Type 0} (E : List ℕ → Type 0) (best : List ℕ) → (Q → P) → (P → Q) → IsBest E P best → IsBest E Q best
refit E best to back is = record { encodes = λ fits few. is.encodes (to fits) few; fits = λ bytes h. back (is.fits bytes h); least = is.least }

-- what has no encoding
pub none_best : (best : List ℕ) → IsBest (λ bytes. ⊥) ⊥ best
none_best best = record { encodes = λ fits few. fits; fits = λ bytes h. h; least = λ bytes h. absurd h }
