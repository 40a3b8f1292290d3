-- How many bytes numbers take, and lists whose items take at most four times as many bytes as those of another.
use Rattle.std.proofs.Common.{◌≡◌, ℕ, suc, ◌+◌, ◌*◌, ◌/◌, ◌^◌, ◌<◌, ◌≤◌, List, [], ◌∷◌, ◌++◌, map, filter, length, Bool, true, false, cond, All, ap, inl, inr, arith, length-append}
use Rattle.std.proofs.lemmas.Bool.{cases_lt}
use Rattle.std.proofs.lemmas.Bool.Decides.{nat_tests}
use Rattle.std.proofs.lemmas.List.{length-map}
use Rattle.std.proofs.lemmas.List.Elements.{All-head, All-tail}
use Rattle.std.proofs.lemmas.List.Folds.{flat_map-map}
use Rattle.leb_bytes.specs.Unsigned.{unsigned_bytes, u32_bytes}
use Rattle.wasm_syntax.specs.Encoding.Sections.{Section}
use Rattle.wasm_syntax.specs.Encoding.Shortest.{content_bytes, section_bytes, unless_empty, vector_bytes}
use Rattle.wasm_syntax.proofs.ItemLists.{items, items_append, items_cons, items_nil, list_least, sized_length, vector_length, IsVectorOf}
use Rattle.wasm_syntax.proofs.SectionLists.{part, part_is, part_most}
use Rattle.wasm_syntax.proofs.Encoding.Writing.{u32_rise, u32_some}

-- ---- numbers

one_byte : (n : ℕ) → n < 2 ^ 7 → length (unsigned_bytes 1 n) ≤ 1
unfolding unsigned_bytes
one_byte n low = grind (arith, nat_tests)

-- one byte more for seven bits more
byte_more : (more limit most : ℕ) → ((n : ℕ) → n < limit → length (unsigned_bytes more n) ≤ most) → (n : ℕ)
    → n < 2 ^ 7 * limit → length (unsigned_bytes (suc more) n) ≤ suc most
unfolding unsigned_bytes
byte_more more limit most few n low = elim (cases_lt n (2 ^ 7)) [
  | inl small ↦ grind (arith, nat_tests)
  | inr large ↦ let rest = few (n / 2 ^ 7) (omega (arith, low)) in grind (arith, nat_tests, rest)
]

pub u32_few : (n : ℕ) → n < 2 ^ 28 → length (u32_bytes n) ≤ 4
unfolding u32_bytes
u32_few n low =
    byte_more 3 (2 ^ 21) 3 (byte_more 2 (2 ^ 14) 2 (byte_more 1 (2 ^ 7) 1 one_byte)) n (omega (arith, low))

-- ---- lists

pub items_filter : {A : Type 0} (write : A → List ℕ) (test : A → Bool) (xs : List A)
    → items write (filter test xs) ≤ items write xs
items_filter write test [] = omega arith
items_filter write test (x ∷ xs) = by (test x) (items_filter write test xs)
  where
    by : (b : Bool) → items write (filter test xs) ≤ items write xs
        → items write (cond b (x ∷ filter test xs) (filter test xs)) ≤ items write (x ∷ xs)
    by true later = omega (arith, items_cons write x (filter test xs), items_cons write x xs, later)
    by false later = omega (arith, items_cons write x xs, later)

items_map : {A B : Type 0} (write : B → List ℕ) (f : A → B) (xs : List A)
    → items write (map f xs) ≡ items (λ x. write (f x)) xs
unfolding items
items_map write f xs = ap length (flat_map-map write f xs)

-- what each item takes after and before
items_each : {A : Type 0} (P : A → Type 0) (after before : A → List ℕ)
    → ((x : A) → P x → length (after x) ≤ 4 * length (before x)) → (xs : List A) → All P xs
    → items after xs ≤ 4 * items before xs
items_each P after before each [] all = omega (arith, items_nil after, items_nil before)
items_each P after before each (x ∷ xs) all = omega (
  arith,
  items_cons after x xs,
  items_cons before x xs,
  each x (All-head P x xs all),
  items_each P after before each xs (All-tail P x xs all),
)

-- a list has no more items than another, which take at most four times as many bytes
pub record HasGrown {A : Type 0} (write : A → List ℕ) (before after : List A) : Type 0 where
  pub few : length after ≤ length before
  pub bytes : items write after ≤ 4 * items write before

pub same_grown : {A : Type 0} (write : A → List ℕ) (xs : List A) → HasGrown write xs xs
same_grown write xs = record { few = omega arith; bytes = omega arith }

pub map_grown : {A : Type 0} (P : A → Type 0) (write : A → List ℕ) (f : A → A)
    → ((x : A) → P x → length (write (f x)) ≤ 4 * length (write x)) → (xs : List A) → All P xs
    → HasGrown write xs (map f xs)
map_grown P write f each xs all =
    record {
      few = omega (arith, length-map xs f);
      bytes = omega (arith, items_map write f xs, items_each P (λ x. write (f x)) write each xs all);
    }

-- lists of what is made of the items
pub made_grown : {A B : Type 0} (P : A → Type 0) (write : B → List ℕ) (make : A → B) (f : A → A)
    → ((x : A) → P x → length (write (make (f x))) ≤ 4 * length (write (make x))) → (xs : List A) → All P xs
    → HasGrown write (map make xs) (map make (map f xs))
made_grown P write make f each xs all =
    record {
      few = omega (arith, length-map xs make, length-map xs f, length-map (map f xs) make);
      bytes = omega (
        arith,
        items_map write make xs,
        items_map write make (map f xs),
        items_map (λ x. write (make x)) f xs,
        items_each P (λ x. write (make (f x))) (λ x. write (make x)) each xs all,
      );
    }

pub vector_grown : {A : Type 0} (write : A → List ℕ) (before after : List A) → HasGrown write before after
    → length (vector_bytes write after) ≤ 4 * length (vector_bytes write before)
vector_grown write before after grown = omega (
  arith,
  vector_length write before,
  vector_length write after,
  u32_rise (length after) (length before) grown.few,
  grown.bytes,
)

-- ---- sections

-- a section takes two bytes more than its content at least
pub one_part : (section : Section) → 2 + length (content_bytes section) ≤ part (section ∷ [])
unfolding section_bytes
one_part section = omega (
  arith,
  part_is (section ∷ []),
  items_cons section_bytes section [],
  sized_length (content_bytes section),
  u32_some (length (content_bytes section)),
)

-- the section of a list that has an item
list_one : {A : Type 0} (make : List A → Section) (write : A → List ℕ) → IsVectorOf make write → (x : A) (xs : List A)
    → 3 + items write (x ∷ xs) ≤ part (make (x ∷ xs) ∷ [])
list_one make write is x xs = omega (
  arith,
  one_part (make (x ∷ xs)),
  ap length (is (x ∷ xs)),
  vector_length write (x ∷ xs),
  u32_some (length (x ∷ xs)),
)

-- the section of a list that has grown from two lists
section_grown : {A : Type 0} (make : List A → Section) (write : A → List ℕ) → IsVectorOf make write
    → (all xs ys : List A) → length all ≤ length xs + length ys
    → items write all ≤ 4 * items write xs + 4 * items write ys
    → part (unless_empty make all) ≤ 4 * part (unless_empty make xs) + 4 * part (unless_empty make ys)
section_grown make write is [] xs ys few bytes = omega (arith, part_is [], items_nil section_bytes)
section_grown make write is (z ∷ all) [] [] few bytes = absurd (omega (arith, few))
section_grown make write is (z ∷ all) (x ∷ xs) ys few bytes = omega (
  arith,
  part_most make write is (z ∷ all),
  list_one make write is x xs,
  part_is (unless_empty make ys),
  list_least make write is ys,
  bytes,
)
section_grown make write is (z ∷ all) [] (y ∷ ys) few bytes = omega (
  arith,
  part_most make write is (z ∷ all),
  list_one make write is y ys,
  items_nil write,
  bytes,
)

-- the section of what has grown from each of two lists
pub joined_grown : {A : Type 0} (make : List A → Section) (write : A → List ℕ) → IsVectorOf make write
    → {xs ys more other : List A} → HasGrown write xs more → HasGrown write ys other
    → part (unless_empty make (more ++ other)) ≤ 4 * part (unless_empty make xs) + 4 * part (unless_empty make ys)
joined_grown make write is {xs} {ys} {more} {other} left right =
    let few_left = left.few in
    let few_right = right.few in
    let bytes_left = left.bytes in
    let bytes_right = right.bytes in
    section_grown make write is (more ++ other) xs ys
    (omega (arith, length-append more other, few_left, few_right))
    (omega (arith, items_append write more other, bytes_left, bytes_right))
