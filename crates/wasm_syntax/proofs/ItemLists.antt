-- How many bytes numbers, items one after another, and sections take.
use Rattle.std.proofs.Common.{◌≡◌, ℕ, zero, suc, ◌+◌, ◌/◌, ◌<◌, ◌≤◌, ◌^◌, List, [], ◌∷◌, ◌++◌, length, get_or, flat_map, refl, ap, ◌∙◌, inl, inr, Bool, true, false, cond, ℤ, arith}
use Rattle.std.specs.List.{AllByRecursion}
use Rattle.std.specs.Int.{w32, w64, cast_signed}
use Rattle.std.proofs.lemmas.Bool.{cases_lt}
use Rattle.std.proofs.lemmas.Bool.Decides.{nat_tests}
use Rattle.std.proofs.lemmas.Grind.{flat_map-append}
use Rattle.std.proofs.lemmas.List.{length-append}
use Rattle.leb_bytes.specs.Unsigned.{unsigned_bytes, u32_bytes}
use Rattle.leb_bytes.specs.Signed.{signed_bytes, s64_bytes, i32_bytes, i64_bytes, fits_seven_bits, high_bits, low_bits}
use Rattle.wasm_syntax.specs.declared.values.ValType.{ValType}
use Rattle.wasm_syntax.specs.declared.values.ValType.TheVariants.{I32, I64, F32, F64, FuncRef}
use Rattle.wasm_syntax.specs.Encoding.Sections.{Section}
use Rattle.wasm_syntax.specs.Encoding.Shortest.{const_bytes, sized_bytes, vector_bytes, content_bytes, section_bytes, unless_empty}
use Rattle.wasm_syntax.proofs.Encoding.Encodable.{content_le}

-- ---- numbers

unsigned_most : (more n : ℕ) → length (unsigned_bytes more n) ≤ more + 1
unfolding unsigned_bytes
unsigned_most zero n = omega arith
unsigned_most (suc more) n = elim (cases_lt n (2 ^ 7)) [
  | inl small ↦ grind (arith, nat_tests)
  | inr large ↦ let rest = unsigned_most more (n / 2 ^ 7) in grind (arith, nat_tests, rest)
]

pub u32_most : (n : ℕ) → length (u32_bytes n) ≤ 5
unfolding u32_bytes
u32_most n = unsigned_most 4 n

pub signed_most : (more : ℕ) (z : ℤ) → length (signed_bytes more z) ≤ more + 1
unfolding signed_bytes
signed_most zero z = omega arith
signed_most (suc more) z = by (fits_seven_bits z) (signed_most more (high_bits z))
  where
    by : (b : Bool) → length (signed_bytes more (high_bits z)) ≤ more + 1
        → length (cond b (low_bits z ∷ []) ((low_bits z + 2 ^ 7) ∷ signed_bytes more (high_bits z))) ≤ suc more + 1
    by true rest = omega arith
    by false rest = omega (arith, rest)

-- an instruction with a constant
pub const_most : (ty : ValType) (bits : ℕ) → length (const_bytes ty bits) ≤ 11
unfolding const_bytes i32_bytes i64_bytes s64_bytes
const_most I32 bits = omega (arith, signed_most 9 (cast_signed w32 bits))
const_most I64 bits = omega (arith, signed_most 9 (cast_signed w64 bits))
const_most F32 bits = omega arith
const_most F64 bits = omega arith
const_most FuncRef bits = omega arith

-- ---- items one after another

-- how many bytes all items take
unfoldable pub items : {A : Type 0} → (A → List ℕ) → List A → ℕ
items write xs = length (flat_map write xs)

pub items_as : {A : Type 0} (write : A → List ℕ) (xs : List A) → length (flat_map write xs) ≡ items write xs
unfolding items
items_as write xs = refl

pub items_nil : {A : Type 0} (write : A → List ℕ) → items write [] ≡ 0
unfolding items
items_nil write = refl

pub items_cons : {A : Type 0} (write : A → List ℕ) (x : A) (xs : List A)
    → items write (x ∷ xs) ≡ length (write x) + items write xs
unfolding items
items_cons write x xs = length-append (write x) (flat_map write xs)

pub items_append : {A : Type 0} (write : A → List ℕ) (xs ys : List A)
    → items write (xs ++ ys) ≡ items write xs + items write ys
unfolding items
items_append write xs ys =
    ap length (flat_map-append write xs ys) ∙ length-append (flat_map write xs) (flat_map write ys)

-- items that each take a byte at least are no more than their bytes
pub items_some : {A : Type 0} (write : A → List ℕ) → ((x : A) → 0 < length (write x))
    → (xs : List A) → length xs ≤ items write xs
items_some write some [] = omega arith
items_some write some (x ∷ xs) = omega (arith, items_cons write x xs, some x, items_some write some xs)

pub items_some_of : {A : Type 0} (P : A → Type 0) (write : A → List ℕ) → ((x : A) → P x → 0 < length (write x))
    → (xs : List A) → AllByRecursion P xs → length xs ≤ items write xs
items_some_of P write some [] all = omega arith
items_some_of P write some (x ∷ xs) all =
    omega (arith, items_cons write x xs, some x all.0, items_some_of P write some xs all.1)

-- the encoding of one item is no longer than that of all items
pub items_one : {A : Type 0} (write : A → List ℕ) (xs : List A) (k : ℕ) (d : A) → k < length xs
    → length (write (get_or xs k d)) ≤ items write xs
items_one write [] k d h = absurd (omega (arith, h))
items_one write (x ∷ xs) zero d h = omega (arith, items_cons write x xs)
items_one write (x ∷ xs) (suc k) d h =
    omega (arith, items_cons write x xs, items_one write xs k d (omega (arith, h)))

pub vector_length : {A : Type 0} (write : A → List ℕ) (xs : List A)
    → length (vector_bytes write xs) ≡ length (u32_bytes (length xs)) + items write xs
unfolding items
vector_length write xs = length-append (u32_bytes (length xs)) (flat_map write xs)

pub sized_length : (content : List ℕ)
    → length (sized_bytes content) ≡ length (u32_bytes (length content)) + length content
sized_length content = length-append (u32_bytes (length content)) content

-- ---- sections

section_length : (section : Section)
    → length (section_bytes section) ≡ 1 + length (sized_bytes (content_bytes section))
unfolding section_bytes
section_length section = omega arith

pub section_most : (section : Section) → length (section_bytes section) ≤ 6 + length (content_bytes section)
section_most section = omega (
  arith,
  section_length section,
  sized_length (content_bytes section),
  u32_most (length (content_bytes section)),
)

-- the content of this kind of section is a vector of items
abbrev pub IsVectorOf : {A : Type 0} → (List A → Section) → (A → List ℕ) → Type 0
IsVectorOf {A} make write = (xs : List A) → content_bytes (make xs) ≡ vector_bytes write xs

-- the section of a list takes its items' bytes at least, and few more
pub list_least : {A : Type 0} (make : List A → Section) (write : A → List ℕ) → IsVectorOf make write
    → (xs : List A) → items write xs ≤ items section_bytes (unless_empty make xs)
list_least make write is [] = omega (arith, items_nil write)
list_least make write is (x ∷ xs) = omega (
  arith,
  items_cons section_bytes (make (x ∷ xs)) [],
  content_le (make (x ∷ xs)),
  ap length (is (x ∷ xs)),
  vector_length write (x ∷ xs),
)

pub list_most : {A : Type 0} (make : List A → Section) (write : A → List ℕ) → IsVectorOf make write
    → (xs : List A) → items section_bytes (unless_empty make xs) ≤ 11 + items write xs
list_most make write is [] = omega (arith, items_nil section_bytes)
list_most make write is (x ∷ xs) = omega (
  arith,
  items_cons section_bytes (make (x ∷ xs)) [],
  items_nil section_bytes,
  section_most (make (x ∷ xs)),
  ap length (is (x ∷ xs)),
  vector_length write (x ∷ xs),
  u32_most (length (x ∷ xs)),
)
