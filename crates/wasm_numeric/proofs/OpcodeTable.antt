-- Which opcodes each kind has, and how wide its operands are: a test that is computed over the table, and its result
-- for each opcode.
use Rattle.std.proofs.Common.{◌≡◌, ℕ, ◌<◌, ◌≤◌, ◌⊎◌, ◌≢◌, Bool, true, false, ◌&&◌, ◌||◌, List, [], ◌∷◌, nat_le, nat_lt, if◌then◌else◌, ◌==◌, refl, sym, subst, arith, inl, inr}
use Rattle.std.proofs.lemmas.Bool.{eqb-true, ltb-true, lt-leb, and_right, cases_lt}
use Rattle.std.proofs.lemmas.Bool.Decides.{nat_tests}
use Rattle.base.proofs.Booleans.{all_below, and_parts, passes_below}
use Rattle.base.specs.declared.opcodes.TheConstants.{I32_EQ, I32_GE_U, I64_EQ, I64_GE_U, I32_CLZ, I32_POPCNT, I64_CLZ, I64_POPCNT, I32_EXTEND8_S, I32_EXTEND16_S, I64_EXTEND8_S, I64_EXTEND32_S, I32_ADD, I32_ROTR, I64_ADD, I64_ROTR, I32_WRAP_I64, I64_EXTEND_I32_S}
use Rattle.wasm_numeric.specs.Opcode.{Row, Kind, Compare, Unary, Binary, Convert, NotNumeric, kind_of, width, width_of, result_of, rows, row_among}

-- each row ends below 256
abbrev pub are_bytes : List Row → Bool
are_bytes [] = true
are_bytes (r ∷ rs) = nat_lt r.last 256 && are_bytes rs

pub past_rows : (rs : List Row) (op : ℕ) → are_bytes rs ≡ true → 256 ≤ op → (row_among rs op).kind ≡ NotNumeric
past_rows [] op within far = refl
past_rows (r ∷ rs) op within far =
    let (here, below) = and_parts (nat_lt r.last 256) (are_bytes rs) within in
    let outside : nat_le op r.last ≡ false = lt-leb op r.last (omega (arith, ltb-true r.last 256 here)) in
    rw (and_right (nat_le r.first op) (nat_le op r.last) outside) (past_rows rs op below far)

-- a test that each byte passes, and each opcode that is not numeric
pub everywhere : (test : ℕ → Bool) → all_below 256 test ≡ true → ((op : ℕ) → kind_of op ≡ NotNumeric → test op ≡ true)
    → (op : ℕ) → test op ≡ true
everywhere test bytes others op =
    elim (cases_lt op 256) [ inl byte ↦ passes_below 256 test bytes op byte | inr far ↦ others op (past_rows rows op refl far) ]

abbrev lies : (first last op : ℕ) → Bool
lies first last op = nat_le first op && nat_le op last

-- the row of the table for an opcode of a kind whose operands have w bits
abbrev says : Kind → (w op : ℕ) → Bool
says Compare w op = (lies I32_EQ I32_GE_U op && w == 32) || (lies I64_EQ I64_GE_U op && w == 64)
says Unary w op =
    ((lies I32_CLZ I32_POPCNT op && w == 32) || (lies I64_CLZ I64_POPCNT op && w == 64))
    || ((lies I32_EXTEND8_S I32_EXTEND16_S op && w == 32) || (lies I64_EXTEND8_S I64_EXTEND32_S op && w == 64))
says Binary w op = (lies I32_ADD I32_ROTR op && w == 32) || (lies I64_ADD I64_ROTR op && w == 64)
says _ w op = true

said : (op : ℕ) (kind : Kind) → kind_of op ≡ kind → says kind (width_of op) op ≡ true
said op kind is =
    subst (λ k. says k (width_of op) op ≡ true) is
    (everywhere (λ o. says (kind_of o) (width_of o) o) refl (λ o none. subst (λ k. says k (width_of o) o ≡ true) (sym none) refl) op)

-- an opcode within one of two ranges, for operands of 32 and of 64 bits
abbrev pub InRanges : (first32 last32 first64 last64 w op : ℕ) → Type 0
InRanges first32 last32 first64 last64 w op =
    ((first32 ≤ op) × (op ≤ last32) × (w ≡ 32)) ⊎ ((first64 ≤ op) × (op ≤ last64) × (w ≡ 64))

in_ranges : (first32 last32 first64 last64 w op : ℕ)
    → ((lies first32 last32 op && w == 32) || (lies first64 last64 op && w == 64)) ≡ true
    → InRanges first32 last32 first64 last64 w op
in_ranges first32 last32 first64 last64 w op h = grind (arith, nat_tests)

pub compare_opcodes : (op : ℕ) → kind_of op ≡ Compare → InRanges I32_EQ I32_GE_U I64_EQ I64_GE_U (width_of op) op
compare_opcodes op is = in_ranges I32_EQ I32_GE_U I64_EQ I64_GE_U (width_of op) op (said op Compare is)

-- counts of bits, or sign extensions
abbrev pub IsUnary : (w op : ℕ) → Type 0
IsUnary w op =
    InRanges I32_CLZ I32_POPCNT I64_CLZ I64_POPCNT w op
    ⊎ InRanges I32_EXTEND8_S I32_EXTEND16_S I64_EXTEND8_S I64_EXTEND32_S w op

unary_says : (w op : ℕ) → says Unary w op ≡ true → IsUnary w op
unary_says w op h = grind (arith, nat_tests)

pub unary_opcodes : (op : ℕ) → kind_of op ≡ Unary → IsUnary (width_of op) op
unary_opcodes op is = unary_says (width_of op) op (said op Unary is)

-- one whose operand is no `i32` is on an `i64`
pub unary_width : (w op : ℕ) → IsUnary w op → w == 32 ≡ false → w ≡ 64
unary_width w op is other = grind (arith, nat_tests)

-- unary opcodes on `i32` are those up to the counts of bits on `i32`, and those from the sign extensions to `i32` on,
-- before those to `i64`
pub unary_between : (w op : ℕ) → IsUnary w op → I32_POPCNT < op → op < I32_EXTEND8_S → w == 32 ≡ false
unary_between w op is low high = grind (arith, nat_tests)

pub unary_from : (w op : ℕ) → IsUnary w op → I32_EXTEND8_S ≤ op → w == 32 ≡ nat_le op I32_EXTEND16_S
unary_from w op (inl (inl low)) past = absurd (omega (arith, low.1))
unary_from w op (inl (inr high)) past = absurd (omega (arith, high.1))
unary_from w op (inr (inl low)) past = grind (arith, nat_tests, low)
unary_from w op (inr (inr high)) past = grind (arith, nat_tests, high)

pub binary_opcodes : (op : ℕ) → kind_of op ≡ Binary → InRanges I32_ADD I32_ROTR I64_ADD I64_ROTR (width_of op) op
binary_opcodes op is = in_ranges I32_ADD I32_ROTR I64_ADD I64_ROTR (width_of op) op (said op Binary is)

-- an opcode past the first range has operands of 64 bits
pub width_past : {first32 last32 first64 last64 w op : ℕ} → InRanges first32 last32 first64 last64 w op → last32 < op
    → w ≡ 64
width_past (inl low) h = absurd (omega (arith, low.1))
width_past (inr high) h = high.2

-- an opcode below the second range has operands of 32 bits
pub width_within : {first32 last32 first64 last64 w op : ℕ} → InRanges first32 last32 first64 last64 w op → op < first64
    → w ≡ 32
width_within (inl low) h = low.2
width_within (inr high) h = absurd (omega (arith, high.0))

-- ---- the types of the results

-- what the table says of an opcode of a kind whose operands have w bits, and whose result has r
abbrev turns : Kind → (w r op : ℕ) → Bool
turns Unary w r op = w == r
turns Binary w r op = w == r && nat_lt 0 w
turns Convert w r op =
    (if op == I32_WRAP_I64 then r == 32 else nat_le w r) && (if op == I64_EXTEND_I32_S then r == 64 else true)
turns _ w r op = true

turned : (op : ℕ) (kind : Kind) → kind_of op ≡ kind → turns kind (width_of op) (width (result_of op)) op ≡ true
turned op kind is =
    subst (λ k. turns k (width_of op) (width (result_of op)) op ≡ true) is
    (everywhere (λ o. turns (kind_of o) (width_of o) (width (result_of o)) o) refl
    (λ o none. subst (λ k. turns k (width_of o) (width (result_of o)) o ≡ true) (sym none) refl) op)

pub unary_result : (op : ℕ) → kind_of op ≡ Unary → width (result_of op) ≡ width_of op
unary_result op is = sym (eqb-true (width_of op) (width (result_of op)) (turned op Unary is))

binaries : (w r : ℕ) → (w == r && nat_lt 0 w) ≡ true → (r ≡ w) × (0 < w)
binaries w r h = grind (arith, nat_tests)

pub binary_result : (op : ℕ) → kind_of op ≡ Binary → width (result_of op) ≡ width_of op
binary_result op is = (binaries (width_of op) (width (result_of op)) (turned op Binary is)).0

pub binary_wide : (op : ℕ) → kind_of op ≡ Binary → 0 < width_of op
binary_wide op is = (binaries (width_of op) (width (result_of op)) (turned op Binary is)).1

pub record ConvertWidths (w r op : ℕ) : Type 0 where
  pub wraps : op ≡ I32_WRAP_I64 → r ≡ 32
  pub extends : op ≡ I64_EXTEND_I32_S → r ≡ 64
  pub keeps : op ≢ I32_WRAP_I64 → w ≤ r

conversions : (w r op : ℕ) → turns Convert w r op ≡ true → ConvertWidths w r op
conversions w r op h =
    record {
      wraps = λ is. grind (arith, nat_tests);
      extends = λ is. grind (arith, nat_tests);
      keeps = λ is. grind (arith, nat_tests);
    }

pub convert_result : (op : ℕ) → kind_of op ≡ Convert → ConvertWidths (width_of op) (width (result_of op)) op
convert_result op is = conversions (width_of op) (width (result_of op)) op (turned op Convert is)
