-- The text of a number by its digits.
use Rattle.std.proofs.Common.{◌≡◌, ℕ, ◌+◌, ◌*◌, ◌/◌, ◌%◌, ◌<◌, ◌≤◌, List, [], ◌∷◌, ◌++◌, refl, sym, ◌∙◌, ap, ap₂, append_assoc, arith}
use Rattle.std.specs.Fmt.{decimal}
use Rattle.std.proofs.lemmas.Fmt.{decimal_digit, decimal_step}
use Rattle.std.specs.Prelude.{slice_index}
use Rattle.history_lines.specs.declared.pieces.TheConstants.{TENS}
use Rattle.history_lines.proofs.Pairs.{pair_at}
use Rattle.history_spec.specs.Line.{number_text}

pub one-digit : (n a : ℕ) → n < 10 → a ≡ 48 + n → 32 ∷ a ∷ [] ≡ number_text n
one-digit n a most first = ap (λ d. 32 ∷ d ∷ []) first ∙ ap (λ ds. 32 ∷ ds) (sym (decimal_digit n most))

decimal-two : (n : ℕ) → 10 ≤ n → n < 100 → decimal n ≡ (48 + n / 10) ∷ (48 + n % 10) ∷ []
decimal-two n least most = decimal_step n least (omega (arith, most)) ∙ ap (λ ds. ds ++ (48 + n % 10) ∷ []) (decimal_digit (n / 10) (omega (arith, most)))

-- the two digits of a number below 100, after other bytes
pub two-pushed : (old : List ℕ) (n : ℕ) → n < 100
    → (old ++ slice_index TENS (n * 2) ∷ []) ++ slice_index TENS (n * 2 + 1) ∷ []
    ≡ old ++ (48 + n / 10) ∷ (48 + n % 10) ∷ []
two-pushed [] n within =
    let pair = pair_at TENS (λ k. 48 + k / 10) (λ k. 48 + k % 10) 100 n refl within in
    ap₂ (λ high low. high ∷ low ∷ []) pair.0 pair.1
two-pushed (first ∷ old) n within = ap (λ l. first ∷ l) (two-pushed old n within)

-- a number of two digits, after other bytes
pub tens-pushed : (old : List ℕ) (n : ℕ) → 10 ≤ n → n < 100 → (old ++ 32 ∷ []) ++ (48 + n / 10) ∷ (48 + n % 10) ∷ [] ≡ old ++ number_text n
tens-pushed old n least most =
    append_assoc old (32 ∷ []) ((48 + n / 10) ∷ (48 + n % 10) ∷ [])
    ∙ ap (λ ds. old ++ 32 ∷ ds) (sym (decimal-two n least most))

-- a number of three digits, after other bytes
pub hundreds-pushed : (old : List ℕ) (n : ℕ) → 100 ≤ n → n < 1000
    → (old ++ 32 ∷ (48 + n / 100) ∷ []) ++ (48 + n % 100 / 10) ∷ (48 + n % 100 % 10) ∷ [] ≡ old ++ number_text n
hundreds-pushed old n least most =
    let high : n / 100 ≡ n / 10 / 10 = omega arith in
    let middle : n % 100 / 10 ≡ n / 10 % 10 = omega arith in
    let low : n % 100 % 10 ≡ n % 10 = omega arith in
    let digits : decimal n ≡ (48 + n / 10 / 10) ∷ (48 + n / 10 % 10) ∷ (48 + n % 10) ∷ [] =
    decimal_step n (omega (arith, least)) (omega (arith, most))
    ∙ ap (λ ds. ds ++ (48 + n % 10) ∷ []) (decimal-two (n / 10) (omega (arith, least)) (omega (arith, most))) in
    append_assoc old (32 ∷ (48 + n / 100) ∷ []) ((48 + n % 100 / 10) ∷ (48 + n % 100 % 10) ∷ [])
    ∙ ap (λ a. old ++ 32 ∷ (48 + a) ∷ (48 + n % 100 / 10) ∷ (48 + n % 100 % 10) ∷ []) high
    ∙ ap₂ (λ a b. old ++ 32 ∷ (48 + n / 10 / 10) ∷ (48 + a) ∷ (48 + b) ∷ []) middle low
    ∙ ap (λ ds. old ++ 32 ∷ ds) (sym digits)
