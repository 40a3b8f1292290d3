-- The digits of a number in hexadecimal, by those of its bytes.
use Rattle.std.proofs.Common.{◌≡◌, ℕ, ◌+◌, ◌*◌, ◌/◌, ◌%◌, ◌<◌, List, [], ◌∷◌, ◌++◌, refl, ◌∙◌, ap, ap₂, arith}
use Rattle.std.specs.Prelude.{codes, slice_index}
use Rattle.history_lines.specs.declared.pieces.TheConstants.{PAIRS}
use Rattle.history_lines.proofs.Pairs.{pair_at}
use Rattle.history_spec.specs.Line.{hex_digits}

-- ---- the two digits of a byte

abbrev digit : ℕ → ℕ
digit n = slice_index (codes "0123456789abcdef") n

-- after other bytes
pub pair-pushed : (old : List ℕ) (b : ℕ) → b < 256 → (old ++ slice_index PAIRS (b * 2) ∷ []) ++ slice_index PAIRS (b * 2 + 1) ∷ [] ≡ old ++ hex_digits 2 b
pair-pushed [] b within =
    let pair = pair_at PAIRS (λ n. digit (n / 16)) (λ n. digit (n % 16)) 256 b refl within in
    let upper : b / 16 ≡ b / 16 % 16 = omega (arith, within) in
    ap₂ (λ high low. high ∷ low ∷ []) (pair.0 ∙ ap digit upper) pair.1
pair-pushed (first ∷ old) b within = ap (λ l. first ∷ l) (pair-pushed old b within)

-- ---- digits of a number

same : (a b : ℕ) (l m : List ℕ) → a ≡ b → l ≡ m → digit a ∷ l ≡ digit b ∷ m
same a b l m p q = ap₂ (λ d ds. digit d ∷ ds) p q

-- eight digits, by those of four bytes
pub eight-pushed : (old : List ℕ) (n : ℕ)
    → (((old ++ hex_digits 2 (n / 16777216 % 256)) ++ hex_digits 2 (n / 65536 % 256)) ++ hex_digits 2 (n / 256 % 256))
    ++ hex_digits 2 (n % 256) ≡ old ++ hex_digits 8 n
eight-pushed [] n =
    same _ _ _ _ (omega arith) (same _ _ _ _ (omega arith) (same _ _ _ _ (omega arith) (same _ _ _ _ (omega arith)
    (same _ _ _ _ (omega arith) (same _ _ _ _ (omega arith) (same _ _ _ _ (omega arith) (same _ _ _ _ (omega arith) refl)))))))
eight-pushed (first ∷ old) n = ap (λ l. first ∷ l) (eight-pushed old n)

-- sixteen digits, by the upper eight and the lower eight
pub sixteen-pushed : (old : List ℕ) (n : ℕ) → (old ++ hex_digits 8 (n / 4294967296)) ++ hex_digits 8 n ≡ old ++ hex_digits 16 n
sixteen-pushed [] n =
    let upper : n / 4294967296 ≡ n / 16 / 16 / 16 / 16 / 16 / 16 / 16 / 16 = omega arith in
    ap (λ k. hex_digits 8 k ++ hex_digits 8 n) upper
sixteen-pushed (first ∷ old) n = ap (λ l. first ∷ l) (sixteen-pushed old n)
