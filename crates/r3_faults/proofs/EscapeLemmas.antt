-- Texts that are written escaped.
use Rattle.std.proofs.Common.{◌≡◌, ℕ, ◌+◌, ◌<◌, ◌/◌, ◌%◌, true, false, cond, List, [], ◌∷◌, ◌++◌, length, get_or, take, drop, sym, ◌∙◌, ap, subst, arith, ◌≤◌}
use Rattle.std.proofs.lemmas.Grind.{flat_map-append}
use Rattle.std.proofs.Math.Seq.{take-add}
use Rattle.std.proofs.lemmas.List.{take-append-drop}
use Rattle.r3_faults.specs.Lines.{escaped, escaped_byte, is_plain, hex_digit}

-- a text is escaped part by part
pub escaped-split : (text : List ℕ) (k : ℕ) → escaped (take k text) ++ escaped (drop k text) ≡ escaped text
escaped-split text k =
    sym (flat_map-append escaped_byte (take k text) (drop k text)) ∙ ap escaped (take-append-drop k text)

-- a first byte that is not plain
pub escaped-first : (text : List ℕ) → 0 < length text → is_plain (get_or text 0 0) ≡ false
    → escaped (take 1 text) ≡ 92 ∷ hex_digit (get_or text 0 0 / 16) ∷ hex_digit (get_or text 0 0 % 16) ∷ []
escaped-first [] h e = absurd (omega arith)
escaped-first (byte ∷ bytes) h e =
    ap (λ t. cond t (byte ∷ []) (92 ∷ hex_digit (byte / 16) ∷ hex_digit (byte % 16) ∷ []) ++ []) e

-- the next part of a text
pub escaped-more : (text : List ℕ) (done count : ℕ)
    → escaped (take done text) ++ escaped (take count (drop done text)) ≡ escaped (take (done + count) text)
escaped-more text done count =
    sym (flat_map-append escaped_byte (take done text) (take count (drop done text)))
    ∙ ap escaped (sym (take-add done count text))

-- the first byte is not plain
pub not-plain_first : (text : List ℕ) (count : ℕ) → count ≤ 0 → 0 < length text
    → (count < length text → is_plain (get_or text count 0) ≡ false) → is_plain (get_or text 0 0) ≡ false
not-plain_first text count none some ends =
    let e : count ≡ 0 = omega arith in
    subst (λ k. is_plain (get_or text k 0) ≡ false) e (ends (omega arith))
