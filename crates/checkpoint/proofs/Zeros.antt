-- Zeros at the end of bytes.
use Rattle.std.proofs.Common.{◌≡◌, ◌≢◌, ℕ, zero, suc, List, [], ◌∷◌, ◌++◌, refl, sym, ap, ◌∙◌}
use Rattle.rest_spec.specs.StateSegments.{with_byte, without_last_zeros}

one_zero : (bytes : List ℕ) → without_last_zeros (bytes ++ 0 ∷ []) ≡ without_last_zeros bytes
one_zero [] = refl
one_zero (byte ∷ bytes) = ap (with_byte byte) (one_zero bytes)

kept_byte : (byte last : ℕ) (bytes : List ℕ)
    → with_byte byte (bytes ++ suc last ∷ []) ≡ byte ∷ (bytes ++ suc last ∷ [])
kept_byte zero last [] = refl
kept_byte zero last (next ∷ bytes) = refl
kept_byte (suc byte) last bytes = refl

one_other : (bytes : List ℕ) (last : ℕ) → without_last_zeros (bytes ++ suc last ∷ []) ≡ bytes ++ suc last ∷ []
one_other [] last = refl
one_other (byte ∷ bytes) last = ap (with_byte byte) (one_other bytes last) ∙ kept_byte byte last bytes

-- a zero at the end is left out
pub zero_last : (bytes shorter : List ℕ) (last : ℕ) → bytes ≡ shorter ++ last ∷ [] → last ≡ 0
    → without_last_zeros shorter ≡ without_last_zeros bytes
zero_last bytes shorter last split is_zero =
    sym (one_zero shorter)
    ∙ ap (λ byte. without_last_zeros (shorter ++ byte ∷ [])) (sym is_zero)
    ∙ ap without_last_zeros (sym split)

-- bytes that end with another one are kept
pub other_last : (bytes shorter : List ℕ) (last : ℕ) → bytes ≡ shorter ++ last ∷ [] → last ≢ 0
    → bytes ≡ without_last_zeros bytes
other_last bytes shorter zero split not_zero = absurd (not_zero refl)
other_last bytes shorter (suc last) split not_zero =
    split ∙ sym (one_other shorter last) ∙ ap without_last_zeros (sym split)
