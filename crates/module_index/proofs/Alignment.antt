-- Alignment of accesses.
use Rattle.std.proofs.Common.{◌≡◌, ℕ, suc, ◌^◌, ◌<◌, ◌≤◌, sym, ◌∙◌, arith}
use Rattle.std.specs.Prelude.{nat_lt, nat_le}
use Rattle.std.proofs.Math.Pow.{pow_mono}
use Rattle.std.proofs.lemmas.Bool.{lt-leb}

-- an exponent that no width of 32 bits reaches
pub too_aligned : (align width : ℕ) → 32 ≤ align → width < 2 ^ 32 → nat_lt align 32 ≡ nat_le (2 ^ align) width
too_aligned align width far fits =
    let least : 2 ^ 32 ≤ 2 ^ align = pow_mono far in
    lt-leb (suc align) 32 (omega arith) ∙ sym (lt-leb (2 ^ align) width (omega arith))
