-- A table of two bytes for each number.
use Rattle.std.proofs.Common.{◌≡◌, inl, inr, ℕ, zero, suc, ◌+◌, ◌*◌, ◌-◌, ◌<◌, Bool, true, ◌&&◌, ◌==◌, List, subst, arith, eq-zero-or-pos}
use Rattle.std.specs.Prelude.{slice_index}
use Rattle.std.proofs.lemmas.Bool.{eqb-true}
use Rattle.base.proofs.Booleans.{and_parts}

-- whether a table has the bytes `high` and `low` of each number below `count`
abbrev pub has_pairs : (table : List ℕ) (high low : ℕ → ℕ) (count : ℕ) → Bool
has_pairs table high low zero = true
has_pairs table high low (suc n) = ((slice_index table (n * 2) == high n) && (slice_index table (n * 2 + 1) == low n)) && has_pairs table high low n

-- the bytes of such a number
pub pair_at : (table : List ℕ) (high low : ℕ → ℕ) (count n : ℕ) → has_pairs table high low count ≡ true → n < count
    → (slice_index table (n * 2) ≡ high n) × (slice_index table (n * 2 + 1) ≡ low n)
pair_at table high low zero n h within = absurd (omega (arith, within))
pair_at table high low (suc last) n h within =
    let parts = and_parts ((slice_index table (last * 2) == high last) && (slice_index table (last * 2 + 1) == low last)) (has_pairs table high low last) h in
    elim (eq-zero-or-pos (last - n)) [
      | inl z ↦
          let same : last ≡ n = omega (arith, z, within) in
          let pair = and_parts (slice_index table (last * 2) == high last) (slice_index table (last * 2 + 1) == low last) parts.0 in
          subst (λ k. (slice_index table (k * 2) ≡ high k) × (slice_index table (k * 2 + 1) ≡ low k)) same (eqb-true _ _ pair.0, eqb-true _ _ pair.1)
      | inr more ↦ pair_at table high low last n parts.1 (omega (arith, more))
    ]
