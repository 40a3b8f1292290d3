-- Counts of calls that stay at the greatest number of 64 bits.
use Rattle.std.proofs.Common.{◌≡◌, ℕ, ◌+◌, List, map, slice_set, sym, ap, ◌∙◌, arith}
use Rattle.std.specs.Prelude.{slice_index}
use Rattle.std.proofs.Math.ListN.{get_or-map}
use Rattle.std.proofs.lemmas.List.{map-set}
use Rattle.host_play.specs.Hosts.{kept}

kept_next : (count : ℕ) → kept (kept count + 1) ≡ kept (count + 1)
kept_next count = omega arith

pub kept_at : (counts : List ℕ) (i : ℕ) → slice_index (map kept counts) i ≡ kept (slice_index counts i)
kept_at counts i = get_or-map kept counts i 0

pub kept_more : (counts : List ℕ) (i : ℕ) → slice_set (map kept counts) i (kept (slice_index (map kept counts) i + 1))
    ≡ map kept (slice_set counts i (slice_index counts i + 1))
kept_more counts i =
    ap (λ n. slice_set (map kept counts) i (kept (n + 1))) (kept_at counts i)
    ∙ ap (slice_set (map kept counts) i) (kept_next (slice_index counts i))
    ∙ sym (map-set kept counts i (slice_index counts i + 1))

pub kept_there : (counts items : List ℕ) (i : ℕ) → items ≡ map kept counts → kept (slice_index items i) ≡ slice_index items i
kept_there counts items i is =
    let there : slice_index items i ≡ kept (slice_index counts i) = ap (λ cs. slice_index cs i) is ∙ kept_at counts i in
    omega arith
