-- The stores of a run of bytes write as many bytes as it has.
use Rattle.std.proofs.Common.{◌≡◌, ℕ, zero, suc, ◌+◌, ◌*◌, ◌/◌, ◌%◌, List, [], ◌∷◌, ◌++◌, ap, ◌∙◌, arith}
use Rattle.std.specs.Prelude.{replicate}
use Rattle.replay_module_spec.specs.Effects.{Width, Eight, Four, Two, One, byte_count, store_widths}

-- how many bytes stores of these widths write
abbrev pub counts_of : List Width → ℕ
counts_of [] = 0
counts_of (width ∷ widths) = byte_count width + counts_of widths

counts_of_same : (width : Width) (number : ℕ) → counts_of (replicate number width) ≡ number * byte_count width
counts_of_same width zero = omega arith
counts_of_same width (suc number) =
    ap (λ n. byte_count width + n) (counts_of_same width number) ∙ grind arith

counts_of_both : (first second : List Width) → counts_of (first ++ second) ≡ counts_of first + counts_of second
counts_of_both [] second = omega arith
counts_of_both (width ∷ first) second =
    let r = counts_of_both first second in
    let all : byte_count width + counts_of (first ++ second)
    ≡ byte_count width + counts_of first + counts_of second = omega (arith, r) in
    all

-- the stores for a number of bytes write this number of bytes
pub counts_of_all : (count : ℕ) → counts_of (store_widths count) ≡ count
counts_of_all count =
    let eights = replicate (count / 8) Eight in
    let fours = replicate (count / 4 % 2) Four in
    let twos = replicate (count / 2 % 2) Two in
    let ones = replicate (count % 2) One in
    let all = counts_of_both eights (fours ++ (twos ++ ones)) in
    let later = counts_of_both fours (twos ++ ones) in
    let last = counts_of_both twos ones in
    let e : counts_of eights ≡ count / 8 * 8 = counts_of_same Eight (count / 8) in
    let f : counts_of fours ≡ count / 4 % 2 * 4 = counts_of_same Four (count / 4 % 2) in
    let t : counts_of twos ≡ count / 2 % 2 * 2 = counts_of_same Two (count / 2 % 2) in
    let o : counts_of ones ≡ count % 2 * 1 = counts_of_same One (count % 2) in
    omega (arith, all, later, last, e, f, t, o)
