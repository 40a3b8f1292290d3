-- The kit's rotations, by `|` of two shifts, are the sums.
use Rattle.std.proofs.Common.{◌≡◌, ℕ, zero, suc, ◌+◌, ◌-◌, ◌*◌, ◌/◌, ◌%◌, ◌^◌, ◌<◌, bit_or, sym, ◌∙◌, ap, ap₂, subst, arith}
use Rattle.std.proofs.Math.Nat.{sub-zero, mod-lt, mod-eq_of_lt, mod_self, mul-one, mul-mod_left, div-one, div-eq_of_lt}
use Rattle.std.proofs.lemmas.Nat.{or_shifted, or_comm, shl-shr, shr_below, mod-pow-add}
use Rattle.std.specs.Int.Bits.{or_self}
use Rattle.wasm_numeric.specs.Integer.{rotl_by}

-- what a shift to the left keeps
kept : (a m j : ℕ) → (a * 2 ^ j) % 2 ^ (m + j) ≡ (a % 2 ^ m) * 2 ^ j
kept a m j =
    mod-pow-add (a * 2 ^ j) m j
    ∙ ap₂ (λ x y. x % 2 ^ m * 2 ^ j + y) (shl-shr a j) (mul-mod_left a (2 ^ j))
    ∙ omega arith

-- the two parts share no bit
apart : (a m j : ℕ) → a < 2 ^ (j + m)
    → bit_or ((a * 2 ^ j) % 2 ^ (m + j)) (a / 2 ^ m) ≡ (a * 2 ^ j) % 2 ^ (m + j) + a / 2 ^ m
apart a m j p =
    ap (λ x. bit_or x (a / 2 ^ m)) (kept a m j)
    ∙ or_shifted (a % 2 ^ m) j (a / 2 ^ m) (shr_below a j m p)
    ∙ ap (λ x. x + a / 2 ^ m) (sym (kept a m j))

-- a turn by j, with m for what is left of the width
turned : (w a m j : ℕ) → m + j ≡ w → a < 2 ^ w
    → bit_or ((a * 2 ^ j) % 2 ^ w) (a / 2 ^ m) ≡ (a * 2 ^ j) % 2 ^ w + a / 2 ^ m
turned w a m j e p =
    subst (λ v. bit_or ((a * 2 ^ j) % 2 ^ v) (a / 2 ^ m) ≡ (a * 2 ^ j) % 2 ^ v + a / 2 ^ m) e
    (apart a m j (let turn : w ≡ j + m = omega arith in subst (λ v. a < 2 ^ v) turn p))

pub rotl_is : (w a j : ℕ) → j < w → a < 2 ^ w → rotl_by w a j ≡ bit_or ((a * 2 ^ j) % 2 ^ w) (a / 2 ^ ((w - j) % w))
rotl_is w a zero q p =
    ap₂ (λ x y. x % 2 ^ w + a / 2 ^ y) (mul-one a) (sub-zero w)
    ∙ ap (λ x. a % 2 ^ w + x) (div-eq_of_lt p)
    ∙ (let plain : a % 2 ^ w + 0 ≡ a = omega (arith, mod-eq_of_lt p) in plain)
    ∙ sym (or_self a)
    ∙ ap₂ (λ x y. bit_or x y)
    (sym (ap (λ x. x % 2 ^ w) (mul-one a) ∙ mod-eq_of_lt p))
    (sym (ap (λ x. a / 2 ^ (x % w)) (sub-zero w) ∙ ap (λ x. a / 2 ^ x) (mod_self w) ∙ div-one a))
rotl_is w a (suc j) q p =
    sym (turned w a (w - suc j) (suc j) (omega arith) p)
    ∙ ap (λ x. bit_or ((a * 2 ^ suc j) % 2 ^ w) (a / 2 ^ x)) (sym (mod-eq_of_lt (omega arith)))

-- a turn to the left by the rest of the width, and back
turned_back : (w k : ℕ) → k < w → (w - (w - k) % w) % w ≡ k
turned_back w zero q =
    ap (λ x. (w - x % w) % w) (sub-zero w) ∙ ap (λ x. (w - x) % w) (mod_self w) ∙ ap (λ x. x % w) (sub-zero w)
    ∙ mod_self w
turned_back w (suc k) q =
    let same : (w - suc k) % w ≡ w - suc k = mod-eq_of_lt (omega arith) in
    ap (λ x. (w - x) % w) same
    ∙ ap (λ x. x % w) (let twice : w - (w - suc k) ≡ suc k = omega arith in twice)
    ∙ mod-eq_of_lt q

pub rotr_is : (w a k : ℕ) → k < w → a < 2 ^ w
    → rotl_by w a ((w - k) % w) ≡ bit_or (a / 2 ^ k) ((a * 2 ^ ((w - k) % w)) % 2 ^ w)
rotr_is w a k q p =
    rotl_is w a ((w - k) % w) (mod-lt (w - k) (omega arith)) p
    ∙ ap (λ x. bit_or ((a * 2 ^ ((w - k) % w)) % 2 ^ w) (a / 2 ^ x)) (turned_back w k q)
    ∙ or_comm ((a * 2 ^ ((w - k) % w)) % 2 ^ w) (a / 2 ^ k)
