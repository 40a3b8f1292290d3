-- The byte at an address, in a list of bytes that begins at another address.
use Rattle.std.proofs.Common.{◌≡◌, ℕ, ◌+◌, ◌-◌, ◌<◌, ◌≤◌, List, length, Option, None, true, false, cond, nat_le, slice_get, ap, ◌∙◌, arith}
use Rattle.std.proofs.lemmas.Bool.Decides.{nat_tests}
use Rattle.std.proofs.lemmas.Option.{slice_get_past}

abbrev pub placed_byte : (start : ℕ) → List ℕ → (at : ℕ) → Option ℕ
placed_byte start bytes at = cond (nat_le start at) (slice_get bytes (at - start)) None

pub byte_below : (start : ℕ) (bytes : List ℕ) (at : ℕ) → at < start → placed_byte start bytes at ≡ None
byte_below start bytes at below =
    let e : nat_le start at ≡ false = grind (arith, nat_tests) in
    ap (λ b. cond b (slice_get bytes (at - start)) None) e

pub byte_past : (start : ℕ) (bytes : List ℕ) (at : ℕ) → start + length bytes ≤ at → placed_byte start bytes at ≡ None
byte_past start bytes at past =
    let e : nat_le start at ≡ true = grind (arith, nat_tests) in
    ap (λ b. cond b (slice_get bytes (at - start)) None) e ∙ slice_get_past bytes (at - start) (omega arith)

pub byte_moved : (by start : ℕ) (bytes : List ℕ) (at : ℕ)
    → placed_byte (by + start) bytes (by + at) ≡ placed_byte start bytes at
byte_moved by start bytes at =
    let e : nat_le (by + start) (by + at) ≡ nat_le start at = grind (arith, nat_tests) in
    let d : (by + at) - (by + start) ≡ at - start = omega arith in
    ap (λ b. cond b (slice_get bytes ((by + at) - (by + start))) None) e
    ∙ ap (λ i. cond (nat_le start at) (slice_get bytes i) None) d

pub byte_in : (start k : ℕ) (bytes : List ℕ) → placed_byte start bytes (start + k) ≡ slice_get bytes k
byte_in start k bytes =
    let p : nat_le start (start + k) ≡ true = grind (arith, nat_tests) in
    let q : start + k - start ≡ k = omega arith in
    ap (λ b. cond b (slice_get bytes (start + k - start)) None) p ∙ ap (slice_get bytes) q
