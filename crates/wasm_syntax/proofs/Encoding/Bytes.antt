-- Numbers that are made of a given number of bytes.
use Rattle.std.proofs.Common.{◌≡◌, ℕ, ◌≤◌, ◌<◌, ◌^◌, List, length, take, drop, get_or, Some, true, refl}
use Rattle.std.specs.Prelude.{nat_lt, option_and_then}
use Rattle.std.specs.List.{list_all}
use Rattle.std.proofs.lemmas.List.{get_or_default}
use Rattle.std.proofs.lemmas.Bool.{le-ltb, lt-ltb}
use Rattle.std.proofs.lemmas.List.Elements.{All-take}
use Rattle.std.proofs.lemmas.List.Sums.{list_all-from_AllPass}
use Rattle.wasm_syntax.specs.Encoding.Readers.{first_raw, where_bytes}

pub bits_read : (bits : List ℕ → ℕ) (count : ℕ) (bytes : List ℕ) → count ≤ length bytes
    → ((i : ℕ) → get_or bytes i 0 < 256)
    → option_and_then (where_bytes bits) (first_raw count bytes) ≡ Some (bits (take count bytes), drop count bytes)
bits_read bits count bytes enough small =
    let fit : list_all (λ b. nat_lt b (2 ^ 8)) (take count bytes) ≡ true =
    list_all-from_AllPass (λ b. nat_lt b (2 ^ 8)) (take count bytes)
    (All-take (λ b. nat_lt b (2 ^ 8) ≡ true) count bytes
    (λ k d within. lt-ltb _ _ (rw (get_or_default bytes k d 0 within) (small k)))) in
    rw (le-ltb (length bytes) count enough, fit) refl
