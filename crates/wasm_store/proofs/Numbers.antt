-- Numbers as their bytes, the lowest first: as this project has them, and as the library has them.
use Rattle.std.proofs.Common.{◌≡◌, ℕ, suc, ◌+◌, ◌-◌, ◌*◌, ◌<◌, ◌≤◌, ◌^◌, get_or, subst, List, [], ◌∷◌, ◌++◌, length, take, drop, replicate, ap, sym, ◌∙◌, arith, Some, option_map, length-append, length-drop}
use Rattle.std.specs.Int.{w64, from_le_bytes}
use Rattle.std.proofs.Math.Nat.{pow-succ'}
use Rattle.std.proofs.Math.Seq.{take-length}
use Rattle.std.proofs.lemmas.List.{drop-replicate, length-take-le, get_or-take, get_or-drop}
use Rattle.std.proofs.lemmas.Bool.{cond-true, le-leb}
use Rattle.history_spec.specs.Store.{number_of, bytes_at}
use Rattle.history_spec.proofs.ByteNumbers.{number_of-zeros, from_le_bytes-number_of}

-- bytes that all exist
pub bytes_at-there : (bytes : List ℕ) (address count : ℕ) → address + count ≤ length bytes
    → bytes_at bytes address count ≡ Some (take count (drop address bytes))
bytes_at-there bytes address count h = cond-true _ _ _ (le-leb _ _ h)

-- all bytes from an address on
pub drop_all : (address : ℕ) (bytes : List ℕ) → take (length bytes - address) (drop address bytes) ≡ drop address bytes
drop_all address bytes = rw (← length-drop address bytes) (take-length (drop address bytes))

-- a number of that many bytes
pub number_of-fits : (bytes : List ℕ) → ((i : ℕ) → i < length bytes → get_or bytes i 0 < 256)
    → number_of bytes < 256 ^ length bytes
number_of-fits [] fit = omega arith
number_of-fits (b ∷ bs) fit =
    let rest : number_of bs < 256 ^ length bs = number_of-fits bs (λ i h. fit (suc i) (omega arith)) in
    let first : b < 256 = fit 0 (omega arith) in
    let power : 256 ^ suc (length bs) ≡ 256 * 256 ^ length bs = pow-succ' 256 (length bs) in
    rw power (omega arith)

-- the number of a word whose lowest bytes are these and whose other bytes are 0
pub number_of-word : (part : List ℕ) (width : ℕ) → length part ≡ width → width ≤ 8
    → from_le_bytes w64 (part ++ drop width (replicate 8 0)) ≡ number_of part
number_of-word part width is_width small =
    from_le_bytes-number_of (part ++ drop width (replicate 8 0))
    (omega (
      arith,
      length-append {A = ℕ} part (drop width (replicate 8 0)),
      length-drop {A = ℕ} width
          (replicate 8 0),
    ))
    ∙ rw drop-replicate (number_of-zeros part (8 - width))

-- the number read from a word whose lowest bytes are those at an address and whose other bytes are 0
pub number_at-word : (bytes : List ℕ) (address width number : ℕ) (part : List ℕ) → width ≤ 8
    → address + width ≤ length bytes → part ≡ take width (drop address bytes)
    → number ≡ from_le_bytes w64 (part ++ drop width (replicate 8 0))
    → option_map number_of (bytes_at bytes address width) ≡ Some number
number_at-word bytes address width number part small there is_part is_number =
    let long : length part ≡ width =
    ap length is_part ∙ length-take-le width (drop address bytes) (omega (arith, length-drop address bytes)) in
    ap (option_map number_of) (bytes_at-there bytes address width there)
    ∙ ap (λ bs. Some (number_of bs)) (sym is_part)
    ∙ ap Some (sym (is_number ∙ number_of-word part width long small))

-- a number read from that many bytes at an address
pub number_at-fits : (bytes : List ℕ) (address width number : ℕ) → ((i : ℕ) → get_or bytes i 0 < 256)
    → address + width ≤ length bytes → option_map number_of (bytes_at bytes address width) ≡ Some number
    → number < 256 ^ width
number_at-fits bytes address width number fit there is_number =
    let part : List ℕ = take width (drop address bytes) in
    let long : length part ≡ width =
    length-take-le width (drop address bytes) (omega (arith, length-drop address bytes)) in
    let each : (i : ℕ) → i < length part → get_or part i 0 < 256 =
    λ i h. subst (λ x. x < 256)
    (sym (get_or-take width (drop address bytes) i 0 (omega arith) ∙ get_or-drop address bytes i 0))
    (fit (address + i)) in
    let found : Some (number_of part) ≡ Some number =
    ap (option_map number_of) (sym (bytes_at-there bytes address width there)) ∙ is_number in
    let same : number_of part ≡ number = cc in
    subst (λ n. number < 256 ^ n) long (subst (λ n. n < 256 ^ length part) same (number_of-fits part each))
