-- The longest runs of bytes that are not the known ones: how the first run is reported before the others.
use Rattle.std.proofs.Common.{◌≡◌, ℕ, zero, suc, ◌+◌, ◌-◌, ◌<◌, ◌≤◌, List, [], ◌∷◌, length, take, drop, Bool, true, false, cond, nat_eq, slice_index, refl, sym, ap, ◌∙◌, subst, arith}
use Rattle.std.proofs.lemmas.Bool.Decides.{nat_tests}
use Rattle.std.proofs.lemmas.List.{get_or-drop, drop-drop, length-drop}
use Rattle.trace_model.specs.declared.events.Event.{Event}
use Rattle.trace_model.specs.declared.events.Event.TheVariants.{Bytes}
use Rattle.record_replay_spec.specs.Logs.{with_first_byte, differing_runs}

-- the first `count` bytes are the known ones; none of the first `count` bytes is the known one
abbrev AreAll : (known : ℕ → ℕ) (address : ℕ) (bytes : List ℕ) (count : ℕ) → Type 0
AreAll known address bytes count = (k : ℕ) → k < count → known (address + k) ≡ slice_index bytes k

abbrev AreNone : (known : ℕ → ℕ) (address : ℕ) (bytes : List ℕ) (count : ℕ) → Type 0
AreNone known address bytes count = (k : ℕ) → k < count → known (address + k) ≡ slice_index bytes k → ⊥

-- the bytes after the first are the known ones; they are different
all_later : (known : ℕ → ℕ) (address byte : ℕ) (bytes : List ℕ) (count : ℕ)
    → AreAll known address (byte ∷ bytes) (suc count) → AreAll known (address + 1) bytes count
all_later known address byte bytes count h k below =
    let e : address + 1 + k ≡ address + suc k = omega arith in ap known e ∙ h (suc k) (omega (arith, below))

none_later : (known : ℕ → ℕ) (address byte : ℕ) (bytes : List ℕ) (count : ℕ)
    → AreNone known address (byte ∷ bytes) (suc count) → AreNone known (address + 1) bytes count
none_later known address byte bytes count h k below same =
    let e : address + suc k ≡ address + 1 + k = omega arith in h (suc k) (omega (arith, below)) (ap known e ∙ same)

-- the test of the first byte
first_known : (known : ℕ → ℕ) (address byte : ℕ) (bytes : List ℕ) (count : ℕ)
    → AreAll known address (byte ∷ bytes) (suc count) → nat_eq byte (known address) ≡ true
first_known known address byte bytes count h =
    let e : address ≡ address + 0 = omega arith in
    let same : known address ≡ byte = ap known e ∙ h 0 (omega arith) in
    grind (arith, nat_tests, same)

first_other : (known : ℕ → ℕ) (address byte : ℕ) (bytes : List ℕ) (count : ℕ)
    → AreNone known address (byte ∷ bytes) (suc count) → nat_eq byte (known address) ≡ false
first_other known address byte bytes count h = go (nat_eq byte (known address)) refl
  where
    go : (b : Bool) → nat_eq byte (known address) ≡ b → b ≡ false
    go false p = refl
    go true p =
        let e : address + 0 ≡ address = omega arith in
        let same : known address ≡ byte = grind (arith, nat_tests, p) in
        absurd (h 0 (omega arith) (ap known e ∙ same))

module _ (known : ℕ → ℕ) where
  -- by the test of the first byte
  by_first : (address byte : ℕ) (bytes : List ℕ) (b : Bool) → nat_eq byte (known address) ≡ b
      → differing_runs known address (byte ∷ bytes)
      ≡ cond b (differing_runs known (address + 1) bytes)
      (with_first_byte address byte (differing_runs known (address + 1) bytes))
  by_first address byte bytes b p =
      ap
      (λ t. cond t (differing_runs known (address + 1) bytes)
      (with_first_byte address byte (differing_runs known (address + 1) bytes)))
      p

  -- known bytes have no runs
  pub known_runs : (address : ℕ) (bytes : List ℕ) → AreAll known address bytes (length bytes)
      → differing_runs known address bytes ≡ []
  known_runs address [] h = refl
  known_runs address (byte ∷ bytes) h =
      by_first address byte bytes true (first_known known address byte bytes (length bytes) h)
      ∙ known_runs (address + 1) bytes (all_later known address byte bytes (length bytes) h)

  -- known bytes before others are skipped
  skipped : (start address : ℕ) (bytes : List ℕ) → start ≤ length bytes → AreAll known address bytes start
      → differing_runs known address bytes ≡ differing_runs known (address + start) (drop start bytes)
  skipped zero address bytes within h =
      let e : address ≡ address + 0 = omega arith in ap (λ at. differing_runs known at bytes) e
  skipped (suc start) address [] within h = absurd (omega (arith, within))
  skipped (suc start) address (byte ∷ bytes) within h =
      let e : address + 1 + start ≡ address + suc start = omega arith in
      by_first address byte bytes true (first_known known address byte bytes start h)
      ∙ skipped start (address + 1) bytes (omega (arith, within)) (all_later known address byte bytes start h)
      ∙ ap (λ at. differing_runs known at (drop start bytes)) e

  -- all runs begin at an address or after it
  abbrev AreFrom : (address : ℕ) → List Event → Type 0
  AreFrom address [] = Unit {0}
  AreFrom address (Bytes at bytes ∷ runs) = address ≤ at
  AreFrom address (event ∷ runs) = ⊥

  earlier : (address : ℕ) (runs : List Event) → AreFrom (address + 1) runs → AreFrom address runs
  earlier address [] h = tt
  earlier address (Bytes at bytes ∷ runs) h = omega (arith, h)
  earlier address (event ∷ runs) h = absurd h

  first_from : (address byte : ℕ) (runs : List Event) → AreFrom (address + 1) runs
      → AreFrom address (with_first_byte address byte runs)
  first_from address byte [] h = omega arith
  first_from address byte (Bytes at bytes ∷ runs) h = go (nat_eq at (address + 1))
    where
      go : (b : Bool)
          → AreFrom address
          (cond b (Bytes address (byte ∷ bytes) ∷ runs) (Bytes address (byte ∷ []) ∷ Bytes at bytes ∷ runs))
      go true = omega arith
      go false = omega arith
  first_from address byte (event ∷ runs) h = absurd h

  runs_from : (address : ℕ) (bytes : List ℕ) → AreFrom address (differing_runs known address bytes)
  runs_from address [] = tt
  runs_from address (byte ∷ bytes) = go (runs_from (address + 1) bytes) (nat_eq byte (known address))
    where
      go : AreFrom (address + 1) (differing_runs known (address + 1) bytes) → (b : Bool)
          → AreFrom address
          (cond b (differing_runs known (address + 1) bytes)
          (with_first_byte address byte (differing_runs known (address + 1) bytes)))
      go rest true = earlier address (differing_runs known (address + 1) bytes) rest
      go rest false = first_from address byte (differing_runs known (address + 1) bytes) rest

  -- a byte that is not directly before the first run is a run by itself
  alone : (address byte : ℕ) (runs : List Event) → AreFrom (address + 1 + 1) runs
      → with_first_byte address byte runs ≡ Bytes address (byte ∷ []) ∷ runs
  alone address byte [] h = refl
  alone address byte (Bytes at bytes ∷ runs) h =
      let p : nat_eq at (address + 1) ≡ false = grind (arith, nat_tests, h) in
      ap (λ b. cond b (Bytes address (byte ∷ bytes) ∷ runs) (Bytes address (byte ∷ []) ∷ Bytes at bytes ∷ runs)) p
  alone address byte (event ∷ runs) h = absurd h

  -- no run begins directly after a known byte
  apart : (address : ℕ) (bytes : List ℕ)
      → (0 < length bytes → known address ≡ slice_index bytes 0)
      → AreFrom (address + 1) (differing_runs known address bytes)
  apart address [] h = tt
  apart address (byte ∷ bytes) h =
      let same : known address ≡ byte = h (omega arith) in
      let p : nat_eq byte (known address) ≡ true = grind (arith, nat_tests, same) in
      subst (AreFrom (address + 1)) (sym (by_first address byte bytes true p)) (runs_from (address + 1) bytes)

  -- the first bytes differ, up to a known byte or the end
  run_first : (more address : ℕ) (bytes : List ℕ) → suc more ≤ length bytes → AreNone known address bytes (suc more)
      → (suc more < length bytes → known (address + suc more) ≡ slice_index bytes (suc more))
      → differing_runs known address bytes
      ≡ Bytes address (take (suc more) bytes) ∷ differing_runs known (address + suc more) (drop (suc more) bytes)
  run_first more address [] within differ ended = absurd (omega (arith, within))
  run_first zero address (byte ∷ bytes) within differ ended =
      let next : 0 < length bytes → known (address + 1) ≡ slice_index bytes 0 = λ some. ended (omega (arith, some)) in
      by_first address byte bytes false (first_other known address byte bytes 0 differ)
      ∙ alone address byte (differing_runs known (address + 1) bytes) (apart (address + 1) bytes next)
  run_first (suc more) address (byte ∷ bytes) within differ ended =
      let e : address + 1 + suc more ≡ address + suc (suc more) = omega arith in
      let next : nat_eq (address + 1) (address + 1) ≡ true = grind (arith, nat_tests) in
      let rest = differing_runs known (address + 1 + suc more) (drop (suc more) bytes) in
      let later =
      run_first more (address + 1) bytes (omega (arith, within)) (none_later known address byte bytes (suc more) differ)
      (λ below. ap known e ∙ ended (omega (arith, below))) in
      by_first address byte bytes false (first_other known address byte bytes (suc more) differ)
      ∙ ap (with_first_byte address byte) later
      ∙ ap
      (λ b. cond b (Bytes address (byte ∷ take (suc more) bytes) ∷ rest)
      (Bytes address (byte ∷ []) ∷ Bytes (address + 1) (take (suc more) bytes) ∷ rest))
      next
      ∙ ap
      (λ at. Bytes address (byte ∷ take (suc more) bytes) ∷ differing_runs known at (drop (suc more) bytes))
      e

-- what is known before an address makes no difference
pub same_runs : (known other : ℕ → ℕ) (address : ℕ) (bytes : List ℕ)
    → ((at : ℕ) → address ≤ at → known at ≡ other at)
    → differing_runs known address bytes ≡ differing_runs other address bytes
same_runs known other address [] h = refl
same_runs known other address (byte ∷ bytes) h =
    let rest = same_runs known other (address + 1) bytes (λ at from. h at (omega (arith, from))) in
    ap
    (λ runs. cond (nat_eq byte (known address)) runs (with_first_byte address byte runs))
    rest
    ∙ ap
    (λ it. cond (nat_eq byte it) (differing_runs other (address + 1) bytes)
    (with_first_byte address byte (differing_runs other (address + 1) bytes)))
    (h address (omega arith))

module _ (known : ℕ → ℕ) (address : ℕ) (bytes : List ℕ) (start last : ℕ) (some : start < last)
    (within : last ≤ length bytes) (before : AreAll known address bytes start)
    (differ : (k : ℕ) → start ≤ k → k < last → known (address + k) ≡ slice_index bytes k → ⊥)
    (ended : last < length bytes → known (address + last) ≡ slice_index bytes last) where
  -- the run is the first one
  pub first_run : differing_runs known address bytes
      ≡ Bytes (address + start) (take (last - start) (drop start bytes))
      ∷ differing_runs known (address + last) (drop last bytes)
  first_run =
      skipped known start address bytes (omega (arith, some, within)) before
      ∙ subst
      (λ count. differing_runs known (address + start) (drop start bytes)
      ≡ Bytes (address + start) (take count (drop start bytes))
      ∷ differing_runs known (address + start + count) (drop count (drop start bytes)))
      size
      (run_first known more (address + start) (drop start bytes) fits none end_known)
      ∙ ap
      (λ rest. Bytes (address + start) (take (last - start) (drop start bytes)) ∷ rest)
      (ap (λ at. differing_runs known at (drop (last - start) (drop start bytes))) place
      ∙ ap (differing_runs known (address + last)) dropped)
    where
      more : ℕ
      more = last - start - 1

      size : suc more ≡ last - start
      size = omega (arith, some)

      place : address + start + (last - start) ≡ address + last
      place = omega (arith, some)

      dropped : drop (last - start) (drop start bytes) ≡ drop last bytes
      dropped =
          let e : start + (last - start) ≡ last = omega (arith, some) in
          drop-drop (last - start) start bytes ∙ ap (λ n. drop n bytes) e

      fits : suc more ≤ length (drop start bytes)
      fits = omega (arith, some, within, length-drop start bytes)

      none : AreNone known (address + start) (drop start bytes) (suc more)
      none k below same =
          let e : address + (start + k) ≡ address + start + k = omega arith in
          differ (start + k) (omega arith) (omega (arith, below, some))
          (ap known e ∙ same ∙ get_or-drop start bytes k 0)

      end_known : suc more < length (drop start bytes)
          → known (address + start + suc more) ≡ slice_index (drop start bytes) (suc more)
      end_known below =
          let e : address + start + suc more ≡ address + last = omega (arith, some) in
          let i : last ≡ start + suc more = omega (arith, some) in
          ap known e
          ∙ ended (omega (arith, below, length-drop start bytes))
          ∙ ap (slice_index bytes) i
          ∙ sym (get_or-drop start bytes (suc more) 0)
