-- Bytes of a run, one after another, and what lists by ascending keys have at a key.
use Rattle.std.proofs.Common.{Less, ◌≡◌, ℕ, suc, ◌+◌, ◌-◌, ◌≤◌, ◌<◌, List, [], ◌∷◌, ◌++◌, length, Option, Some, None, Bool, true, false, cond, nat_eq, nat_le, slice_get, slice_index, take, unwrap_or, ◌⊎◌, inl, inr, refl, sym, ap, ◌∙◌, subst, arith}
use Rattle.std.specs.Option.{option_or}
use Rattle.std.specs.Ordering.{nat_cmp}
use Rattle.std.specs.BTreeMap.{is_at}
use Rattle.std.specs.Map.{lookup, keys_of}
use Rattle.std.specs.List.{AllByRecursion}
use Rattle.std.specs.List.Sorted.{IsStrictlySortedBy}
use Rattle.std.proofs.lemmas.Bool.Decides.{nat_tests}
use Rattle.std.proofs.lemmas.Option.{slice_get_past}
use Rattle.std.proofs.lemmas.List.{length-append, length-take-le}
use Rattle.std.proofs.Math.Seq.{take-suc}
use Rattle.base.proofs.Lists.{get_front, get_after_by}
use Rattle.base.proofs.Options.{or_none, or_assoc}
use Rattle.record_replay_spec.specs.Known.{byte_among}

-- ---- lists by keys

-- the value at a key
abbrev pub at_key : {X : Type 0} → List (ℕ × X) → (at : ℕ) → Option X
at_key [] at = None
at_key (entry ∷ entries) at = cond (nat_eq entry.0 at) (Some entry.1) (at_key entries at)

-- the keys ascend from one on
abbrev pub Ascend : {X : Type 0} → (low : ℕ) → List (ℕ × X) → Type 0
Ascend low [] = Unit {0}
Ascend low (entry ∷ entries) = (low ≤ entry.0) × Ascend (suc entry.0) entries

same_key : (at key : ℕ) → is_at (nat_cmp at) key ≡ nat_eq key at
same_key at key = grind (arith, nat_tests)

pub looked_up : {X : Type 0} (entries : List (ℕ × X)) (at : ℕ)
    → lookup (is_at (nat_cmp at)) entries ≡ at_key entries at
looked_up [] at = refl
looked_up (entry ∷ entries) at =
    ap (λ b. cond b (Some entry.1) (lookup (is_at (nat_cmp at)) entries)) (same_key at entry.0)
    ∙ ap (cond (nat_eq entry.0 at) (Some entry.1)) (looked_up entries at)

below : (x y : ℕ) → nat_cmp x y ≡ Less → suc x ≤ y
below x y h = grind (arith, nat_tests, h)

ascend_after : {X : Type 0} (x : ℕ) (entries : List (ℕ × X)) → AllByRecursion (λ y. nat_cmp x y ≡ Less) (keys_of entries)
    → IsStrictlySortedBy nat_cmp (keys_of entries) → Ascend (suc x) entries
unfolding IsStrictlySortedBy
ascend_after x [] h s = tt
ascend_after x (entry ∷ entries) h s = (below x entry.0 h.0, ascend_after entry.0 entries s.0 s.1)

pub ascends : {X : Type 0} (entries : List (ℕ × X)) → IsStrictlySortedBy nat_cmp (keys_of entries) → Ascend 0 entries
unfolding IsStrictlySortedBy
ascends [] s = tt
ascends (entry ∷ entries) s = (omega arith, ascend_after entry.0 entries s.0 s.1)

pub none_below : {X : Type 0} (low : ℕ) (entries : List (ℕ × X)) (at : ℕ) → Ascend low entries → at < low
    → at_key entries at ≡ None
none_below low [] at h less = refl
none_below low (entry ∷ entries) at h less =
    let apart : nat_eq entry.0 at ≡ false = grind (arith, nat_tests, h.0, less) in
    ap (λ b. cond b (Some entry.1) (at_key entries at)) apart
    ∙ none_below (suc entry.0) entries at h.1 (omega (arith, h.0, less))

-- ---- one more byte directly after a run

-- a byte alone
abbrev pub lone : (place byte at : ℕ) → Option ℕ
lone place byte at = cond (nat_eq place at) (Some byte) None

pub among_within : (start : ℕ) (run : List ℕ) (at : ℕ) → nat_le start at ≡ true
    → byte_among start run at ≡ slice_get run (at - start)
among_within start run at h = ap (λ b. cond b (slice_get run (at - start)) None) h

pub among_before : (start : ℕ) (run : List ℕ) (at : ℕ) → nat_le start at ≡ false → byte_among start run at ≡ None
among_before start run at h = ap (λ b. cond b (slice_get run (at - start)) None) h

pub byte_snoc : (start : ℕ) (run : List ℕ) (byte at : ℕ)
    → byte_among start (run ++ byte ∷ []) at
    ≡ option_or (byte_among start run at) (lone (start + length run) byte at)
byte_snoc start run byte at = go (nat_le start at) refl (nat_eq (start + length run) at) refl
  where
    go : (b : Bool) → nat_le start at ≡ b → (e : Bool) → nat_eq (start + length run) at ≡ e
        → byte_among start (run ++ byte ∷ []) at
        ≡ option_or (byte_among start run at) (lone (start + length run) byte at)
    go true from true same =
        let place : at - start ≡ length run + 0 = grind (arith, nat_tests, same) in
        let past : slice_get run (at - start) ≡ None =
        slice_get_past run (at - start) (omega (arith, place)) in
        among_within start (run ++ byte ∷ []) at from
        ∙ get_after_by run (byte ∷ []) (at - start) 0 place
        ∙ sym (ap (λ o. option_or o (lone (start + length run) byte at)) (among_within start run at from ∙ past)
        ∙ ap (λ b. cond b (Some byte) None) same)
    go true from false apart =
        among_within start (run ++ byte ∷ []) at from
        ∙ inside (at - start) (grind (arith, nat_tests, from, apart))
        ∙ sym (ap (option_or (byte_among start run at)) (ap (λ b. cond b (Some byte) None) apart)
        ∙ or_none (byte_among start run at)
        ∙ among_within start run at from)
      where
        inside : (i : ℕ) → (i < length run) ⊎ (length run < i)
            → slice_get (run ++ byte ∷ []) i ≡ slice_get run i
        inside i (inl less) = get_front run (byte ∷ []) i less
        inside i (inr more) =
            slice_get_past (run ++ byte ∷ []) i (omega (arith, length-append run (byte ∷ []), more))
            ∙ sym (slice_get_past run i (omega (arith, more)))
    go false before true same = absurd (false_from (grind (arith, nat_tests, before, same)))
      where
        false_from : ⊥ → ⊥
        false_from x = x
    go false before false apart =
        among_before start (run ++ byte ∷ []) at before
        ∙ sym (ap (λ o. option_or o (lone (start + length run) byte at)) (among_before start run at before)
        ∙ ap (λ b. cond b (Some byte) None) apart)

-- ---- bytes that are taken if no byte was there

or_lone : (o : Option ℕ) (byte : ℕ) → Some (unwrap_or o byte) ≡ option_or o (Some byte)
or_lone None byte = refl
or_lone (Some x) byte = refl

-- after one more of some bytes
pub next_byte : (addr number : ℕ) (bytes : List ℕ) (old before after : ℕ → Option ℕ)
    → ((at : ℕ) → before at ≡ option_or (old at) (byte_among addr (take number bytes) at)) → number < length bytes
    → after (addr + number) ≡ Some (unwrap_or (before (addr + number)) (slice_index bytes number))
    → ((q : ℕ) → nat_eq (addr + number) q ≡ false → after q ≡ before q)
    → (at : ℕ) → after at ≡ option_or (old at) (byte_among addr (take (number + 1) bytes) at)
next_byte addr number bytes old before after kept within here others at = go (nat_eq (addr + number) at) refl
  where
    byte : ℕ
    byte = slice_index bytes number

    so_far : Option ℕ
    so_far = byte_among addr (take number bytes) at

    more : byte_among addr (take (number + 1) bytes) at ≡ option_or so_far (lone (addr + number) byte at)
    more =
        let e : number + 1 ≡ suc number = omega arith in
        let n : length (take number bytes) ≡ number = length-take-le number bytes (omega (arith, within)) in
        ap (λ n. byte_among addr (take n bytes) at) e
        ∙ ap (λ run. byte_among addr run at) (take-suc bytes number 0 within)
        ∙ byte_snoc addr (take number bytes) byte at
        ∙ ap (λ n. option_or so_far (lone (addr + n) byte at)) n

    go : (b : Bool) → nat_eq (addr + number) at ≡ b
        → after at ≡ option_or (old at) (byte_among addr (take (number + 1) bytes) at)
    go true same =
        let place : addr + number ≡ at = grind (arith, nat_tests, same) in
        subst (λ p. after p ≡ Some (unwrap_or (before p) byte)) place here
        ∙ or_lone (before at) byte
        ∙ ap (λ o. option_or o (Some byte)) (kept at)
        ∙ or_assoc (old at) so_far (Some byte)
        ∙ sym (ap (option_or (old at)) (more ∙ ap (λ b. option_or so_far (cond b (Some byte) None)) same))
    go false apart =
        others at apart
        ∙ kept at
        ∙ sym (ap (option_or (old at))
        (more ∙ ap (λ b. option_or so_far (cond b (Some byte) None)) apart ∙ or_none so_far))
