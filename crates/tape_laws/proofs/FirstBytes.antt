-- The first byte that longest runs of bytes contain at an address is the needed one.
use Rattle.std.proofs.Common.{◌≡◌, ℕ, suc, ◌+◌, List, [], ◌∷◌, ◌++◌, Option, Some, None, Bool, true, false, cond, nat_eq, nat_le, refl, sym, ap, ◌∙◌, subst, arith}
use Rattle.std.specs.Option.{option_or}
use Rattle.std.proofs.lemmas.Bool.Decides.{nat_tests}
use Rattle.trace_model.specs.declared.events.Event.{Event}
use Rattle.trace_model.specs.declared.events.Event.TheVariants.{Seen, Table, Bytes, Entry, Global}
use Rattle.trace_model.specs.declared.tapes.Effect.{Effect}
use Rattle.trace_model.specs.declared.tapes.Effect.TheVariants as effects
use Rattle.record_replay_spec.specs.Known.{byte_among}
use Rattle.record_replay_spec.specs.Needed.{needed, effect_byte}
use Rattle.record_replay_spec.proofs.Tested.{byte_later}
use Rattle.record_replay_spec.specs.Logs.{with_first_byte, differing_runs}
use Rattle.record_replay_spec.specs.LogTapes.{first_some}
use Rattle.record_replay_spec.proofs.LongestRuns.{byte_first, byte_before}

-- what an event finds, if the last growth reported this size
abbrev pub found_by : (size : ℕ) → Event → List Effect
found_by size Seen = effects.Grow size ∷ []
found_by size (Table entries) = effects.Table entries ∷ []
found_by size (Bytes address bytes) = effects.Bytes address bytes ∷ []
found_by size (Entry index func) = effects.Entry index func ∷ []
found_by size (Global global value) = effects.Global global value ∷ []
found_by size event = []

abbrev pub finds_of : (size : ℕ) → List Event → List Effect
finds_of size [] = []
finds_of size (event ∷ events) = found_by size event ++ finds_of size events

-- the first byte at an address that events find
abbrev first_found : (size at : ℕ) → List Event → Option ℕ
first_found size at events = first_some (effect_byte at) (finds_of size events)

no_byte : (b : Bool) → cond {A = Option ℕ} b None None ≡ None
no_byte true = refl
no_byte false = refl

-- ---- a byte in front of runs

module _ (size address byte : ℕ) where
  -- a byte in front of runs is found at its address
  front_found : (runs : List Event) → first_found size address (with_first_byte address byte runs) ≡ Some byte
  front_found [] = ap (λ o. option_or o None) (byte_first address byte [])
  front_found (Bytes at bytes ∷ runs) = go (nat_eq at (address + 1))
    where
      go : (b : Bool)
          → first_found size address
          (cond b (Bytes address (byte ∷ bytes) ∷ runs) (Bytes address (byte ∷ []) ∷ Bytes at bytes ∷ runs))
          ≡ Some byte
      go true = ap (λ o. option_or o (first_found size address runs)) (byte_first address byte bytes)
      go false =
          ap (λ o. option_or o (first_found size address (Bytes at bytes ∷ runs))) (byte_first address byte [])
  front_found (event ∷ runs) =
      ap (λ o. option_or o (first_found size address (event ∷ runs))) (byte_first address byte [])

  -- a byte in front of runs changes nothing at any other address
  alone_past : (runs : List Event) (at : ℕ) → nat_eq address at ≡ false
      → first_found size at (Bytes address (byte ∷ []) ∷ runs) ≡ first_found size at runs
  alone_past runs at other =
      ap (λ o. option_or o (first_found size at runs))
      (byte_later address byte [] at other ∙ no_byte (nat_le (suc address) at))

  front_past : (runs : List Event) (at : ℕ) → nat_eq address at ≡ false
      → first_found size at (with_first_byte address byte runs) ≡ first_found size at runs
  front_past [] at other = alone_past [] at other
  front_past (Bytes begin bytes ∷ runs) at other = go (nat_eq begin (address + 1)) refl
    where
      go : (b : Bool) → nat_eq begin (address + 1) ≡ b
          → first_found size at
          (cond b (Bytes address (byte ∷ bytes) ∷ runs) (Bytes address (byte ∷ []) ∷ Bytes begin bytes ∷ runs))
          ≡ first_found size at (Bytes begin bytes ∷ runs)
      go true next =
          let is_next : begin ≡ suc address = grind (arith, nat_tests, next) in
          ap (λ o. option_or o (first_found size at runs))
          (byte_later address byte bytes at other ∙ ap (λ from. byte_among from bytes at) (sym is_next))
      go false next = alone_past (Bytes begin bytes ∷ runs) at other
  front_past (event ∷ runs) at other = alone_past (event ∷ runs) at other

-- ---- all bytes

pub first_differing : (size : ℕ) (known : ℕ → ℕ) (address : ℕ) (bytes : List ℕ) (at : ℕ)
    → first_some (effect_byte at) (finds_of size (differing_runs known address bytes))
    ≡ needed nat_eq (known at) (byte_among address bytes at)
first_differing size known address [] at = sym (ap (needed nat_eq (known at)) (no_byte (nat_le address at)))
first_differing size known address (byte ∷ bytes) at =
    let e : address + 1 ≡ suc address = omega arith in
    let rest = λ (place : ℕ). subst
    (λ next. first_found size place (differing_runs known (address + 1) bytes)
    ≡ needed nat_eq (known place) (byte_among next bytes place)) e
    (first_differing size known (address + 1) bytes place) in
    go (nat_eq byte (known address)) (nat_eq address at) refl refl rest
  where
    runs : List Event
    runs = differing_runs known (address + 1) bytes

    go : (b c : Bool) → nat_eq byte (known address) ≡ b → nat_eq address at ≡ c
        → ((place : ℕ) → first_found size place runs ≡ needed nat_eq (known place) (byte_among (suc address) bytes place))
        → first_found size at (cond b runs (with_first_byte address byte runs))
        ≡ needed nat_eq (known at) (byte_among address (byte ∷ bytes) at)
    go true true same here rest =
        let e : address ≡ at = grind (arith, nat_tests, here) in
        let p : nat_eq (known address) byte ≡ true = grind (arith, nat_tests, same) in
        subst
        (λ place. first_found size place runs ≡ needed nat_eq (known place) (byte_among address (byte ∷ bytes) place)) e
        (rest address ∙ ap (needed nat_eq (known address)) (byte_before address bytes)
        ∙ sym (ap (needed nat_eq (known address)) (byte_first address byte bytes)
        ∙ ap (λ b. cond b None (Some byte)) p))
    go false true differs here rest =
        let e : address ≡ at = grind (arith, nat_tests, here) in
        let p : nat_eq (known address) byte ≡ false = grind (arith, nat_tests, differs) in
        subst
        (λ place. first_found size place (with_first_byte address byte runs)
        ≡ needed nat_eq (known place) (byte_among address (byte ∷ bytes) place)) e
        (front_found size address byte runs
        ∙ sym (ap (needed nat_eq (known address)) (byte_first address byte bytes)
        ∙ ap (λ b. cond b None (Some byte)) p))
    go true false same there rest =
        rest at ∙ ap (needed nat_eq (known at)) (sym (byte_later address byte bytes at there))
    go false false differs there rest =
        front_past size address byte runs at there ∙ rest at
        ∙ ap (needed nat_eq (known at)) (sym (byte_later address byte bytes at there))
