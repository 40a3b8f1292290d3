-- Bytes that are joined make the same changes as before.
use Rattle.std.proofs.Common.{◌≡◌, ℕ, ◌+◌, ◌-◌, ◌≤◌, List, [], ◌∷◌, ◌++◌, length, Option, None, Bool, true, false, nat_eq, nat_le, slice_get, refl, sym, ap, ◌∙◌, arith}
use Rattle.std.specs.Prelude.{cond}
use Rattle.std.specs.Option.{option_or}
use Rattle.std.proofs.lemmas.Bool.Decides.{nat_tests}
use Rattle.std.proofs.lemmas.Option.{slice_get_past}
use Rattle.base.proofs.Lists.{get_front, get_after}
use Rattle.base.proofs.Options.{or_none, or_assoc}
use Rattle.trace_model.specs.declared.tapes.Effect.{Effect}
use Rattle.trace_model.specs.declared.tapes.Effect.TheVariants.{Grow, Table, Bytes, Entry, Global}
use Rattle.record_replay_spec.specs.Known.{last_some}
use Rattle.record_replay_spec.specs.Needed.{effect_byte, effect_entry, effect_global, effect_pages, effect_entries}
use Rattle.replay_run_spec.specs.Stretches.{joined, all_joined}
use Rattle.replay_run_spec.specs.Laws.{JoinedChangesAreSame}

-- joined bytes give what their second part gives, or what their first part gives
abbrev Splits : {X : Type 0} → (Effect → Option X) → Type 0
Splits part = (addr : ℕ) (bytes more : List ℕ)
    → part (Bytes addr (bytes ++ more)) ≡ option_or (part (Bytes (addr + length bytes) more)) (part (Bytes addr bytes))

module _ {X : Type 0} (part : Effect → Option X) (splits : Splits part) where
  join_same : (change : Effect) (later : List Effect)
      → last_some part (joined change later) ≡ option_or (last_some part later) (part change)
  join_same (Bytes addr bytes) [] = refl
  join_same (Bytes addr bytes) (Bytes other more ∷ later) = go (nat_eq (addr + length bytes) other) refl where
    go : (b : Bool) → nat_eq (addr + length bytes) other ≡ b
        → last_some part (cond b (Bytes addr (bytes ++ more) ∷ later) (Bytes addr bytes ∷ Bytes other more ∷ later))
        ≡ option_or (option_or (last_some part later) (part (Bytes other more))) (part (Bytes addr bytes))
    go false e = refl
    go true e =
        let same : addr + length bytes ≡ other = grind (arith, nat_tests, e) in
        ap (λ o. option_or (last_some part later) o)
        (splits addr bytes more ∙ ap (λ at. option_or (part (Bytes at more)) (part (Bytes addr bytes))) same)
        ∙ sym (or_assoc (last_some part later) (part (Bytes other more)) (part (Bytes addr bytes)))
  join_same (Bytes addr bytes) (Grow pages ∷ later) = refl
  join_same (Bytes addr bytes) (Table size ∷ later) = refl
  join_same (Bytes addr bytes) (Entry index func ∷ later) = refl
  join_same (Bytes addr bytes) (Global global value ∷ later) = refl
  join_same (Grow pages) later = refl
  join_same (Table size) later = refl
  join_same (Entry index func) later = refl
  join_same (Global global value) later = refl

  all_same : (changes : List Effect) → last_some part changes ≡ last_some part (all_joined changes)
  all_same [] = refl
  all_same (change ∷ changes) =
      ap (λ o. option_or o (part change)) (all_same changes) ∙ sym (join_same change (all_joined changes))

pub bytes_split : (at : ℕ) → Splits (effect_byte at)
bytes_split at addr bytes more = go (nat_le addr at) refl (nat_le (addr + length bytes) at) refl where
  go : (b : Bool) → nat_le addr at ≡ b → (c : Bool) → nat_le (addr + length bytes) at ≡ c
      → cond b (slice_get (bytes ++ more) (at - addr)) None
      ≡ option_or (cond c (slice_get more (at - (addr + length bytes))) None)
      (cond b (slice_get bytes (at - addr)) None)
  go false e true f = absurd (grind (arith, nat_tests, e, f))
  go false e false f = refl
  go true e false f = get_front bytes more (at - addr) (grind (arith, nat_tests, e, f))
  go true e true f =
      let past : length bytes ≤ at - addr = grind (arith, nat_tests, e, f) in
      let same : at - addr - length bytes ≡ at - (addr + length bytes) = omega arith in
      get_after bytes more (at - addr) past ∙ ap (slice_get more) same
      ∙ sym (or_none (slice_get more (at - (addr + length bytes))))
      ∙ ap (option_or (slice_get more (at - (addr + length bytes)))) (sym (slice_get_past bytes (at - addr) past))

pub joined_same : JoinedChangesAreSame
joined_same changes =
    record {
      pages = all_same effect_pages (λ addr bytes more. refl) changes;
      entries = all_same effect_entries (λ addr bytes more. refl) changes;
      byte = λ at. all_same (effect_byte at) (bytes_split at) changes;
      entry = λ at. all_same (effect_entry at) (λ addr bytes more. refl) changes;
      global = λ at. all_same (effect_global at) (λ addr bytes more. refl) changes;
    }
