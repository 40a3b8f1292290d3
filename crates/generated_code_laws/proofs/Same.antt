-- Changes that are equal to effects.
use Rattle.std.proofs.Common.{◌≡◌, ℕ, ◌+◌, List, [], ◌∷◌, ◌++◌, length, Option, None, refl, sym, ap, ◌∙◌, subst}
use Rattle.std.specs.Option.{option_or}
use Rattle.base.proofs.Options.{or_none, or_assoc}
use Rattle.trace_model.specs.declared.tapes.Effect.{Effect}
use Rattle.trace_model.specs.declared.tapes.Effect.TheVariants.{Bytes}
use Rattle.record_replay_spec.specs.Known.{last_some}
use Rattle.record_replay_spec.specs.Needed.{effect_byte, effect_entry, effect_global, effect_pages, effect_entries}
use Rattle.replay_run_spec.specs.Stretches.{AreSameChanges}
use Rattle.replay_run_spec.proofs.Joined.{bytes_split}

-- what the last of two parts gives
last_both : {X : Type 0} (part : Effect → Option X) (first second : List Effect)
    → last_some part (first ++ second) ≡ option_or (last_some part second) (last_some part first)
last_both part [] second = sym (or_none (last_some part second))
last_both part (effect ∷ first) second =
    ap (λ o. option_or o (part effect)) (last_both part first second)
    ∙ or_assoc (last_some part second) (last_some part first) (part effect)

pub same_both : (first second changed more : List Effect) → AreSameChanges changed first → AreSameChanges more second
    → AreSameChanges (changed ++ more) (first ++ second)
same_both first second changed more a b =
    record {
      pages = both effect_pages a.pages b.pages;
      entries = both effect_entries a.entries b.entries;
      byte = λ at. both (effect_byte at) (a.byte at) (b.byte at);
      entry = λ at. both (effect_entry at) (a.entry at) (b.entry at);
      global = λ at. both (effect_global at) (a.global at) (b.global at);
    }
  where
    both : {X : Type 0} (part : Effect → Option X) → last_some part changed ≡ last_some part first
        → last_some part more ≡ last_some part second → last_some part (changed ++ more) ≡ last_some part (first ++ second)
    both part e f =
        last_both part changed more
        ∙ ap (λ o. option_or o (last_some part changed)) f
        ∙ ap (option_or (last_some part second)) e ∙ sym (last_both part first second)

pub same_is : (changes effects : List Effect) → changes ≡ effects → AreSameChanges changes effects
same_is changes effects e =
    subst (AreSameChanges changes) e
    (record { pages = refl; entries = refl; byte = λ at. refl; entry = λ at. refl; global = λ at. refl })

-- ---- bytes in two parts

-- a run of bytes is written in two parts, the first part first
pub bytes_apart : (addr next : ℕ) (first more : List ℕ) (changes : List Effect) → addr + length first ≡ next
    → AreSameChanges changes (Bytes next more ∷ [])
    → AreSameChanges (Bytes addr first ∷ changes) (Bytes addr (first ++ more) ∷ [])
bytes_apart addr next first more changes e later =
    record {
      pages = ap (λ o. option_or o None) later.pages;
      entries = ap (λ o. option_or o None) later.entries;
      byte = λ at.
          ap (λ o. option_or o (effect_byte at (Bytes addr first))) (later.byte at)
          ∙ ap (λ n. option_or (effect_byte at (Bytes n more)) (effect_byte at (Bytes addr first))) (sym e)
          ∙ sym (bytes_split at addr first more);
      entry = λ at. ap (λ o. option_or o None) (later.entry at);
      global = λ at. ap (λ o. option_or o None) (later.global at);
    }
