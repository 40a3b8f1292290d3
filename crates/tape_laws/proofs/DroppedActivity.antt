-- What the effects that are left of an activity, after some are removed, leave of a store.
use Rattle.std.proofs.Common.{◌≡◌, ℕ, ◌*◌, ◌≤◌, List, [], length, Option, Some, None, Bool, true, cond, nat_eq, slice_get, refl, sym, ap, ◌∙◌, subst, arith, inl, inr}
use Rattle.std.specs.Prelude.{◌⊎◌, IfSome, option_map, unwrap_or}
use Rattle.std.proofs.lemmas.Bool.{eqb-true}
use Rattle.base.proofs.Booleans.{own_number}
use Rattle.wasm_syntax.specs.declared.limits.TheConstants.{PAGE_SIZE}
use Rattle.trace_model.specs.declared.tapes.Effect.{Effect}
use Rattle.history_spec.specs.Store.{Store, Memory, Table}
use Rattle.history_spec.specs.Instantiation.{memory_length, table_length}
use Rattle.record_replay_spec.specs.Observations.{Observation}
use Rattle.record_replay_spec.specs.Alike.{same_option, same_value}
use Rattle.record_replay_spec.specs.Known.{Known, byte_of, entry_of, pages_of, last_some}
use Rattle.record_replay_spec.specs.Windows.{first_byte, first_entry, first_global, found_pages, found_entries}
use Rattle.record_replay_spec.specs.Needed.{needed, effect_byte, effect_entry, effect_global, effect_pages, effect_entries, AreNeeded}
use Rattle.record_replay_spec.proofs.OneList.{effects_same}
use Rattle.record_replay_spec.proofs.Alike.{option_same, value_same, own_option, own_value}
use Rattle.record_replay_spec.specs.Unshown.{first_copied}
use Rattle.tape_laws.specs.Dropped.{IsLeft, AreLeft}
use Rattle.tape_laws.proofs.Stores.{Maxima, maxima}
use Rattle.tape_laws.proofs.Relation.{IsKnownOf, IsReadOf, Holds}
use Rattle.tape_laws.proofs.Effects.{bytes_left, AreDone}
use Rattle.tape_laws.proofs.Activities.{HasSizes, found_bytes, needed_else, size_between}
use Rattle.tape_laws.proofs.DroppedPlaces.{MayLack}
use Rattle.tape_laws.proofs.DroppedStores.{HoldsLess}

-- ---- places

-- nothing is needed if what is found is known
unneeded : {X : Type 0} (same : X → X → Bool) → ((a : X) → same a a ≡ true) → (known : X) (first : Option X)
    → known ≡ unwrap_or first known → needed same known first ≡ None
unneeded same own known None h = refl
unneeded same own known (Some y) h =
    ap (λ b. cond b None (Some y)) (subst (λ z. same known z ≡ true) h (own known))

module _ {X : Type 0} (same : X → X → Bool) (is : (a b : X) → same a b ≡ true → a ≡ b)
    (own : (a : X) → same a a ≡ true) (known : X) (first : Option X) (was left : Option X) (found : X)
    (need : was ≡ needed same known first) (done : found ≡ unwrap_or left known) where
  -- a place after the effects that are left holds what is needed there, else what is known
  left_place : (free : Type 0) → IsLeft was left → free ⊎ (left ≡ was) → MayLack first known found free
  left_place free (inl e) may = inl (done ∙ ap (λ o. unwrap_or o known) (e ∙ need) ∙ needed_else same is known first)
  left_place free (inr e) (inl f) = inr (done ∙ ap (λ o. unwrap_or o known) e, f)
  left_place free (inr e) (inr m) =
      inl (done ∙ ap (λ o. unwrap_or o known) (m ∙ need) ∙ needed_else same is known first)

  -- if a place lacks nothing, nothing was removed from it
  left_all : IsLeft was left → found ≡ unwrap_or first known → left ≡ was
  left_all (inl e) held = e
  left_all (inr e) held =
      e ∙ sym (need ∙ unneeded same own known first (sym (done ∙ ap (λ o. unwrap_or o known) e) ∙ held))

-- ---- an activity

-- a memory or a table of the known size, in which at least that size is found, has the found size
known_memory : (known found : ℕ) (a s : Option Memory) → option_map (λ m. m.max) a ≡ option_map (λ m. m.max) s
    → IfSome a (λ m. length m.bytes ≡ found * PAGE_SIZE) → memory_length a ≡ known * PAGE_SIZE → known ≤ found
    → found ≤ pages_of s → known ≡ found
known_memory known found None None e h l low high = omega (arith, low, high)
known_memory known found None (Some m) e h l low high = cc
known_memory known found (Some m) s e h l low high =
    let a : length m.bytes ≡ found * 65536 = h in
    let b : length m.bytes ≡ known * 65536 = l in
    omega (arith, a, b)

known_table : (known found : ℕ) (a s : Option Table) → option_map (λ t. t.max) a ≡ option_map (λ t. t.max) s
    → IfSome a (λ t. length t.entries ≡ found) → table_length a ≡ known → known ≤ found → found ≤ table_length s
    → known ≡ found
known_table known found None None e h l low high = omega (arith, low, high)
known_table known found None (Some t) e h l low high = cc
known_table known found (Some t) s e h l low high = sym l ∙ h

-- a size from which the effect was removed is the known one, so that nothing was removed
size_left : (given left : Option ℕ) (known found : ℕ) → IsLeft given left → given ≡ needed nat_eq known (Some found)
    → (left ≡ None → known ≡ found) → left ≡ given
size_left given left known found (inl same) need none = same
size_left given left known found (inr nothing) need none =
    nothing ∙ sym (need ∙ unneeded nat_eq own_number known (Some found) (none nothing))

-- from effects that nothing needs, nothing can be removed
pub none_left : (known : Known) (effects left : List Effect) → AreNeeded known [] effects → AreLeft [] effects left
    → left ≡ effects
none_left known effects left need are =
    effects_same left effects are.ordered need.ordered are.nonempty need.nonempty
    (record {
      pages = same _ _ (need.pages ∙ unneeded nat_eq own_number known.pages (Some known.pages) refl) are.pages;
      entries = same _ _ (need.entries ∙ unneeded nat_eq own_number known.entries (Some known.entries) refl)
          are.entries;
      byte = λ at. same _ _ (need.byte at) (are.byte at);
      entry = λ at. same _ _ (need.entry at) (are.entry at);
      global = λ at. same _ _ (need.global at) (are.global at);
    })
  where
    same : {X : Type 0} (was left : Option X) → was ≡ None → IsLeft was left → left ≡ was
    same was left none (inl e) = e
    same was left none (inr e) = e ∙ sym none

module _ (known : Known) (window : List Observation) (store : Store) (sizes : HasSizes store)
    (k : IsKnownOf known store) (real : IsReadOf known window store) (other : Store) (holds : Holds known [] other)
    (alike : maxima other ≡ maxima store) (effects left : List Effect) (need : AreNeeded known window effects)
    (are : AreLeft window effects left) (after : Store) (done : AreDone other left after) where
  abbrev pages_found : ℕ
  pages_found = found_pages known.pages window

  abbrev entries_found : ℕ
  entries_found = found_entries known.entries window

  pub pages_between : (known.pages ≤ pages_found) × (pages_found ≤ pages_of store.memory)
  pages_between =
      size_between known window store sizes k real known.pages (pages_of store.memory) pages_found _ k.pages real.pages

  pub entries_between : (known.entries ≤ entries_found) × (entries_found ≤ table_length store.table)
  entries_between =
      size_between known window store sizes k real known.entries (table_length store.table) entries_found _ k.entries
      real.entries

  -- the sizes of the store before the effects
  pub known_length : memory_length other.memory ≡ known.pages * PAGE_SIZE
  known_length = go other.memory store.memory (ap (λ (m : Maxima). m.pages) alike) holds.pages k.pages
    where
      go : (o s : Option Memory) → option_map (λ m. m.max) o ≡ option_map (λ m. m.max) s
          → IfSome o (λ m. length m.bytes ≡ known.pages * PAGE_SIZE) → known.pages ≤ pages_of s
          → memory_length o ≡ known.pages * PAGE_SIZE
      go None None e h low = omega (arith, low)
      go None (Some s) e h low = cc
      go (Some m) s e h low = h

  pub known_count : table_length other.table ≡ known.entries
  known_count = go other.table store.table (ap (λ (m : Maxima). m.entries) alike) holds.entries k.entries
    where
      go : (o s : Option Table) → option_map (λ t. t.max) o ≡ option_map (λ t. t.max) s
          → IfSome o (λ t. length t.entries ≡ known.entries) → known.entries ≤ table_length s
          → table_length o ≡ known.entries
      go None None e h low = omega (arith, low)
      go None (Some s) e h low = cc
      go (Some m) s e h low = h

  byte_done : (at : ℕ) → byte_of after.memory at ≡ unwrap_or (last_some (effect_byte at) left) (known.byte at)
  byte_done at = done.byte at ∙ ap (unwrap_or (last_some (effect_byte at) left)) (holds.byte at)

  entry_is_done : (at : ℕ) → entry_of after.table at ≡ unwrap_or (last_some (effect_entry at) left) (known.entry at)
  entry_is_done at = done.entry at ∙ ap (unwrap_or (last_some (effect_entry at) left)) (holds.entry at)

  global_is_done : (at : ℕ)
      → slice_get after.globals at ≡ unwrap_or (last_some (effect_global at) left) (known.global at)
  global_is_done at = done.global at ∙ ap (unwrap_or (last_some (effect_global at) left)) (holds.global at)

  -- an effect on a byte that a copy reads first is not removed
  may_byte : (at : ℕ) → (first_copied window at ≡ None)
      ⊎ (last_some (effect_byte at) left ≡ last_some (effect_byte at) effects)
  may_byte at = go (first_copied window at) refl
    where
      go : (o : Option ℕ) → first_copied window at ≡ o
          → (first_copied window at ≡ None) ⊎ (last_some (effect_byte at) left ≡ last_some (effect_byte at) effects)
      go None e = inl e
      go (Some x) e = inr (are.copied at x e)

  sizes_after : (memory_length after.memory ≡ pages_found * PAGE_SIZE)
      ⊎ (memory_length after.memory ≡ known.pages * PAGE_SIZE)
  sizes_after = go are.pages
    where
      length_is : memory_length after.memory ≡ bytes_left (last_some effect_pages left) (known.pages * PAGE_SIZE)
      length_is = done.long ∙ ap (bytes_left (last_some effect_pages left)) known_length

      go : IsLeft (last_some effect_pages effects) (last_some effect_pages left)
          → (memory_length after.memory ≡ pages_found * PAGE_SIZE)
          ⊎ (memory_length after.memory ≡ known.pages * PAGE_SIZE)
      go (inl e) =
          inl
          (length_is ∙ ap (λ o. bytes_left o (known.pages * PAGE_SIZE)) (e ∙ need.pages)
          ∙ found_bytes known.pages pages_found)
      go (inr e) = inr (length_is ∙ ap (λ o. bytes_left o (known.pages * PAGE_SIZE)) e)

  counts_after : (table_length after.table ≡ entries_found) ⊎ (table_length after.table ≡ known.entries)
  counts_after = go are.entries
    where
      count_is : table_length after.table ≡ unwrap_or (last_some effect_entries left) known.entries
      count_is = done.entries ∙ ap (unwrap_or (last_some effect_entries left)) known_count

      go : IsLeft (last_some effect_entries effects) (last_some effect_entries left)
          → (table_length after.table ≡ entries_found) ⊎ (table_length after.table ≡ known.entries)
      go (inl e) =
          inl
          (count_is ∙ ap (λ o. unwrap_or o known.entries) (e ∙ need.entries)
          ∙ needed_else nat_eq eqb-true known.entries (Some entries_found))
      go (inr e) = inr (count_is ∙ ap (λ o. unwrap_or o known.entries) e)

  -- at each place the store holds what the window reads first, else what is known; or it lacks that
  pub less_needed : HoldsLess known window after
  less_needed =
      record {
        pages = sizes_after;
        entries = counts_after;
        byte = λ at.
            left_place nat_eq eqb-true own_number (known.byte at) (first_byte window at)
            (last_some (effect_byte at) effects) (last_some (effect_byte at) left) (byte_of after.memory at)
            (need.byte at) (byte_done at) (first_copied window at ≡ None) (are.byte at) (may_byte at);
        entry = λ at.
            left_place (same_option nat_eq) (option_same nat_eq eqb-true) (own_option nat_eq own_number)
            (known.entry at) (first_entry window at) (last_some (effect_entry at) effects)
            (last_some (effect_entry at) left) (entry_of after.table at) (need.entry at) (entry_is_done at) (Unit {0})
            (are.entry at) (inl tt);
        global = λ at.
            left_place (same_option same_value) (option_same same_value value_same)
            (own_option same_value own_value) (known.global at) (first_global window at)
            (last_some (effect_global at) effects) (last_some (effect_global at) left) (slice_get after.globals at)
            (need.global at) (global_is_done at) (Unit {0}) (are.global at) (inl tt);
      }

  -- if the store lacks nothing, nothing was removed
  pub all_left : Holds known window after → left ≡ effects
  all_left held =
      effects_same left effects are.ordered need.ordered are.nonempty need.nonempty
      (record {
        pages = size_left _ _ known.pages pages_found are.pages need.pages pages_known;
        entries = size_left _ _ known.entries entries_found are.entries need.entries entries_known;
        byte = λ at.
            left_all nat_eq eqb-true own_number (known.byte at) (first_byte window at)
            (last_some (effect_byte at) effects) (last_some (effect_byte at) left) (byte_of after.memory at)
            (need.byte at) (byte_done at) (are.byte at) (held.byte at);
        entry = λ at.
            left_all (same_option nat_eq) (option_same nat_eq eqb-true) (own_option nat_eq own_number)
            (known.entry at) (first_entry window at) (last_some (effect_entry at) effects)
            (last_some (effect_entry at) left) (entry_of after.table at) (need.entry at) (entry_is_done at)
            (are.entry at) (held.entry at);
        global = λ at.
            left_all (same_option same_value) (option_same same_value value_same)
            (own_option same_value own_value) (known.global at) (first_global window at)
            (last_some (effect_global at) effects) (last_some (effect_global at) left) (slice_get after.globals at)
            (need.global at) (global_is_done at) (are.global at) (held.global at);
      })
    where
      pages_known : last_some effect_pages left ≡ None → known.pages ≡ pages_found
      pages_known e =
          known_memory known.pages pages_found after.memory store.memory (ap (λ (m : Maxima). m.pages) (done.same ∙ alike)) held.pages
          (done.long ∙ ap (λ o. bytes_left o (memory_length other.memory)) e ∙ known_length) pages_between.0
          pages_between.1

      entries_known : last_some effect_entries left ≡ None → known.entries ≡ entries_found
      entries_known e =
          known_table known.entries entries_found after.table store.table (ap (λ (m : Maxima). m.entries) (done.same ∙ alike)) held.entries
          (done.entries ∙ ap (λ o. unwrap_or o (table_length other.table)) e ∙ known_count) entries_between.0
          entries_between.1
