-- The needed effects of an activity of the host can be performed, and lead from a store that holds what is known to
-- one that holds what the window after the activity needs.
use Rattle.std.proofs.Common.{◌≡◌, ℕ, ◌*◌, ◌<◌, ◌≤◌, List, [], ◌∷◌, length, Option, Some, None, Bool, true, false, cond, nat_eq, refl, sym, ap, ◌∙◌, subst, arith}
use Rattle.std.specs.Prelude.{IfSome, option_map, unwrap_or}
use Rattle.std.specs.Option.{option_or, option_flatten}
use Rattle.std.proofs.lemmas.Bool.Decides.{nat_tests}
use Rattle.std.proofs.lemmas.List.{get_or_past}
use Rattle.std.proofs.lemmas.Option.{none-some, same_Some, slice_get_past, slice_get_within}
use Rattle.std.proofs.lemmas.Bool.{eqb-true}
use Rattle.base.proofs.Booleans.{and_left, and_right}
use Rattle.base.proofs.Options.{cond_none_some}
use Rattle.wasm_syntax.specs.declared.limits.TheConstants.{PAGE_SIZE}
use Rattle.wasm_syntax.specs.declared.values.Val.{Val}
use Rattle.trace_model.specs.declared.tapes.Effect.{Effect}
use Rattle.trace_model.specs.declared.tapes.Effect.TheVariants.{Grow, Table as GrowTable, Bytes, Entry, Global}
use Rattle.trace_model.specs.Effects.{is_before, are_ordered_after}
use Rattle.history_spec.specs.Store.{Store, Memory, Table, pages}
use Rattle.history_spec.specs.Instantiation.{memory_length, table_length}
use Rattle.record_replay_spec.specs.Observations.{Observation}
use Rattle.record_replay_spec.specs.Known.{Known, byte_of, entry_of, pages_of, last_some}
use Rattle.record_replay_spec.specs.Windows.{first_byte, first_entry, first_global, found_pages, found_entries}
use Rattle.record_replay_spec.specs.Alike.{same_option, same_value}
use Rattle.record_replay_spec.specs.Needed.{needed, needed_byte, needed_entry, needed_global, effect_pages, effect_entries, AreNeeded}
use Rattle.record_replay_spec.proofs.Alike.{option_same, value_same}
use Rattle.record_replay_spec.specs.StoreAnswers.{allows_pages, allows_entries}
use Rattle.tape_laws.proofs.Stores.{Maxima, maxima}
use Rattle.tape_laws.proofs.Relation.{IsKnownOf, IsSize, Seen, Unseen, IsReadOf, Holds}
use Rattle.tape_laws.proofs.Effects.{bytes_left, AreDone, AreChanges, IsChange}

-- a store's sizes are whole pages and allowed sizes
pub record HasSizes (store : Store) : Type 0 where
  pub whole : memory_length store.memory ≡ pages_of store.memory * PAGE_SIZE
  pub pages : IfSome store.memory (λ memory. allows_pages memory (pages memory) ≡ true)
  pub entries : IfSome store.table (λ table. allows_entries table (length table.entries) ≡ true)

-- ---- the order of effects

-- the effect is not a growth of the memory
abbrev pub IsNoGrowth : Effect → Type 0
IsNoGrowth (Grow size) = ⊥
IsNoGrowth effect = Unit {0}

pub change_next : (effect next : Effect) → IsNoGrowth effect → is_before effect next ≡ true → IsChange next
change_next effect (Bytes address bytes) small h = tt
change_next effect (Entry index func) small h = tt
change_next effect (Global global value) small h = tt
change_next (Grow new) (Grow size) small h = absurd small
change_next (GrowTable new) (Grow size) small h = cc
change_next (Bytes address bytes) (Grow size) small h = cc
change_next (Entry index func) (Grow size) small h = cc
change_next (Global global value) (Grow size) small h = cc
change_next (Grow new) (GrowTable size) small h = absurd small
change_next (GrowTable new) (GrowTable size) small h = cc
change_next (Bytes address bytes) (GrowTable size) small h = cc
change_next (Entry index func) (GrowTable size) small h = cc
change_next (Global global value) (GrowTable size) small h = cc

pub change_is_no_growth : (effect : Effect) → IsChange effect → IsNoGrowth effect
change_is_no_growth (Grow new) h = absurd h
change_is_no_growth (GrowTable size) h = tt
change_is_no_growth (Bytes address bytes) h = tt
change_is_no_growth (Entry index func) h = tt
change_is_no_growth (Global global value) h = tt

pub changes_after : (effect : Effect) (effects : List Effect) → IsNoGrowth effect
    → are_ordered_after effect effects ≡ true → AreChanges effects
changes_after effect [] small h = tt
changes_after effect (next ∷ effects) small h =
    let here = change_next effect next small (and_left (is_before effect next) (are_ordered_after next effects) h) in (
      here,
      changes_after next effects (change_is_no_growth next here)
          (and_right (is_before effect next) (are_ordered_after next effects) h),
    )

-- ---- the order of effects in a list

-- a list of changes does not give what no change gives
none_given : {X : Type 0} (part : Effect → Option X) → ((effect : Effect) → IsChange effect → part effect ≡ None)
    → (effects : List Effect) → AreChanges effects → last_some part effects ≡ None
none_given part none [] are = refl
none_given part none (effect ∷ effects) are =
    (λ i. option_or (none_given part none effects are.1 i) (none effect are.0 i))

gives_no_size : (effect : Effect) → IsChange effect → (effect_pages effect ≡ None) × (effect_entries effect ≡ None)
gives_no_size (Grow size) h = absurd h
gives_no_size (GrowTable size) h = absurd h
gives_no_size effect h = (refl, refl)

pub no_growth : (effects : List Effect) → AreChanges effects → last_some effect_pages effects ≡ None
no_growth = none_given effect_pages (λ effect h. (gives_no_size effect h).0)

pub no_table_growth : (effects : List Effect) → AreChanges effects → last_some effect_entries effects ≡ None
no_table_growth = none_given effect_entries (λ effect h. (gives_no_size effect h).1)

-- ---- a value that is needed

-- a needed value is found, and is not the known one
pub needed_is : {X : Type 0} (same : X → X → Bool) (known : X) (found : Option X) (x : X)
    → needed same known found ≡ Some x → (found ≡ Some x) × (same known x ≡ false)
needed_is same known None x h = absurd (none-some x h)
needed_is same known (Some y) x h =
    let p = cond_none_some (same known y) (Some y) x h in
    let e = same_Some y x p.1 in (p.1, subst (λ z. same known z ≡ false) e p.0)

-- a place that holds its needed value, else its known one, holds what is found, else what is known
pub needed_else : {X : Type 0} (same : X → X → Bool) → ((a b : X) → same a b ≡ true → a ≡ b) → (known : X)
    (found : Option X) → unwrap_or (needed same known found) known ≡ unwrap_or found known
needed_else same is known None = refl
needed_else same is known (Some y) = go (same known y) refl
  where
    go : (b : Bool) → same known y ≡ b → unwrap_or (cond (same known y) None (Some y)) known ≡ y
    go true p = ap (λ b. unwrap_or (cond b None (Some y)) known) p ∙ is known y p
    go false p = ap (λ b. unwrap_or (cond b None (Some y)) known) p

-- a place that held what is known holds, after its needed value was given, what is found, else what is known
needed_after : {X : Type 0} (same : X → X → Bool) → ((a b : X) → same a b ≡ true → a ≡ b) → (known : X)
    (found given : Option X) (before after : X) → after ≡ unwrap_or given before → before ≡ known
    → given ≡ needed same known found → after ≡ unwrap_or found known
needed_after same is known found given before after done held need =
    done ∙ ap (unwrap_or given) held ∙ ap (λ o. unwrap_or o known) need ∙ needed_else same is known found

-- a number that is not at or past a bound is below it
not_past : (at n : ℕ) → (n ≤ at → ⊥) → at < n
not_past at n past = omega (arith, past)

-- if the number of pages that is needed is given, the memory has as many bytes as the found number of pages
pub found_bytes : (known found : ℕ)
    → bytes_left (cond (nat_eq known found) None (Some found)) (known * PAGE_SIZE) ≡ found * PAGE_SIZE
found_bytes known found = go (nat_eq known found) refl
  where
    go : (b : Bool) → nat_eq known found ≡ b
        → bytes_left (cond (nat_eq known found) None (Some found)) (known * PAGE_SIZE) ≡ found * PAGE_SIZE
    go true p =
        ap (λ b. bytes_left (cond b None (Some found)) (known * PAGE_SIZE)) p
        ∙ ap (λ n. n * PAGE_SIZE) (eqb-true known found p)
    go false p = ap (λ b. bytes_left (cond b None (Some found)) (known * PAGE_SIZE)) p

module _ (known : Known) (window : List Observation) (store : Store) (sizes : HasSizes store)
    (k : IsKnownOf known store) (real : IsReadOf known window store) where
  abbrev pages_held : ℕ
  pages_held = found_pages known.pages window

  abbrev entries_held : ℕ
  entries_held = found_entries known.entries window

  pub size_between : (known real found : ℕ) (Within : Type 0) → known ≤ real → IsSize known real found Within
      → (known ≤ found) × (found ≤ real)
  size_between known real found Within more (Seen is) = (omega (arith, is, more), omega (arith, is))
  size_between known real found Within more (Unseen is fits) = (omega (arith, is), omega (arith, is, more))

  -- ---- what is needed is within the sizes that are held, and in the store

  pub byte_there : (at x : ℕ) → needed_byte known window at ≡ Some x
      → (at < memory_length store.memory) × (at < pages_held * PAGE_SIZE)
  byte_there at x h = (inside, held real.pages)
    where
      found : first_byte window at ≡ Some x
      found = (needed_is nat_eq (known.byte at) (first_byte window at) x h).0

      differs : nat_eq (known.byte at) x ≡ false
      differs = (needed_is nat_eq (known.byte at) (first_byte window at) x h).1

      past_memory : (o : Option Memory) → memory_length o ≤ at → byte_of o at ≡ 0
      past_memory None past = refl
      past_memory (Some m) past = get_or_past m.bytes at 0 past

      inside : at < memory_length store.memory
      inside =
          not_past at (memory_length store.memory) (λ past.
          let whole : memory_length store.memory ≡ pages_of store.memory * 65536 = sizes.whole in
          let more = k.pages in
          let none : known.byte at ≡ 0 = k.past_pages at (omega (arith, past, whole, more)) in
          let zero_there : x ≡ 0 = sym (real.byte at x found) ∙ past_memory store.memory past in
          let same : known.byte at ≡ x = none ∙ sym zero_there in
          let yes : nat_eq (known.byte at) x ≡ true = grind (arith, nat_tests, same) in
          let apart = differs in
          cc)

      held : IsSize known.pages (pages_of store.memory) pages_held
          ((at x : ℕ) → first_byte window at ≡ Some x → at < known.pages * PAGE_SIZE) → at < pages_held * PAGE_SIZE
      held (Seen is) =
          let whole : memory_length store.memory ≡ pages_of store.memory * 65536 = sizes.whole in
          let below = inside in
          let inside_pages : at < pages_of store.memory * 65536 = omega (arith, whole, below) in
          subst (λ n. at < n * PAGE_SIZE) (sym is) inside_pages
      held (Unseen is fits) = subst (λ n. at < n * PAGE_SIZE) (sym is) (fits at x found)

  pub entry_there : (at : ℕ) (x : Option ℕ) → needed_entry known window at ≡ Some x
      → (at < table_length store.table) × (at < entries_held)
  entry_there at x h = (inside, held real.entries)
    where
      found : first_entry window at ≡ Some x
      found = (needed_is (same_option nat_eq) (known.entry at) (first_entry window at) x h).0

      differs : same_option nat_eq (known.entry at) x ≡ false
      differs = (needed_is (same_option nat_eq) (known.entry at) (first_entry window at) x h).1

      past_table : (o : Option Table) → table_length o ≤ at → entry_of o at ≡ None
      past_table None past = refl
      past_table (Some t) past = ap option_flatten (slice_get_past t.entries at past)

      inside : at < table_length store.table
      inside =
          not_past at (table_length store.table) (λ past.
          let more = k.entries in
          let none : known.entry at ≡ None = k.past_entries at (omega (arith, past, more)) in
          let none_there : x ≡ None = sym (real.entry at x found) ∙ past_table store.table past in
          let yes : same_option nat_eq (known.entry at) x ≡ true =
          ap (λ o. same_option nat_eq o x) none ∙ ap (same_option nat_eq None) none_there in
          let apart = differs in
          cc)

      held : IsSize known.entries (table_length store.table) entries_held
          ((at : ℕ) (x : Option ℕ) → first_entry window at ≡ Some x → at < known.entries) → at < entries_held
      held (Seen is) = subst (λ n. at < n) (sym is) inside
      held (Unseen is fits) = subst (λ n. at < n) (sym is) (fits at x found)

  module _ (other : Store) (holds : Holds known [] other) (same : maxima other ≡ maxima store) where
    pub global_there : (at : ℕ) (x : Option Val) → needed_global known window at ≡ Some x → at < length other.globals
    global_there at x h = go x differs is_typed
      where
        found : first_global window at ≡ Some x
        found = (needed_is (same_option same_value) (known.global at) (first_global window at) x h).0

        differs : same_option same_value (known.global at) x ≡ false
        differs = (needed_is (same_option same_value) (known.global at) (first_global window at) x h).1

        is_typed : option_map (λ value. value.ty) (known.global at) ≡ option_map (λ value. value.ty) x
        is_typed = k.types at ∙ ap (option_map (λ value. value.ty)) (real.global at x found)

        inside : (o : Option Val) → known.global at ≡ o → (v : Val) → o ≡ Some v → at < length other.globals
        inside o e v q = slice_get_within other.globals at v (holds.global at ∙ e ∙ q)

        go : (x : Option Val) → same_option same_value (known.global at) x ≡ false
            → option_map (λ value. value.ty) (known.global at) ≡ option_map (λ value. value.ty) x
            → at < length other.globals
        go x d t = by (known.global at) refl x d t
          where
            by : (o : Option Val) → known.global at ≡ o → (x : Option Val) → same_option same_value o x ≡ false
                → option_map (λ value. value.ty) o ≡ option_map (λ value. value.ty) x → at < length other.globals
            by (Some v) e x d t = inside (Some v) e v refl
            by None e None d t = cc
            by None e (Some v) d t = cc

    -- what effects leave of a store, if they are those needed
    module _ (effects : List Effect) (need : AreNeeded known window effects) where
      pub holds_needed : (after : Store) → AreDone other effects after → Holds known window after
      holds_needed after are =
          record {
            pages = if_pages after.memory other.memory (ap (λ (m : Maxima). m.pages) are.same) holds.pages are.long;
            entries =
                if_count after.table other.table (ap (λ (m : Maxima). m.entries) are.same) holds.entries are.entries;
            byte = λ at.
                needed_after nat_eq eqb-true (known.byte at) (first_byte window at) _ _ _ (are.byte at) (holds.byte at)
                (need.byte at);
            entry = λ at.
                needed_after (same_option nat_eq) (option_same nat_eq eqb-true) (known.entry at)
                (first_entry window at) _ _ _ (are.entry at) (holds.entry at) (need.entry at);
            global = λ at.
                needed_after (same_option same_value) (option_same same_value value_same) (known.global at)
                (first_global window at) _ _ _ (are.global at) (holds.global at) (need.global at);
          }
        where
          size : bytes_left (last_some effect_pages effects) (known.pages * PAGE_SIZE) ≡ pages_held * PAGE_SIZE
          size =
              ap (λ o. bytes_left o (known.pages * PAGE_SIZE)) need.pages ∙ found_bytes known.pages pages_held

          count : unwrap_or (last_some effect_entries effects) known.entries ≡ entries_held
          count =
              ap (λ o. unwrap_or o known.entries) need.entries
              ∙ needed_else nat_eq eqb-true known.entries (Some entries_held)

          if_pages : (o p : Option Memory) → option_map (λ m. m.max) o ≡ option_map (λ m. m.max) p
              → IfSome p (λ m. length m.bytes ≡ known.pages * PAGE_SIZE)
              → memory_length o ≡ bytes_left (last_some effect_pages effects) (memory_length p)
              → IfSome o (λ m. length m.bytes ≡ pages_held * PAGE_SIZE)
          if_pages None p e h l = tt
          if_pages (Some m) None e h l = cc
          if_pages (Some m) (Some n) e h l = l ∙ ap (bytes_left (last_some effect_pages effects)) h ∙ size

          if_count : (o p : Option Table) → option_map (λ t. t.max) o ≡ option_map (λ t. t.max) p
              → IfSome p (λ t. length t.entries ≡ known.entries)
              → table_length o ≡ unwrap_or (last_some effect_entries effects) (table_length p)
              → IfSome o (λ t. length t.entries ≡ entries_held)
          if_count None p e h l = tt
          if_count (Some m) None e h l = cc
          if_count (Some m) (Some n) e h l = l ∙ ap (unwrap_or (last_some effect_entries effects)) h ∙ count
