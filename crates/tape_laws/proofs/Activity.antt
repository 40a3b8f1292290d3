-- The needed effects of an activity of the host can be performed.
use Rattle.std.proofs.Common.{◌≡◌, ℕ, ◌*◌, ◌<◌, ◌≤◌, List, [], ◌∷◌, length, Option, Some, None, Bool, true, false, cond, ◌&&◌, nat_le, nat_eq, refl, sym, ap, ◌∙◌, subst, arith}
use Rattle.std.specs.Prelude.{IfSome, option_map}
use Rattle.std.specs.Option.{option_or}
use Rattle.std.specs.List.{list_all}
use Rattle.std.proofs.lemmas.Bool.Decides.{nat_tests}
use Rattle.std.proofs.lemmas.Option.{none-some, same_Some}
use Rattle.std.proofs.lemmas.Bool.{eqb-true}
use Rattle.base.proofs.Booleans.{and_left, and_right, and_true}
use Rattle.base.proofs.Options.{cond_none_some, or_none}
use Rattle.wasm_syntax.specs.declared.limits.TheConstants.{MAX_ENTRIES, MAX_PAGES, PAGE_SIZE}
use Rattle.host_script.specs.Supply.{is_within}
use Rattle.trace_model.specs.declared.tapes.Effect.{Effect}
use Rattle.trace_model.specs.declared.tapes.Effect.TheVariants.{Grow, Table as GrowTable}
use Rattle.trace_model.specs.Effects.{are_ordered}
use Rattle.history_spec.specs.Store.{Store, Memory, Table, pages}
use Rattle.history_spec.specs.Instantiation.{memory_length, table_length}
use Rattle.record_replay_spec.specs.Observations.{Observation, Resizes, ResizesTable}
use Rattle.record_replay_spec.specs.Known.{Known, pages_of, last_some}
use Rattle.record_replay_spec.specs.Windows.{found_pages, found_entries}
use Rattle.record_replay_spec.specs.Needed.{needed, needed_byte, needed_entry, needed_global, needed_pages, needed_entries, effect_byte, effect_entry, effect_global, effect_pages, effect_entries, has_bytes, AreNeeded}
use Rattle.record_replay_spec.specs.TapeRun.{store_after_effects}
use Rattle.record_replay_spec.specs.Changes.{with_change}
use Rattle.record_replay_spec.specs.StoreAnswers.{allows_pages, allows_entries}
use Rattle.tape_laws.proofs.Stores.{IsThere, Maxima, maxima}
use Rattle.tape_laws.proofs.Relation.{IsKnownOf, IsReadOf, Holds}
use Rattle.tape_laws.proofs.Items.{if_bytes, if_entries, bytes_there, entries_there}
use Rattle.tape_laws.proofs.Held.{whole_pages}
use Rattle.tape_laws.proofs.StepItems.{there_too}
use Rattle.tape_laws.proofs.Effects.{AreDone, more_done, grow_done, grow_table_done, AreChanges, changes_done}
use Rattle.record_replay_spec.proofs.OneList.{pages_after, ordered_rest}
use Rattle.tape_laws.proofs.TypedStores.{less_within}
use Rattle.tape_laws.proofs.Activities.{HasSizes, changes_after, no_growth, no_table_growth, size_between, byte_there, entry_there, global_there, holds_needed}

-- ---- sizes that are allowed

less_allowed : (max : Option ℕ) (most size less : ℕ) → (is_within size max && nat_le size most) ≡ true → less ≤ size
    → (is_within less max && nat_le less most) ≡ true
less_allowed max most size less h low =
    and_true (is_within less max) (nat_le less most)
    (less_within max less size (and_left (is_within size max) (nat_le size most) h) low)
    (let t = and_right (is_within size max) (nat_le size most) h in grind (arith, nat_tests, t, low))

pages_allowed : (o : Option Memory) → IfSome o (λ m. allows_pages m (pages m) ≡ true) → (memory : Memory)
    → Some memory.max ≡ option_map (λ m. m.max) o → (size : ℕ) → size ≤ pages_of o → allows_pages memory size ≡ true
pages_allowed None h memory e size low = cc
pages_allowed (Some m) h memory e size low =
    ap (λ max. is_within size max && nat_le size MAX_PAGES) (same_Some memory.max m.max e)
    ∙ less_allowed m.max MAX_PAGES (pages m) size h low

entries_allowed : (o : Option Table) → IfSome o (λ t. allows_entries t (length t.entries) ≡ true) → (table : Table)
    → Some table.max ≡ option_map (λ t. t.max) o → (size : ℕ) → size ≤ table_length o → allows_entries table size ≡ true
entries_allowed None h table e size low = cc
entries_allowed (Some t) h table e size low =
    ap (λ max. is_within size max && nat_le size MAX_ENTRIES) (same_Some table.max t.max e)
    ∙ less_allowed t.max MAX_ENTRIES (length t.entries) size h low

-- ---- sizes that are needed

pub size_needed : (known found size : ℕ) → Some size ≡ needed nat_eq known (Some found)
    → (size ≡ found) × (nat_eq known found ≡ false)
size_needed known found size h =
    let p = cond_none_some (nat_eq known found) (Some found) size (sym h) in (sym (same_Some found size p.1), p.0)

size_unneeded : (known found : ℕ) → None ≡ needed nat_eq known (Some found) → known ≡ found
size_unneeded known found h = go (nat_eq known found) refl h
  where
    go : (b : Bool) → nat_eq known found ≡ b → None ≡ cond b None (Some found) → known ≡ found
    go true p q = eqb-true known found p
    go false p q = absurd (none-some found q)

memory_has : (o : Option Memory) (at : ℕ) → at < memory_length o → IsThere o
memory_has None at below = absurd (omega (arith, below))
memory_has (Some m) at below = (m, refl)

table_has : (o : Option Table) (at : ℕ) → at < table_length o → IsThere o
table_has None at below = absurd (omega (arith, below))
table_has (Some t) at below = (t, refl)

-- the memory or table of a size that differs from the known one exists
size_seen : {X : Type 0} (size : Option X → ℕ) → size None ≡ 0 → (o : Option X) (known found : ℕ) → known ≤ found
    → found ≤ size o → nat_eq known found ≡ false → IsThere o
size_seen size none None known found more low differs =
    let same : known ≡ found = omega (arith, more, low, none) in
    let yes : nat_eq known found ≡ true = grind (arith, nat_tests, same) in
    cc
size_seen size none (Some x) known found more low differs = (x, refl)

pub memory_seen : (o : Option Memory) (known found : ℕ) → known ≤ found → found ≤ pages_of o
    → nat_eq known found ≡ false → IsThere o
memory_seen = size_seen pages_of refl

pub table_seen : (o : Option Table) (known found : ℕ) → known ≤ found → found ≤ table_length o
    → nat_eq known found ≡ false → IsThere o
table_seen = size_seen table_length refl

module _ (known : Known) (window : List Observation) (store : Store) (sizes : HasSizes store)
    (k : IsKnownOf known store) (real : IsReadOf known window store) (other : Store) (holds : Holds known [] other)
    (alike : maxima other ≡ maxima store) where
  abbrev held_pages : ℕ
  held_pages = found_pages known.pages window

  abbrev held_entries : ℕ
  held_entries = found_entries known.entries window

  pages_between : (known.pages ≤ held_pages) × (held_pages ≤ pages_of store.memory)
  pages_between =
      size_between known window store sizes k real known.pages (pages_of store.memory) held_pages _ k.pages real.pages

  entries_between : (known.entries ≤ held_entries) × (held_entries ≤ table_length store.table)
  entries_between =
      size_between known window store sizes k real known.entries (table_length store.table) held_entries _ k.entries
      real.entries

  -- the effects change exactly what is needed
  record AreThose (effects : List Effect) : Type 0 where
    pub filled : list_all has_bytes effects ≡ true
    pub byte : (at : ℕ) → last_some (effect_byte at) effects ≡ needed_byte known window at
    pub entry : (at : ℕ) → last_some (effect_entry at) effects ≡ needed_entry known window at
    pub global : (at : ℕ) → last_some (effect_global at) effects ≡ needed_global known window at

  -- the effects after an effect that changes no byte, entry or global
  those_after : (effect : Effect) (effects : List Effect) → ((at : ℕ) → effect_byte at effect ≡ None)
      → ((at : ℕ) → effect_entry at effect ≡ None) → ((at : ℕ) → effect_global at effect ≡ None)
      → AreThose (effect ∷ effects) → AreThose effects
  those_after effect effects byte entry global those =
      record {
        filled = and_right (has_bytes effect) (list_all has_bytes effects) those.filled;
        byte = λ at. after (effect_byte at) (byte at) ∙ those.byte at;
        entry = λ at. after (effect_entry at) (entry at) ∙ those.entry at;
        global = λ at. after (effect_global at) (global at) ∙ those.global at;
      }
    where
      after : {X : Type 0} (part : Effect → Option X) → part effect ≡ None
          → last_some part effects ≡ last_some part (effect ∷ effects)
      after part none =
          sym (ap (option_or (last_some part effects)) none ∙ or_none (last_some part effects))

  -- the store after the growths, before the changes
  record IsOnWay (mid : Store) : Type 0 where
    pub same : maxima mid ≡ maxima store
    pub memory : IfSome mid.memory (λ m. length m.bytes ≡ held_pages * PAGE_SIZE)
    pub count : length mid.globals ≡ length other.globals

  changes : (mid : Store) → IsOnWay mid → IfSome mid.table (λ t. length t.entries ≡ held_entries)
      → (effects : List Effect) → AreChanges effects → AreThose effects → (after : Store) × AreDone mid effects after
  changes mid way table effects are those =
      changes_done mid effects are those.filled
      (record {
        bytes = λ at x h.
            let b = byte_there known window store sizes k real at x (sym (those.byte at) ∙ h) in
            let there = there_too (λ m. m.max) store.memory mid.memory (ap (λ (m : Maxima). m.pages) way.same)
            (memory_has store.memory at b.0) in
            subst (λ n. at < n) (sym (bytes_there mid.memory (held_pages * PAGE_SIZE) there way.memory)) b.1;
        entries = λ at x h.
            let b = entry_there known window store sizes k real at x (sym (those.entry at) ∙ h) in
            let there = there_too (λ t. t.max) store.table mid.table (ap (λ (m : Maxima). m.entries) way.same)
            (table_has store.table at b.0) in
            subst (λ n. at < n) (sym (entries_there mid.table held_entries there table)) b.1;
        globals = λ at x h.
            subst (λ n. at < n) (sym way.count)
            (global_there known window store sizes k real other holds alike at x (sym (those.global at) ∙ h));
      })

  -- the effects after the growth of the memory: a growth of the table, if any, and changes
  with_table : (mid : Store) → IsOnWay mid → IfSome mid.table (λ t. length t.entries ≡ known.entries)
      → (effects : List Effect) → last_some effect_pages effects ≡ None → are_ordered effects ≡ true
      → last_some effect_entries effects ≡ needed_entries known window → AreThose effects
      → (after : Store) × AreDone mid effects after
  with_table mid way table [] none order count those =
      changes mid way
      (subst (λ n. IfSome mid.table (λ t. length t.entries ≡ n)) (size_unneeded known.entries held_entries count) table)
      [] tt those
  with_table mid way table (Grow size ∷ effects) none order count those =
      absurd (none-some _ (sym none ∙ ap (λ o. option_or o (Some size)) (no_growth_after)))
    where
      no_growth_after : last_some effect_pages effects ≡ None
      no_growth_after = go (last_some effect_pages effects) none
        where
          go : (o : Option ℕ) → option_or o (Some size) ≡ None → o ≡ None
          go None h = refl
          go (Some x) h = h
  with_table mid way table (GrowTable size ∷ effects) none order count those =
      let are = changes_after (GrowTable size) effects tt order in
      let size_is = size_needed known.entries held_entries size
      (sym (ap (λ o. option_or o (Some size)) (no_table_growth effects are)) ∙ count) in
      let there = there_too (λ t. t.max) store.table mid.table (ap (λ (m : Maxima). m.entries) way.same)
      (table_seen store.table known.entries held_entries entries_between.0 entries_between.1 size_is.1) in
      let now : length there.0.entries ≡ known.entries =
      subst (λ o. IfSome o (λ t. length t.entries ≡ known.entries)) there.1 table in
      let low = entries_between.0 in
      let e = size_is.0 in
      let high = entries_between.1 in
      let one = grow_table_done mid there.0 there.1 size (omega (arith, now, low, e))
      (entries_allowed store.table sizes.entries there.0
      (ap (option_map (λ t. t.max)) (sym there.1) ∙ ap (λ (m : Maxima). m.entries) way.same) size
      (omega (arith, e, high))) in
      let next = with_change mid (ResizesTable (length there.0.entries) size None) in
      let rest = changes next
      (record { same = one.same ∙ way.same; memory = way.memory; count = one.count ∙ way.count })
      (if_entries next.table held_entries (one.entries ∙ e)) effects are
      (those_after (GrowTable size) effects (λ at. refl) (λ at. refl) (λ at. refl) those) in
      (rest.0, more_done mid next rest.0 (GrowTable size) effects one rest.1)
  with_table mid way table (effect ∷ effects) none order count those =
      let are : AreChanges (effect ∷ effects) = (tt, changes_after effect effects tt order) in
      changes mid way
      (subst (λ n. IfSome mid.table (λ t. length t.entries ≡ n))
      (size_unneeded known.entries held_entries (sym (no_table_growth (effect ∷ effects) are) ∙ count)) table)
      (effect ∷ effects) are those

  -- the effects without a growth of the memory
  no_pages : (effects : List Effect) → last_some effect_pages effects ≡ None → are_ordered effects ≡ true
      → last_some effect_pages effects ≡ needed_pages known window
      → last_some effect_entries effects ≡ needed_entries known window → AreThose effects
      → (after : Store) × AreDone other effects after
  no_pages effects none order grown count those =
      with_table other
      (record {
        same = alike;
        memory =
            subst (λ n. IfSome other.memory (λ m. length m.bytes ≡ n * PAGE_SIZE))
            (size_unneeded known.pages held_pages (sym none ∙ grown)) holds.pages;
        count = refl;
      })
      holds.entries effects none order count those

  -- all effects: a growth of the memory, if any, and the others
  with_pages : (effects : List Effect) → are_ordered effects ≡ true
      → last_some effect_pages effects ≡ needed_pages known window
      → last_some effect_entries effects ≡ needed_entries known window → AreThose effects
      → (after : Store) × AreDone other effects after
  with_pages (Grow size ∷ effects) order grown count those =
      let none = pages_after (Grow size) effects order in
      let size_is = size_needed known.pages held_pages size
      (sym (ap (λ o. option_or o (Some size)) none) ∙ grown) in
      let there = there_too (λ m. m.max) store.memory other.memory (ap (λ (m : Maxima). m.pages) alike)
      (memory_seen store.memory known.pages held_pages pages_between.0 pages_between.1 size_is.1) in
      let long : length there.0.bytes ≡ known.pages * PAGE_SIZE =
      subst (λ o. IfSome o (λ m. length m.bytes ≡ known.pages * PAGE_SIZE)) there.1 holds.pages in
      let now : pages there.0 ≡ known.pages =
      whole_pages (length there.0.bytes) known.pages long in
      let low = pages_between.0 in
      let e = size_is.0 in
      let high = pages_between.1 in
      let one = grow_done other there.0 there.1 (long ∙ ap (λ n. n * PAGE_SIZE) (sym now)) size
      (omega (arith, now, low, e))
      (pages_allowed store.memory sizes.pages there.0
      (ap (option_map (λ m. m.max)) (sym there.1) ∙ ap (λ (m : Maxima). m.pages) alike) size
      (omega (arith, e, high))) in
      let next = with_change other (Resizes (pages there.0) size) in
      let rest = with_table next
      (record {
        same = one.same ∙ alike;
        memory = if_bytes next.memory (held_pages * PAGE_SIZE) (one.long ∙ ap (λ n. n * PAGE_SIZE) e);
        count = one.count;
      })
      holds.entries effects none (ordered_rest (Grow size) effects order)
      (sym (or_none (last_some effect_entries effects)) ∙ count)
      (those_after (Grow size) effects (λ at. refl) (λ at. refl) (λ at. refl) those) in
      (rest.0, more_done other next rest.0 (Grow size) effects one rest.1)
  with_pages [] order grown count those = no_pages [] refl order grown count those
  with_pages (GrowTable new ∷ effects) order grown count those =
      no_pages (GrowTable new ∷ effects)
      (ap (λ o. option_or o None) (pages_after (GrowTable new) effects order)) order grown count those
  with_pages (effect ∷ effects) order grown count those =
      no_pages (effect ∷ effects) (no_growth (effect ∷ effects) (tt, changes_after effect effects tt order)) order grown
      count those

  -- the needed effects can be performed, and leave what the window needs
  pub activity : (effects : List Effect) → AreNeeded known window effects
      → (after : Store) × (store_after_effects effects other ≡ Some after) × Holds known window after
      × (maxima after ≡ maxima store)
  activity effects need =
      let those : AreThose effects =
      record { filled = need.nonempty; byte = need.byte; entry = need.entry; global = need.global } in
      let end = with_pages effects need.ordered need.pages need.entries those in (
        end.0,
        end.1.done,
        holds_needed known window store sizes k real other holds alike effects need end.0 end.1,
        end.1.same ∙ alike,
      )
