-- Effects that can be performed are performed at each place.
use Rattle.std.proofs.Common.{◌≡◌, ℕ, ◌+◌, ◌-◌, ◌*◌, ◌<◌, ◌≤◌, List, [], ◌∷◌, length, Option, Some, None, Bool, true, false, nat_le, nat_lt, slice_get, slice_set, refl, sym, ap, ◌∙◌, subst, arith}
use Rattle.std.specs.Prelude.{option_map, option_and_then}
use Rattle.std.specs.List.{list_all}
use Rattle.std.proofs.lemmas.Bool.Decides.{nat_tests}
use Rattle.std.proofs.lemmas.Option.{same_Some, slice_get_within}
use Rattle.base.proofs.Booleans.{and_left, and_right}
use Rattle.base.proofs.Options.{map_some, and_then_some, cond_some}
use Rattle.wasm_syntax.specs.declared.limits.TheConstants.{PAGE_SIZE}
use Rattle.trace_model.specs.declared.tapes.Effect.{Effect}
use Rattle.trace_model.specs.declared.tapes.Effect.TheVariants.{Grow, Table as GrowTable, Bytes, Entry, Global}
use Rattle.history_spec.specs.Store.{Store, Memory, Table, pages, with_items_at, with_memory, with_table, with_global, grown_memory, grown_memory_if, grown_table, grown_table_if, with_bytes_at, with_entry}
use Rattle.history_spec.specs.Instantiation.{memory_length, table_length}
use Rattle.record_replay_spec.specs.Known.{pages_of}
use Rattle.record_replay_spec.specs.Needed.{effect_pages, has_bytes}
use Rattle.record_replay_spec.specs.TapeRun.{memory_of_size, table_of_size, memory_with, table_with, store_after_effect, store_after_effects}
use Rattle.record_replay_spec.specs.StoreAnswers.{allows_pages, allows_entries}
use Rattle.tape_laws.proofs.Held.{whole_pages}
use Rattle.tape_laws.proofs.Effects.{IsDone, AreDone, bytes_left, none_done, more_done, grow_done, grow_table_done, bytes_done, entry_done, global_done, some_bytes}

-- the memory consists of whole pages
abbrev pub IsWhole : Store → Type 0
IsWhole store = memory_length store.memory ≡ pages_of store.memory * PAGE_SIZE

whole_if : (o : Option Memory) (k : ℕ) → memory_length o ≡ k * PAGE_SIZE → memory_length o ≡ pages_of o * PAGE_SIZE
whole_if None k h = refl
whole_if (Some m) k h = h ∙ ap (λ n. n * PAGE_SIZE) (sym (whole_pages (length m.bytes) k h))

-- the store after an effect is unique
finished : (store next after : Store) (effect : Effect) → IsDone store effect next
    → store_after_effect store effect ≡ Some after → IsDone store effect after
finished store next after effect done h =
    subst (IsDone store effect) (same_Some next after (sym done.done ∙ h)) done

module _ (store after : Store) where
  grows : (size : ℕ) (memory : Option Memory) → store.memory ≡ memory
      → memory_length memory ≡ pages_of memory * PAGE_SIZE
      → option_map (with_memory store) (option_and_then (memory_of_size size) memory) ≡ Some after
      → store_after_effect store (Grow size) ≡ Some after → IsDone store (Grow size) after
  grows size None is whole h e = cc
  grows size (Some m) is whole h e =
      let there = map_some (with_memory store) (memory_of_size size m) after h in
      let test = cond_some (nat_le (pages m) size) (grown_memory m (size - pages m)) there.0 there.1 in
      let t = test.0 in
      let more : pages m ≤ size = grind (arith, nat_tests, t) in
      let to : pages m + (size - pages m) ≡ size = omega (arith, more) in
      finished store _ after (Grow size)
      (grow_done store m is whole size more
      (ap (allows_pages m) (sym to)
      ∙ allowed (allows_pages m (pages m + (size - pages m))) there.0 test.1))
      e
    where
      allowed : (b : Bool) (larger : Memory) → grown_memory_if b m (size - pages m) ≡ Some larger → b ≡ true
      allowed true larger h = refl
      allowed false larger h = cc

  grows_table : (size : ℕ) (table : Option Table) → store.table ≡ table
      → option_map (with_table store) (option_and_then (table_of_size size) table) ≡ Some after
      → store_after_effect store (GrowTable size) ≡ Some after → IsDone store (GrowTable size) after
  grows_table size None is h e = cc
  grows_table size (Some t) is h e =
      let there = map_some (with_table store) (table_of_size size t) after h in
      let test = cond_some (nat_le (length t.entries) size) (grown_table t (size - length t.entries) None) there.0
      there.1 in
      let q = test.0 in
      let more : length t.entries ≤ size = grind (arith, nat_tests, q) in
      let to : length t.entries + (size - length t.entries) ≡ size = omega (arith, more) in
      finished store _ after (GrowTable size)
      (grow_table_done store t is size more
      (ap (allows_entries t) (sym to)
      ∙ allowed (allows_entries t (length t.entries + (size - length t.entries))) there.0 test.1))
      e
    where
      allowed : (b : Bool) (larger : Table) → grown_table_if b t (size - length t.entries) None ≡ Some larger
          → b ≡ true
      allowed true larger h = refl
      allowed false larger h = cc

  writes : (address : ℕ) (bytes : List ℕ) → 0 < length bytes → (memory : Option Memory) → store.memory ≡ memory
      → option_map (with_memory store) (option_and_then (memory_with address bytes) memory) ≡ Some after
      → store_after_effect store (Bytes address bytes) ≡ Some after → IsDone store (Bytes address bytes) after
  writes address bytes some None is h e = cc
  writes address bytes some (Some m) is h e =
      let there = map_some (with_memory store) (memory_with address bytes m) after h in
      let written = map_some (λ all. record m { bytes = all }) (with_bytes_at m.bytes address bytes) there.0 there.1 in
      let t = (cond_some (nat_le (address + length bytes) (length m.bytes))
      (Some (with_items_at m.bytes address bytes)) written.0 written.1).0 in
      let fits : address + length bytes ≤ length m.bytes = grind (arith, nat_tests, t) in
      finished store _ after (Bytes address bytes)
      (bytes_done store store.memory refl address bytes some
      (subst (λ o. address + length bytes ≤ memory_length o) (sym is) fits))
      e

  sets : (index : ℕ) (func : Option ℕ) (table : Option Table) → store.table ≡ table
      → option_map (with_table store) (option_and_then (table_with index func) table) ≡ Some after
      → store_after_effect store (Entry index func) ≡ Some after → IsDone store (Entry index func) after
  sets index func None is h e = cc
  sets index func (Some table) is h e =
      let there = map_some (with_table store) (table_with index func table) after h in
      let written = map_some (λ all. record table { entries = all }) (with_entry table.entries index func) there.0
      there.1 in
      let t = (cond_some (nat_lt index (length table.entries)) (Some (slice_set table.entries index func)) written.0
      written.1).0 in
      let below : index < length table.entries = grind (arith, nat_tests, t) in
      finished store _ after (Entry index func)
      (entry_done store store.table refl index func (subst (λ o. index < table_length o) (sym is) below)) e

  -- an effect that can be performed is performed
  effect_done : (effect : Effect) → IsWhole store → has_bytes effect ≡ true
      → store_after_effect store effect ≡ Some after → IsDone store effect after
  effect_done (Grow size) whole some h = grows size store.memory refl whole h h
  effect_done (GrowTable size) whole some h = grows_table size store.table refl h h
  effect_done (Bytes address bytes) whole some h =
      writes address bytes (some_bytes address bytes some) store.memory refl h h
  effect_done (Entry index func) whole some h = sets index func store.table refl h h
  effect_done (Global global value) whole some h =
      let there = map_some (λ old. with_global store global value) (slice_get store.globals global) after h in
      finished store _ after (Global global value)
      (global_done store global value (slice_get_within store.globals global there.0 there.1)) h

whole_after : (store next : Store) (effect : Effect) → IsWhole store → IsDone store effect next → IsWhole next
whole_after store next effect whole done = go (effect_pages effect) done.long
  where
    go : (o : Option ℕ) → memory_length next.memory ≡ bytes_left o (memory_length store.memory) → IsWhole next
    go None h = whole_if next.memory (pages_of store.memory) (h ∙ whole)
    go (Some n) h = whole_if next.memory n h

-- a list of effects that can be performed is performed
pub effects_done : (effects : List Effect) (store after : Store) → IsWhole store → list_all has_bytes effects ≡ true
    → store_after_effects effects store ≡ Some after → AreDone store effects after
effects_done [] store after whole some h = subst (AreDone store []) (same_Some store after h) (none_done store)
effects_done (effect ∷ effects) store after whole some h =
    let next = and_then_some (store_after_effect store effect) (store_after_effects effects) after h in
    let one = effect_done store next.0 effect whole (and_left (has_bytes effect) (list_all has_bytes effects) some)
    next.1 in
    more_done store next.0 after effect effects one
    (effects_done effects next.0 after (whole_after store next.0 effect whole one)
    (and_right (has_bytes effect) (list_all has_bytes effects) some) next.2)
