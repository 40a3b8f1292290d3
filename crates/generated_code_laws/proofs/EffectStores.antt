-- An effect does to the store of a replay module what it does to the store of the original.
use Rattle.std.proofs.Common.{◌≡◌, ℕ, ◌+◌, ◌-◌, List, [], ◌∷◌, Option, Some, None, Bool, true, false, cond, nat_le, slice_get, refl, ap, ◌∙◌}
use Rattle.std.specs.Prelude.{option_map, option_and_then}
use Rattle.std.proofs.lemmas.Option.{none-some, slice_get_within}
use Rattle.base.proofs.Lists.{get_front, set_front}
use Rattle.wasm_syntax.specs.declared.values.Val.{Val}
use Rattle.trace_model.specs.declared.tapes.Effect.{Effect}
use Rattle.trace_model.specs.declared.tapes.Effect.TheVariants.{Grow, Table as GrowTable, Bytes, Entry as SetEntry, Global}
use Rattle.history_spec.specs.Store.{Store, Memory, Table, pages, grown_memory_if, with_bytes_at, with_memory, with_table, with_global}
use Rattle.record_replay_spec.specs.TapeRun.{memory_of_size, table_of_size, memory_with, table_with, store_after_effect, store_after_effects}
use Rattle.record_replay_spec.specs.StoreAnswers.{allows_pages}
use Rattle.replay_module_laws.specs.Stores.{memory_cut, with_own}
use Rattle.generated_code_laws.proofs.Shared.{cut_same}

module _ (own : List Val) (store after : Store) where
  abbrev beside : Store
  beside = with_own own store

  -- the memory is changed by a function that does the same to a memory with its maximum cut
  memory_beside : (change : Memory → Option Memory)
      → ((memory : Memory) → change (memory_cut memory) ≡ option_map memory_cut (change memory)) → (o : Option Memory)
      → option_map (with_memory store) (option_and_then change o) ≡ Some after
      → option_map (with_memory beside) (option_and_then change (option_map memory_cut o)) ≡ Some (with_own own after)
  memory_beside change same None h = absurd (none-some after h)
  memory_beside change same (Some memory) h =
      ap (option_map (with_memory beside)) (same memory) ∙ go (change memory) h
    where
      go : (o : Option Memory) → option_map (with_memory store) o ≡ Some after
          → option_map (with_memory beside) (option_map memory_cut o) ≡ Some (with_own own after)
      go None h = absurd (none-some after h)
      go (Some changed) h = ap (option_map (with_own own)) h

  table_beside : (o : Option Table) → option_map (with_table store) o ≡ Some after
      → option_map (with_table beside) o ≡ Some (with_own own after)
  table_beside None h = absurd (none-some after h)
  table_beside (Some table) h = ap (option_map (with_own own)) h

  global_beside : (global : ℕ) (value : Val) (o : Option Val) → slice_get store.globals global ≡ o
      → option_map (λ old. with_global store global value) o ≡ Some after
      → option_map (λ old. with_global beside global value) (slice_get beside.globals global)
      ≡ Some (with_own own after)
  global_beside global value None there h = absurd (none-some after h)
  global_beside global value (Some old) there h =
      ap (option_map (λ old. with_global beside global value))
      (get_front store.globals own global (slice_get_within store.globals global old there) ∙ there)
      ∙ ap (λ globals. Some (record beside { globals = globals })) (set_front store.globals own global old value there)
      ∙ ap (option_map (with_own own)) h

size_same : (size : ℕ) (memory : Memory)
    → memory_of_size size (memory_cut memory) ≡ option_map memory_cut (memory_of_size size memory)
size_same size memory =
    let by = size - pages memory in
    ap (λ b. cond (nat_le (pages memory) size) (grown_memory_if b (memory_cut memory) by) None)
    (cut_same memory (pages memory + by))
    ∙ go (nat_le (pages memory) size) (allows_pages memory (pages memory + by))
  where
    go : (b allowed : Bool)
        → cond b (grown_memory_if allowed (memory_cut memory) (size - pages memory)) None
        ≡ option_map memory_cut (cond b (grown_memory_if allowed memory (size - pages memory)) None)
    go false allowed = refl
    go true false = refl
    go true true = refl

bytes_same : (address : ℕ) (bytes : List ℕ) (memory : Memory)
    → memory_with address bytes (memory_cut memory) ≡ option_map memory_cut (memory_with address bytes memory)
bytes_same address bytes memory = go (with_bytes_at memory.bytes address bytes)
  where
    go : (o : Option (List ℕ)) → option_map (λ all. record (memory_cut memory) { bytes = all }) o
        ≡ option_map memory_cut (option_map (λ all. record memory { bytes = all }) o)
    go None = refl
    go (Some all) = refl

-- one effect, and a list of effects
pub effect_beside : (own : List Val) (store after : Store) (effect : Effect)
    → store_after_effect store effect ≡ Some after
    → store_after_effect (with_own own store) effect ≡ Some (with_own own after)
effect_beside own store after (Grow size) h =
    memory_beside own store after (memory_of_size size) (size_same size) store.memory h
effect_beside own store after (GrowTable size) h =
    table_beside own store after (option_and_then (table_of_size size) store.table) h
effect_beside own store after (Bytes address bytes) h =
    memory_beside own store after (memory_with address bytes) (bytes_same address bytes) store.memory h
effect_beside own store after (SetEntry index func) h =
    table_beside own store after (option_and_then (table_with index func) store.table) h
effect_beside own store after (Global global value) h =
    global_beside own store after global value (slice_get store.globals global) refl h

pub effects_beside : (own : List Val) (store after : Store) (effects : List Effect)
    → store_after_effects effects store ≡ Some after
    → store_after_effects effects (with_own own store) ≡ Some (with_own own after)
effects_beside own store after [] h = ap (option_map (with_own own)) h
effects_beside own store after (effect ∷ effects) h =
    go (λ between more. effects_beside own between after effects more) (store_after_effect store effect) refl h
  where
    go : ((between : Store) → store_after_effects effects between ≡ Some after
        → store_after_effects effects (with_own own between) ≡ Some (with_own own after))
        → (o : Option Store) → store_after_effect store effect ≡ o
        → option_and_then (store_after_effects effects) o ≡ Some after
        → option_and_then (store_after_effects effects) (store_after_effect (with_own own store) effect)
        ≡ Some (with_own own after)
    go later None e h = absurd (none-some after h)
    go later (Some between) e h =
        ap (option_and_then (store_after_effects effects)) (effect_beside own store between effect e)
        ∙ later between h
