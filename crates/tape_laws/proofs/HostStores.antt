-- The sizes and globals of a well-typed store, and what an action of the host keeps of them.
use Rattle.std.proofs.Common.{◌≡◌, ℕ, zero, suc, ◌+◌, ◌*◌, ◌/◌, ◌≤◌, List, [], ◌∷◌, ◌++◌, length, Option, Some, None, Bool, true, false, nat_le, nat_lt, slice_get, slice_set, refl, sym, ap, ◌∙◌, subst, arith, length-append, length-set}
use Rattle.std.specs.Prelude.{IfSome, option_map, replicate}
use Rattle.std.proofs.lemmas.Bool.Decides.{nat_tests}
use Rattle.std.proofs.lemmas.Option.{none-some, same_Some}
use Rattle.base.proofs.Booleans.{and_true}
use Rattle.base.proofs.Options.{cond_some}
use Rattle.wasm_syntax.specs.declared.limits.TheConstants.{MAX_ENTRIES, MAX_PAGES, PAGE_SIZE}
use Rattle.wasm_syntax.specs.declared.values.Val.{Val}
use Rattle.wasm_syntax.specs.declared.values.ValType.{ValType}
use Rattle.wasm_syntax.specs.declared.signatures.Limits.{Limits}
use Rattle.wasm_syntax.specs.declared.modules.Module.{Module}
use Rattle.wasm_syntax.specs.Alike.{same_types}
use Rattle.wasm_syntax.specs.Index.{all_tables, all_memories}
use Rattle.host_script.specs.declared.scripts.Action.{Action}
use Rattle.host_script.specs.declared.scripts.Action.TheVariants.{Write, Copy, SetTable, SetGlobal, Grow, GrowTable, Call, CallTable}
use Rattle.host_script.specs.Supply.{is_within}
use Rattle.history_spec.specs.declared.entries.FaultKind.{FaultKind}
use Rattle.history_spec.specs.Store.{Store, Memory, Table, pages, zeros, with_items_at, with_bytes_at, bytes_at, with_entry, with_memory, grown_memory, grown_memory_if, grown_table, grown_table_if}
use Rattle.history_spec.specs.Code.{Code, signature, types_of}
use Rattle.history_spec.specs.Action.{ActionResult, Changes, Enters, on, or_fault, if_fits, address_of, with_new_bytes, calls_defined, calls_entry, perform}
use Rattle.history_spec.specs.Instantiation.{memory_length, table_length}
use Rattle.record_replay_spec.specs.Known.{Known, pages_of}
use Rattle.record_replay_spec.specs.Changes.{global_type}
use Rattle.record_replay_spec.specs.StoreAnswers.{HasWholePages, allows_pages, allows_entries}
use Rattle.record_replay_spec.proofs.Memories.{larger_size}
use Rattle.type_safety.specs.Values.{AreValues}
use Rattle.type_safety.specs.Stores.{func_count, global_types, MayBeMemory, MayBeTable, IsStore}
use Rattle.tape_laws.proofs.Stores.{maxima}
use Rattle.tape_laws.proofs.Relation.{IsKnownOf}
use Rattle.tape_laws.proofs.Changes.{with_items_length}
use Rattle.tape_laws.proofs.Activities.{HasSizes}

-- ---- a well-typed store

module _ (m : Module) where
  memory_sizes : (limits : List Limits) (o : Option Memory) → MayBeMemory limits o
      → (memory_length o ≡ pages_of o * PAGE_SIZE) × IfSome o (λ memory. allows_pages memory (pages memory) ≡ true)
  memory_sizes [] None h = (refl, tt)
  memory_sizes [] (Some memory) h = absurd h
  memory_sizes (limits ∷ more) None h = (refl, tt)
  memory_sizes (limits ∷ more) (Some memory) h =
      let most = h.most in (
        h.whole,
        and_true (is_within (pages memory) memory.max) (nat_le (pages memory) MAX_PAGES) h.within
            (grind (arith, nat_tests, most)),
      )

  table_sizes : (limits : List Limits) (o : Option Table) → MayBeTable (func_count m) limits o
      → IfSome o (λ table. allows_entries table (length table.entries) ≡ true)
  table_sizes [] None h = tt
  table_sizes [] (Some table) h = absurd h
  table_sizes (limits ∷ more) None h = tt
  table_sizes (limits ∷ more) (Some table) h =
      let most = h.most in
      and_true (is_within (length table.entries) table.max) (nat_le (length table.entries) MAX_ENTRIES) h.within
      (grind (arith, nat_tests, most))

  pub sizes_of : (store : Store) → IsStore m store → HasSizes store
  sizes_of store is =
      let memory = memory_sizes (all_memories m) store.memory is.memory in
      record {
        whole = memory.0;
        pages = memory.1;
        entries = table_sizes (all_tables m) store.table is.table;
      }

  pub type_at : (n : ℕ) (types : List ValType) (values : List Val) (x : ℕ) → AreValues n types values
      → option_map (λ value. value.ty) (slice_get values x) ≡ slice_get types x
  type_at n [] [] x h = refl
  type_at n [] (v ∷ values) x h = absurd h
  type_at n (t ∷ types) [] x h = absurd h
  type_at n (t ∷ types) (v ∷ values) zero h = ap Some h.0.typed
  type_at n (t ∷ types) (v ∷ values) (suc x) h = type_at n types values x h.1

  pub types_same : (store after : Store) → IsStore m store → IsStore m after → (x : ℕ)
      → global_type after x ≡ global_type store x
  types_same store after is next x =
      type_at (func_count m) (global_types m) after.globals x next.globals
      ∙ sym (type_at (func_count m) (global_types m) store.globals x is.globals)

pub whole_pages_of : (store : Store) → HasSizes store → HasWholePages store
whole_pages_of store sizes = go store.memory sizes.whole
  where
    go : (o : Option Memory) → memory_length o ≡ pages_of o * PAGE_SIZE
        → IfSome o (λ memory. length memory.bytes ≡ pages memory * PAGE_SIZE)
    go None h = tt
    go (Some memory) h = h

-- ---- an action of the host

-- no size decreases, and the allowed sizes stay
pub record IsHostChange (store after : Store) : Type 0 where
  pub pages : pages_of store.memory ≤ pages_of after.memory
  pub entries : table_length store.table ≤ table_length after.table
  pub same : maxima after ≡ maxima store

pub same_changes : (a b : Store) → Changes a ≡ Changes b → a ≡ b
same_changes a b h = cc

pub on_changes : {X : Type 0} (o : Option X) (go : X → ActionResult) (after : Store) → on o go ≡ Changes after
    → (x : X) × (o ≡ Some x) × (go x ≡ Changes after)
on_changes None go after h = cc
on_changes (Some x) go after h = (x, refl, h)

pub fault_changes : {X : Type 0} (kind : FaultKind) (o : Option X) (go : X → ActionResult) (after : Store)
    → or_fault kind o go ≡ Changes after → (x : X) × (o ≡ Some x) × (go x ≡ Changes after)
fault_changes kind None go after h = cc
fault_changes kind (Some x) go after h = (x, refl, h)

-- an action writes bytes
bytes_change : (store : Store) (memory : Memory) → store.memory ≡ Some memory → (bytes : List ℕ) (address : ℕ)
    (news : List ℕ) → with_bytes_at memory.bytes address news ≡ Some bytes → (after : Store)
    → with_new_bytes store memory bytes ≡ Changes after → IsHostChange store after
bytes_change store memory is bytes address news e after h =
    subst (IsHostChange store) (same_changes (with_memory store (record memory { bytes = bytes })) after h)
    (record { pages = size; entries = omega arith; same = kept })
  where
    fits : address + length news ≤ length memory.bytes
    fits =
        let t = (cond_some (nat_le (address + length news) (length memory.bytes)) _ bytes e).0 in
        grind (arith, nat_tests, t)

    long : length bytes ≡ length memory.bytes
    long =
        ap length (sym (same_Some (with_items_at memory.bytes address news) bytes
        (cond_some (nat_le (address + length news) (length memory.bytes)) _ bytes e).1))
        ∙ with_items_length memory.bytes news address fits

    size : pages_of store.memory ≤ length bytes / PAGE_SIZE
    size =
        let same : pages_of store.memory ≡ length bytes / PAGE_SIZE =
        ap pages_of is ∙ ap (λ n. n / PAGE_SIZE) (sym long) in
        omega (arith, same)

    kept : maxima (with_memory store (record memory { bytes = bytes })) ≡ maxima store
    kept =
        ap (λ o. record { pages = o; entries = option_map (λ table. table.max) store.table })
        (sym (ap (option_map (λ memory. memory.max)) is))

grown_is : (b : Bool) (memory : Memory) (by : ℕ) (larger : Memory) → grown_memory_if b memory by ≡ Some larger
    → (pages memory ≤ pages larger) × (larger.max ≡ memory.max)
grown_is false memory by larger h = absurd (none-some larger h)
grown_is true memory by larger h =
    let is = same_Some (record memory { bytes = memory.bytes ++ zeros (by * PAGE_SIZE) }) larger h in
    let more = sym (ap pages is) ∙ larger_size memory by in (
      omega (arith, more),
      sym (ap (λ (m : Memory). m.max) is),
    )

grown_table_is : (b : Bool) (table : Table) (by : ℕ) (func : Option ℕ) (larger : Table)
    → grown_table_if b table by func ≡ Some larger
    → (length table.entries ≤ length larger.entries) × (larger.max ≡ table.max)
grown_table_is false table by func larger h = absurd (none-some larger h)
grown_table_is true table by func larger h =
    let is = same_Some (record table { entries = table.entries ++ replicate by func }) larger h in
    let more = sym (ap (λ (t : Table). length t.entries) is) ∙ length-append table.entries (replicate by func) in (
      omega (arith, more),
      sym (ap (λ (t : Table). t.max) is),
    )

pub no_call : (code : Code) (args : List Val) (o : Option ℕ) (after : Store)
    → calls_entry code args o ≡ Changes after → ⊥
no_call code args None after h = cc
no_call code args (Some func) after h = go (nat_lt func code.imported) h
  where
    go : (b : Bool) → calls_defined code func args b ≡ Changes after → ⊥
    go true h = cc
    go false h =
        let p = on_changes (signature code func) _ after h in fits (same_types p.0.params (types_of args)) p.2
      where
        fits : (b : Bool) → if_fits b (Enters func args) ≡ Changes after → ⊥
        fits true h = cc
        fits false h = cc

pub host_change : (code : Code) (store : Store) (args : List Val) (action : Action) (after : Store)
    → perform code store args action ≡ Changes after → IsHostChange store after
host_change code store args (Write to bytes) after h =
    let m = on_changes store.memory _ after h in
    let a = on_changes (address_of args to) _ after m.2 in
    let w = fault_changes _ (with_bytes_at m.0.bytes a.0 bytes) _ after a.2 in
    bytes_change store m.0 m.1 w.0 a.0 bytes w.1 after w.2
host_change code store args (Copy to source count) after h =
    let m = on_changes store.memory _ after h in
    let a = on_changes (address_of args to) _ after m.2 in
    let s = on_changes (address_of args source) _ after a.2 in
    let r = fault_changes _ (bytes_at m.0.bytes s.0 count) _ after s.2 in
    let w = fault_changes _ (with_bytes_at m.0.bytes a.0 r.0) _ after r.2 in
    bytes_change store m.0 m.1 w.0 a.0 r.0 w.1 after w.2
host_change code store args (SetTable index func) after h =
    let t = on_changes store.table _ after h in
    let w = fault_changes _ (with_entry t.0.entries index func) _ after t.2 in
    let entries_is = same_Some (slice_set t.0.entries index func) w.0
    (cond_some (nat_lt index (length t.0.entries)) _ w.0 w.1).1 in
    let long = ap table_length t.1 ∙ sym (length-set t.0.entries index func) ∙ ap length entries_is in
    subst (IsHostChange store) (same_changes _ after w.2)
    (record {
      pages = omega arith;
      entries = omega (arith, long);
      same =
          ap (λ o. record { pages = option_map (λ memory. memory.max) store.memory; entries = o })
          (sym (ap (option_map (λ table. table.max)) t.1));
    })
host_change code store args (SetGlobal global value) after h =
    let g = on_changes (slice_get store.globals global) _ after h in
    subst (IsHostChange store) (same_changes _ after g.2)
    (record { pages = omega arith; entries = omega arith; same = refl })
host_change code store args (Grow by) after h =
    let m = on_changes store.memory _ after h in
    let w = fault_changes _ (grown_memory m.0 by) _ after m.2 in
    let g = grown_is _ m.0 by w.0 w.1 in
    let now = ap pages_of m.1 in
    let more = g.0 in
    subst (IsHostChange store) (same_changes _ after w.2)
    (record {
      pages = omega (arith, now, more);
      entries = omega arith;
      same =
          ap (λ o. record { pages = o; entries = option_map (λ table. table.max) store.table })
          (ap Some g.1 ∙ sym (ap (option_map (λ memory. memory.max)) m.1));
    })
host_change code store args (GrowTable by) after h =
    let t = on_changes store.table _ after h in
    let w = fault_changes _ (grown_table t.0 by None) _ after t.2 in
    let g = grown_table_is _ t.0 by None w.0 w.1 in
    let now = ap table_length t.1 in
    let more = g.0 in
    subst (IsHostChange store) (same_changes _ after w.2)
    (record {
      pages = omega arith;
      entries = omega (arith, now, more);
      same =
          ap (λ o. record { pages = option_map (λ memory. memory.max) store.memory; entries = o })
          (ap Some g.1 ∙ sym (ap (option_map (λ table. table.max)) t.1));
    })
host_change code store args (Call func given) after h = cc
host_change code store args (CallTable index given) after h =
    let t = on_changes store.table _ after h in
    let w = fault_changes _ (slice_get t.0.entries index) _ after t.2 in
    absurd (no_call code given w.0 after w.2)

-- what is known fits the store after an action if it fits the store before
pub known_of_change : (m : Module) (known : Known) (store after : Store) → IsStore m store → IsStore m after
    → IsHostChange store after → IsKnownOf known store → IsKnownOf known after
known_of_change m known store after is next change k =
    let p = k.pages in
    let e = k.entries in
    let more = change.pages in
    let more_entries = change.entries in
    record {
      pages = omega (arith, p, more);
      entries = omega (arith, e, more_entries);
      past_pages = k.past_pages;
      past_entries = k.past_entries;
      types = λ x. k.types x ∙ sym (types_same m store after is next x);
    }
