-- Which observations an instruction can make.
use Rattle.std.proofs.Common.{◌≡◌, ℕ, ◌+◌, ◌%◌, List, [], ◌∷◌, Option, Some, None, slice_get, refl}
use Rattle.std.specs.Prelude.{replicate}
use Rattle.std.specs.List.{AllByRecursion}
use Rattle.wasm_syntax.specs.declared.values.Val.{Val}
use Rattle.wasm_syntax.specs.declared.instructions.Instr.{Instr}
use Rattle.wasm_syntax.specs.declared.instructions.Instr.TheVariants.{CallIndirect, GlobalGet, GlobalSet, Load, Store as StoreTo, MemorySize, MemoryGrow, MemoryCopy, MemoryFill, TableSet, TableGrow, TableSize}
use Rattle.wasm_syntax.specs.Nest.{Nest, Plain}
use Rattle.wasm_syntax.specs.Opcodes.{load_of, store_of}
use Rattle.history_spec.specs.Store.{Store, Memory, Table, bytes_at, with_bytes_at, with_entry, bytes_of}
use Rattle.record_replay_spec.specs.Observations.{Observation, Begins, Ends, ReadsEntry, WritesEntry, ReachesEntry, ResizesTable, WritesGlobal, on, bits_from_top, load_observations, store_observations, copy_observations, entry_observations, set_observations, plain_observations, nest_observations}

-- an instruction that uses the table's entries
abbrev pub UsesTable : Instr → Type 0
UsesTable (CallIndirect t) = Unit {0}
UsesTable (TableSet t) = Unit {0}
UsesTable i = ⊥

-- an instruction that has the table's size or changes the table
abbrev pub ChangesTable : Instr → Type 0
ChangesTable (TableSet t) = Unit {0}
ChangesTable (TableSize t) = Unit {0}
ChangesTable (TableGrow t) = Unit {0}
ChangesTable i = ⊥

-- an instruction can make an observation: none is of an activity of the host, and few are of the table or write a global
abbrev pub CanObserve : Instr → Observation → Type 0
CanObserve i (Begins origin) = ⊥
CanObserve i (Ends next) = ⊥
CanObserve i (ReadsEntry index func) = UsesTable i
CanObserve i (ReachesEntry index found) = UsesTable i
CanObserve i (WritesEntry index func) = ChangesTable i
CanObserve i (ResizesTable found left func) = ChangesTable i
CanObserve i (WritesGlobal x value) = i ≡ GlobalSet x
CanObserve i o = Unit {0}

module _ (P : Observation → Type 0) where
  all_on : {X : Type 0} (o : Option X) (observe : X → List Observation) → ((x : X) → AllByRecursion P (observe x))
      → AllByRecursion P (on o observe)
  all_on None observe each = tt
  all_on (Some x) observe each = each x

module _ (i : Instr) where
  abbrev Are : List Observation → Type 0
  Are = AllByRecursion (CanObserve i)

  of_load : (address width : ℕ) (memory : Memory) → Are (load_observations address width memory)
  of_load address width memory =
      (tt, all_on (CanObserve i) (bytes_at memory.bytes address width) _ (λ bytes. (tt, tt)))

  of_store : (address count : ℕ) (bytes : List ℕ) (memory : Memory) → Are (store_observations address count bytes memory)
  of_store address count bytes memory =
      (tt, all_on (CanObserve i) (with_bytes_at memory.bytes address bytes) _ (λ all. (tt, tt)))

  of_copy : (to source count : ℕ) (memory : Memory) → Are (copy_observations to source count memory)
  of_copy to source count memory = (
    tt,
    (
      tt,
      all_on (CanObserve i) (bytes_at memory.bytes source count) _ (λ bytes.
          all_on (CanObserve i) (with_bytes_at memory.bytes to bytes) _ (λ all. (tt, (tt, tt)))),
    ),
  )

  of_entry : UsesTable i → (index : ℕ) (table : Table) → Are (entry_observations index table)
  of_entry uses index table =
      (uses, all_on (CanObserve i) (slice_get table.entries index) _ (λ func. (uses, tt)))

  of_set : UsesTable i → ChangesTable i → (index : ℕ) (func : Option ℕ) (table : Table)
      → Are (set_observations index func table)
  of_set uses changes index func table =
      (uses, all_on (CanObserve i) (with_entry table.entries index func) _ (λ all. (changes, tt)))

can_observe : (store : Store) (values : List Val) (i : Instr)
    → AllByRecursion (CanObserve i) (plain_observations store values i)
can_observe store values (Load at) =
    all_on (CanObserve (Load at)) (load_of at.op) _ (λ access.
    all_on (CanObserve (Load at)) store.memory _ (of_load (Load at) (bits_from_top values 0 + at.offset) access.width))
can_observe store values (StoreTo at) =
    all_on (CanObserve (StoreTo at)) (store_of at.op) _ (λ access.
    all_on (CanObserve (StoreTo at)) store.memory _
    (of_store (StoreTo at) (bits_from_top values 1 + at.offset) access.width
    (bytes_of access.width (bits_from_top values 0))))
can_observe store values MemorySize = all_on (CanObserve MemorySize) store.memory _ (λ memory. (tt, tt))
can_observe store values MemoryGrow = all_on (CanObserve MemoryGrow) store.memory _ (λ memory. (tt, tt))
can_observe store values MemoryCopy =
    all_on (CanObserve MemoryCopy) store.memory _
    (of_copy MemoryCopy (bits_from_top values 2) (bits_from_top values 1) (bits_from_top values 0))
can_observe store values MemoryFill =
    all_on (CanObserve MemoryFill) store.memory _
    (of_store MemoryFill (bits_from_top values 2) (bits_from_top values 0)
    (replicate (bits_from_top values 0) (bits_from_top values 1 % 256)))
can_observe store values (CallIndirect t) =
    all_on (CanObserve (CallIndirect t)) store.table _ (of_entry (CallIndirect t) tt (bits_from_top values 0))
can_observe store values (TableSet t) =
    all_on (CanObserve (TableSet t)) store.table _ (of_set (TableSet t) tt tt (bits_from_top values 1) _)
can_observe store values (TableSize t) = all_on (CanObserve (TableSize t)) store.table _ (λ table. (tt, tt))
can_observe store values (TableGrow t) = all_on (CanObserve (TableGrow t)) store.table _ (λ table. (tt, tt))
can_observe store values (GlobalGet x) =
    all_on (CanObserve (GlobalGet x)) (slice_get store.globals x) _ (λ value. (tt, tt))
can_observe store values (GlobalSet x) =
    all_on (CanObserve (GlobalSet x)) (slice_get values 0) _ (λ value. (refl, tt))
can_observe store values i = tt

module _ (P : Observation → Type 0) where
  each_of : (i : Instr) → ((o : Observation) → CanObserve i o → P o) → (seen : List Observation)
      → AllByRecursion (CanObserve i) seen → AllByRecursion P seen
  each_of i each [] can = tt
  each_of i each (o ∷ seen) can = (each o can.0, each_of i each seen can.1)

  -- what holds of each observation that the next instruction can make holds of those that it makes
  pub all_observed : (store : Store) (values : List Val) (nest : Nest)
      → ((i : Instr) (rest : Nest) → nest ≡ Plain i rest → (o : Observation) → CanObserve i o → P o)
      → AllByRecursion P (nest_observations store values nest)
  all_observed store values (Plain i rest) each =
      each_of i (each i rest refl) (plain_observations store values i) (can_observe store values i)
  all_observed store values nest each = tt
