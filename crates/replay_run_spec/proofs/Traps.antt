-- An instruction that traps changes nothing.
use Rattle.std.proofs.Common.{◌≡◌, ℕ, zero, suc, ◌+◌, ◌%◌, List, [], ◌∷◌, ◌++◌, length, Option, Some, None, refl}
use Rattle.std.specs.Prelude.{option_and_then, replicate, slice_get}
use Rattle.wasm_syntax.specs.declared.values.Val.{Val}
use Rattle.wasm_syntax.specs.declared.values.ValType.{ValType}
use Rattle.wasm_syntax.specs.declared.values.ValType.TheVariants.{I32, FuncRef}
use Rattle.wasm_syntax.specs.declared.instructions.MemArg.{MemArg}
use Rattle.wasm_syntax.specs.declared.instructions.Instr.{Instr}
use Rattle.wasm_syntax.specs.declared.instructions.Instr.TheVariants.{CallIndirect, GlobalGet, GlobalSet, Load, Store as StoreTo, MemorySize, MemoryGrow, MemoryCopy, MemoryFill, TableSet, TableGrow, TableSize}
use Rattle.wasm_syntax.specs.Nest.{Nest, Plain}
use Rattle.wasm_syntax.specs.Opcodes.{load_of, store_of}
use Rattle.history_spec.specs.declared.entries.TrapKind.{TrapKind}
use Rattle.history_spec.specs.Store.{Store, Memory, Table, pages, bytes_at, with_bytes_at, with_entry, grown_memory, grown_table, bytes_of}
use Rattle.history_spec.specs.Code.{Code}
use Rattle.history_spec.specs.Configuration.{Place, place, Frame}
use Rattle.history_spec.specs.Instruction.{Control, Execution, Operands, Did, Traps, NoRule, on, pop, takes, bits_at, referent, store_result, grow_result, table_result, table_grow_result, execute_plain, execute_at}
use Rattle.record_replay_spec.specs.Observations.{Observation, Reads, Reaches, ReadsEntry, ReachesEntry, bits_from_top, plain_observations, nest_observations, on as observed_on}
use Rattle.record_replay_spec.proofs.Operands.{AreOperands, popped, bits_same}
use Rattle.replay_run_spec.specs.Items.{changes_of}
use Rattle.replay_run_spec.specs.Laws.{TrapsChangeNothing}

module _ (globals : ℕ) where
  abbrev ChangesNone : List Observation → Type 0
  ChangesNone seen = changes_of globals seen ≡ []

  -- if an execution traps, what is observed changes nothing
  record TrapsStill (seen : List Observation) (e : Execution) : Type 0 where
    none : (kind : TrapKind) (operands : List Val) (found : Option ℕ) → e ≡ Traps kind operands found
        → ChangesNone seen

  still : (seen : List Observation) (e : Execution) → ChangesNone seen → TrapsStill seen e
  still seen e none = record { none = λ kind operands found is. none }

  goes_on : (seen : List Observation) (operands results : List Val) (found : Option ℕ) (effect : Control)
      → TrapsStill seen (Did operands results found effect)
  goes_on seen operands results found effect = record { none = λ kind operands' found' is. absurd (cc is) }

  no_rule : (seen : List Observation) → TrapsStill seen NoRule
  no_rule seen = record { none = λ kind operands found is. absurd (cc is) }

  -- ---- parts that exist

  none_on : {X : Type 0} (o : Option X) (observe : X → List Observation) → ((x : X) → ChangesNone (observe x))
      → ChangesNone (observed_on o observe)
  none_on None observe k = refl
  none_on (Some x) observe k = k x

  still_on : {X : Type 0} (seen : List Observation) (o : Option X) (go : X → Execution)
      → ((x : X) → TrapsStill seen (go x)) → TrapsStill seen (on o go)
  still_on seen None go k = no_rule seen
  still_on seen (Some x) go k = k x

  both_on : {X : Type 0} (o : Option X) (observe : X → List Observation) (go : X → Execution)
      → ((x : X) → TrapsStill (observe x) (go x)) → TrapsStill (observed_on o observe) (on o go)
  both_on None observe go k = no_rule []
  both_on (Some x) observe go k = k x

  -- a part that does not exist is not written
  write_still : {X : Type 0} (reached : List Observation) (o : Option X) (observe : X → List Observation)
      (go : Option X → Execution) → ChangesNone (reached ++ [])
      → ((x : X) → TrapsStill (reached ++ observe x) (go (Some x)))
      → TrapsStill (reached ++ observed_on o observe) (go o)
  write_still reached None observe go none k = still (reached ++ []) (go None) none
  write_still reached (Some x) observe go none k = k x

  -- ---- instructions

  module _ (store : Store) (frame : Frame) where
    takes_still : (seen : List Observation) (types : List ValType) (go : List Val → List Val → Execution)
        → ((operands rest : List Val) → AreOperands types frame.values operands → TrapsStill seen (go operands rest))
        → TrapsStill seen (takes frame types go)
    takes_still seen types go k = one (pop types frame.values) refl
      where
        one : (o : Option Operands) → pop types frame.values ≡ o
            → TrapsStill seen (on o (λ p. go p.operands p.rest))
        one None is = no_rule seen
        one (Some p) is = k p.operands p.rest (popped types frame.values p is)

    -- the bits of the operand at a place from the top
    abbrev top : ℕ → ℕ
    top i = bits_from_top frame.values i

    module _ (code : Code) (next : Place) where
      abbrev PlainStill : Instr → Type 0
      PlainStill i = TrapsStill (plain_observations store frame.values i) (execute_plain code store frame next i)

      -- bytes are written, or nothing is
      bytes_still : (memory : Memory) (operands rest : List Val) (reached : List Observation) (o : Option (List ℕ))
          (observe : List ℕ → List Observation) → ChangesNone (reached ++ [])
          → TrapsStill (reached ++ observed_on o observe) (store_result store frame next memory operands rest o)
      bytes_still memory operands rest reached o observe none =
          write_still reached o observe (store_result store frame next memory operands rest) none
          (λ all. goes_on (reached ++ observe all) operands [] None _)

      stores_still : (at : MemArg) → PlainStill (StoreTo at)
      stores_still at =
          both_on (store_of at.op) _ _ (λ access. both_on store.memory _ _ (λ memory.
          takes_still _ (I32 ∷ access.ty ∷ []) _ (λ operands rest are.
          let address = top 1 + at.offset in
          rw (bits_same are 0 1 refl, bits_same are 1 0 refl)
          (bytes_still memory operands rest (Reaches (address + access.width) (pages memory) ∷ [])
          (with_bytes_at memory.bytes address (bytes_of access.width (top 0))) _ refl))))

      fills_still : PlainStill MemoryFill
      fills_still =
          both_on store.memory _ _ (λ memory.
          takes_still _ (I32 ∷ I32 ∷ I32 ∷ []) _ (λ operands rest are.
          rw (bits_same are 0 2 refl, bits_same are 1 1 refl, bits_same are 2 0 refl)
          (bytes_still memory operands rest (Reaches (top 2 + top 0) (pages memory) ∷ [])
          (with_bytes_at memory.bytes (top 2) (replicate (top 0) (top 1 % 256))) _ refl)))

      copies_still : PlainStill MemoryCopy
      copies_still =
          both_on store.memory _ _ (λ memory.
          takes_still _ (I32 ∷ I32 ∷ I32 ∷ []) _ (λ operands rest are.
          let reached = Reaches (top 1 + top 0) (pages memory) ∷ Reaches (top 2 + top 0) (pages memory) ∷ [] in
          rw (bits_same are 0 2 refl, bits_same are 1 1 refl, bits_same are 2 0 refl)
          (write_still reached (bytes_at memory.bytes (top 1) (top 0)) _
          (λ o. store_result store frame next memory operands rest
          (option_and_then (with_bytes_at memory.bytes (top 2)) o))
          refl
          (λ bytes. bytes_still memory operands rest reached (with_bytes_at memory.bytes (top 2) bytes) _ refl))))

      grows_still : PlainStill MemoryGrow
      grows_still =
          both_on store.memory _ _ (λ memory.
          takes_still _ (I32 ∷ []) _ (λ operands rest are.
          grown memory operands rest (grown_memory memory (bits_at operands 0))))
        where
          grown : {seen : List Observation} (memory : Memory) (operands rest : List Val) (o : Option Memory)
              → TrapsStill seen (grow_result store frame next memory operands rest o)
          grown memory operands rest None = goes_on _ operands _ _ _
          grown memory operands rest (Some larger) = goes_on _ operands _ _ _

      sets_still : (t : ℕ) → PlainStill (TableSet t)
      sets_still (suc t) = no_rule _
      sets_still zero =
          both_on store.table _ _ (λ table.
          takes_still _ (I32 ∷ FuncRef ∷ []) _ (λ operands rest are.
          rw (bits_same are 0 1 refl, bits_same are 1 0 refl)
          (write_still (ReachesEntry (top 1) (length table.entries) ∷ [])
          (with_entry table.entries (top 1) (referent (top 0))) _
          (table_result store frame next table operands rest) refl
          (λ entries. goes_on _ operands [] None _))))

      grows_table_still : (t : ℕ) → PlainStill (TableGrow t)
      grows_table_still (suc t) = no_rule _
      grows_table_still zero =
          both_on store.table _ _ (λ table.
          takes_still _ (FuncRef ∷ I32 ∷ []) _ (λ operands rest are.
          grown table operands rest (grown_table table (bits_at operands 1) (referent (bits_at operands 0)))))
        where
          grown : {seen : List Observation} (table : Table) (operands rest : List Val) (o : Option Table)
              → TrapsStill seen (table_grow_result store frame next table operands rest o)
          grown table operands rest None = goes_on _ operands _ _ _
          grown table operands rest (Some larger) = goes_on _ operands _ _ _

      sizes_table_still : (t : ℕ) → PlainStill (TableSize t)
      sizes_table_still (suc t) = no_rule _
      sizes_table_still zero = still_on _ store.table _ (λ table. goes_on _ [] _ None _)

      plain_still : (i : Instr) → PlainStill i
      plain_still (Load at) =
          still _ _
          (none_on (load_of at.op) _ (λ access. none_on store.memory _ (λ memory.
          none_on (bytes_at memory.bytes (top 0 + at.offset) access.width) (λ bytes. Reads (top 0 + at.offset) bytes ∷ [])
          (λ bytes. refl))))
      plain_still (CallIndirect t) =
          still _ _
          (none_on store.table _ (λ table.
          none_on (slice_get table.entries (top 0)) (λ func. ReadsEntry (top 0) func ∷ []) (λ func. refl)))
      plain_still (StoreTo at) = stores_still at
      plain_still MemorySize = still_on _ store.memory _ (λ memory. goes_on _ [] _ None _)
      plain_still MemoryGrow = grows_still
      plain_still MemoryCopy = copies_still
      plain_still MemoryFill = fills_still
      plain_still (TableSet t) = sets_still t
      plain_still (TableGrow t) = grows_table_still t
      plain_still (TableSize t) = sizes_table_still t
      plain_still (GlobalGet x) = still_on _ (slice_get store.globals x) _ (λ value. goes_on _ [] _ None _)
      plain_still (GlobalSet x) =
          still_on _ (slice_get store.globals x) _ (λ old.
          takes_still _ (old.ty ∷ []) _ (λ operands rest are. goes_on _ operands [] None _))
      plain_still i = still _ _ refl

    next_still : (code : Code) (nest : Nest) (n : ℕ)
        → TrapsStill (nest_observations store frame.values nest) (execute_at code store frame nest n)
    next_still code (Plain i rest) n = plain_still code (place rest (n + 1)) i
    next_still code nest n = still _ _ refl

pub traps_still : TrapsChangeNothing
traps_still globals code store frame kind operands found is =
    (next_still globals store frame code frame.at.rest frame.at.number).none kind operands found is
