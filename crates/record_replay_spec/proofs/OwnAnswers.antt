-- A store answers what is observed of it.
use Rattle.std.proofs.Common.{◌≡◌, ℕ, ◌+◌, ◌*◌, List, [], ◌∷◌, length, Option, Some, None, nat_le, nat_lt, slice_get, refl, sym, ap, ◌∙◌, subst}
use Rattle.std.specs.Prelude.{IfSome}
use Rattle.std.specs.Option.{option_flatten}
use Rattle.std.proofs.lemmas.Option.{same_Some}
use Rattle.base.proofs.Options.{cond_some}
use Rattle.wasm_syntax.specs.declared.limits.TheConstants.{PAGE_SIZE}
use Rattle.wasm_syntax.specs.declared.values.Val.{Val}
use Rattle.wasm_syntax.specs.declared.instructions.Instr.{Instr}
use Rattle.wasm_syntax.specs.declared.instructions.Instr.TheVariants.{CallIndirect, GlobalGet, GlobalSet, Load, Store as StoreTo, MemorySize, MemoryGrow, MemoryCopy, MemoryFill, TableSet, TableGrow, TableSize}
use Rattle.wasm_syntax.specs.Nest.{Plain}
use Rattle.wasm_syntax.specs.Opcodes.{load_of, store_of}
use Rattle.history_spec.specs.Store.{Store, Memory, Table, pages, bytes_at, with_bytes_at, with_entry}
use Rattle.history_spec.specs.Instruction.{referent}
use Rattle.record_replay_spec.specs.Known.{entry_of}
use Rattle.record_replay_spec.specs.Observations.{Observation, Reads, Copies, Writes, Reaches, ReadsEntry, WritesEntry, ReachesEntry, ReadsGlobal, WritesGlobal, on, bits_from_top, size_observations, grow_observations, table_size_observations, table_grow_observations, load_observations, store_observations, copy_observations, entry_observations, set_observations, plain_observations}
use Rattle.record_replay_spec.specs.StoreAnswers.{HasWholePages, IsReachedAlike, HoldsBytes, Answers, AnswersAll}
use Rattle.record_replay_spec.specs.ObservedStepLaws.{StoresAnswerThemselves}
use Rattle.record_replay_spec.proofs.Memories.{range, own_range}

module _ (store : Store) (whole : HasWholePages store) where
  own_on : {X : Type 0} (o : Option X) (observe : X → List Observation)
      → ((x : X) → o ≡ Some x → AnswersAll store (observe x)) → AnswersAll store (on o observe)
  own_on None observe k = tt
  own_on (Some x) observe k = k x refl

  -- ---- memory

  module _ (memory : Memory) (is : store.memory ≡ Some memory) where
    own_reach : (end : ℕ) → Answers store (Reaches end (pages memory))
    own_reach end =
        let size : length memory.bytes ≡ pages memory * PAGE_SIZE =
        subst (λ o. IfSome o (λ m. length m.bytes ≡ pages m * PAGE_SIZE)) is whole in
        subst
        (λ o. IfSome o (λ m. IsReachedAlike (nat_le end (length m.bytes)) (nat_le end (pages memory * PAGE_SIZE))
        (pages m) (pages memory)))
        (sym is) (record { alike = ap (nat_le end) size; same = λ e. refl })

    own_size : IfSome store.memory (λ m. pages m ≡ pages memory)
    own_size = subst (λ o. IfSome o (λ m. pages m ≡ pages memory)) (sym is) refl

    own_bytes : (address count : ℕ) (bytes : List ℕ) → bytes_at memory.bytes address count ≡ Some bytes
        → HoldsBytes store address bytes
    own_bytes address count bytes e =
        let found : List ℕ = range memory.bytes address count in
        let here = cond_some (nat_le (address + count) (length memory.bytes)) (Some found) bytes e in
        subst (HoldsBytes store address) (same_Some found bytes here.1)
        (own_range store memory is address count)

    own_load : (address width : ℕ) → AnswersAll store (load_observations address width memory)
    own_load address width = (
      own_reach (address + width),
      own_on (bytes_at memory.bytes address width) (λ bytes. Reads address bytes ∷ []) (λ bytes e.
          (own_bytes address width bytes e, tt)),
    )

    own_store : (address count : ℕ) (bytes : List ℕ) → AnswersAll store (store_observations address count bytes memory)
    own_store address count bytes = (
      own_reach (address + count),
      own_on (with_bytes_at memory.bytes address bytes) (λ all. Writes address bytes ∷ []) (λ all e. (tt, tt)),
    )

    own_copy : (to source count : ℕ) → AnswersAll store (copy_observations to source count memory)
    own_copy to source count = (
      own_reach (source + count),
      (
        own_reach (to + count),
        own_on (bytes_at memory.bytes source count) _ (λ bytes e.
            own_on (with_bytes_at memory.bytes to bytes) (λ all. Copies source bytes ∷ Writes to bytes ∷ []) (λ all e'.
            (own_bytes source count bytes e, (tt, tt)))),
      ),
    )

  -- ---- the table

  module _ (table : Table) (is : store.table ≡ Some table) where
    own_index : (index : ℕ) → Answers store (ReachesEntry index (length table.entries))
    own_index index =
        subst
        (λ o. IfSome o (λ t. IsReachedAlike (nat_lt index (length t.entries)) (nat_lt index (length table.entries))
        (length t.entries) (length table.entries)))
        (sym is) (record { alike = refl; same = λ e. refl })

    own_entries : IfSome store.table (λ t. length t.entries ≡ length table.entries)
    own_entries = subst (λ o. IfSome o (λ t. length t.entries ≡ length table.entries)) (sym is) refl

    own_entry : (index : ℕ) → AnswersAll store (entry_observations index table)
    own_entry index = (
      own_index index,
      own_on (slice_get table.entries index) (λ func. ReadsEntry index func ∷ []) (λ func e.
          (ap (λ o. entry_of o index) is ∙ ap option_flatten e, tt)),
    )

    own_set : (index : ℕ) (func : Option ℕ) → AnswersAll store (set_observations index func table)
    own_set index func = (
      own_index index,
      own_on (with_entry table.entries index func) (λ all. WritesEntry index func ∷ []) (λ all e. (tt, tt)),
    )

  -- ---- instructions

  own_plain : (values : List Val) (i : Instr) → AnswersAll store (plain_observations store values i)
  own_plain values (Load at) =
      own_on (load_of at.op) _ (λ access has. own_on store.memory _ (λ memory is. own_load memory is _ access.width))
  own_plain values (StoreTo at) =
      own_on (store_of at.op) _ (λ access has.
      own_on store.memory _ (λ memory is. own_store memory is _ access.width _))
  own_plain values MemorySize = own_on store.memory size_observations (λ memory is. (own_size memory is, tt))
  own_plain values MemoryGrow =
      own_on store.memory (grow_observations (bits_from_top values 0)) (λ memory is. (own_size memory is, tt))
  own_plain values MemoryCopy = own_on store.memory _ (λ memory is. own_copy memory is _ _ _)
  own_plain values MemoryFill = own_on store.memory _ (λ memory is. own_store memory is _ _ _)
  own_plain values (CallIndirect t) = own_on store.table _ (λ table is. own_entry table is _)
  own_plain values (TableSet t) = own_on store.table _ (λ table is. own_set table is _ _)
  own_plain values (TableSize t) = own_on store.table table_size_observations (λ table is. (own_entries table is, tt))
  own_plain values (TableGrow t) =
      own_on store.table (table_grow_observations (bits_from_top values 0) (referent (bits_from_top values 1)))
      (λ table is. (own_entries table is, tt))
  own_plain values (GlobalGet x) =
      own_on (slice_get store.globals x) (λ value. ReadsGlobal x value ∷ []) (λ value e. (e, tt))
  own_plain values (GlobalSet x) =
      own_on (slice_get values 0) (λ value. WritesGlobal x value ∷ []) (λ value e. (tt, tt))
  own_plain values i = tt

pub stores_answer_themselves : StoresAnswerThemselves
stores_answer_themselves store values (Plain i rest) whole = own_plain store whole values i
stores_answer_themselves store values nest whole = tt
