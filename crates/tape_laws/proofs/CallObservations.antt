-- The hook calls of an instruction on the memory observe what the instruction observes, as far as hooks report it.
use Rattle.std.proofs.Common.{◌≡◌, ℕ, ◌+◌, ◌%◌, List, [], ◌∷◌, ◌++◌, map, Option, Some, None, replicate, refl, ap, ◌∙◌}
use Rattle.wasm_syntax.specs.declared.values.ValType.{ValType}
use Rattle.wasm_syntax.specs.declared.values.ValType.TheVariants.{I32}
use Rattle.wasm_syntax.specs.declared.values.Val.{Val}
use Rattle.wasm_syntax.specs.declared.signatures.GlobalType.{GlobalType}
use Rattle.wasm_syntax.specs.declared.instructions.MemArg.{MemArg}
use Rattle.wasm_syntax.specs.declared.instructions.Instr.TheVariants as instrs
use Rattle.wasm_syntax.specs.Opcodes.{Access, load_of, store_of}
use Rattle.history_spec.specs.Code.{i32_value}
use Rattle.history_spec.specs.Instruction.{bits_at}
use Rattle.history_spec.specs.Store.{Store, Memory, pages, bytes_at, with_bytes_at, bytes_of}
use Rattle.record_replay_spec.specs.Observations as replay
use Rattle.record_replay_spec.specs.Observations.{Observation, Reads, Copies, Writes, bits_from_top, load_observations, store_observations, copy_observations, size_observations, plain_observations}
use Rattle.record_replay_spec.proofs.Operands.{AreOperands, bits_same}
use Rattle.record_replay_spec.specs.declared.hooks.Hook.TheVariants.{Load, Store as ToStore}
use Rattle.record_replay_spec.specs.Hooks.{HookCall, renumbered_call, on}
use Rattle.record_replay_spec.specs.ReportedCalls.{i64_value, reported, reported_before}
use Rattle.record_replay_spec.specs.Order.{HookedShape}
use Rattle.tape_laws.specs.ReportedObservations.{reported_observations, observations_of_calls}

module _ (shape : HookedShape) (n : ℕ) (globals : List GlobalType) where
  -- what calls observe, with the views of the instrumented module
  abbrev pub seen_by : List HookCall → List Observation
  seen_by calls = observations_of_calls shape (map (renumbered_call n) calls)

  abbrev pub as_reported : List Observation → List Observation
  as_reported seen = reported_observations n globals seen

  -- ---- hooks report the observations of the memory unchanged

  reads_as_reported : (address : ℕ) (o : Option (List ℕ))
      → replay.on o (λ bytes. Reads address bytes ∷ []) ++ []
      ≡ as_reported (replay.on o (λ bytes. Reads address bytes ∷ []))
  reads_as_reported address None = refl
  reads_as_reported address (Some bytes) = refl

  writes_as_reported : (address : ℕ) (bytes : List ℕ) (o : Option (List ℕ))
      → replay.on o (λ all. Writes address bytes ∷ []) ++ []
      ≡ as_reported (replay.on o (λ all. Writes address bytes ∷ []))
  writes_as_reported address bytes None = refl
  writes_as_reported address bytes (Some all) = refl

  copied_as_reported : (to source : ℕ) (bytes : List ℕ) (o : Option (List ℕ))
      → replay.on o (λ all. Copies source bytes ∷ Writes to bytes ∷ []) ++ []
      ≡ as_reported (replay.on o (λ all. Copies source bytes ∷ Writes to bytes ∷ []))
  copied_as_reported to source bytes None = refl
  copied_as_reported to source bytes (Some all) = refl

  copies_as_reported : (to source : ℕ) (memory : Memory) (o : Option (List ℕ))
      → replay.on o (λ bytes. replay.on (with_bytes_at memory.bytes to bytes) (λ all.
      Copies source bytes ∷ Writes to bytes ∷ [])) ++ []
      ≡ as_reported
      (replay.on o (λ bytes. replay.on (with_bytes_at memory.bytes to bytes) (λ all.
      Copies source bytes ∷ Writes to bytes ∷ [])))
  copies_as_reported to source memory None = refl
  copies_as_reported to source memory (Some bytes) =
      copied_as_reported to source bytes (with_bytes_at memory.bytes to bytes)

  load_as_reported : (address width : ℕ) (o : Option Memory)
      → replay.on o (load_observations address width) ++ []
      ≡ as_reported (replay.on o (load_observations address width))
  load_as_reported address width None = refl
  load_as_reported address width (Some memory) =
      ap (λ l. replay.Reaches (address + width) (pages memory) ∷ l)
      (reads_as_reported address (bytes_at memory.bytes address width))

  store_as_reported : (address count : ℕ) (bytes : List ℕ) (o : Option Memory)
      → replay.on o (store_observations address count bytes) ++ []
      ≡ as_reported (replay.on o (store_observations address count bytes))
  store_as_reported address count bytes None = refl
  store_as_reported address count bytes (Some memory) =
      ap (λ l. replay.Reaches (address + count) (pages memory) ∷ l)
      (writes_as_reported address bytes (with_bytes_at memory.bytes address bytes))

  copy_as_reported : (to source count : ℕ) (o : Option Memory)
      → replay.on o (copy_observations to source count) ++ []
      ≡ as_reported (replay.on o (copy_observations to source count))
  copy_as_reported to source count None = refl
  copy_as_reported to source count (Some memory) =
      ap (λ l. replay.Reaches (source + count) (pages memory) ∷ replay.Reaches (to + count) (pages memory) ∷ l)
      (copies_as_reported to source memory (bytes_at memory.bytes source count))

  -- ---- instructions, with the operands that they take

  pub load_calls : (store : Store) (values operands : List Val) (at : MemArg) → AreOperands (I32 ∷ []) values operands
      → seen_by (reported_before (instrs.Load at) operands store)
      ≡ as_reported (plain_observations store values (instrs.Load at))
  load_calls store values operands at are = go (load_of at.op)
    where
      go : (o : Option Access)
          → seen_by
          (on o (λ access.
          reported Load (i32_value (bits_at operands 0) ∷ i32_value at.offset ∷ i32_value access.width ∷ []) store))
          ≡ as_reported
          (replay.on o (λ access.
          replay.on store.memory (load_observations (bits_from_top values 0 + at.offset) access.width)))
      go None = refl
      go (Some access) =
          load_as_reported (bits_at operands 0 + at.offset) access.width store.memory
          ∙ ap (λ base. as_reported (replay.on store.memory (load_observations (base + at.offset) access.width)))
          (bits_same are 0 0 refl)

  pub store_calls : (store : Store) (values operands : List Val) (ty : ValType) (at : MemArg)
      → AreOperands (I32 ∷ ty ∷ []) values operands
      → seen_by (reported_before (instrs.Store at) operands store)
      ≡ as_reported (plain_observations store values (instrs.Store at))
  store_calls store values operands ty at are = go (store_of at.op)
    where
      go : (o : Option Access)
          → seen_by
          (on o (λ access.
          reported ToStore
          (i32_value (bits_at operands 0) ∷ i32_value at.offset ∷ i32_value access.width
          ∷ i64_value (bits_at operands 1) ∷ [])
          store))
          ≡ as_reported
          (replay.on o (λ access.
          replay.on store.memory
          (store_observations (bits_from_top values 1 + at.offset) access.width
          (bytes_of access.width (bits_from_top values 0)))))
      go None = refl
      go (Some access) =
          store_as_reported (bits_at operands 0 + at.offset) access.width (bytes_of access.width (bits_at operands 1))
          store.memory
          ∙ (λ i. as_reported
          (replay.on store.memory
          (store_observations (bits_same are 0 1 refl i + at.offset) access.width
          (bytes_of access.width (bits_same are 1 0 refl i)))))

  pub copy_calls : (store : Store) (values operands : List Val) → AreOperands (I32 ∷ I32 ∷ I32 ∷ []) values operands
      → seen_by (reported_before instrs.MemoryCopy operands store)
      ≡ as_reported (plain_observations store values instrs.MemoryCopy)
  copy_calls store values operands are =
      copy_as_reported (bits_at operands 0) (bits_at operands 1) (bits_at operands 2) store.memory
      ∙ (λ i. as_reported
      (replay.on store.memory
      (copy_observations (bits_same are 0 2 refl i) (bits_same are 1 1 refl i) (bits_same are 2 0 refl i))))

  pub fill_calls : (store : Store) (values operands : List Val) → AreOperands (I32 ∷ I32 ∷ I32 ∷ []) values operands
      → seen_by (reported_before instrs.MemoryFill operands store)
      ≡ as_reported (plain_observations store values instrs.MemoryFill)
  fill_calls store values operands are =
      store_as_reported (bits_at operands 0) (bits_at operands 2)
      (replicate (bits_at operands 2) (bits_at operands 1 % 256)) store.memory
      ∙ (λ i. as_reported
      (replay.on store.memory
      (store_observations (bits_same are 0 2 refl i) (bits_same are 2 0 refl i)
      (replicate (bits_same are 2 0 refl i) (bits_same are 1 1 refl i % 256)))))

  pub size_calls : (store : Store) (values : List Val)
      → seen_by (reported_before instrs.MemorySize [] store)
      ≡ as_reported (plain_observations store values instrs.MemorySize)
  size_calls store values = go store.memory
    where
      go : (o : Option Memory) → replay.on o size_observations ++ [] ≡ as_reported (replay.on o size_observations)
      go None = refl
      go (Some memory) = refl
