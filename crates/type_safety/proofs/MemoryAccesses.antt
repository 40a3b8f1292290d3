-- The instructions on memory in a well-typed activation have rules, and their results are well typed.
use Rattle.std.proofs.Common.{◌≡◌, ℕ, ◌+◌, ◌%◌, ◌^◌, ◌<◌, List, [], ◌∷◌, Option, Some, None, option_and_then, refl, arith}
use Rattle.std.specs.Prelude.{replicate}
use Rattle.std.proofs.Math.Nat.{mod-lt}
use Rattle.std.proofs.lemmas.List.Elements.{All-replicate}
use Rattle.wasm_syntax.specs.declared.values.ValType.{ValType}
use Rattle.wasm_syntax.specs.declared.values.ValType.TheVariants.{I32}
use Rattle.wasm_syntax.specs.declared.values.Val.{Val}
use Rattle.wasm_syntax.specs.declared.instructions.MemArg.{MemArg}
use Rattle.wasm_syntax.specs.declared.instructions.Instr.{Instr}
use Rattle.wasm_syntax.specs.declared.instructions.Instr.TheVariants.{Load, Store as StoreTo, MemorySize, MemoryGrow, MemoryCopy, MemoryFill}
use Rattle.wasm_syntax.specs.Index.{all_memories}
use Rattle.wasm_syntax.specs.Opcodes.{Access, load_of, store_of}
use Rattle.wasm_syntax.specs.Typing.{Moves, has_memory, load_type, store_type, is_aligned, Leads, instr_type}
use Rattle.history_spec.specs.Store.{Store, Memory, pages, grown_memory, bytes_at, with_bytes_at, with_bytes_copied, with_bytes_filled, number_of, bytes_of, with_memory}
use Rattle.history_spec.specs.Code.{i32_value}
use Rattle.history_spec.specs.Numeric.{loaded_number}
use Rattle.history_spec.specs.Configuration.{Place, Frame}
use Rattle.history_spec.specs.Instruction.{on, bits_at, gives, load_result, store_result, grow_result, takes}
use Rattle.type_safety.specs.Values.{count_of, AreValues}
use Rattle.type_safety.specs.Stores.{func_count, IsStore}
use Rattle.type_safety.specs.Frames.{Scope, context, IsCode, base_of, IsAround}
use Rattle.type_safety.proofs.Memories.{MemoryThere, memory_there, bytes_at_fits, load_fits, load_is_narrow, bytes_of_fit, store_written, memory_grown}
use Rattle.type_safety.proofs.InstrTypes.{then_leads, cond_leads, ready}
use Rattle.type_safety.specs.Results.{HasRule}
use Rattle.type_safety.proofs.Fine.{IsFine, on_fine, takes_fine, gives_fine, changes_fine}

module _ (s : Scope) (store : Store) (is_store : IsStore s.m store) (frame : Frame) (labels : List (List ValType))
    (given : List ValType) (around : IsAround s labels given frame) (next : Place) where
  abbrev n : ℕ
  n = func_count s.m

  abbrev IsNext : List ValType → Type 0
  IsNext types = IsCode s labels next (base_of frame.labels) types given

  abbrev Fine : Instr → Type 0
  Fine = IsFine s store frame labels given next

  -- ---- results

  loaded_fine : (memory : Memory) (access : Access) (below : List ValType) (operands rest : List Val)
      (bytes : Option (List ℕ))
      → ((read : List ℕ) → bytes ≡ Some read → loaded_number access (number_of read) < count_of n access.ty)
      → AreValues n below rest → IsNext (access.ty ∷ below)
      → HasRule s (load_result store frame next memory access operands rest bytes)
  loaded_fine memory access below operands rest None fits q code = tt
  loaded_fine memory access below operands rest (Some read) fits q code =
      gives_fine s store frame next labels given (access.ty ∷ []) below operands rest
      (record { ty = access.ty; bits = loaded_number access (number_of read) } ∷ []) None is_store around
      (record { typed = refl; in_range = fits read refl }, tt) q code

  stored_fine : (memory : Memory) (below : List ValType) (operands rest : List Val) (bytes : Option (List ℕ))
      → ((new : List ℕ) → bytes ≡ Some new → IsStore s.m (with_memory store (record memory { bytes = new })))
      → AreValues n below rest → IsNext below
      → HasRule s (store_result store frame next memory operands rest bytes)
  stored_fine memory below operands rest bytes changed q code =
      changes_fine s (λ (new : List ℕ). with_memory store (record memory { bytes = new })) frame next labels given below
      operands rest (store_result store frame next memory operands rest) bytes tt (λ new. refl) changed around q code

  grown_fine : (memory : Memory) (below : List ValType) (operands rest : List Val) (larger : Option Memory)
      → ((new : Memory) → larger ≡ Some new → IsStore s.m (with_memory store new)) → pages memory < 2 ^ 32
      → AreValues n below rest → IsNext (I32 ∷ below)
      → HasRule s (grow_result store frame next memory operands rest larger)
  grown_fine memory below operands rest None changed few q code =
      gives_fine s store frame next labels given (I32 ∷ []) below operands rest (i32_value 0xFFFFFFFF ∷ [])
      (Some (pages memory)) is_store around (record { typed = refl; in_range = omega arith }, tt) q code
  grown_fine memory below operands rest (Some new) changed few q code =
      gives_fine s (with_memory store new) frame next labels given (I32 ∷ []) below operands rest
      (i32_value (pages memory) ∷ []) (Some (pages memory)) (changed new refl) around
      (record { typed = refl; in_range = few }, tt) q code

  copied_store : (there : MemoryThere (all_memories s.m) store.memory) (to source count : ℕ) (new : List ℕ)
      → with_bytes_copied there.memory.bytes to source count ≡ Some new
      → IsStore s.m (with_memory store (record there.memory { bytes = new }))
  copied_store there to source count new is = by (bytes_at there.memory.bytes source count) refl is
    where
      by : (o : Option (List ℕ)) → bytes_at there.memory.bytes source count ≡ o
          → option_and_then (with_bytes_at there.memory.bytes to) o ≡ Some new
          → IsStore s.m (with_memory store (record there.memory { bytes = new }))
      by None e copied = cc
      by (Some read) e copied =
          store_written s.m store is_store there to read new
          (bytes_at_fits there.memory.bytes source count read there.good.bytes e).0
          copied

  filled_store : (there : MemoryThere (all_memories s.m) store.memory) (to number count : ℕ) (new : List ℕ)
      → with_bytes_filled there.memory.bytes to (number % 256) count ≡ Some new
      → IsStore s.m (with_memory store (record there.memory { bytes = new }))
  filled_store there to number count new is =
      store_written s.m store is_store there to (replicate count (number % 256)) new
      (All-replicate (λ byte. byte < 256) count (number % 256) (mod-lt number (omega arith))) is

  -- ---- the instructions

  pub load_fine : (at : MemArg) → Fine (Load at)
  load_fine at before middle p leads supported code =
      let c = cond_leads (context s labels) before middle (has_memory (context s labels))
      (option_and_then (load_type at) (load_of at.op)) leads in
      let e = then_leads (context s labels) before middle (load_type at) (load_of at.op) c.1 in
      let c' = cond_leads (context s labels) before middle (is_aligned at e.0) (Some (Moves (I32 ∷ []) (e.0.ty ∷ [])))
      e.2 in
      let r = ready s labels given (I32 ∷ []) (e.0.ty ∷ []) before middle frame.values next (base_of frame.labels)
      c'.1 p code in
      let there = memory_there (all_memories s.m) store.memory c.0 is_store.memory in
      let go = λ (access : Access) (memory : Memory) (operands rest : List Val).
      load_result store frame next memory access operands rest
      (bytes_at memory.bytes (bits_at operands 0 + at.offset) access.width) in
      on_fine s (load_of at.op) e.0 (λ access. on store.memory (λ memory. takes frame (I32 ∷ []) (go access memory)))
      e.1
      (on_fine s store.memory there.memory (λ memory. takes frame (I32 ∷ []) (go e.0 memory)) there.is
      (takes_fine s frame (I32 ∷ []) r.below (go e.0 there.memory) r.had
      (λ operands rest of_operands of_rest.
      loaded_fine there.memory e.0 r.below operands rest
      (bytes_at there.memory.bytes (bits_at operands 0 + at.offset) e.0.width)
      (λ read is. let f =
      bytes_at_fits there.memory.bytes (bits_at operands 0 + at.offset) e.0.width read there.good.bytes is in
      load_fits n e.0 read (load_is_narrow at.op e.0 e.1) f.0 f.1) of_rest r.code)))

  pub store_fine : (at : MemArg) → Fine (StoreTo at)
  store_fine at before middle p leads supported code =
      let c = cond_leads (context s labels) before middle (has_memory (context s labels))
      (option_and_then (store_type at) (store_of at.op)) leads in
      let e = then_leads (context s labels) before middle (store_type at) (store_of at.op) c.1 in
      let c' = cond_leads (context s labels) before middle (is_aligned at e.0) (Some (Moves (e.0.ty ∷ I32 ∷ []) []))
      e.2 in
      let r = ready s labels given (e.0.ty ∷ I32 ∷ []) [] before middle frame.values next (base_of frame.labels) c'.1
      p code in
      let there = memory_there (all_memories s.m) store.memory c.0 is_store.memory in
      let go = λ (access : Access) (memory : Memory) (operands rest : List Val).
      store_result store frame next memory operands rest
      (with_bytes_at memory.bytes (bits_at operands 0 + at.offset)
      (bytes_of access.width (bits_at operands 1))) in
      on_fine s (store_of at.op) e.0
      (λ access. on store.memory (λ memory. takes frame (I32 ∷ access.ty ∷ []) (go access memory))) e.1
      (on_fine s store.memory there.memory (λ memory. takes frame (I32 ∷ e.0.ty ∷ []) (go e.0 memory)) there.is
      (takes_fine s frame (I32 ∷ e.0.ty ∷ []) r.below (go e.0 there.memory) r.had
      (λ operands rest of_operands of_rest.
      stored_fine there.memory r.below operands rest
      (with_bytes_at there.memory.bytes (bits_at operands 0 + at.offset)
      (bytes_of e.0.width (bits_at operands 1)))
      (λ new is. store_written s.m store is_store there (bits_at operands 0 + at.offset)
      (bytes_of e.0.width (bits_at operands 1)) new
      (bytes_of_fit e.0.width (bits_at operands 1)) is) of_rest r.code)))

  pub size_fine : Fine MemorySize
  size_fine before middle p leads supported code =
      let c = cond_leads (context s labels) before middle (has_memory (context s labels)) (Some (Moves [] (I32 ∷ [])))
      leads in
      let r = ready s labels given [] (I32 ∷ []) before middle frame.values next (base_of frame.labels) c.1 p code in
      let there = memory_there (all_memories s.m) store.memory c.0 is_store.memory in
      let few : pages there.memory < 2 ^ 32 = omega (arith, there.good.most) in
      on_fine s store.memory there.memory
      (λ memory. gives store frame next [] frame.values (i32_value (pages memory) ∷ [])) there.is
      (gives_fine s store frame next labels given (I32 ∷ []) r.below [] frame.values
      (i32_value (pages there.memory) ∷ []) None is_store around (record { typed = refl; in_range = few }, tt) r.had
      r.code)

  pub grow_fine : Fine MemoryGrow
  grow_fine before middle p leads supported code =
      let c = cond_leads (context s labels) before middle (has_memory (context s labels))
      (Some (Moves (I32 ∷ []) (I32 ∷ []))) leads in
      let r = ready s labels given (I32 ∷ []) (I32 ∷ []) before middle frame.values next (base_of frame.labels) c.1 p
      code in
      let there = memory_there (all_memories s.m) store.memory c.0 is_store.memory in
      let few : pages there.memory < 2 ^ 32 = omega (arith, there.good.most) in
      let go = λ (memory : Memory) (operands rest : List Val).
      grow_result store frame next memory operands rest (grown_memory memory (bits_at operands 0)) in
      on_fine s store.memory there.memory (λ memory. takes frame (I32 ∷ []) (go memory)) there.is
      (takes_fine s frame (I32 ∷ []) r.below (go there.memory) r.had
      (λ operands rest of_operands of_rest.
      grown_fine there.memory r.below operands rest (grown_memory there.memory (bits_at operands 0))
      (λ new is. record {
        memory = there.change new (λ l good. memory_grown l there.memory (bits_at operands 0) new good is);
        table = is_store.table;
        globals = is_store.globals;
      }) few of_rest r.code))

  -- an instruction that takes three numbers, by the bytes that it leaves
  range_fine : (bytes : Memory → List Val → Option (List ℕ))
      → ((there : MemoryThere (all_memories s.m) store.memory) (operands : List Val) (new : List ℕ)
      → bytes there.memory operands ≡ Some new
      → IsStore s.m (with_memory store (record there.memory { bytes = new })))
      → (before middle : List ValType) → AreValues n before frame.values
      → Leads (context s labels) (instr_type (context s labels) MemoryCopy) before middle → IsNext middle
      → HasRule s (on store.memory
      (λ memory. takes frame (I32 ∷ I32 ∷ I32 ∷ [])
      (λ operands rest. store_result store frame next memory operands rest (bytes memory operands))))
  range_fine bytes changed before middle p leads code =
      let c = cond_leads (context s labels) before middle (has_memory (context s labels))
      (Some (Moves (I32 ∷ I32 ∷ I32 ∷ []) [])) leads in
      let r = ready s labels given (I32 ∷ I32 ∷ I32 ∷ []) [] before middle frame.values next (base_of frame.labels) c.1
      p code in
      let there = memory_there (all_memories s.m) store.memory c.0 is_store.memory in
      let go = λ (memory : Memory) (operands rest : List Val).
      store_result store frame next memory operands rest (bytes memory operands) in
      on_fine s store.memory there.memory (λ memory. takes frame (I32 ∷ I32 ∷ I32 ∷ []) (go memory)) there.is
      (takes_fine s frame (I32 ∷ I32 ∷ I32 ∷ []) r.below (go there.memory) r.had
      (λ operands rest of_operands of_rest.
      stored_fine there.memory r.below operands rest (bytes there.memory operands) (changed there operands) of_rest
      r.code))

  pub copy_fine : Fine MemoryCopy
  copy_fine before middle p leads supported code =
      range_fine
      (λ memory operands.
      with_bytes_copied memory.bytes (bits_at operands 0) (bits_at operands 1) (bits_at operands 2))
      (λ there operands. copied_store there (bits_at operands 0) (bits_at operands 1) (bits_at operands 2)) before
      middle p leads code

  pub fill_fine : Fine MemoryFill
  fill_fine before middle p leads supported code =
      range_fine
      (λ memory operands.
      with_bytes_filled memory.bytes (bits_at operands 0) (bits_at operands 1 % 256) (bits_at operands 2))
      (λ there operands. filled_store there (bits_at operands 0) (bits_at operands 1) (bits_at operands 2)) before
      middle p leads code
