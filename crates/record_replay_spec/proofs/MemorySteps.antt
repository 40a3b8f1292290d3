-- Instructions that access, resize, copy or fill the memory.
use Rattle.std.proofs.Common.{◌≡◌, ℕ, ◌+◌, ◌*◌, ◌%◌, List, [], ◌∷◌, length, Option, Some, None, Bool, true, false, cond, nat_le, refl, sym, ap, ◌∙◌, subst}
use Rattle.std.specs.Prelude.{IfSome, option_and_then, replicate, unwrap_or}
use Rattle.std.proofs.lemmas.List.{length-replicate}
use Rattle.wasm_syntax.specs.declared.limits.TheConstants.{PAGE_SIZE}
use Rattle.wasm_syntax.specs.declared.values.Val.{Val}
use Rattle.wasm_syntax.specs.declared.values.ValType.TheVariants.{I32}
use Rattle.wasm_syntax.specs.declared.instructions.MemArg.{MemArg}
use Rattle.wasm_syntax.specs.declared.instructions.Instr.{Instr}
use Rattle.wasm_syntax.specs.declared.instructions.Instr.TheVariants.{Load, Store as StoreTo, MemorySize, MemoryGrow, MemoryCopy, MemoryFill}
use Rattle.wasm_syntax.specs.Opcodes.{Access, load_of, store_of}
use Rattle.history_spec.specs.declared.entries.TrapKind.TheVariants.{Memory as ByMemory}
use Rattle.history_spec.specs.Store.{Store, Memory, pages, grown_memory_if, grown_memory, bytes_at, with_bytes_at, with_items_at, with_bytes_copied, bytes_of}
use Rattle.history_spec.specs.Code.{Code}
use Rattle.history_spec.specs.Configuration.{Place, Frame}
use Rattle.history_spec.specs.Instruction.{Execution, Traps, memory_trap, load_result, store_result, grow_result, execute_plain}
use Rattle.history_spec.proofs.ByteNumbers.{length-bytes_of}
use Rattle.record_replay_spec.specs.Observations.{Observation, Reads, Copies, Writes, Reaches, Resizes, on as observed_on, bits_from_top, plain_observations, load_observations, store_observations, copy_observations, grow_observations}
use Rattle.record_replay_spec.specs.StoreAnswers.{BothOrNeither, AllowSamePages, allows_pages, HasWholePages, IsReachedAlike, Answers, AnswersAll}
use Rattle.record_replay_spec.specs.Changes.{IsChangedAs}
use Rattle.record_replay_spec.proofs.Operands.{bits_same}
use Rattle.record_replay_spec.proofs.AlikeStores.{Alike, observed_alike, parts_alike, takes_alike, goes_alike, same_activation}
use Rattle.record_replay_spec.proofs.Memories.{range, range_length, same_range, written_memory, same_size, grown_size}

module _ (code : Code) (store other : Store) (frame : Frame) (next : Place) where
  abbrev Same : List Observation → Execution → Execution → Type 0
  Same seen first second = Alike code store other frame seen first second

  -- the executions of loads, stores and growths, in a store with its memory
  abbrev read : Store → Memory → Access → (operands rest : List Val) → Option (List ℕ) → Execution
  read s memory access operands rest found = load_result s frame next memory access operands rest found

  abbrev wrote : Store → Memory → (operands rest : List Val) → Option (List ℕ) → Execution
  wrote s memory operands rest bytes = store_result s frame next memory operands rest bytes

  abbrev grew : Store → Memory → (operands rest : List Val) → Option Memory → Execution
  grew s memory operands rest larger = grow_result s frame next memory operands rest larger

  -- ---- two memories

  module _ (memory memory' : Memory) (whole : HasWholePages store) (is : store.memory ≡ Some memory)
      (is' : other.memory ≡ Some memory') where
    -- an access up to an end is within both memories or within neither
    reached : (end : ℕ) → Answers other (Reaches end (pages memory))
        → IsReachedAlike (nat_le end (length memory'.bytes)) (nat_le end (length memory.bytes))
        (pages memory') (pages memory)
    reached end answer =
        let size : length memory.bytes ≡ pages memory * PAGE_SIZE =
        subst (λ o. IfSome o (λ m. length m.bytes ≡ pages m * PAGE_SIZE)) is whole in
        let here : IsReachedAlike (nat_le end (length memory'.bytes)) (nat_le end (pages memory * PAGE_SIZE))
        (pages memory') (pages memory) =
        subst
        (λ o. IfSome o (λ m. IsReachedAlike (nat_le end (length m.bytes)) (nat_le end (pages memory * PAGE_SIZE))
        (pages m) (pages memory)))
        is' answer in
        subst (λ n. IsReachedAlike (nat_le end (length memory'.bytes)) (nat_le end n) (pages memory') (pages memory))
        (sym size) here

    trapped : (seen : List Observation) (operands : List Val) → pages memory' ≡ pages memory
        → Same seen (memory_trap memory operands) (memory_trap memory' operands)
    trapped seen operands e = ap (λ n. Traps ByMemory operands (Some n)) e

    -- ---- loads

    load_at : (access : Access) (operands rest : List Val) (address : ℕ)
        → AnswersAll other (load_observations address access.width memory)
        → Same (load_observations address access.width memory)
        (read store memory access operands rest (bytes_at memory.bytes address access.width))
        (read other memory' access operands rest (bytes_at memory'.bytes address access.width))
    load_at access operands rest address answers =
        let reach = reached (address + access.width) answers.0 in
        go (nat_le (address + access.width) (length memory.bytes)) refl
        (nat_le (address + access.width) (length memory'.bytes)) refl reach.alike reach.same answers.1
      where
        here : Memory → Bool → Option (List ℕ)
        here m b = cond b (Some (range m.bytes address access.width)) None

        seen : Bool → List Observation
        seen b =
            Reaches (address + access.width) (pages memory)
            ∷ observed_on (here memory b) (λ bytes. Reads address bytes ∷ [])

        go : (b : Bool) → nat_le (address + access.width) (length memory.bytes) ≡ b
            → (b' : Bool) → nat_le (address + access.width) (length memory'.bytes) ≡ b'
            → b' ≡ b → (b ≡ false → pages memory' ≡ pages memory)
            → AnswersAll other (observed_on (here memory b) (λ bytes. Reads address bytes ∷ []))
            → Same (seen b) (read store memory access operands rest (here memory b))
            (read other memory' access operands rest (here memory' b'))
        go true e true e' alike size answered =
            let width = access.width in
            let bytes = range memory.bytes address width in
            let long = range_length memory.bytes address width e in
            rw (same_range other memory' is' address width bytes long e' answered.0)
            (goes_alike code store other frame (seen true) operands _ None _ store other
            (record { possible = (tt, (tt, tt)); changed = refl })
            (record { possible = (tt, (tt, tt)); changed = refl })
            (same_activation frame next _))
        go false e false e' alike size answered = trapped (seen false) operands (size refl)
        go true e false e' alike size answered = cc
        go false e true e' alike size answered = cc

    -- ---- writes

    -- bytes are written in both memories, or both accesses trap
    written_alike : (seen : Bool → List Observation) (operands rest : List Val) (address : ℕ) (bytes bytes' : List ℕ)
        → ((s after : Store) → IsChangedAs s (Writes address bytes ∷ []) after → IsChangedAs s (seen true) after)
        → (b : Bool) → nat_le (address + length bytes) (length memory.bytes) ≡ b
        → (b' : Bool) → nat_le (address + length bytes') (length memory'.bytes) ≡ b'
        → b' ≡ b → (b ≡ false → pages memory' ≡ pages memory) → (b ≡ true → bytes' ≡ bytes)
        → Same (seen b)
        (wrote store memory operands rest (cond b (Some (with_items_at memory.bytes address bytes)) None))
        (wrote other memory' operands rest (cond b' (Some (with_items_at memory'.bytes address bytes')) None))
    written_alike seen operands rest address bytes bytes' lift true e true e' alike size same =
        let within : nat_le (address + length bytes) (length memory'.bytes) ≡ true =
        subst (λ l. nat_le (address + length l) (length memory'.bytes) ≡ true) (same refl) e' in
        rw (same refl)
        (goes_alike code store other frame (seen true) operands [] None _ _ _
        (lift store _ (written_memory store memory is address bytes e))
        (lift other _ (written_memory other memory' is' address bytes within))
        (same_activation frame next _))
    written_alike seen operands rest address bytes bytes' lift false e false e' alike size same =
        trapped (seen false) operands (size refl)
    written_alike seen operands rest address bytes bytes' lift true e false e' alike size same = cc
    written_alike seen operands rest address bytes bytes' lift false e true e' alike size same = cc

    -- a store or a fill
    store_at : (operands rest : List Val) (address count : ℕ) (bytes : List ℕ) → length bytes ≡ count
        → AnswersAll other (store_observations address count bytes memory)
        → Same (store_observations address count bytes memory)
        (wrote store memory operands rest (with_bytes_at memory.bytes address bytes))
        (wrote other memory' operands rest (with_bytes_at memory'.bytes address bytes))
    store_at operands rest address count bytes long answers =
        let end : address + count ≡ address + length bytes = ap (λ n. address + n) (sym long) in
        let answer = subst (λ n. Answers other (Reaches n (pages memory))) end answers.0 in
        let reach = reached (address + length bytes) answer in
        written_alike
        (λ b. Reaches (address + count) (pages memory)
        ∷ observed_on (cond b (Some (with_items_at memory.bytes address bytes)) None)
        (λ all. Writes address bytes ∷ []))
        operands rest address bytes bytes
        (λ s after c. record { possible = (tt, c.possible); changed = c.changed })
        (nat_le (address + length bytes) (length memory.bytes)) refl
        (nat_le (address + length bytes) (length memory'.bytes)) refl reach.alike reach.same (λ e. refl)

    -- a copy: its source is read in both, and its target is written in both, or both accesses trap
    copy_at : (operands rest : List Val) (to source count : ℕ)
        → AnswersAll other (copy_observations to source count memory)
        → Same (copy_observations to source count memory)
        (wrote store memory operands rest (with_bytes_copied memory.bytes to source count))
        (wrote other memory' operands rest (with_bytes_copied memory'.bytes to source count))
    copy_at operands rest to source count answers =
        let reach = reached (source + count) answers.0 in
        go (nat_le (source + count) (length memory.bytes)) refl (nat_le (source + count) (length memory'.bytes)) refl
        reach.alike reach.same answers.1.1
      where
        here : Memory → Bool → Option (List ℕ)
        here m b = cond b (Some (range m.bytes source count)) None

        -- the observations of the target, by whether it is within the memory, if the source is
        target : List ℕ → Bool → List Observation
        target bytes b =
            observed_on (cond b (Some (with_items_at memory.bytes to bytes)) None)
            (λ all. Copies source bytes ∷ Writes to bytes ∷ [])

        ends : List Observation → List Observation
        ends seen = Reaches (source + count) (pages memory) ∷ Reaches (to + count) (pages memory) ∷ seen

        inside : List ℕ → Bool
        inside bytes = nat_le (to + length bytes) (length memory.bytes)

        go : (b : Bool) → nat_le (source + count) (length memory.bytes) ≡ b
            → (b' : Bool) → nat_le (source + count) (length memory'.bytes) ≡ b'
            → b' ≡ b → (b ≡ false → pages memory' ≡ pages memory)
            → AnswersAll other (observed_on (here memory b) (λ bytes. target bytes (inside bytes)))
            → Same (ends (observed_on (here memory b) (λ bytes. target bytes (inside bytes))))
            (wrote store memory operands rest (option_and_then (with_bytes_at memory.bytes to) (here memory b)))
            (wrote other memory' operands rest (option_and_then (with_bytes_at memory'.bytes to) (here memory' b')))
        go true e true e' alike size answered =
            let bytes = range memory.bytes source count in
            let bytes' = range memory'.bytes source count in
            let long : length bytes ≡ count = range_length memory.bytes source count e in
            let long' : length bytes' ≡ count = range_length memory'.bytes source count e' in
            let reach = reached (to + count) answers.1.0 in
            written_alike (λ b. ends (target bytes b)) operands rest to bytes bytes'
            (λ s after c. record { possible = (tt, (tt, (tt, c.possible))); changed = c.changed })
            (inside bytes) refl (nat_le (to + length bytes') (length memory'.bytes)) refl
            (ap (λ n. nat_le (to + n) (length memory'.bytes)) long' ∙ reach.alike
            ∙ sym (ap (λ n. nat_le (to + n) (length memory.bytes)) long))
            (λ out. reach.same (ap (λ n. nat_le (to + n) (length memory.bytes)) (sym long) ∙ out))
            (λ within.
            same_range other memory' is' source count bytes long e'
            (subst (λ b. AnswersAll other (target bytes b)) within answered).0)
        go false e false e' alike size answered = trapped (ends []) operands (size refl)
        go true e false e' alike size answered = cc
        go false e true e' alike size answered = cc

    -- ---- sizes

    -- the size is found; a memory may grow if and only if the other may
    grow_at : AllowSamePages memory memory' → (operands rest : List Val) (by : ℕ) → pages memory' ≡ pages memory
        → Same (grow_observations by memory) (grew store memory operands rest (grown_memory memory by))
        (grew other memory' operands rest (grown_memory memory' by))
    grow_at grow operands rest by size =
        go (allows_pages memory (pages memory + by)) (allows_pages memory' (pages memory' + by))
        (ap (λ n. allows_pages memory' (n + by)) size ∙ grow (pages memory + by))
      where
        seen : Bool → List Observation
        seen b = Resizes (pages memory) (pages (unwrap_or (grown_memory_if b memory by) memory)) ∷ []

        go : (b b' : Bool) → b' ≡ b
            → Same (seen b) (grew store memory operands rest (grown_memory_if b memory by))
            (grew other memory' operands rest (grown_memory_if b' memory' by))
        go true true e =
            rw size
            (goes_alike code store other frame (seen true) operands _ _ _ _ _ (grown_size store memory is memory by)
            (grown_size other memory' is' memory by) (same_activation frame next _))
        go false false e =
            rw size
            (goes_alike code store other frame (seen false) operands _ _ _ _ _ (same_size (pages memory) store)
            (same_size (pages memory) other) (same_activation frame next _))
        go true false e = cc
        go false true e = cc

    found_size : (left : ℕ) → AnswersAll other (Resizes (pages memory) left ∷ []) → pages memory' ≡ pages memory
    found_size left answers = subst (λ o. IfSome o (λ m. pages m ≡ pages memory)) is' answers.0

  -- ---- instructions

  module _ (whole : HasWholePages store) (kind : BothOrNeither AllowSamePages store.memory other.memory) where
    -- an instruction does the same if the other store answers what it observes
    abbrev IsAlike : Instr → Type 0
    IsAlike i =
        AnswersAll other (plain_observations store frame.values i)
        → Same (plain_observations store frame.values i) (execute_plain code store frame next i)
        (execute_plain code other frame next i)

    pub load_alike : (at : MemArg) → IsAlike (Load at)
    load_alike at =
        observed_alike code store other frame (load_of at.op) _ _ _ (λ access has.
        parts_alike code store other frame AllowSamePages store.memory other.memory _ _ _ kind
        (λ memory memory' is is' grow answers.
        takes_alike code store other frame _ (I32 ∷ []) _ _ (λ operands rest are.
        rw (bits_same are 0 0 refl)
        (load_at memory memory' whole is is' access operands rest (bits_from_top frame.values 0 + at.offset) answers))))

    pub store_alike : (at : MemArg) → IsAlike (StoreTo at)
    store_alike at =
        observed_alike code store other frame (store_of at.op) _ _ _ (λ access has.
        parts_alike code store other frame AllowSamePages store.memory other.memory _ _ _ kind
        (λ memory memory' is is' grow answers.
        takes_alike code store other frame _ (I32 ∷ access.ty ∷ []) _ _ (λ operands rest are.
        let value = bits_from_top frame.values 0 in
        rw (bits_same are 0 1 refl, bits_same are 1 0 refl)
        (store_at memory memory' whole is is' operands rest (bits_from_top frame.values 1 + at.offset) access.width
        (bytes_of access.width value) (length-bytes_of access.width value) answers))))

    pub fill_alike : IsAlike MemoryFill
    fill_alike =
        parts_alike code store other frame AllowSamePages store.memory other.memory _ _ _ kind
        (λ memory memory' is is' grow answers.
        takes_alike code store other frame _ (I32 ∷ I32 ∷ I32 ∷ []) _ _ (λ operands rest are.
        let count = bits_from_top frame.values 0 in
        let byte = bits_from_top frame.values 1 % 256 in
        rw (bits_same are 0 2 refl, bits_same are 1 1 refl, bits_same are 2 0 refl)
        (store_at memory memory' whole is is' operands rest (bits_from_top frame.values 2) count (replicate count byte)
        (length-replicate count byte) answers)))

    pub copy_alike : IsAlike MemoryCopy
    copy_alike =
        parts_alike code store other frame AllowSamePages store.memory other.memory _ _ _ kind
        (λ memory memory' is is' grow answers.
        takes_alike code store other frame _ (I32 ∷ I32 ∷ I32 ∷ []) _ _ (λ operands rest are.
        rw (bits_same are 0 2 refl, bits_same are 1 1 refl, bits_same are 2 0 refl)
        (copy_at memory memory' whole is is' operands rest (bits_from_top frame.values 2) (bits_from_top frame.values 1)
        (bits_from_top frame.values 0) answers)))

    pub size_alike : IsAlike MemorySize
    size_alike =
        parts_alike code store other frame AllowSamePages store.memory other.memory _ _ _ kind
        (λ memory memory' is is' grow answers.
        rw (found_size memory memory' whole is is' (pages memory) answers)
        (goes_alike code store other frame (Resizes (pages memory) (pages memory) ∷ []) [] _ None _ _ _
        (same_size (pages memory) store) (same_size (pages memory) other) (same_activation frame next _)))

    pub grow_alike : IsAlike MemoryGrow
    grow_alike =
        parts_alike code store other frame AllowSamePages store.memory other.memory _ _ _ kind
        (λ memory memory' is is' grow answers.
        takes_alike code store other frame _ (I32 ∷ []) _ _ (λ operands rest are.
        let by = bits_from_top frame.values 0 in
        rw (bits_same are 0 0 refl)
        (grow_at memory memory' whole is is' grow operands rest by
        (found_size memory memory' whole is is' (pages (unwrap_or (grown_memory memory by) memory)) answers))))
