-- What instructions on the memory show of it.
use Rattle.std.proofs.Common.{◌≡◌, ℕ, ◌+◌, ◌*◌, ◌%◌, List, [], ◌∷◌, length, drop, ◌<◌, Option, Some, None, Bool, true, false, cond, nat_le, All, refl, sym, ap, ◌∙◌, subst}
use Rattle.std.specs.Prelude.{IfSome, option_and_then, replicate, unwrap_or}
use Rattle.std.proofs.lemmas.List.{length-replicate}
use Rattle.std.proofs.lemmas.List.Elements.{All-take, All-drop}
use Rattle.std.proofs.lemmas.Bool.{both_ways}
use Rattle.base.proofs.Options.{or_first}
use Rattle.wasm_syntax.specs.declared.limits.TheConstants.{PAGE_SIZE}
use Rattle.wasm_syntax.specs.declared.values.Val.{Val}
use Rattle.wasm_syntax.specs.declared.values.ValType.{ValType}
use Rattle.wasm_syntax.specs.declared.values.ValType.TheVariants.{I32}
use Rattle.wasm_syntax.specs.declared.instructions.MemArg.{MemArg}
use Rattle.wasm_syntax.specs.declared.instructions.Instr.{Instr}
use Rattle.wasm_syntax.specs.declared.instructions.Instr.TheVariants.{Load, Store as StoreTo, MemorySize, MemoryGrow, MemoryCopy, MemoryFill}
use Rattle.wasm_syntax.specs.Opcodes.{Access, load_of, store_of}
use Rattle.history_spec.specs.declared.entries.Entry.TheVariants.{Step}
use Rattle.history_spec.specs.Numeric.{loaded_number}
use Rattle.history_spec.specs.Store.{Store, Memory, pages, grown_memory, number_of, bytes_at, with_bytes_at, with_items_at, with_bytes_copied, bytes_of}
use Rattle.history_spec.specs.Code.{Code}
use Rattle.history_spec.specs.Configuration.{Place, Frame}
use Rattle.history_spec.specs.Instruction.{load_result, store_result, grow_result, execute_plain}
use Rattle.history_spec.proofs.ByteNumbers.{length-bytes_of}
use Rattle.record_replay_spec.specs.Known.{byte_among}
use Rattle.record_replay_spec.specs.Observations.{Observation, Reads, Copies, Writes, Reaches, Resizes, on as observed_on, bits_from_top, plain_observations, load_observations, store_observations, copy_observations, grow_observations}
use Rattle.record_replay_spec.specs.StoreAnswers.{BothOrNeither, AllowSamePages, IsReachedAlike, Answers, AnswersAll, HoldsBytes}
use Rattle.record_replay_spec.proofs.Operands.{bits_same}
use Rattle.record_replay_spec.proofs.Memories.{range, range_length, own_range}
use Rattle.record_replay_spec.specs.Unshown.{AnswersUnshown}
use Rattle.record_replay_spec.specs.ShownStepLaws.{shown, HasBytes}
use Rattle.record_replay_spec.proofs.Numbers.{same_loaded}
use Rattle.record_replay_spec.proofs.SameExecutions.{IsShown, observed_shown, parts_shown, takes_shown}

-- the only results of two steps that show the same are equal
same_result : (func number : ℕ) (operands : List Val) (found : Option ℕ) (ty : ValType) (a b : ℕ)
    → Step func number operands (record { ty = ty; bits = a } ∷ []) found ∷ []
    ≡ Step func number operands (record { ty = ty; bits = b } ∷ []) found ∷ [] → a ≡ b
same_result func number operands found ty a b h =
    ap (λ (v : Val). v.bits) same
  where
    first : Val
    first = record { ty = ty; bits = a }

    second : Val
    second = record { ty = ty; bits = b }

    same : first ≡ second
    same = one first second h
      where
        one : (v w : Val)
            → Step func number operands (v ∷ []) found ∷ [] ≡ Step func number operands (w ∷ []) found ∷ [] → v ≡ w
        one v w h = cc

module _ (code : Code) (store other : Store) (frame : Frame) (next : Place) where
  module _ (memory memory' : Memory) (of : HasBytes store) (of' : HasBytes other) (is : store.memory ≡ Some memory)
      (is' : other.memory ≡ Some memory') where
    whole : length memory.bytes ≡ pages memory * PAGE_SIZE
    whole = subst (λ o. IfSome o (λ m. length m.bytes ≡ pages m * PAGE_SIZE)) is of.whole

    whole' : length memory'.bytes ≡ pages memory' * PAGE_SIZE
    whole' = subst (λ o. IfSome o (λ m. length m.bytes ≡ pages m * PAGE_SIZE)) is' of'.whole

    small : All (λ b. b < 256) memory.bytes
    small = subst (λ o. IfSome o (λ m. All (λ b. b < 256) m.bytes)) is of.bytes

    small' : All (λ b. b < 256) memory'.bytes
    small' = subst (λ o. IfSome o (λ m. All (λ b. b < 256) m.bytes)) is' of'.bytes

    -- ---- ends

    answered : (end : ℕ) → IsReachedAlike (nat_le end (length memory'.bytes)) (nat_le end (pages memory * PAGE_SIZE))
        (pages memory') (pages memory) → Answers other (Reaches end (pages memory))
    answered end reach =
        subst
        (λ o. IfSome o (λ m. IsReachedAlike (nat_le end (length m.bytes)) (nat_le end (pages memory * PAGE_SIZE))
        (pages m) (pages memory)))
        (sym is') reach

    -- memories of equal sizes answer an access
    same_size : pages memory' ≡ pages memory → (end : ℕ) → Answers other (Reaches end (pages memory))
    same_size size end =
        answered end
        (record { alike = ap (nat_le end) (whole' ∙ ap (λ n. n * PAGE_SIZE) size); same = λ e. size })

    -- an end within both memories
    within_both : (end : ℕ) → nat_le end (length memory.bytes) ≡ true → nat_le end (length memory'.bytes) ≡ true
        → Answers other (Reaches end (pages memory))
    within_both end e e' =
        let e = ap (nat_le end) (sym whole) ∙ e in
        answered end (record { alike = e' ∙ sym e; same = λ f. absurd (both_ways _ f e) })

    -- ---- loads

    load_at : (op : ℕ) (access : Access) → load_of op ≡ Some access → (operands rest : List Val) (address : ℕ)
        → IsShown other frame (load_observations address access.width memory)
        (load_result store frame next memory access operands rest (bytes_at memory.bytes address access.width))
        (load_result other frame next memory' access operands rest (bytes_at memory'.bytes address access.width))
    load_at op access has operands rest address =
        record {
          answers = λ some same unshown.
              go (nat_le (address + width) (length memory.bytes)) refl
              (nat_le (address + width) (length memory'.bytes)) refl same;
        }
      where
        width : ℕ
        width = access.width

        here : Memory → Bool → Option (List ℕ)
        here m b = cond b (Some (range m.bytes address width)) None

        seen : Bool → List Observation
        seen b =
            Reaches (address + width) (pages memory) ∷ observed_on (here memory b) (λ bytes. Reads address bytes ∷ [])

        go : (b : Bool) → nat_le (address + width) (length memory.bytes) ≡ b
            → (b' : Bool) → nat_le (address + width) (length memory'.bytes) ≡ b'
            → shown frame (load_result other frame next memory' access operands rest (here memory' b'))
            ≡ shown frame (load_result store frame next memory access operands rest (here memory b))
            → AnswersAll other (seen b)
        go true e true e' h =
            let numbers = same_result frame.func frame.at.number operands None access.ty
            (loaded_number access (number_of (range memory'.bytes address width)))
            (loaded_number access (number_of (range memory.bytes address width))) h in
            let bytes = same_loaded op access has (range memory'.bytes address width) (range memory.bytes address width)
            (range_length memory'.bytes address width e') (range_length memory.bytes address width e)
            (All-take (λ b. b < 256) width (drop address memory'.bytes)
            (All-drop (λ b. b < 256) address memory'.bytes small'))
            (All-take (λ b. b < 256) width (drop address memory.bytes)
            (All-drop (λ b. b < 256) address memory.bytes small)) numbers in (
              within_both (address + width) e e',
              (subst (HoldsBytes other address) bytes (own_range other memory' is' address width), tt),
            )
        go false e false e' h = let size : pages memory' ≡ pages memory = cc in (same_size size (address + width), tt)
        go true e false e' h = cc
        go false e true e' h = cc

    -- ---- writes

    store_at : (operands rest : List Val) (address count : ℕ) (bytes : List ℕ) → length bytes ≡ count
        → IsShown other frame (store_observations address count bytes memory)
        (store_result store frame next memory operands rest (with_bytes_at memory.bytes address bytes))
        (store_result other frame next memory' operands rest (with_bytes_at memory'.bytes address bytes))
    store_at operands rest address count bytes long =
        record {
          answers = λ some same unshown.
              go (nat_le (address + length bytes) (length memory.bytes)) refl
              (nat_le (address + length bytes) (length memory'.bytes)) refl same;
        }
      where
        here : Memory → Bool → Option (List ℕ)
        here m b = cond b (Some (with_items_at m.bytes address bytes)) None

        seen : Bool → List Observation
        seen b =
            Reaches (address + count) (pages memory) ∷ observed_on (here memory b) (λ all. Writes address bytes ∷ [])

        go : (b : Bool) → nat_le (address + length bytes) (length memory.bytes) ≡ b
            → (b' : Bool) → nat_le (address + length bytes) (length memory'.bytes) ≡ b'
            → shown frame (store_result other frame next memory' operands rest (here memory' b'))
            ≡ shown frame (store_result store frame next memory operands rest (here memory b))
            → AnswersAll other (seen b)
        go true e true e' h = (
          subst (λ n. Answers other (Reaches (address + n) (pages memory))) long
              (within_both (address + length bytes) e e'),
          (tt, tt),
        )
        go false e false e' h = let size : pages memory' ≡ pages memory = cc in (same_size size (address + count), tt)
        go true e false e' h = cc
        go false e true e' h = cc

    copy_at : (operands rest : List Val) (to source count : ℕ)
        → IsShown other frame (copy_observations to source count memory)
        (store_result store frame next memory operands rest (with_bytes_copied memory.bytes to source count))
        (store_result other frame next memory' operands rest (with_bytes_copied memory'.bytes to source count))
    copy_at operands rest to source count =
        record {
          answers = λ some same unshown.
              go (nat_le (source + count) (length memory.bytes)) refl (nat_le (source + count) (length memory'.bytes))
              refl same unshown;
        }
      where
        here : Memory → Bool → Option (List ℕ)
        here m b = cond b (Some (range m.bytes source count)) None

        there : Memory → List ℕ → Bool → Option (List ℕ)
        there m bytes b = cond b (Some (with_items_at m.bytes to bytes)) None

        inside : Memory → List ℕ → Bool
        inside m bytes = nat_le (to + length bytes) (length m.bytes)

        target : List ℕ → Bool → List Observation
        target bytes b = observed_on (there memory bytes b) (λ all. Copies source bytes ∷ Writes to bytes ∷ [])

        ends : List Observation → List Observation
        ends seen = Reaches (source + count) (pages memory) ∷ Reaches (to + count) (pages memory) ∷ seen

        trapped : pages memory' ≡ pages memory → AnswersAll other (ends [])
        trapped size = (same_size size (source + count), (same_size size (to + count), tt))

        -- whether the targets are within the memories, if the sources are
        within : nat_le (source + count) (length memory.bytes) ≡ true
            → nat_le (source + count) (length memory'.bytes) ≡ true
            → (bytes bytes' : List ℕ) → length bytes ≡ count → length bytes' ≡ count
            → (c : Bool) → inside memory bytes ≡ c → (c' : Bool) → inside memory' bytes' ≡ c'
            → shown frame (store_result other frame next memory' operands rest (there memory' bytes' c'))
            ≡ shown frame (store_result store frame next memory operands rest (there memory bytes c))
            → AnswersUnshown other (ends (target bytes c)) → AnswersAll other (ends (target bytes c))
        within e e' bytes bytes' long long' true f true f' h unshown = (
          within_both (source + count) e e',
          (
            within_both (to + count) (ap (λ n. nat_le (to + n) (length memory.bytes)) (sym long) ∙ f)
                (ap (λ n. nat_le (to + n) (length memory'.bytes)) (sym long') ∙ f'),
            (λ at x h. unshown.copied at x (or_first (byte_among source bytes at) _ x h), (tt, tt)),
          ),
        )
        within e e' bytes bytes' long long' false f false f' h unshown =
            let size : pages memory' ≡ pages memory = cc in trapped size
        within e e' bytes bytes' long long' true f false f' h unshown = cc
        within e e' bytes bytes' long long' false f true f' h unshown = cc

        -- the first target is within the memory, so the other execution, which does not trap, has its source within
        traps_apart : (bytes' : List ℕ) (c' : Bool)
            → shown frame (store_result other frame next memory' operands rest (there memory' bytes' c'))
            ≡ shown frame (store_result store frame next memory operands rest None) → pages memory' ≡ pages memory
        traps_apart bytes' true h = cc
        traps_apart bytes' false h = cc

        first_traps : (bytes : List ℕ) (c : Bool)
            → shown frame (store_result other frame next memory' operands rest None)
            ≡ shown frame (store_result store frame next memory operands rest (there memory bytes c))
            → AnswersAll other (ends (target bytes c))
        first_traps bytes true h = cc
        first_traps bytes false h = let size : pages memory' ≡ pages memory = cc in trapped size

        go : (b : Bool) → nat_le (source + count) (length memory.bytes) ≡ b
            → (b' : Bool) → nat_le (source + count) (length memory'.bytes) ≡ b'
            → shown frame (store_result other frame next memory' operands rest
            (option_and_then (with_bytes_at memory'.bytes to) (here memory' b')))
            ≡ shown frame (store_result store frame next memory operands rest
            (option_and_then (with_bytes_at memory.bytes to) (here memory b)))
            → AnswersUnshown other
            (ends (observed_on (here memory b) (λ bytes. target bytes (inside memory bytes))))
            → AnswersAll other (ends (observed_on (here memory b) (λ bytes. target bytes (inside memory bytes))))
        go true e true e' h unshown =
            let bytes = range memory.bytes source count in
            let bytes' = range memory'.bytes source count in
            within e e' bytes bytes' (range_length memory.bytes source count e)
            (range_length memory'.bytes source count e') (inside memory bytes) refl (inside memory' bytes') refl h
            unshown
        go false e false e' h unshown = let size : pages memory' ≡ pages memory = cc in trapped size
        go true e false e' h unshown =
            let bytes = range memory.bytes source count in first_traps bytes (inside memory bytes) h
        go false e true e' h unshown =
            let bytes' = range memory'.bytes source count in
            trapped (traps_apart bytes' (inside memory' bytes') h)

    -- ---- sizes

    resized : (left : ℕ) → pages memory' ≡ pages memory → AnswersAll other (Resizes (pages memory) left ∷ [])
    resized left size = (subst (λ o. IfSome o (λ m. pages m ≡ pages memory)) (sym is') size, tt)

    grow_at : (operands rest : List Val) (by : ℕ)
        → IsShown other frame (grow_observations by memory)
        (grow_result store frame next memory operands rest (grown_memory memory by))
        (grow_result other frame next memory' operands rest (grown_memory memory' by))
    grow_at operands rest by =
        record {
          answers = λ some same unshown.
              resized (pages (unwrap_or (grown_memory memory by) memory))
              (go (grown_memory memory by) (grown_memory memory' by) same);
        }
      where
        go : (o o' : Option Memory)
            → shown frame (grow_result other frame next memory' operands rest o')
            ≡ shown frame (grow_result store frame next memory operands rest o)
            → pages memory' ≡ pages memory
        go None None h = cc
        go None (Some larger) h = cc
        go (Some larger) None h = cc
        go (Some larger) (Some larger') h = cc

  -- ---- instructions

  module _ (of : HasBytes store) (of' : HasBytes other)
      (kind : BothOrNeither AllowSamePages store.memory other.memory) where
    abbrev Shows : Instr → Type 0
    Shows i =
        IsShown other frame (plain_observations store frame.values i) (execute_plain code store frame next i)
        (execute_plain code other frame next i)

    pub load_shown : (at : MemArg) → Shows (Load at)
    load_shown at =
        observed_shown other frame (load_of at.op) _ _ _ (λ access has.
        parts_shown other frame AllowSamePages store.memory other.memory _ _ _ kind (λ memory memory' is is'.
        takes_shown other frame _ (I32 ∷ []) _ _ (λ operands rest are.
        rw (bits_same are 0 0 refl)
        (load_at memory memory' of of' is is' at.op access has operands rest
        (bits_from_top frame.values 0 + at.offset)))))

    pub store_shown : (at : MemArg) → Shows (StoreTo at)
    store_shown at =
        observed_shown other frame (store_of at.op) _ _ _ (λ access has.
        parts_shown other frame AllowSamePages store.memory other.memory _ _ _ kind (λ memory memory' is is'.
        takes_shown other frame _ (I32 ∷ access.ty ∷ []) _ _ (λ operands rest are.
        let value = bits_from_top frame.values 0 in
        rw (bits_same are 0 1 refl, bits_same are 1 0 refl)
        (store_at memory memory' of of' is is' operands rest (bits_from_top frame.values 1 + at.offset) access.width
        (bytes_of access.width value) (length-bytes_of access.width value)))))

    pub fill_shown : Shows MemoryFill
    fill_shown =
        parts_shown other frame AllowSamePages store.memory other.memory _ _ _ kind (λ memory memory' is is'.
        takes_shown other frame _ (I32 ∷ I32 ∷ I32 ∷ []) _ _ (λ operands rest are.
        let count = bits_from_top frame.values 0 in
        let byte = bits_from_top frame.values 1 % 256 in
        rw (bits_same are 0 2 refl, bits_same are 1 1 refl, bits_same are 2 0 refl)
        (store_at memory memory' of of' is is' operands rest (bits_from_top frame.values 2) count (replicate count byte)
        (length-replicate count byte))))

    pub copy_shown : Shows MemoryCopy
    copy_shown =
        parts_shown other frame AllowSamePages store.memory other.memory _ _ _ kind (λ memory memory' is is'.
        takes_shown other frame _ (I32 ∷ I32 ∷ I32 ∷ []) _ _ (λ operands rest are.
        rw (bits_same are 0 2 refl, bits_same are 1 1 refl, bits_same are 2 0 refl)
        (copy_at memory memory' of of' is is' operands rest (bits_from_top frame.values 2)
        (bits_from_top frame.values 1)
        (bits_from_top frame.values 0))))

    pub size_shown : Shows MemorySize
    size_shown =
        parts_shown other frame AllowSamePages store.memory other.memory _ _ _ kind (λ memory memory' is is'.
        record {
          answers = λ some same unshown.
              resized memory memory' of of' is is' (pages memory)
              (same_result frame.func frame.at.number [] None I32 (pages memory') (pages memory) same);
        })

    pub grow_shown : Shows MemoryGrow
    grow_shown =
        parts_shown other frame AllowSamePages store.memory other.memory _ _ _ kind (λ memory memory' is is'.
        takes_shown other frame _ (I32 ∷ []) _ _ (λ operands rest are.
        rw (bits_same are 0 0 refl)
        (grow_at memory memory' of of' is is' operands rest (bits_from_top frame.values 0))))
