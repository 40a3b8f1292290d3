-- Stores of generated code write their bytes.
use Rattle.std.proofs.Common.{◌≡◌, ℕ, ◌+◌, ◌≤◌, List, [], ◌∷◌, ◌++◌, length, take, drop, Some, None, true, false, cond, nat_le, refl, sym, ap, ◌∙◌, arith}
use Rattle.std.proofs.lemmas.Bool.Decides.{nat_tests}
use Rattle.wasm_syntax.specs.declared.values.Val.{Val}
use Rattle.wasm_syntax.specs.declared.values.ValType.TheVariants.{I32}
use Rattle.wasm_syntax.specs.declared.instructions.Instr.{Instr}
use Rattle.wasm_syntax.specs.declared.instructions.Instr.TheVariants.{Const, Store as StoreTo}
use Rattle.wasm_syntax.specs.Nest.{Nest, Plain}
use Rattle.wasm_syntax.specs.Opcodes.{Access, access, store_of}
use Rattle.trace_model.specs.declared.tapes.Effect.TheVariants.{Bytes}
use Rattle.history_spec.specs.Code.{i32_value}
use Rattle.history_spec.specs.Store.{Store, Memory, with_bytes_at, with_items_at, with_memory, number_of, bytes_of}
use Rattle.history_spec.specs.Configuration.{place, Label, Frame, point, at_point}
use Rattle.history_spec.specs.Instruction.{Operands, Did, Goes, on, pop, takes, bits_at, store_result, execute}
use Rattle.replay_module_spec.specs.Effects.{i32_const, Width, Eight, Four, Two, One, byte_count, store_type, store_opcode, store_code}
use Rattle.record_replay_spec.specs.Observations.{Writes, plain_observations, store_observations, on as on_part}
use Rattle.replay_run_spec.specs.Items.{Item, Changes, Steps, changes_of}
use Rattle.generated_code_laws.specs.Leads.{Watched, IsOutside, Standing}
use Rattle.generated_code_laws.specs.Bytes.{AreBytes}
use Rattle.generated_code_laws.proofs.Bytes.{numbers_hold_bytes}
use Rattle.generated_code_laws.proofs.Does.{Does, does_both, does_one, does_const}

-- the memory with bytes written
abbrev pub memory_with_bytes : Memory → (address : ℕ) → List ℕ → Memory
memory_with_bytes memory address bytes = record memory { bytes = with_items_at memory.bytes address bytes }

-- the items of a store
abbrev pub store_items : (address : ℕ) → List ℕ → List Item
store_items address bytes = Steps false ∷ Steps false ∷ Steps false ∷ Changes (Bytes address bytes) ∷ []

-- the items of stores of these widths
abbrev pub stores_items : List Width → (address : ℕ) → List ℕ → List Item
stores_items [] address bytes = []
stores_items (width ∷ widths) address bytes =
    store_items address (take (byte_count width) bytes)
    ++ stores_items widths (address + byte_count width) (drop (byte_count width) bytes)

-- bytes of a width are written if they are within the memory
written : (memory : Memory) (address count : ℕ) (bytes : List ℕ) → length bytes ≡ count → AreBytes bytes
    → address + length bytes ≤ length memory.bytes
    → with_bytes_at memory.bytes address (bytes_of count (number_of bytes))
    ≡ Some (with_items_at memory.bytes address bytes)
written memory address count bytes long are within =
    let there : nat_le (address + length bytes) (length memory.bytes) ≡ true = grind (arith, nat_tests, within) in
    ap (λ n. with_bytes_at memory.bytes address (bytes_of n (number_of bytes))) (sym long)
    ∙ ap (with_bytes_at memory.bytes address) (numbers_hold_bytes bytes are)
    ∙ ap (λ b. cond b (Some (with_items_at memory.bytes address bytes)) None) there

-- the access of a store of a width
abbrev access_of : Width → Access
access_of width = access (store_type width) (byte_count width) false

has_access : (width : Width) → store_of (store_opcode width) ≡ Some (access_of width)
has_access Eight = refl
has_access Four = refl
has_access Two = refl
has_access One = refl

-- the number that a store of a width stores
abbrev stored_value : Width → List ℕ → Val
stored_value width bytes = record { ty = store_type width; bits = number_of bytes }

abbrev store_operands : Width → (address : ℕ) → List ℕ → List Val
store_operands width address bytes = i32_value address ∷ stored_value width bytes ∷ []

abbrev store_instruction : Width → Instr
store_instruction width = StoreTo (record { op = store_opcode width; align = 0; offset = 0 })

-- a store pops its operands
has_operands : (width : Width) (address : ℕ) (bytes : List ℕ)
    → pop (I32 ∷ store_type width ∷ []) (stored_value width bytes ∷ i32_value address ∷ [])
    ≡ Some (record { operands = store_operands width address bytes; rest = [] })
has_operands Eight address bytes = refl
has_operands Four address bytes = refl
has_operands Two address bytes = refl
has_operands One address bytes = refl

module _ (w : Watched) (s : Standing) (outside : IsOutside w.layout s.frame.func) where
  -- the instruction of a store, and the change that it makes
  module _ (store : Store) (memory : Memory) (width : Width) (address : ℕ) (bytes : List ℕ)
      (is : store.memory ≡ Some memory) (long : length bytes ≡ byte_count width) (are : AreBytes bytes)
      (within : address + length bytes ≤ length memory.bytes) where
    abbrev stored : Store
    stored = with_memory store (memory_with_bytes memory address bytes)

    abbrev operands : List Val
    operands = store_operands width address bytes

    executed : (labels : List Label) (rest : Nest) (number : ℕ)
        → execute w.program.code store
        (at_point s.frame
        (point (stored_value width bytes ∷ i32_value address ∷ []) labels
        (Plain (store_instruction width) rest) number))
        ≡ Did operands [] None (Goes stored (at_point s.frame (point [] labels rest (number + 1))))
    executed labels rest number =
        let frame : Frame =
        at_point s.frame
        (point (stored_value width bytes ∷ i32_value address ∷ []) labels (Plain (store_instruction width) rest) number)
        in
        let next = place rest (number + 1) in
        let here : address + 0 ≡ address = omega arith in
        ap (λ o. on o (λ (access : Access).
        on store.memory (λ memory.
        takes frame (I32 ∷ access.ty ∷ []) (λ operands rest.
        store_result store frame next memory operands rest
        (with_bytes_at memory.bytes (bits_at operands 0 + 0) (bytes_of access.width (bits_at operands 1)))))))
        (has_access width)
        ∙ ap (λ o. on o (λ memory.
        takes frame (I32 ∷ store_type width ∷ []) (λ operands rest.
        store_result store frame next memory operands rest
        (with_bytes_at memory.bytes (bits_at operands 0 + 0) (bytes_of (byte_count width) (bits_at operands 1)))))) is
        ∙ ap (λ o. on o (λ (p : Operands).
        store_result store frame next memory p.operands p.rest
        (with_bytes_at memory.bytes (bits_at p.operands 0 + 0) (bytes_of (byte_count width) (bits_at p.operands 1)))))
        (has_operands width address bytes)
        ∙ ap (λ n. store_result store frame next memory operands []
        (with_bytes_at memory.bytes n (bytes_of (byte_count width) (number_of bytes)))) here
        ∙ ap (store_result store frame next memory operands [])
        (written memory address (byte_count width) bytes long are within)

    changed : changes_of w.globals
        (plain_observations store (stored_value width bytes ∷ i32_value address ∷ []) (store_instruction width))
        ≡ Bytes address bytes ∷ []
    changed =
        let here : address + 0 ≡ address = omega arith in
        let news = bytes_of (byte_count width) (number_of bytes) in
        ap (λ o. changes_of w.globals (on_part o (λ (access : Access).
        on_part store.memory
        (store_observations (address + 0) access.width (bytes_of access.width (number_of bytes)))))) (has_access width)
        ∙ ap (λ o. changes_of w.globals (on_part o (store_observations (address + 0) (byte_count width) news))) is
        ∙ ap (λ n. changes_of w.globals (store_observations n (byte_count width) news memory)) here
        ∙ ap (λ o. changes_of w.globals (on_part o (λ (all : List ℕ). Writes address news ∷ [])))
        (written memory address (byte_count width) bytes long are within)
        ∙ ap (λ l. Bytes address l ∷ [])
        (ap (λ n. bytes_of n (number_of bytes)) (sym long) ∙ numbers_hold_bytes bytes are)

    -- the code of a store writes the bytes
    pub stores_bytes : Does w s store stored [] [] (store_code width address (number_of bytes))
        (store_items address bytes)
    stores_bytes =
        does_both w s store store stored [] (i32_value address ∷ []) []
        (i32_const address ∷ []) (Const (stored_value width bytes) ∷ store_instruction width ∷ [])
        (Steps false ∷ []) (Steps false ∷ Steps false ∷ Changes (Bytes address bytes) ∷ [])
        (does_const w s outside store [] (i32_value address))
        (does_both w s store store stored (i32_value address ∷ [])
        (stored_value width bytes ∷ i32_value address ∷ []) []
        (Const (stored_value width bytes) ∷ []) (store_instruction width ∷ [])
        (Steps false ∷ []) (Steps false ∷ Changes (Bytes address bytes) ∷ [])
        (does_const w s outside store (i32_value address ∷ []) (stored_value width bytes))
        (does_one w s outside store stored (stored_value width bytes ∷ i32_value address ∷ []) []
        (store_instruction width) operands [] None (Bytes address bytes ∷ []) executed changed))
