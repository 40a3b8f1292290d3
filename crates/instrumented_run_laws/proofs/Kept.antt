-- What an instruction leaves unchanged in its activation.
use Rattle.std.proofs.Common.{◌≡◌, ℕ, zero, suc, ◌+◌, ◌%◌, List, [], ◌∷◌, ◌++◌, length, take, Option, Some, None, Bool, true, false, slice_get, refl}
use Rattle.std.specs.List.{slice_index_or}
use Rattle.wasm_syntax.specs.declared.values.Val.{Val}
use Rattle.wasm_syntax.specs.declared.values.ValType.{ValType}
use Rattle.wasm_syntax.specs.declared.values.ValType.TheVariants.{I32}
use Rattle.wasm_syntax.specs.declared.signatures.FuncType.{FuncType}
use Rattle.wasm_syntax.specs.declared.instructions.Instr.{Instr}
use Rattle.wasm_syntax.specs.declared.instructions.Instr.TheVariants as instrs
use Rattle.wasm_syntax.specs.Alike.{same_signature}
use Rattle.wasm_syntax.specs.Nest.{Nest, Empty, Plain, InBlock, InLoop, InIf, InIfElse}
use Rattle.wasm_syntax.specs.Opcodes.{Access, numeric_shape, load_of, store_of}
use Rattle.history_spec.specs.Store.{Store, Memory, Table, grown_memory, bytes_at, with_bytes_at, with_bytes_copied, with_bytes_filled, bytes_of}
use Rattle.history_spec.specs.Code.{Code, signature}
use Rattle.history_spec.specs.Configuration.{Place, Label, Frame, topmost}
use Rattle.history_spec.specs.Instruction.{Goes, Calls, Returns, Execution, Did, on, pop, takes, bits_at, choice, branch_to, to_label, to_caller, load_result, store_result, grow_result, numeric_result, calls_entry, calls_if, type_of_top, execute_plain, execute_at}
use Rattle.history_spec.specs.Numeric.{NumericValue, Computed, Undefined, Unsupported, numeric_value}
use Rattle.instrumented_run_laws.proofs.Straight.{IsStraight}
use Rattle.instrumented_run_laws.proofs.PieceFacts.{IsCallInstr, IsBlock, IsBranch}

module _ (store : Store) (frame : Frame) where
  -- control goes on at the next place, with other locals and values, or traps
  abbrev pub IsGoneOn : Place → Execution → Type 0
  IsGoneOn next (Did operands results found (Goes left f)) =
      f ≡ record frame { locals = f.locals; values = f.values; at = next }
  IsGoneOn next (Did operands results found (Calls waiting func args)) = ⊥
  IsGoneOn next (Did operands results found (Returns given)) = ⊥
  IsGoneOn next e = Unit {0}

  -- control goes on at any place with other values and labels, in the same store; or it leaves the function
  abbrev pub IsMovedOn : Execution → Type 0
  IsMovedOn (Did operands results found (Goes left f)) =
      (left ≡ store) × (f ≡ record frame { values = f.values; labels = f.labels; at = f.at })
  IsMovedOn (Did operands results found (Calls waiting func args)) = ⊥
  IsMovedOn e = Unit {0}

  -- control calls a function, and the activation waits at the next place
  abbrev pub IsCalledOn : Place → Execution → Type 0
  IsCalledOn next (Did operands results found (Goes left f)) = ⊥
  IsCalledOn next (Did operands results found (Calls waiting func args)) =
      waiting ≡ record frame { values = waiting.values; at = next }
  IsCalledOn next (Did operands results found (Returns given)) = ⊥
  IsCalledOn next e = Unit {0}

  pub record GoesOn (next : Place) (e : Execution) : Type 0 where
    pub gone : IsGoneOn next e

  pub record MovesOn (e : Execution) : Type 0 where
    pub moved : IsMovedOn e

  pub record CallsOn (next : Place) (e : Execution) : Type 0 where
    pub called : IsCalledOn next e

  on_gone : {X : Type 0} (next : Place) (o : Option X) (go : X → Execution) → ((x : X) → GoesOn next (go x))
      → GoesOn next (on o go)
  on_gone next None go each = record { gone = tt }
  on_gone next (Some x) go each = each x

  on_moved : {X : Type 0} (o : Option X) (go : X → Execution) → ((x : X) → MovesOn (go x)) → MovesOn (on o go)
  on_moved None go each = record { moved = tt }
  on_moved (Some x) go each = each x

  on_called : {X : Type 0} (next : Place) (o : Option X) (go : X → Execution) → ((x : X) → CallsOn next (go x))
      → CallsOn next (on o go)
  on_called next None go each = record { called = tt }
  on_called next (Some x) go each = each x

  module _ (code : Code) (next : Place) where
    -- ---- instructions that go on

    loaded : (memory : Memory) (access : Access) (operands rest : List Val) (o : Option (List ℕ))
        → GoesOn next (load_result store frame next memory access operands rest o)
    loaded memory access operands rest None = record { gone = tt }
    loaded memory access operands rest (Some bytes) = record { gone = refl }

    stored : (memory : Memory) (operands rest : List Val) (o : Option (List ℕ))
        → GoesOn next (store_result store frame next memory operands rest o)
    stored memory operands rest None = record { gone = tt }
    stored memory operands rest (Some bytes) = record { gone = refl }

    grown : (memory : Memory) (operands rest : List Val) (o : Option Memory)
        → GoesOn next (grow_result store frame next memory operands rest o)
    grown memory operands rest None = record { gone = refl }
    grown memory operands rest (Some larger) = record { gone = refl }

    computed : (ty : ValType) (operands rest : List Val) (v : NumericValue)
        → GoesOn next (numeric_result store frame next ty operands rest v)
    computed ty operands rest (Computed bits) = record { gone = refl }
    computed ty operands rest (Undefined kind) = record { gone = tt }
    computed ty operands rest Unsupported = record { gone = tt }

    takes_gone : (types : List ValType) (go : List Val → List Val → Execution)
        → ((operands rest : List Val) → GoesOn next (go operands rest)) → GoesOn next (takes frame types go)
    takes_gone types go each = on_gone next (pop types frame.values) _ (λ p. each p.operands p.rest)

    -- the value taken has the type of the given one
    sets_gone : (o : Option Val) (go : Val → List Val → List Val → Execution)
        → ((old : Val) (operands rest : List Val) → GoesOn next (go old operands rest))
        → GoesOn next (on o (λ old. takes frame (old.ty ∷ []) (go old)))
    sets_gone o go each = on_gone next o _ (λ old. takes_gone (old.ty ∷ []) _ (each old))

    pub straight_goes_on : (i : Instr) → IsStraight i → GoesOn next (execute_plain code store frame next i)
    straight_goes_on instrs.Unreachable is = record { gone = tt }
    straight_goes_on instrs.Nop is = record { gone = refl }
    straight_goes_on instrs.Drop is =
        on_gone next (type_of_top frame 0) _ (λ ty. takes_gone (ty ∷ []) _ (λ operands rest. record { gone = refl }))
    straight_goes_on instrs.Select is =
        on_gone next (type_of_top frame 1) _
        (λ ty. takes_gone (ty ∷ ty ∷ I32 ∷ []) _ (λ operands rest. record { gone = refl }))
    straight_goes_on (instrs.LocalGet x) is =
        on_gone next (slice_get frame.locals x) _ (λ v. record { gone = refl })
    straight_goes_on (instrs.LocalSet x) is =
        sets_gone (slice_get frame.locals x) _ (λ old operands rest. record { gone = refl })
    straight_goes_on (instrs.LocalTee x) is =
        sets_gone (slice_get frame.locals x) _ (λ old operands rest. record { gone = refl })
    straight_goes_on (instrs.GlobalGet x) is =
        on_gone next (slice_get store.globals x) _ (λ v. record { gone = refl })
    straight_goes_on (instrs.GlobalSet x) is =
        sets_gone (slice_get store.globals x) _ (λ old operands rest. record { gone = refl })
    straight_goes_on (instrs.Load at) is =
        on_gone next (load_of at.op) _ (λ access. on_gone next store.memory _ (λ memory. takes_gone (I32 ∷ []) _
        (λ operands rest. loaded memory access operands rest
        (bytes_at memory.bytes (bits_at operands 0 + at.offset) access.width))))
    straight_goes_on (instrs.Store at) is =
        on_gone next (store_of at.op) _ (λ access. on_gone next store.memory _ (λ memory.
        takes_gone (I32 ∷ access.ty ∷ []) _
        (λ operands rest. stored memory operands rest
        (with_bytes_at memory.bytes (bits_at operands 0 + at.offset) (bytes_of access.width (bits_at operands 1))))))
    straight_goes_on instrs.MemorySize is = on_gone next store.memory _ (λ memory. record { gone = refl })
    straight_goes_on instrs.MemoryGrow is =
        on_gone next store.memory _ (λ memory. takes_gone (I32 ∷ []) _
        (λ operands rest. grown memory operands rest (grown_memory memory (bits_at operands 0))))
    straight_goes_on instrs.MemoryCopy is =
        on_gone next store.memory _ (λ memory. takes_gone (I32 ∷ I32 ∷ I32 ∷ []) _
        (λ operands rest. stored memory operands rest
        (with_bytes_copied memory.bytes (bits_at operands 0) (bits_at operands 1) (bits_at operands 2))))
    straight_goes_on instrs.MemoryFill is =
        on_gone next store.memory _ (λ memory. takes_gone (I32 ∷ I32 ∷ I32 ∷ []) _
        (λ operands rest. stored memory operands rest
        (with_bytes_filled memory.bytes (bits_at operands 0) (bits_at operands 1 % 256) (bits_at operands 2))))
    straight_goes_on (instrs.Const value) is = record { gone = refl }
    straight_goes_on (instrs.Numeric op) is =
        on_gone next (numeric_shape op) _ (λ shape. takes_gone shape.operands _
        (λ operands rest. computed shape.result operands rest (numeric_value op operands)))
    straight_goes_on i is = absurd is

    -- ---- calls

    fits_called : (operands rest : List Val) (func : ℕ) (args : List Val) (b : Bool)
        → CallsOn next (calls_if b frame next operands rest func args)
    fits_called operands rest func args true = record { called = refl }
    fits_called operands rest func args false = record { called = tt }

    entry_called : (ty : FuncType) (table : Table) (operands rest : List Val) (o : Option (Option ℕ))
        → CallsOn next (calls_entry code ty frame next table operands rest o)
    entry_called ty table operands rest None = record { called = tt }
    entry_called ty table operands rest (Some None) = record { called = tt }
    entry_called ty table operands rest (Some (Some func)) =
        on_called next (signature code func) _
        (λ found. fits_called operands rest func (take (length ty.params) operands) (same_signature ty found))

    pub call_goes_on : (i : Instr) → IsCallInstr i → CallsOn next (execute_plain code store frame next i)
    call_goes_on (instrs.Call func) is =
        on_called next (signature code func) _
        (λ ty. on_called next (pop ty.params frame.values) _ (λ p. record { called = refl }))
    call_goes_on (instrs.CallIndirect t) is =
        on_called next (slice_get code.types t) _ (λ ty. on_called next store.table _ (λ table.
        on_called next (pop (ty.params ++ I32 ∷ []) frame.values) _
        (λ p. entry_called ty table p.operands p.rest
        (slice_get table.entries (bits_at p.operands (length ty.params))))))
    call_goes_on i is = absurd is

    -- ---- branches and blocks

    caller_moved : (operands : List Val) (o : Option (List Val)) → MovesOn (to_caller operands o)
    caller_moved operands None = record { moved = tt }
    caller_moved operands (Some results) = record { moved = tt }

    label_moved : (operands : List Val) (o : Option (List Val)) (labels : List Label) (label : Label)
        → MovesOn (to_label store frame operands o labels label)
    label_moved operands None labels label = record { moved = tt }
    label_moved operands (Some carried) labels label = record { moved = (refl, refl) }

    branch_moved : (operands values : List Val) (labels : List Label) (l : ℕ)
        → MovesOn (branch_to store frame operands values labels l)
    branch_moved operands values [] zero = caller_moved operands (topmost frame.arity values)
    branch_moved operands values [] (suc l) = record { moved = tt }
    branch_moved operands values (label ∷ labels) zero = label_moved operands (topmost label.arity values) labels label
    branch_moved operands values (label ∷ labels) (suc l) = branch_moved operands values labels l

    chosen : (bits : ℕ) (a b : Execution) → MovesOn a → MovesOn b → MovesOn (choice bits a b)
    chosen zero a b x y = y
    chosen (suc bits) a b x y = x

    pub branch_goes_on : (i : Instr) → IsBranch i → MovesOn (execute_plain code store frame next i)
    branch_goes_on (instrs.Br l) is = branch_moved [] frame.values frame.labels l
    branch_goes_on (instrs.BrIf l) is =
        on_moved (pop (I32 ∷ []) frame.values) _
        (λ p. chosen (bits_at p.operands 0) _ _ (branch_moved p.operands p.rest frame.labels l)
        (record { moved = (refl, refl) }))
    branch_goes_on (instrs.BrTable labels l) is =
        on_moved (pop (I32 ∷ []) frame.values) _
        (λ p. branch_moved p.operands p.rest frame.labels (slice_index_or labels (bits_at p.operands 0) l))
    branch_goes_on i is = absurd is

  pub block_goes_on : (code : Code) (nest : Nest) (at : ℕ) → IsBlock nest
      → MovesOn (execute_at code store frame nest at)
  block_goes_on code Empty at is = absurd is
  block_goes_on code (Plain i rest) at is = absurd is
  block_goes_on code (InBlock ty body rest) at is = record { moved = (refl, refl) }
  block_goes_on code (InLoop ty body rest) at is = record { moved = (refl, refl) }
  block_goes_on code (InIf ty body rest) at is =
      on_moved (pop (I32 ∷ []) frame.values) _ (λ p. record { moved = (refl, refl) })
  block_goes_on code (InIfElse ty body other rest) at is =
      on_moved (pop (I32 ∷ []) frame.values) _ (λ p. record { moved = (refl, refl) })
