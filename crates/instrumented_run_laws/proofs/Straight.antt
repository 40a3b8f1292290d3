-- An instruction that neither branches nor calls does in an activation with more locals what it does in the original's.
use Rattle.std.proofs.Common.{◌≡◌, ℕ, ◌+◌, ◌%◌, List, [], ◌∷◌, ◌++◌, Option, Some, None, slice_get, slice_set, refl, sym, ap, ◌∙◌, subst}
use Rattle.std.specs.List.{slice_index_or}
use Rattle.std.proofs.lemmas.Option.{slice_get_within}
use Rattle.base.proofs.Lists.{get_front, set_front}
use Rattle.wasm_syntax.specs.declared.values.ValType.{ValType}
use Rattle.wasm_syntax.specs.declared.values.ValType.TheVariants.{I32}
use Rattle.wasm_syntax.specs.declared.values.Val.{Val}
use Rattle.wasm_syntax.specs.declared.instructions.Instr.{Instr}
use Rattle.wasm_syntax.specs.declared.instructions.Instr.TheVariants.{Unreachable, Nop, Block, Loop, If, Else, End, Br, BrIf, BrTable, Return, Call, CallIndirect, Drop, Select, LocalGet, LocalSet, LocalTee, GlobalGet, GlobalSet, Load, Store as StoreTo, MemorySize, MemoryGrow, MemoryCopy, MemoryFill, Const, Numeric, RefNull, RefFunc, TableSet, TableGrow, TableSize}
use Rattle.wasm_syntax.specs.Opcodes.{Access, numeric_shape, load_of, store_of}
use Rattle.history_spec.specs.Store.{Store, Memory, grown_memory, bytes_at, with_bytes_at, with_bytes_copied, with_bytes_filled, bytes_of}
use Rattle.history_spec.specs.Code.{Code}
use Rattle.history_spec.specs.Numeric.{NumericValue, Computed, Undefined, Unsupported, numeric_value}
use Rattle.history_spec.specs.Configuration.{Place, Frame, push_all}
use Rattle.history_spec.specs.Instruction.{Goes, Calls, Returns, Execution, Did, Traps, NoRule, on, pop, takes, bits_at, load_result, store_result, grow_result, numeric_result, type_of_top, execute_plain}
use Rattle.record_replay_spec.specs.Hooks.{renumbered_view}

-- an instruction that is neither a block, a branch nor a call, and touches no table or reference
abbrev pub IsStraight : Instr → Type 0
IsStraight (Block ty) = ⊥
IsStraight (Loop ty) = ⊥
IsStraight (If ty) = ⊥
IsStraight Else = ⊥
IsStraight End = ⊥
IsStraight (Br l) = ⊥
IsStraight (BrIf l) = ⊥
IsStraight (BrTable labels l) = ⊥
IsStraight Return = ⊥
IsStraight (Call func) = ⊥
IsStraight (CallIndirect t) = ⊥
IsStraight RefNull = ⊥
IsStraight (RefFunc func) = ⊥
IsStraight (TableSet t) = ⊥
IsStraight (TableGrow t) = ⊥
IsStraight (TableSize t) = ⊥
IsStraight i = Unit {0}

-- ---- lists with more items after them

pub get_more : {A : Type 0} (xs ys : List A) (i : ℕ) (x : A) → slice_get xs i ≡ Some x → slice_get (xs ++ ys) i ≡ Some x
get_more xs ys i x h = get_front xs ys i (slice_get_within xs i x h) ∙ h

module _ (n : ℕ) (outer : Frame) (more : List Val) where
  -- an activation of the original in that of the instrumented function, at a place of the instrumented body
  abbrev pub larger : Frame → Place → Frame
  larger frame at = record outer { locals = frame.locals ++ more; values = frame.values; at = at }

  -- if the first execution has a rule, the second does the same and goes on at the next place
  abbrev pub IsAlike : Place → Execution → Execution → Type 0
  IsAlike next NoRule second = Unit {0}
  IsAlike next (Traps kind operands found) second = second ≡ Traps kind operands found
  IsAlike next (Did operands results found (Goes store frame)) second =
      second ≡ Did operands results found (Goes (renumbered_view n store) (larger frame next))
  IsAlike next (Did operands results found (Calls frame func args)) second = ⊥
  IsAlike next (Did operands results found (Returns given)) second = ⊥

  on_alike : {X : Type 0} (next : Place) (o other : Option X) (go go_other : X → Execution)
      → ((x : X) → o ≡ Some x → other ≡ Some x) → ((x : X) → o ≡ Some x → IsAlike next (go x) (go_other x))
      → IsAlike next (on o go) (on other go_other)
  on_alike next None other go go_other there alike = tt
  on_alike next (Some x) other go go_other there alike =
      subst (λ o. IsAlike next (go x) (on o go_other)) (sym (there x refl)) (alike x refl)

  module _ (code other : Code) (store : Store) (frame : Frame) (next here after : Place) where
    abbrev hooked : Frame
    hooked = larger frame here

    same_on : {X : Type 0} (o : Option X) (go go_other : X → Execution)
        → ((x : X) → IsAlike after (go x) (go_other x)) → IsAlike after (on o go) (on o go_other)
    same_on o go go_other alike = on_alike after o o go go_other (λ x e. e) (λ x e. alike x)

    takes_alike : (types : List ValType) (go go_other : List Val → List Val → Execution)
        → ((operands rest : List Val) → IsAlike after (go operands rest) (go_other operands rest))
        → IsAlike after (takes frame types go) (takes hooked types go_other)
    takes_alike types go go_other alike =
        same_on (pop types frame.values) (λ p. go p.operands p.rest) (λ p. go_other p.operands p.rest)
        (λ p. alike p.operands p.rest)

    loaded : (memory : Memory) (access : Access) (operands rest : List Val) (o : Option (List ℕ))
        → IsAlike after (load_result store frame next memory access operands rest o)
        (load_result (renumbered_view n store) hooked after memory access operands rest o)
    loaded memory access operands rest None = refl
    loaded memory access operands rest (Some bytes) = refl

    stored : (memory : Memory) (operands rest : List Val) (o : Option (List ℕ))
        → IsAlike after (store_result store frame next memory operands rest o)
        (store_result (renumbered_view n store) hooked after memory operands rest o)
    stored memory operands rest None = refl
    stored memory operands rest (Some bytes) = refl

    grown : (memory : Memory) (operands rest : List Val) (o : Option Memory)
        → IsAlike after (grow_result store frame next memory operands rest o)
        (grow_result (renumbered_view n store) hooked after memory operands rest o)
    grown memory operands rest None = refl
    grown memory operands rest (Some larger) = refl

    computed : (ty : ValType) (operands rest : List Val) (v : NumericValue)
        → IsAlike after (numeric_result store frame next ty operands rest v)
        (numeric_result (renumbered_view n store) hooked after ty operands rest v)
    computed ty operands rest (Computed bits) = refl
    computed ty operands rest (Undefined kind) = refl
    computed ty operands rest Unsupported = tt

    pub straight : (i : Instr) → IsStraight i
        → IsAlike after (execute_plain code store frame next i)
        (execute_plain other (renumbered_view n store) hooked after i)
    straight Unreachable is = refl
    straight Nop is = refl
    straight Drop is = same_on (type_of_top frame 0) _ _ (λ ty. takes_alike (ty ∷ []) _ _ (λ operands rest. refl))
    straight Select is =
        same_on (type_of_top frame 1) _ _ (λ ty. takes_alike (ty ∷ ty ∷ I32 ∷ []) _ _ (λ operands rest. refl))
    straight (LocalGet x) is =
        on_alike after (slice_get frame.locals x) (slice_get (frame.locals ++ more) x) _ _
        (λ v e. get_more frame.locals more x v e) (λ v e. refl)
    straight (LocalSet x) is =
        on_alike after (slice_get frame.locals x) (slice_get (frame.locals ++ more) x) _ _
        (λ old e. get_more frame.locals more x old e)
        (λ old e. takes_alike (old.ty ∷ []) _ _
        (λ operands rest. ap
        (λ l. Did operands [] None
        (Goes (renumbered_view n store) (record outer { locals = l; values = rest; at = after })))
        (set_front frame.locals more x old (slice_index_or operands 0 old) e)))
    straight (LocalTee x) is =
        on_alike after (slice_get frame.locals x) (slice_get (frame.locals ++ more) x) _ _
        (λ old e. get_more frame.locals more x old e)
        (λ old e. takes_alike (old.ty ∷ []) _ _
        (λ operands rest. tee_alike x old operands rest e))
      where
        tee_alike : (x : ℕ) (old : Val) (operands rest : List Val) → slice_get frame.locals x ≡ Some old
            → Did operands operands None
            (Goes (renumbered_view n store)
            (record outer {
              locals = slice_set (frame.locals ++ more) x (slice_index_or operands 0 old);
              values = push_all operands rest;
              at = after;
            }))
            ≡ Did operands operands None
            (Goes (renumbered_view n store)
            (record outer {
              locals = slice_set frame.locals x (slice_index_or operands 0 old) ++ more;
              values = push_all operands rest;
              at = after;
            }))
        tee_alike x old operands rest e =
            ap
            (λ l. Did operands operands None
            (Goes (renumbered_view n store)
            (record outer { locals = l; values = push_all operands rest; at = after })))
            (set_front frame.locals more x old (slice_index_or operands 0 old) e)
    straight (GlobalGet x) is = same_on (slice_get store.globals x) _ _ (λ v. refl)
    straight (GlobalSet x) is =
        same_on (slice_get store.globals x) _ _ (λ old. takes_alike (old.ty ∷ []) _ _ (λ operands rest. refl))
    straight (Load at) is =
        same_on (load_of at.op) _ _ (λ access. same_on store.memory _ _ (λ memory. takes_alike (I32 ∷ []) _ _
        (λ operands rest. loaded memory access operands rest
        (bytes_at memory.bytes (bits_at operands 0 + at.offset) access.width))))
    straight (StoreTo at) is =
        same_on (store_of at.op) _ _ (λ access. same_on store.memory _ _ (λ memory. takes_alike (I32 ∷ access.ty ∷ []) _
        _
        (λ operands rest. stored memory operands rest
        (with_bytes_at memory.bytes (bits_at operands 0 + at.offset) (bytes_of access.width (bits_at operands 1))))))
    straight MemorySize is = same_on store.memory _ _ (λ memory. refl)
    straight MemoryGrow is =
        same_on store.memory _ _ (λ memory. takes_alike (I32 ∷ []) _ _
        (λ operands rest. grown memory operands rest (grown_memory memory (bits_at operands 0))))
    straight MemoryCopy is =
        same_on store.memory _ _ (λ memory. takes_alike (I32 ∷ I32 ∷ I32 ∷ []) _ _
        (λ operands rest. stored memory operands rest
        (with_bytes_copied memory.bytes (bits_at operands 0) (bits_at operands 1) (bits_at operands 2))))
    straight MemoryFill is =
        same_on store.memory _ _ (λ memory. takes_alike (I32 ∷ I32 ∷ I32 ∷ []) _ _
        (λ operands rest. stored memory operands rest
        (with_bytes_filled memory.bytes (bits_at operands 0) (bits_at operands 1 % 256) (bits_at operands 2))))
    straight (Const value) is = refl
    straight (Numeric op) is =
        same_on (numeric_shape op) _ _ (λ shape. takes_alike shape.operands _ _
        (λ operands rest. computed shape.result operands rest (numeric_value op operands)))
    straight i is = absurd is
