-- The code inserted before an instruction makes the hook calls of the original's step.
use Rattle.std.proofs.Common.{◌≡◌, ℕ, zero, suc, ◌+◌, ◌-◌, ◌<◌, List, [], ◌∷◌, length, map, Option, Some, None, true, slice_get, slice_set, slice_index, refl, sym, ap, ◌∙◌, subst, arith}
use Rattle.base.proofs.Lists.{item_passes}
use Rattle.base.proofs.Options.{cond_some}
use Rattle.base.specs.declared.opcodes.TheConstants.{I32_STORE, I64_STORE32}
use Rattle.wasm_syntax.specs.declared.values.ValType.{ValType}
use Rattle.wasm_syntax.specs.declared.values.ValType.TheVariants.{I32, I64, F32, F64, FuncRef}
use Rattle.wasm_syntax.specs.declared.values.Val.{Val}
use Rattle.wasm_syntax.specs.declared.instructions.MemArg.{MemArg}
use Rattle.wasm_syntax.specs.declared.instructions.Instr.{Instr}
use Rattle.wasm_syntax.specs.declared.instructions.Instr.TheVariants as instrs
use Rattle.wasm_syntax.specs.Opcodes.{Access, is_from, store_table, load_of, store_of}
use Rattle.wasm_syntax.specs.Typing.{is_number}
use Rattle.history_spec.specs.Store.{Store, Memory, bytes_at, with_bytes_at, bytes_of}
use Rattle.history_spec.specs.Code.{Code, i32_value}
use Rattle.history_spec.specs.Configuration.{Place, Frame, Activation}
use Rattle.history_spec.specs.Instruction.{Execution, Did, Traps, NoRule, Operands, on, pop, takes, bits_at, load_result, store_result, execute_plain}
use Rattle.history_spec.specs.Step.{Program}
use Rattle.history_spec.specs.Run.{Meter}
use Rattle.record_replay_spec.specs.declared.hooks.Hook.{Hook}
use Rattle.record_replay_spec.specs.declared.hooks.Hook.TheVariants.{Load, Store as ToStore, Size}
use Rattle.record_replay_spec.specs.Hooks as hooks
use Rattle.record_replay_spec.specs.Hooks.{HookCall, hook_func, hook_place, renumbered_view, renumbered_call}
use Rattle.record_replay_spec.specs.Insertions.{Site, imports_at, reports_number, before_load, before_store, inserted_before}
use Rattle.record_replay_spec.specs.ReportedCalls.{i64_value, reported, reported_number, reported_before}
use Rattle.instrumented_run_laws.proofs.Leads as leads
use Rattle.instrumented_run_laws.proofs.PieceSteps.{typed, pop_none}
use Rattle.instrumented_run_laws.proofs.Relation.{AreCounted}
use Rattle.instrumented_run_laws.proofs.Scratch.{Scratch, with_address, with_value, IsNumber}
use Rattle.instrumented_run_laws.proofs.Taken.{one_taken, two_taken}
use Rattle.instrumented_run_laws.proofs.Pieces as pieces
use Rattle.instrumented_run_laws.proofs.Pieces.{HasHooks}

-- the operands that an execution takes, if it has a rule
abbrev pub operands_of : Execution → List Val
operands_of (Did operands results found control) = operands
operands_of (Traps kind operands found) = operands
operands_of NoRule = []

abbrev pub IsRule : Execution → Type 0
IsRule NoRule = ⊥
IsRule execution = Unit {0}

-- setting an item leaves the items before it unchanged
get_before : (xs : List ℕ) (i j v : ℕ) → j < i → slice_get (slice_set xs i v) j ≡ slice_get xs j
get_before [] i j v less = refl
get_before (x ∷ xs) zero j v less = absurd (omega (arith, less))
get_before (x ∷ xs) (suc i) zero v less = refl
get_before (x ∷ xs) (suc i) (suc j) v less = get_before xs i j v (omega (arith, less))

pub number_type : (ty : ValType) → is_number ty ≡ true → IsNumber ty
number_type I32 h = tt
number_type I64 h = tt
number_type F32 h = tt
number_type F64 h = tt
number_type FuncRef h = cc

-- the type of a store's value is a number type
store_number : (op : ℕ) (access : Access) → store_of op ≡ Some access → IsNumber access.ty
store_number op access h =
    let p = cond_some (is_from I32_STORE I64_STORE32 op) (slice_get store_table (op - I32_STORE)) access h in
    number_type access.ty (item_passes (λ a. is_number a.ty) store_table (op - I32_STORE) access refl p.1)

module _ (s : Site) (program : Program) (meter : Meter) (has : HasHooks (imports_at s) program meter) (store : Store)
    (below : List Activation) (outer : Frame) (own : List Val) (whole : s.locals ≡ length own) where
  abbrev n : ℕ
  n = imports_at s

  -- the counts of the original's imports are unchanged
  pub counted_alike : (counts : List ℕ) (kind : Hook) → AreCounted n counts (leads.counted n program meter counts kind)
  counted_alike counts kind import less =
      let further : import < hook_func n kind = omega (arith, less) in
      get_before counts (hook_func n kind) import (slice_index counts (hook_func n kind) + 1) further

  -- inserted instructions make these hook calls, in the instrumented module's store, and leave the values unchanged
  pub record Reports (counts : List ℕ) (x : Scratch) (values : List Val) (is : List Instr) (calls : List HookCall)
      : Type 0 where
    pub after : List ℕ
    pub scratch : Scratch
    pub makes : pieces.Makes s program meter has (renumbered_view n store) below outer own whole counts x values is
        (map (renumbered_call n) calls) after scratch values
    pub counted : AreCounted n counts after

  -- no instruction is inserted
  pub reports_none : (counts : List ℕ) (x : Scratch) (values : List Val) → Reports counts x values [] []
  reports_none counts x values =
      record {
        after = counts;
        scratch = x;
        makes = pieces.nothing s program meter has (renumbered_view n store) below outer own whole counts x values;
        counted = λ import less. refl;
      }

  -- inserted instructions make these hook calls, with equal values and operands in place of the known ones
  pub reported_again : (counts : List ℕ) (x : Scratch) (values known operands taken : List Val) (is : List Instr)
      (calls : List Val → List HookCall) → values ≡ known → operands ≡ taken → Reports counts x known is (calls taken)
      → Reports counts x values is (calls operands)
  reported_again counts x values known operands taken is calls same alike reports =
      subst (λ v. Reports counts x v is (calls operands)) (sym same)
      (subst (λ o. Reports counts x known is (calls o)) (sym alike) reports)

  -- the code that passes one number to a hook
  pub reports_number_reported : (kind : Hook) → hooks.hook_params kind ≡ I32 ∷ [] → (counts : List ℕ) (x : Scratch)
      (values : List Val) (bits : ℕ) → Reports counts x values (reports_number s kind bits) (reported_number kind bits store)
  reports_number_reported kind params counts x values bits =
      record {
        after = leads.counted n program meter counts kind;
        scratch = x;
        makes = pieces.reports_one s program meter has (renumbered_view n store) below outer own whole kind params counts
            x
            values bits;
        counted = counted_alike counts kind;
      }

  module _ (counts : List ℕ) (x : Scratch) (code : Code) (frame : Frame) (next : Place) where
    -- the operands of a load, whether it traps or not
    loaded_operands : (memory : Memory) (access : Access) (operands rest : List Val) (o : Option (List ℕ))
        → operands_of (load_result store frame next memory access operands rest o) ≡ operands
    loaded_operands memory access operands rest None = refl
    loaded_operands memory access operands rest (Some bytes) = refl

    load_reported : (at : MemArg) (access : Access) (memory : Memory) (o : Option Operands)
        → pop (I32 ∷ []) frame.values ≡ o
        → (e : Execution)
        → e ≡ on o (λ p. load_result store frame next memory access p.operands p.rest
        (bytes_at memory.bytes (bits_at p.operands 0 + at.offset) access.width))
        → IsRule e
        → Reports counts x frame.values (before_load s at access)
        (reported Load
        (i32_value (bits_at (operands_of e) 0) ∷ i32_value at.offset ∷ i32_value access.width ∷ []) store)
    load_reported at access memory None popped e is rule = absurd (subst IsRule is rule)
    load_reported at access memory (Some p) popped e is rule =
        let t = one_taken I32 frame.values p popped in
        let operands : operands_of e ≡ i32_value t.a ∷ [] =
        ap operands_of is
        ∙ loaded_operands memory access p.operands p.rest
        (bytes_at memory.bytes (bits_at p.operands 0 + at.offset) access.width)
        ∙ t.operands_are
        in
        reported_again counts x frame.values (i32_value t.a ∷ p.rest) (operands_of e) (i32_value t.a ∷ [])
        (before_load s at access)
        (λ operands. reported Load
        (i32_value (bits_at operands 0) ∷ i32_value at.offset ∷ i32_value access.width ∷ []) store)
        t.values_are operands
        (record {
          after = leads.counted n program meter counts Load;
          scratch = with_address x t.a;
          makes = pieces.reports_load s program meter has (renumbered_view n store) below outer own whole counts x p.rest
              at
              access t.a;
          counted = counted_alike counts Load;
        })

    -- the code before a load
    pub before_loads : (at : MemArg) → IsRule (execute_plain code store frame next (instrs.Load at))
        → Reports counts x frame.values (inserted_before s (instrs.Load at))
        (reported_before (instrs.Load at) (operands_of (execute_plain code store frame next (instrs.Load at))) store)
    before_loads at rule = go (load_of at.op) store.memory rule
      where
        read : Access → Memory → Execution
        read access memory =
            takes frame (I32 ∷ []) (λ operands rest.
            load_result store frame next memory access operands rest
            (bytes_at memory.bytes (bits_at operands 0 + at.offset) access.width))

        go : (o : Option Access) (m : Option Memory)
            → IsRule (on o (λ access. on m (λ memory. read access memory)))
            → Reports counts x frame.values (hooks.on o (before_load s at))
            (hooks.on o (λ access.
            reported Load
            (i32_value (bits_at (operands_of (on o (λ access. on m (λ memory. read access memory)))) 0)
            ∷ i32_value at.offset ∷ i32_value access.width ∷ [])
            store))
        go None m rule = absurd rule
        go (Some access) None rule = absurd rule
        go (Some access) (Some memory) rule =
            load_reported at access memory (pop (I32 ∷ []) frame.values) refl (read access memory) refl rule

    -- the code before an instruction that reads the memory's size
    pub before_size : Reports counts x frame.values (inserted_before s instrs.MemorySize)
        (reported_before instrs.MemorySize [] store)
    before_size =
        record {
          after = leads.counted n program meter counts Size;
          scratch = x;
          makes = pieces.calls_hook s program meter has (renumbered_view n store) below outer own whole Size counts x
              frame.values frame.values [] (pop_none frame.values);
          counted = counted_alike counts Size;
        }

    -- ---- before a store

    stored_operands : (memory : Memory) (operands rest : List Val) (o : Option (List ℕ))
        → operands_of (store_result store frame next memory operands rest o) ≡ operands
    stored_operands memory operands rest None = refl
    stored_operands memory operands rest (Some bytes) = refl

    store_reported : (at : MemArg) (access : Access) (memory : Memory) → IsNumber access.ty → (o : Option Operands)
        → pop (I32 ∷ access.ty ∷ []) frame.values ≡ o
        → (e : Execution)
        → e ≡ on o (λ p. store_result store frame next memory p.operands p.rest
        (with_bytes_at memory.bytes (bits_at p.operands 0 + at.offset)
        (bytes_of access.width (bits_at p.operands 1))))
        → IsRule e
        → Reports counts x frame.values (before_store s at access)
        (reported ToStore
        (i32_value (bits_at (operands_of e) 0) ∷ i32_value at.offset ∷ i32_value access.width
        ∷ i64_value (bits_at (operands_of e) 1) ∷ [])
        store)
    store_reported at access memory number None popped e is rule = absurd (subst IsRule is rule)
    store_reported at access memory number (Some p) popped e is rule =
        let t = two_taken I32 access.ty frame.values p popped in
        let operands : operands_of e ≡ i32_value t.a ∷ typed access.ty t.b ∷ [] =
        ap operands_of is
        ∙ stored_operands memory p.operands p.rest
        (with_bytes_at memory.bytes (bits_at p.operands 0 + at.offset) (bytes_of access.width (bits_at p.operands 1)))
        ∙ t.operands_are
        in
        reported_again counts x frame.values (typed access.ty t.b ∷ i32_value t.a ∷ p.rest) (operands_of e)
        (i32_value t.a ∷ typed access.ty t.b ∷ []) (before_store s at access)
        (λ operands. reported ToStore
        (i32_value (bits_at operands 0) ∷ i32_value at.offset ∷ i32_value access.width
        ∷ i64_value (bits_at operands 1) ∷ [])
        store)
        t.values_are operands
        (record {
          after = leads.counted n program meter counts ToStore;
          scratch = with_address (with_value access.ty x t.b) t.a;
          makes = pieces.reports_store s program meter has (renumbered_view n store) below outer own whole counts x p.rest
              at
              access t.a t.b number;
          counted = counted_alike counts ToStore;
        })

    pub before_stores : (at : MemArg) → IsRule (execute_plain code store frame next (instrs.Store at))
        → Reports counts x frame.values (inserted_before s (instrs.Store at))
        (reported_before (instrs.Store at) (operands_of (execute_plain code store frame next (instrs.Store at))) store)
    before_stores at rule = go (store_of at.op) refl store.memory rule
      where
        written : Access → Memory → Execution
        written access memory =
            takes frame (I32 ∷ access.ty ∷ []) (λ operands rest.
            store_result store frame next memory operands rest
            (with_bytes_at memory.bytes (bits_at operands 0 + at.offset)
            (bytes_of access.width (bits_at operands 1))))

        go : (o : Option Access) → store_of at.op ≡ o → (m : Option Memory)
            → IsRule (on o (λ access. on m (λ memory. written access memory)))
            → Reports counts x frame.values (hooks.on o (before_store s at))
            (hooks.on o (λ access.
            reported ToStore
            (i32_value (bits_at (operands_of (on o (λ access. on m (λ memory. written access memory)))) 0)
            ∷ i32_value at.offset ∷ i32_value access.width
            ∷ i64_value (bits_at (operands_of (on o (λ access. on m (λ memory. written access memory)))) 1) ∷ [])
            store))
        go None e m rule = absurd rule
        go (Some access) e None rule = absurd rule
        go (Some access) e (Some memory) rule =
            store_reported at access memory (store_number at.op access e) (pop (I32 ∷ access.ty ∷ []) frame.values) refl
            (written access memory) refl rule
