-- The hook calls of an instruction that calls nothing are in order if control is in a function and no value is
-- pending.
use Rattle.std.proofs.Common.{◌≡◌, ℕ, zero, suc, ◌-◌, ◌<◌, ◌^◌, List, [], ◌∷◌, ◌++◌, length, Option, Some, None, Bool, true, false, cond, ◌&&◌, slice_get, refl, sym, ap, ◌∙◌, subst, arith}
use Rattle.std.specs.List.{list_all, slice_index_or}
use Rattle.std.proofs.lemmas.Bool.Decides.{nat_tests}
use Rattle.std.proofs.lemmas.Option.{none-some, same_Some}
use Rattle.base.proofs.Booleans.{and_true}
use Rattle.base.proofs.Lists.{item_passes}
use Rattle.base.proofs.Lists.{joined_all}
use Rattle.wasm_syntax.specs.declared.values.ValType.{ValType}
use Rattle.wasm_syntax.specs.declared.values.ValType.TheVariants.{I32, I64, F32, F64, FuncRef}
use Rattle.wasm_syntax.specs.declared.values.Val.{Val}
use Rattle.wasm_syntax.specs.declared.signatures.FuncType.{FuncType}
use Rattle.wasm_syntax.specs.declared.signatures.GlobalType.{GlobalType}
use Rattle.wasm_syntax.specs.declared.signatures.Limits.{Limits}
use Rattle.wasm_syntax.specs.declared.instructions.MemArg.{MemArg}
use Rattle.wasm_syntax.specs.declared.instructions.Instr.{Instr}
use Rattle.wasm_syntax.specs.declared.instructions.Instr.TheVariants as instrs
use Rattle.wasm_syntax.specs.declared.modules.Module.{Module}
use Rattle.wasm_syntax.specs.Alike.{same_types}
use Rattle.wasm_syntax.specs.Encoding.Forms.{IsCoreInstr}
use Rattle.wasm_syntax.specs.Index.{imported_funcs, all_globals, all_memories}
use Rattle.wasm_syntax.specs.Opcodes.{Access, load_table, store_table, load_of, store_of, is_from}
use Rattle.wasm_syntax.specs.Typing.{is_number}
use Rattle.history_spec.specs.Code.{Code, code_of, signature, i32_value, types_of}
use Rattle.history_spec.specs.Configuration.{Place, Frame}
use Rattle.history_spec.specs.Instruction.{Execution, Did, Traps, NoRule, Goes, Operands, on, pop, bits_at, load_result, store_result, grow_result, execute_plain}
use Rattle.history_spec.specs.Store.{Store, Memory}
use Rattle.record_replay_spec.proofs.Operands.{popped, one_typed}
use Rattle.type_safety.specs.Stores.{MayBeMemory}
use Rattle.type_safety.specs.Values.{count_of, AreValues}
use Rattle.record_replay_spec.specs.declared.hooks.Hook.{Hook}
use Rattle.record_replay_spec.specs.declared.hooks.Hook.TheVariants.{Load, Store as ToStore, Size, Grow, Gget, Gset, Copy, Fill}
use Rattle.record_replay_spec.specs.Hooks as hooks
use Rattle.record_replay_spec.specs.Hooks.{HookCall, hook_params, renumbered_view}
use Rattle.record_replay_spec.specs.ReportedCalls.{i64_value, reported, reported_global, reported_before, reported_after, store_executed}
use Rattle.record_replay_spec.specs.Order.{HookedShape, OrderState, is_some_there, may_report, bits_fit, is_width, fits_global, stays, ordered_kind, when}
use Rattle.record_replay_spec.specs.Logs.{notices_size, own_events}
use Rattle.tape_laws.proofs.CoreFrames.{IsNoCall}
use Rattle.tape_laws.proofs.MutableGlobals.{SetsMutable}
use Rattle.tape_laws.proofs.Trails.{IsReportable, AreReportable}

-- the facts about a module on which the order of its hook calls depends, as the instrumented module has them
pub record IsShapeOf (m : Module) (shape : HookedShape) : Type 0 where
  pub imports : shape.imports ≡ imported_funcs m
  pub defined : shape.defined ≡ length m.funcs
  pub type_of : (func : ℕ) (ty : FuncType) → signature (code_of m) func ≡ Some ty → shape.type_of func ≡ Some ty
  pub memory : shape.memory ≡ is_some_there (all_memories m)
  pub globals : shape.globals ≡ all_globals m

-- ---- widths

width_passes : (table : List Access) (first last op : ℕ) (access : Access)
    → list_all (λ (a : Access). is_width a.width) table ≡ true
    → cond (is_from first last op) (slice_get table (op - first)) None ≡ Some access → is_width access.width ≡ true
width_passes table first last op access all is = by (is_from first last op) is
  where
    by : (b : Bool) → cond b (slice_get table (op - first)) None ≡ Some access → is_width access.width ≡ true
    by true e = item_passes (λ (a : Access). is_width a.width) table (op - first) access all e
    by false e = cc

load_width : (op : ℕ) (access : Access) → load_of op ≡ Some access → is_width access.width ≡ true
load_width op access is = width_passes load_table 0x28 0x35 op access refl is

store_width : (op : ℕ) (access : Access) → store_of op ≡ Some access → is_width access.width ≡ true
store_width op access is = width_passes store_table 0x36 0x3E op access refl is

-- ---- values

pub fits_number : (n : ℕ) (ty : ValType) (bits : ℕ) → is_number ty ≡ true → bits < count_of n ty
    → bits_fit ty bits ≡ true
fits_number n I32 bits h below = let b : bits < 2 ^ 32 = below in grind (arith, nat_tests, b)
fits_number n I64 bits h below = let b : bits < 2 ^ 64 = below in grind (arith, nat_tests, b)
fits_number n F32 bits h below = let b : bits < 2 ^ 32 = below in grind (arith, nat_tests, b)
fits_number n F64 bits h below = let b : bits < 2 ^ 64 = below in grind (arith, nat_tests, b)
fits_number n FuncRef bits h below = cc

pub in_range : (n : ℕ) (types : List ValType) (values : List Val) (x : ℕ) (value : Val) → AreValues n types values
    → slice_get values x ≡ Some value → value.bits < count_of n value.ty
in_range n [] [] x value are h = absurd (none-some value h)
in_range n [] (v ∷ values) x value are h = absurd are
in_range n (t ∷ types) [] x value are h = absurd are
in_range n (t ∷ types) (v ∷ values) zero value are h =
    subst (λ w. w.bits < count_of n w.ty) (same_Some v value h)
    (subst (λ ty. v.bits < count_of n ty) (sym are.0.typed) are.0.in_range)
in_range n (t ∷ types) (v ∷ values) (suc x) value are h = in_range n types values x value are.1 h

pub memory_there : (limits : List Limits) (o : Option Memory) (memory : Memory) → MayBeMemory limits o
    → o ≡ Some memory → is_some_there limits ≡ true
memory_there limits None memory h e = absurd (none-some memory e)
memory_there [] (Some own) memory h e = absurd h
memory_there (l ∷ limits) (Some own) memory h e = refl

module _ (m : Module) (shape : HookedShape) (is : IsShapeOf m shape) where
  stays_here : (order : OrderState) (test : Bool) → may_report order ≡ true → test ≡ true
      → stays order test ≡ Some order
  stays_here order test may e = (λ i. when (may i && e i) order)

  reportable : (kind : Hook) (args : List Val) (view : Store)
      → same_types (hook_params kind) (types_of args) ≡ true
      → ((order : OrderState) → may_report order ≡ true
      → ordered_kind shape order kind args (renumbered_view (imported_funcs m) view) ≡ Some order)
      → ((n : ℕ) (pending : List Val) (now : Store) → own_events n pending kind args now ≡ [])
      → notices_size kind ≡ false
      → IsReportable m shape (record { kind = kind; args = args; view = view })
  reportable kind args view typed ordered own quiet =
      record {
        ordered = λ order may.
            ap
            (λ b. cond b (ordered_kind shape order kind args (renumbered_view (imported_funcs m) view)) None) typed
            ∙ ordered order may;
        own = own;
        quiet = quiet;
      }

  module _ (store : Store) (values : List Val) where
    abbrev pub AreReportedWell : Instr → Execution → Type 0
    AreReportedWell i (Did operands results found control) =
        AreReportable m shape
        (reported_before i operands store
        ++ reported_after (all_globals m) i results (store_executed store (Did operands results found control)))
    AreReportedWell i (Traps kind operands found) = AreReportable m shape (reported_before i operands store)
    AreReportedWell i NoRule = Unit {0}

    pub record ReportsWell (i : Instr) (e : Execution) : Type 0 where
      pub reports : AreReportedWell i e

    on_well : {X : Type 0} (i : Instr) (o : Option X) (go : X → Execution)
        → ((x : X) → o ≡ Some x → ReportsWell i (go x)) → ReportsWell i (on o go)
    on_well i None go each = record { reports = tt }
    on_well i (Some x) go each = each x refl

    silent : (i : Instr) → ((operands : List Val) → reported_before i operands store ≡ [])
        → ((results : List Val) (view : Store) → reported_after (all_globals m) i results view ≡ [])
        → (e : Execution) → ReportsWell i e
    silent i before after (Did operands results found control) =
        record {
          reports =
              subst (AreReportable m shape)
              (λ j. sym (before operands) j
              ++ sym (after results (store_executed store (Did operands results found control))) j)
              tt;
        }
    silent i before after (Traps kind operands found) =
        record { reports = subst (AreReportable m shape) (sym (before operands)) tt }
    silent i before after NoRule = record { reports = tt }

    -- all hook calls of an instruction come before it
    all_before : (calls : List HookCall) → AreReportable m shape calls → AreReportable m shape (calls ++ [])
    all_before calls h = joined_all (IsReportable m shape) calls [] h tt

    module _ (code : Code) (frame : Frame) (next : Place) where
      load_well : (at : MemArg) (memory : Memory) (access : Access) (operands rest : List Val)
          → AreReportable m shape (reported_before (instrs.Load at) operands store) → (o : Option (List ℕ))
          → ReportsWell (instrs.Load at) (load_result store frame next memory access operands rest o)
      load_well at memory access operands rest h None = record { reports = h }
      load_well at memory access operands rest h (Some bytes) =
          record { reports = all_before (reported_before (instrs.Load at) operands store) h }

      store_well : (i : Instr) (memory : Memory) (operands rest : List Val)
          → AreReportable m shape (reported_before i operands store)
          → ((view : Store) → reported_after (all_globals m) i [] view ≡ []) → (o : Option (List ℕ))
          → ReportsWell i (store_result store frame next memory operands rest o)
      store_well i memory operands rest h after None = record { reports = h }
      store_well i memory operands rest h after (Some bytes) =
          record {
            reports =
                subst (λ l. AreReportable m shape (reported_before i operands store ++ l)) (sym (after _))
                (all_before (reported_before i operands store) h);
          }

      -- the memory exists
      module _ (here : shape.memory ≡ true) where
        access_reports : (base offset width : ℕ) (view : Store) → is_width width ≡ true
            → IsReportable m shape
            (record {
              kind = Load;
              args = i32_value base ∷ i32_value offset ∷ i32_value width ∷ [];
              view = view;
            })
        access_reports base offset width view w =
            reportable Load (i32_value base ∷ i32_value offset ∷ i32_value width ∷ []) view refl
            (λ order may. stays_here order (shape.memory && is_width width) may
            (and_true shape.memory (is_width width) here w))
            (λ n pending now. refl) refl

        store_reports : (base offset width : ℕ) (bits : Val) (view : Store) → bits.ty ≡ I64 → is_width width ≡ true
            → IsReportable m shape
            (record {
              kind = ToStore;
              args = i32_value base ∷ i32_value offset ∷ i32_value width ∷ bits ∷ [];
              view = view;
            })
        store_reports base offset width bits view t w =
            reportable ToStore (i32_value base ∷ i32_value offset ∷ i32_value width ∷ bits ∷ []) view
            (ap (λ ty. same_types (I32 ∷ I32 ∷ I32 ∷ I64 ∷ []) (I32 ∷ I32 ∷ I32 ∷ ty ∷ [])) t)
            (λ order may. stays_here order (shape.memory && is_width width) may
            (and_true shape.memory (is_width width) here w))
            (λ n pending now. refl) refl

        size_reports : (view : Store) → IsReportable m shape (record { kind = Size; args = []; view = view })
        size_reports view =
            reportable Size [] view refl (λ order may. stays_here order shape.memory may here)
            (λ n pending now. refl) refl

        grow_reports : (bits : ℕ) (view : Store)
            → IsReportable m shape (record { kind = Grow; args = i32_value bits ∷ []; view = view })
        grow_reports bits view =
            reportable Grow (i32_value bits ∷ []) view refl (λ order may. stays_here order shape.memory may here)
            (λ n pending now. refl) refl

        copy_reports : (operands : List Val) (view : Store) → types_of operands ≡ I32 ∷ I32 ∷ I32 ∷ []
            → IsReportable m shape (record { kind = Copy; args = operands; view = view })
        copy_reports operands view t =
            reportable Copy operands view (ap (same_types (I32 ∷ I32 ∷ I32 ∷ [])) t)
            (λ order may. stays_here order shape.memory may here) (λ n pending now. refl) refl

        fill_reports : (operands : List Val) (view : Store) → types_of operands ≡ I32 ∷ I32 ∷ I32 ∷ []
            → IsReportable m shape (record { kind = Fill; args = operands; view = view })
        fill_reports operands view t =
            reportable Fill operands view (ap (same_types (I32 ∷ I32 ∷ I32 ∷ [])) t)
            (λ order may. stays_here order shape.memory may here) (λ n pending now. refl) refl

        grow_well : (memory : Memory) (operands rest : List Val) (o : Option Memory)
            → ReportsWell instrs.MemoryGrow (grow_result store frame next memory operands rest o)
        grow_well memory operands rest None = record { reports = (grow_reports _ _, tt) }
        grow_well memory operands rest (Some larger) = record { reports = (grow_reports _ _, tt) }

      -- a mutable global, and bits that fit it
      global_fits : (x bits : ℕ) (g : GlobalType) → slice_get (all_globals m) x ≡ Some g → g.mutable ≡ true
          → bits_fit g.ty bits ≡ true → fits_global (slice_get shape.globals x) bits ≡ true
      global_fits x bits g there mutable fits =
          ap (λ o. fits_global o bits) (ap (λ gs. slice_get gs x) is.globals ∙ there)
          ∙ and_true g.mutable (bits_fit g.ty bits) mutable fits

      -- a hook call that reports a global with fitting bits is in order
      abbrev ReportsGlobal : Hook → Type 0
      ReportsGlobal kind =
          (x bits : ℕ) (view : Store) → fits_global (slice_get shape.globals x) bits ≡ true
          → AreReportable m shape (reported_global kind x bits view)

      abbrev global_args : (x bits : ℕ) → List Val
      global_args x bits = i32_value x ∷ record { ty = I64; bits = bits } ∷ []

      -- what the order requires of a hook call for a global
      global_stays : (x bits : ℕ) → fits_global (slice_get shape.globals x) bits ≡ true → (order : OrderState)
          → may_report order ≡ true → stays order (fits_global (slice_get shape.globals x) bits) ≡ Some order
      global_stays x bits fits order may = stays_here order (fits_global (slice_get shape.globals x) bits) may fits

      get_reports : ReportsGlobal Gget
      get_reports x bits view fits =
          (reportable Gget (global_args x bits) view refl (global_stays x bits fits) (λ n pending now. refl) refl, tt)

      set_reports : ReportsGlobal Gset
      set_reports x bits view fits =
          (reportable Gset (global_args x bits) view refl (global_stays x bits fits) (λ n pending now. refl) refl, tt)

    -- ---- any instruction but calls

    -- a global of the store: its type, and that its bits fit
    pub record IsFine (x : ℕ) (value : Val) : Type 0 where
      pub ty : GlobalType
      pub declared : slice_get (all_globals m) x ≡ Some ty
      pub typed : ty.ty ≡ value.ty
      pub fits : bits_fit ty.ty value.bits ≡ true

    module _ (code : Code) (frame : Frame) (next : Place)
        (memory_here : (memory : Memory) → store.memory ≡ Some memory → shape.memory ≡ true)
        (fine : (x : ℕ) (value : Val) → slice_get store.globals x ≡ Some value → IsFine x value)
        (top : (value : Val) → slice_get frame.values 0 ≡ Some value → is_number value.ty ≡ true
        → bits_fit value.ty value.bits ≡ true)
        (number : (x : ℕ) (g : GlobalType) → slice_get (all_globals m) x ≡ Some g → is_number g.ty ≡ true) where
      get_well : (x : ℕ) (value : Val) (after : Frame) → IsFine x value
          → ReportsWell (instrs.GlobalGet x) (Did [] (value ∷ []) None (Goes store after))
      get_well x value after f =
          record {
            reports =
                subst
                (λ (o : Option GlobalType). AreReportable m shape
                (hooks.on o (λ ty. cond ty.mutable (reported_global Gget x value.bits store) [])))
                (sym f.declared) (by f.ty.mutable refl);
          }
        where
          by : (b : Bool) → f.ty.mutable ≡ b
              → AreReportable m shape (cond b (reported_global Gget x value.bits store) [])
          by false e = tt
          by true e =
              get_reports code frame next x value.bits store
              (global_fits code frame next x value.bits f.ty f.declared e f.fits)

      set_well : (x : ℕ) (old : Val) (after : Frame) (left : Store) → IsFine x old
          → (g : GlobalType) → slice_get (all_globals m) x ≡ Some g → g.mutable ≡ true → (p : Operands)
          → pop (old.ty ∷ []) frame.values ≡ Some p
          → ReportsWell (instrs.GlobalSet x) (Did p.operands [] None (Goes left after))
      set_well x old after left f g there mutable p e =
          let are = popped (old.ty ∷ []) frame.values p e in
          let value = slice_index_or p.operands 0 (i32_value 0) in
          let same : f.ty ≡ g = same_Some f.ty g (sym f.declared ∙ there) in
          let typed : value.ty ≡ g.ty =
          one_typed p.operands old.ty (i32_value 0) are.typed ∙ sym f.typed ∙ ap (λ (t : GlobalType). t.ty) same in
          let fits : bits_fit value.ty value.bits ≡ true =
          top value (are.at 0 0 (i32_value 0) refl) (ap is_number typed ∙ number x g there) in
          record {
            reports =
                all_before (reported_global Gset x value.bits store)
                (set_reports code frame next x value.bits store
                (global_fits code frame next x value.bits g there mutable
                (ap (λ ty. bits_fit ty value.bits) (sym typed) ∙ fits)));
          }

      -- an instruction that writes a range of the memory, which three operands give
      range_well : (i : Instr) (written : Memory → Operands → Option (List ℕ))
          → ((memory : Memory) → store.memory ≡ Some memory → (operands : List Val)
          → types_of operands ≡ I32 ∷ I32 ∷ I32 ∷ [] → AreReportable m shape (reported_before i operands store))
          → ((view : Store) → reported_after (all_globals m) i [] view ≡ [])
          → ReportsWell i
          (on store.memory (λ memory. on (pop (I32 ∷ I32 ∷ I32 ∷ []) frame.values)
          (λ p. store_result store frame next memory p.operands p.rest (written memory p))))
      range_well i written before after =
          on_well i store.memory _ (λ memory here.
          on_well i (pop (I32 ∷ I32 ∷ I32 ∷ []) frame.values) _ (λ p e.
          store_well code frame next i memory p.operands p.rest
          (before memory here p.operands (popped (I32 ∷ I32 ∷ I32 ∷ []) frame.values p e).typed) after
          (written memory p)))

      pub plain_well : (i : Instr) → IsCoreInstr i → IsNoCall (Some i) → SetsMutable m i
          → ReportsWell i (execute_plain code store frame next i)
      plain_well (instrs.Call func) h none sets = absurd none
      plain_well (instrs.CallIndirect t) h none sets = absurd none
      plain_well (instrs.Load at) h none sets =
          on_well (instrs.Load at) (load_of at.op) _ (λ access a.
          on_well (instrs.Load at) store.memory _ (λ memory here.
          on_well (instrs.Load at) (pop (I32 ∷ []) frame.values) _ (λ p e.
          load_well code frame next at memory access p.operands p.rest
          (subst
          (λ (o : Option Access). AreReportable m shape
          (hooks.on o (λ access. reported Load
          (i32_value (bits_at p.operands 0) ∷ i32_value at.offset ∷ i32_value access.width ∷ []) store)))
          (sym a) (
            access_reports code frame next (memory_here memory here) (bits_at p.operands 0) at.offset access.width store
                (load_width at.op access a),
            tt,
          )) _)))
      plain_well (instrs.Store at) h none sets =
          on_well (instrs.Store at) (store_of at.op) _ (λ access a.
          on_well (instrs.Store at) store.memory _ (λ memory here.
          on_well (instrs.Store at) (pop (I32 ∷ access.ty ∷ []) frame.values) _ (λ p e.
          store_well code frame next (instrs.Store at) memory p.operands p.rest
          (subst
          (λ (o : Option Access). AreReportable m shape
          (hooks.on o (λ access. reported ToStore
          (i32_value (bits_at p.operands 0) ∷ i32_value at.offset ∷ i32_value access.width
          ∷ i64_value (bits_at p.operands 1) ∷ []) store)))
          (sym a) (
            store_reports code frame next (memory_here memory here) (bits_at p.operands 0) at.offset access.width
                (i64_value (bits_at p.operands 1)) store refl (store_width at.op access a),
            tt,
          ))
          (λ view. refl) _)))
      plain_well instrs.MemoryCopy h none sets =
          range_well instrs.MemoryCopy _ (λ memory here operands t. (
            copy_reports code frame next (memory_here memory here) operands store t,
            tt,
          )) (λ view. refl)
      plain_well instrs.MemoryFill h none sets =
          range_well instrs.MemoryFill _ (λ memory here operands t. (
            fill_reports code frame next (memory_here memory here) operands store t,
            tt,
          )) (λ view. refl)
      plain_well instrs.MemorySize h none sets =
          on_well instrs.MemorySize store.memory _ (λ memory here.
          record { reports = (size_reports code frame next (memory_here memory here) store, tt) })
      plain_well instrs.MemoryGrow h none sets =
          on_well instrs.MemoryGrow store.memory _ (λ memory here.
          on_well instrs.MemoryGrow (pop (I32 ∷ []) frame.values) _ (λ p e.
          grow_well code frame next (memory_here memory here) memory p.operands p.rest _))
      plain_well (instrs.GlobalGet x) h none sets =
          on_well (instrs.GlobalGet x) (slice_get store.globals x) _ (λ value here.
          get_well x value _ (fine x value here))
      plain_well (instrs.GlobalSet x) h none sets =
          on_well (instrs.GlobalSet x) (slice_get store.globals x) _ (λ old here.
          on_well (instrs.GlobalSet x) (pop (old.ty ∷ []) frame.values) _ (λ p e.
          set_well x old _ _ (fine x old here) sets.0 sets.1 sets.2 p e))
      plain_well instrs.RefNull h none sets = absurd h
      plain_well (instrs.RefFunc func) h none sets = absurd h
      plain_well (instrs.TableSet t) h none sets = absurd h
      plain_well (instrs.TableGrow t) h none sets = absurd h
      plain_well (instrs.TableSize t) h none sets = absurd h
      plain_well i h none sets =
          silent i (λ operands. refl) (λ results view. refl) (execute_plain code store frame next i)
