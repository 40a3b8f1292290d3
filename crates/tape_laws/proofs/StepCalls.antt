-- The hook calls of an instruction observe what the instruction observes, as far as hooks report it.
use Rattle.std.proofs.Common.{◌≡◌, ℕ, ◌-◌, ◌≤◌, List, [], ◌∷◌, ◌++◌, length, take, Option, Some, None, Bool, true, false, cond, nat_eq, slice_get, refl, sym, ap, ◌∙◌, arith, length-append}
use Rattle.std.specs.Prelude.{option_map, unwrap_or}
use Rattle.std.specs.List.{slice_index_or}
use Rattle.std.proofs.lemmas.Bool.Decides.{nat_tests}
use Rattle.std.proofs.lemmas.List.{length-map, append-nil}
use Rattle.std.proofs.lemmas.Option.{slice_get-map}
use Rattle.wasm_syntax.specs.declared.limits.TheConstants.{MAX_PAGES}
use Rattle.wasm_syntax.specs.declared.values.ValType.{ValType}
use Rattle.wasm_syntax.specs.declared.values.ValType.TheVariants.{I32}
use Rattle.wasm_syntax.specs.declared.values.Val.{Val}
use Rattle.wasm_syntax.specs.declared.signatures.FuncType.{FuncType}
use Rattle.wasm_syntax.specs.declared.signatures.GlobalType.{GlobalType}
use Rattle.wasm_syntax.specs.declared.instructions.MemArg.{MemArg}
use Rattle.wasm_syntax.specs.declared.instructions.Instr.{Instr}
use Rattle.wasm_syntax.specs.declared.instructions.Instr.TheVariants as instrs
use Rattle.wasm_syntax.specs.Alike.{same_signature}
use Rattle.wasm_syntax.specs.Encoding.Forms.{IsCoreInstr}
use Rattle.wasm_syntax.specs.Opcodes.{Access, load_of, store_of}
use Rattle.history_spec.specs.Code.{Code, signature, i32_value}
use Rattle.history_spec.specs.Configuration.{Place, Frame}
use Rattle.history_spec.specs.Instruction.{Execution, Did, Traps, NoRule, Goes, Operands, on, pop, bits_at, calls_if, calls_entry, load_result, store_result, grow_result, execute_plain}
use Rattle.history_spec.specs.Store.{Store, Memory, Table, pages, grown_memory}
use Rattle.record_replay_spec.specs.Observations as replay
use Rattle.record_replay_spec.specs.Observations.{Observation, ReadsEntry, ReachesEntry, ReadsGlobal, WritesGlobal, Resizes, bits_from_top, entry_observations, grow_observations, plain_observations}
use Rattle.record_replay_spec.proofs.Operands.{AreOperands, popped, bits_same, one_typed}
use Rattle.record_replay_spec.specs.Hooks.{HookCall, renumber, renumbered_table}
use Rattle.record_replay_spec.specs.ReportedCalls.{reported_global, reported_before, reported_after, store_executed}
use Rattle.record_replay_spec.specs.Hooks as hooks
use Rattle.record_replay_spec.specs.Order.{HookedShape}
use Rattle.record_replay_spec.specs.Logs.{value_of_global}
use Rattle.record_replay_spec.specs.declared.hooks.Hook.TheVariants.{Gget, Gset}
use Rattle.tape_laws.specs.ReportedObservations.{is_mutable}
use Rattle.tape_laws.proofs.CallObservations.{seen_by, as_reported, load_calls, store_calls, copy_calls, fill_calls, size_calls}

-- a global's value, with the type that the global is declared with
pub record IsTypedGlobal (globals : List GlobalType) (x : ℕ) (value : Val) : Type 0 where
  pub ty : GlobalType
  pub declared : slice_get globals x ≡ Some ty
  pub typed : ty.ty ≡ value.ty

module _ (shape : HookedShape) (n : ℕ) (globals : List GlobalType) (same_globals : shape.globals ≡ globals) where
  abbrev seen : List HookCall → List Observation
  seen calls = seen_by shape n globals calls

  abbrev reported : List Observation → List Observation
  reported items = as_reported shape n globals items

  -- ---- the table

  table_as_reported : (index : ℕ) (o : Option Table)
      → replay.on (option_map (renumbered_table n) o) (entry_observations index) ++ []
      ≡ reported (replay.on o (entry_observations index))
  table_as_reported index None = refl
  table_as_reported index (Some table) =
      (λ i. ReachesEntry index (length-map table.entries (option_map (renumber n)) i)
      ∷ (replay.on (slice_get-map (option_map (renumber n)) table.entries index i) (λ func. ReadsEntry index func ∷ [])
      ++ []))
      ∙ ap (λ l. ReachesEntry index (length table.entries) ∷ l) (one (slice_get table.entries index))
    where
      one : (o : Option (Option ℕ))
          → replay.on (option_map (option_map (renumber n)) o) (λ func. ReadsEntry index func ∷ []) ++ []
          ≡ reported (replay.on o (λ func. ReadsEntry index func ∷ []))
      one None = refl
      one (Some func) = refl

  table_calls : (store : Store) (values operands : List Val) (params : List ValType) (t : ℕ)
      → AreOperands (params ++ I32 ∷ []) values operands
      → seen (reported_before (instrs.CallIndirect t) operands store)
      ≡ reported (plain_observations store values (instrs.CallIndirect t))
  table_calls store values operands params t are =
      table_as_reported (bits_at operands (length operands - 1)) store.table
      ∙ ap (λ index. reported (replay.on store.table (entry_observations index)))
      (bits_same are (length operands - 1) 0
      (let number = are.number in
      let long = length-append params (I32 ∷ []) in
      omega (arith, number, long)))

  -- ---- executions

  module _ (store : Store) (values : List Val) where
    -- the hook calls of an execution observe what its instruction observes
    abbrev pub IsReportedBy : Instr → Execution → Type 0
    IsReportedBy i (Did operands results found control) =
        seen
        (reported_before i operands store
        ++ reported_after globals i results (store_executed store (Did operands results found control)))
        ≡ reported (plain_observations store values i)
    IsReportedBy i (Traps kind operands found) =
        seen (reported_before i operands store) ≡ reported (plain_observations store values i)
    IsReportedBy i NoRule = Unit {0}

    pub record IsReported (i : Instr) (e : Execution) : Type 0 where
      pub reported : IsReportedBy i e

    on_reported : {X : Type 0} (i : Instr) (o : Option X) (go : X → Execution)
        → ((x : X) → o ≡ Some x → IsReported i (go x)) → IsReported i (on o go)
    on_reported i None go each = record { reported = tt }
    on_reported i (Some x) go each = each x refl

    -- an instruction without hook calls that observes nothing
    silent : (i : Instr) → ((operands : List Val) → reported_before i operands store ≡ [])
        → ((results : List Val) (view : Store) → reported_after globals i results view ≡ [])
        → plain_observations store values i ≡ [] → (e : Execution) → IsReported i e
    silent i before after none (Did operands results found control) = record {
      reported =
          (λ j. seen (before operands j ++ after results (store_executed store (Did operands results found control)) j))
          ∙ sym (ap reported none);
    }
    silent i before after none (Traps kind operands found) =
        record { reported = ap seen (before operands) ∙ sym (ap reported none) }
    silent i before after none NoRule = record { reported = tt }

    -- an instruction whose hook calls all come before it
    all_before : (calls : List HookCall) (items : List Observation) → seen calls ≡ reported items
        → seen (calls ++ []) ≡ reported items
    all_before calls items h = ap seen (append-nil calls) ∙ h

    module _ (code : Code) (frame : Frame) (next : Place) where
      load_reported : (at : MemArg) (memory : Memory) (access : Access) (p : Operands) → pop (I32 ∷ []) values ≡ Some p
          → (o : Option (List ℕ))
          → IsReported (instrs.Load at) (load_result store frame next memory access p.operands p.rest o)
      load_reported at memory access p e None =
          record { reported = load_calls shape n globals store values p.operands at (popped (I32 ∷ []) values p e) }
      load_reported at memory access p e (Some bytes) =
          record {
            reported =
                all_before (reported_before (instrs.Load at) p.operands store)
                (plain_observations store values (instrs.Load at))
                (load_calls shape n globals store values p.operands at (popped (I32 ∷ []) values p e));
          }

      store_reported : (i : Instr) (memory : Memory) (operands rest : List Val)
          → seen (reported_before i operands store) ≡ reported (plain_observations store values i)
          → ((view : Store) → reported_after globals i [] view ≡ []) → (o : Option (List ℕ))
          → IsReported i (store_result store frame next memory operands rest o)
      store_reported i memory operands rest h after None = record { reported = h }
      store_reported i memory operands rest h after (Some bytes) =
          record {
            reported =
                ap (λ l. seen (reported_before i operands store ++ l)) (after _)
                ∙ all_before (reported_before i operands store) (plain_observations store values i) h;
          }

      call_if_reported : (t : ℕ) (operands rest : List Val) (func : ℕ) (args : List Val)
          → seen (reported_before (instrs.CallIndirect t) operands store)
          ≡ reported (plain_observations store values (instrs.CallIndirect t)) → (b : Bool)
          → IsReported (instrs.CallIndirect t) (calls_if b frame next operands rest func args)
      call_if_reported t operands rest func args h true =
          record {
            reported =
                all_before (reported_before (instrs.CallIndirect t) operands store)
                (plain_observations store values (instrs.CallIndirect t)) h;
          }
      call_if_reported t operands rest func args h false = record { reported = h }

      entry_reported : (t : ℕ) (ty : FuncType) (table : Table) (operands rest : List Val)
          → seen (reported_before (instrs.CallIndirect t) operands store)
          ≡ reported (plain_observations store values (instrs.CallIndirect t)) → (o : Option (Option ℕ))
          → IsReported (instrs.CallIndirect t) (calls_entry code ty frame next table operands rest o)
      entry_reported t ty table operands rest h None = record { reported = h }
      entry_reported t ty table operands rest h (Some None) = record { reported = h }
      entry_reported t ty table operands rest h (Some (Some func)) =
          on_reported (instrs.CallIndirect t) (signature code func) _ (λ found e.
          call_if_reported t operands rest func (take (length ty.params) operands) h (same_signature ty found))

      -- the hook call after a growth reports the size that the growth finds
      grow_reported : (memory : Memory) → store.memory ≡ Some memory → pages memory ≤ MAX_PAGES → (p : Operands)
          → pop (I32 ∷ []) values ≡ Some p → (o : Option Memory) → grown_memory memory (bits_at p.operands 0) ≡ o
          → IsReported instrs.MemoryGrow (grow_result store frame next memory p.operands p.rest o)
      grow_reported memory is small p e o g = record { reported = go o g }
        where
          found : (o : Option Memory) → grown_memory memory (bits_at p.operands 0) ≡ o
              → Resizes (pages memory) (pages (unwrap_or o memory)) ∷ []
              ≡ reported (plain_observations store values instrs.MemoryGrow)
          found o g =
              ap (λ (o : Option Memory). Resizes (pages memory) (pages (unwrap_or o memory)) ∷ [])
              (sym g ∙ ap (grown_memory memory)
              (bits_same {types = I32 ∷ []} (popped (I32 ∷ []) values p e) 0 0 refl))
              ∙ sym (ap (λ (m : Option Memory). reported (replay.on m (grow_observations (bits_from_top values 0)))) is)

          go : (o : Option Memory) → grown_memory memory (bits_at p.operands 0) ≡ o
              → IsReportedBy instrs.MemoryGrow (grow_result store frame next memory p.operands p.rest o)
          go None g =
              ap (λ (m : Option Memory). replay.on m (λ memory. Resizes (pages memory) (pages memory) ∷ []) ++ []) is
              ∙ found None g
          go (Some larger) g =
              let other : nat_eq (pages memory) 0xFFFFFFFF ≡ false = grind (arith, nat_tests, small) in
              ap (λ b. Resizes (cond b (pages larger) (pages memory)) (pages larger) ∷ []) other
              ∙ found (Some larger) g

      -- a global is read
      get_reported : (x : ℕ) (value : Val) (after : Frame) → slice_get store.globals x ≡ Some value
          → IsTypedGlobal globals x value
          → IsReported (instrs.GlobalGet x)
          (Did [] (value ∷ []) None (Goes store after))
      get_reported x value after is typed = record {
        reported =
            ap
            (λ (o : Option GlobalType). seen
            (hooks.on o (λ ty. cond ty.mutable (reported_global Gget x value.bits store) [])))
            typed.declared
            ∙ by typed.ty.mutable
            ∙ sym
            (ap (λ (o : Option Val). reported (replay.on o (λ value. ReadsGlobal x value ∷ []))) is
            ∙ ap (λ (o : Option GlobalType). cond (is_mutable o) (ReadsGlobal x value ∷ []) [] ++ []) typed.declared);
      }
        where
          by : (b : Bool) → seen (cond b (reported_global Gget x value.bits store) [])
              ≡ cond b (ReadsGlobal x value ∷ []) [] ++ []
          by true =
              ap
              (λ (o : Option GlobalType). replay.on o (λ ty.
              ReadsGlobal x (value_of_global ty value.bits) ∷ []) ++ [])
              (ap (λ gs. slice_get gs x) same_globals ∙ typed.declared)
              ∙ ap (λ t. ReadsGlobal x (record { ty = t; bits = value.bits }) ∷ []) typed.typed
          by false = refl

      -- a global is set
      set_reported : (x : ℕ) (old : Val) → IsTypedGlobal globals x old → (p : Operands) → pop (old.ty ∷ []) values ≡ Some p
          → seen (reported_global Gset x (bits_at p.operands 0) store ++ [])
          ≡ reported (replay.on (slice_get values 0) (λ value. WritesGlobal x value ∷ []))
      set_reported x old typed p e =
          let are = popped (old.ty ∷ []) values p e in
          let value = slice_index_or p.operands 0 (i32_value 0) in
          ap
          (λ (o : Option GlobalType). replay.on o (λ ty.
          WritesGlobal x (value_of_global ty (bits_at p.operands 0)) ∷ []) ++ [])
          (ap (λ gs. slice_get gs x) same_globals ∙ typed.declared)
          ∙ ap (λ t. WritesGlobal x (record { ty = t; bits = value.bits }) ∷ [])
          (typed.typed ∙ sym (one_typed p.operands old.ty (i32_value 0) are.typed))
          ∙ sym
          (ap (λ (o : Option Val). reported (replay.on o (λ value. WritesGlobal x value ∷ [])))
          (are.at 0 0 (i32_value 0) refl))

    -- ---- any instruction

    module _ (code : Code) (frame : Frame) (next : Place) (same_values : frame.values ≡ values)
        (typed : (x : ℕ) (value : Val) → slice_get store.globals x ≡ Some value → IsTypedGlobal globals x value)
        (small : (memory : Memory) → store.memory ≡ Some memory → pages memory ≤ MAX_PAGES) where
      popped_is : (types : List ValType) (p : Operands) → pop types frame.values ≡ Some p → pop types values ≡ Some p
      popped_is types p h = ap (pop types) (sym same_values) ∙ h

      -- a range of bytes is written, by three operands
      range_reported : (i : Instr) (written : Memory → Operands → Option (List ℕ))
          → ((p : Operands) → pop (I32 ∷ I32 ∷ I32 ∷ []) values ≡ Some p
          → seen (reported_before i p.operands store) ≡ reported (plain_observations store values i))
          → ((view : Store) → reported_after globals i [] view ≡ [])
          → IsReported i
          (on store.memory (λ memory. on (pop (I32 ∷ I32 ∷ I32 ∷ []) frame.values)
          (λ p. store_result store frame next memory p.operands p.rest (written memory p))))
      range_reported i written before after =
          on_reported i store.memory _ (λ memory is.
          on_reported i (pop (I32 ∷ I32 ∷ I32 ∷ []) frame.values) _ (λ p e.
          store_reported code frame next i memory p.operands p.rest (before p (popped_is (I32 ∷ I32 ∷ I32 ∷ []) p e)) after
          (written memory p)))

      pub plain_reported : (i : Instr) → IsCoreInstr i → IsReported i (execute_plain code store frame next i)
      plain_reported (instrs.Call func) h = called (execute_plain code store frame next (instrs.Call func))
        where
          called : (e : Execution) → IsReported (instrs.Call func) e
          called (Did operands results found control) = record { reported = refl }
          called (Traps kind operands found) = record { reported = refl }
          called NoRule = record { reported = tt }
      plain_reported (instrs.CallIndirect t) h =
          on_reported (instrs.CallIndirect t) (slice_get code.types t) _ (λ ty y.
          on_reported (instrs.CallIndirect t) store.table _ (λ table is.
          on_reported (instrs.CallIndirect t) (pop (ty.params ++ I32 ∷ []) frame.values) _ (λ p e.
          entry_reported code frame next t ty table p.operands p.rest
          (table_calls store values p.operands ty.params t (popped (ty.params ++ I32 ∷ []) values p (popped_is (ty.params ++ I32 ∷ []) p e))) _)))
      plain_reported (instrs.Load at) h =
          on_reported (instrs.Load at) (load_of at.op) _ (λ access a.
          on_reported (instrs.Load at) store.memory _ (λ memory is.
          on_reported (instrs.Load at) (pop (I32 ∷ []) frame.values) _ (λ p e.
          load_reported code frame next at memory access p (popped_is (I32 ∷ []) p e) _)))
      plain_reported (instrs.Store at) h =
          on_reported (instrs.Store at) (store_of at.op) _ (λ access a.
          on_reported (instrs.Store at) store.memory _ (λ memory is.
          on_reported (instrs.Store at) (pop (I32 ∷ access.ty ∷ []) frame.values) _ (λ p e.
          store_reported code frame next (instrs.Store at) memory p.operands p.rest
          (store_calls shape n globals store values p.operands access.ty at (popped (I32 ∷ access.ty ∷ []) values p (popped_is (I32 ∷ access.ty ∷ []) p e)))
          (λ view. refl) _)))
      plain_reported instrs.MemoryCopy h =
          range_reported instrs.MemoryCopy _ (λ p e. copy_calls shape n globals store values p.operands
          (popped (I32 ∷ I32 ∷ I32 ∷ []) values p e)) (λ view. refl)
      plain_reported instrs.MemoryFill h =
          range_reported instrs.MemoryFill _ (λ p e. fill_calls shape n globals store values p.operands
          (popped (I32 ∷ I32 ∷ I32 ∷ []) values p e)) (λ view. refl)
      plain_reported instrs.MemorySize h =
          on_reported instrs.MemorySize store.memory _ (λ memory is. record { reported = size_calls shape n globals store values })
      plain_reported instrs.MemoryGrow h =
          on_reported instrs.MemoryGrow store.memory _ (λ memory is.
          on_reported instrs.MemoryGrow (pop (I32 ∷ []) frame.values) _ (λ p e.
          grow_reported code frame next memory is (small memory is) p (popped_is (I32 ∷ []) p e) _ refl))
      plain_reported (instrs.GlobalGet x) h =
          on_reported (instrs.GlobalGet x) (slice_get store.globals x) _ (λ value is.
          get_reported code frame next x value _ is (typed x value is))
      plain_reported (instrs.GlobalSet x) h =
          on_reported (instrs.GlobalSet x) (slice_get store.globals x) _ (λ old is.
          on_reported (instrs.GlobalSet x) (pop (old.ty ∷ []) frame.values) _ (λ p e.
          record { reported = set_reported code frame next x old (typed x old is) p (popped_is (old.ty ∷ []) p e) }))
      plain_reported instrs.RefNull h = absurd h
      plain_reported (instrs.RefFunc func) h = absurd h
      plain_reported (instrs.TableSet t) h = absurd h
      plain_reported (instrs.TableGrow t) h = absurd h
      plain_reported (instrs.TableSize t) h = absurd h
      plain_reported i h = silent i (λ operands. refl) (λ results view. refl) refl (execute_plain code store frame next i)
