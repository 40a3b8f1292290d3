-- The code inserted before a global is set, before a copy and before a fill makes the hook calls of the original's
-- step.
use Rattle.std.proofs.Common.{◌≡◌, ℕ, ◌%◌, ◌^◌, ◌<◌, List, [], ◌∷◌, length, Option, Some, None, slice_get, refl, sym, ap, subst, arith}
use Rattle.wasm_syntax.specs.declared.values.ValType.TheVariants.{I32}
use Rattle.wasm_syntax.specs.declared.values.Val.{Val}
use Rattle.wasm_syntax.specs.declared.signatures.GlobalType.{GlobalType}
use Rattle.wasm_syntax.specs.declared.instructions.Instr.{Instr}
use Rattle.wasm_syntax.specs.declared.instructions.Instr.TheVariants as instrs
use Rattle.wasm_syntax.specs.Index.{all_globals}
use Rattle.wasm_numeric.specs.Integer.{wrap}
use Rattle.history_spec.specs.Store.{Store, Memory, with_bytes_copied, with_bytes_filled}
use Rattle.history_spec.specs.Code.{Code, i32_value}
use Rattle.history_spec.specs.Configuration.{Place, Frame, Activation}
use Rattle.history_spec.specs.Instruction.{Execution, Operands, on, pop, takes, bits_at, store_result, execute_plain}
use Rattle.history_spec.specs.Step.{Program}
use Rattle.history_spec.specs.Run.{Meter}
use Rattle.record_replay_spec.specs.declared.hooks.Hook.{Hook}
use Rattle.record_replay_spec.specs.declared.hooks.Hook.TheVariants.{Gset, Copy, Fill}
use Rattle.record_replay_spec.specs.Hooks as hooks
use Rattle.record_replay_spec.specs.Hooks.{HookCall, renumbered_view}
use Rattle.record_replay_spec.specs.Insertions.{Site, imports_at, reports_global, reports_range, inserted_before}
use Rattle.record_replay_spec.specs.ReportedCalls.{reported, reported_global, reported_before}
use Rattle.instrumented_run_laws.proofs.Leads as leads
use Rattle.instrumented_run_laws.proofs.PieceSteps.{typed}
use Rattle.instrumented_run_laws.proofs.Scratch.{Scratch, with_value, IsNumber}
use Rattle.instrumented_run_laws.proofs.Taken.{one_taken, three_taken}
use Rattle.instrumented_run_laws.proofs.Pieces as pieces
use Rattle.instrumented_run_laws.proofs.Pieces.{HasHooks}
use Rattle.instrumented_run_laws.proofs.Before as before
use Rattle.instrumented_run_laws.proofs.Before.{operands_of, IsRule}

-- a global's value, with the declared number type
pub record IsNumberGlobal (globals : List GlobalType) (x : ℕ) (value : Val) : Type 0 where
  pub ty : GlobalType
  pub declared : slice_get globals x ≡ Some ty
  pub typed : ty.ty ≡ value.ty
  pub number : IsNumber ty.ty

module _ (s : Site) (program : Program) (meter : Meter) (has : HasHooks (imports_at s) program meter) (store : Store)
    (below : List Activation) (outer : Frame) (own : List Val) (whole : s.locals ≡ length own) (counts : List ℕ)
    (x : Scratch) where
  abbrev Reports : List Val → List Instr → List HookCall → Type 0
  Reports = before.Reports s program meter has store below outer own whole counts x

  -- the code inserted before an instruction makes the hook calls before it, if the instruction has a rule
  pub record ReportsBefore (values : List Val) (i : Instr) (e : Execution) : Type 0 where
    pub reports : IsRule e → Reports values (inserted_before s i) (reported_before i (operands_of e) store)

  pub on_reports : {X : Type 0} (values : List Val) (i : Instr) (o : Option X) (go : X → Execution)
      → ((y : X) → o ≡ Some y → ReportsBefore values i (go y)) → ReportsBefore values i (on o go)
  on_reports values i None go each = record { reports = λ rule. absurd rule }
  on_reports values i (Some y) go each = each y refl

  -- ---- a global

  global_reported : (values : List Val) (global : ℕ) (old : Val) → IsNumberGlobal (all_globals s.m) global old
      → (p : Operands) → pop (old.ty ∷ []) values ≡ Some p
      → Reports values (inserted_before s (instrs.GlobalSet global)) (reported_global Gset global (bits_at p.operands 0)
      store)
  global_reported values global old g p popped =
      let t = one_taken old.ty values p popped in
      subst
      (λ o. Reports values (hooks.on o (λ (ty : GlobalType). reports_global s Gset global ty.ty))
      (reported_global Gset global (bits_at p.operands 0) store))
      (sym g.declared)
      (subst (λ ty. Reports values (reports_global s Gset global ty) (reported_global Gset global (bits_at p.operands 0) store))
      (sym g.typed)
      (before.reported_again s program meter has store below outer own whole counts x values (typed old.ty t.a ∷ p.rest)
      p.operands (typed old.ty t.a ∷ []) (reports_global s Gset global old.ty)
      (λ operands. reported_global Gset global (bits_at operands 0) store) t.values_are t.operands_are
      (record {
        after = leads.counted (imports_at s) program meter counts Gset;
        scratch = with_value old.ty x t.a;
        makes = pieces.reports_value s program meter has (renumbered_view (imports_at s) store) below outer own whole Gset
            refl counts x p.rest global t.a old.ty (subst IsNumber g.typed g.number);
        counted = before.counted_alike s program meter has store below outer own whole counts Gset;
      })))

  -- ---- copies and fills

  range_reported : (values : List Val) (kind : Hook) → hooks.hook_params kind ≡ I32 ∷ I32 ∷ I32 ∷ []
      → ((j : ℕ) (v : Val) → slice_get values j ≡ Some v → v.ty ≡ I32 → v.bits < 2 ^ 32)
      → (p : Operands) → pop (I32 ∷ I32 ∷ I32 ∷ []) values ≡ Some p
      → Reports values (reports_range s kind) (reported kind p.operands store)
  range_reported values kind params words p popped =
      let t = three_taken I32 I32 I32 values p popped in
      let word : t.a < 2 ^ 32 = words 2 (i32_value t.a) (ap (λ l. slice_get l 2) t.values_are) refl in
      let within : wrap t.a ≡ t.a = omega (arith, word) in
      before.reported_again s program meter has store below outer own whole counts x values
      (i32_value t.c ∷ i32_value t.b ∷ i32_value t.a ∷ p.rest) p.operands
      (i32_value t.a ∷ i32_value t.b ∷ i32_value t.c ∷ []) (reports_range s kind) (λ operands. reported kind operands store)
      t.values_are t.operands_are
      (record {
        after = leads.counted (imports_at s) program meter counts kind;
        scratch = _;
        makes = pieces.reports_operands s program meter has (renumbered_view (imports_at s) store) below outer own whole
            kind params counts x p.rest t.a t.b t.c within;
        counted = before.counted_alike s program meter has store below outer own whole counts kind;
      })

  module _ (code : Code) (frame : Frame) (next : Place) where
    stored : (i : Instr) (memory : Memory) (operands rest : List Val)
        → Reports frame.values (inserted_before s i) (reported_before i operands store) → (o : Option (List ℕ))
        → ReportsBefore frame.values i (store_result store frame next memory operands rest o)
    stored i memory operands rest reports None = record { reports = λ rule. reports }
    stored i memory operands rest reports (Some bytes) = record { reports = λ rule. reports }

    pub before_global_set : (global : ℕ)
        → ((old : Val) → slice_get store.globals global ≡ Some old → IsNumberGlobal (all_globals s.m) global old)
        → ReportsBefore frame.values (instrs.GlobalSet global) (execute_plain code store frame next (instrs.GlobalSet
        global))
    before_global_set global are =
        on_reports frame.values (instrs.GlobalSet global) (slice_get store.globals global) _ (λ old is.
        on_reports frame.values (instrs.GlobalSet global) (pop (old.ty ∷ []) frame.values) _ (λ p popped.
        record { reports = λ rule. global_reported frame.values global old (are old is) p popped }))

    -- the code before a copy or a fill
    before_range : (i : Instr) (changed : Memory → List Val → Option (List ℕ))
        → ((p : Operands) → pop (I32 ∷ I32 ∷ I32 ∷ []) frame.values ≡ Some p
        → Reports frame.values (inserted_before s i) (reported_before i p.operands store))
        → ReportsBefore frame.values i
        (on store.memory (λ memory. takes frame (I32 ∷ I32 ∷ I32 ∷ [])
        (λ operands rest. store_result store frame next memory operands rest (changed memory operands))))
    before_range i changed reports =
        on_reports frame.values i store.memory _ (λ memory is.
        on_reports frame.values i (pop (I32 ∷ I32 ∷ I32 ∷ []) frame.values) _ (λ p popped.
        stored i memory p.operands p.rest (reports p popped) (changed memory p.operands)))

    module _ (words : (j : ℕ) (v : Val) → slice_get frame.values j ≡ Some v → v.ty ≡ I32 → v.bits < 2 ^ 32) where
      pub before_copy : ReportsBefore frame.values instrs.MemoryCopy (execute_plain code store frame next
          instrs.MemoryCopy)
      before_copy =
          before_range instrs.MemoryCopy (λ memory operands.
          with_bytes_copied memory.bytes (bits_at operands 0) (bits_at operands 1) (bits_at operands 2))
          (range_reported frame.values Copy refl words)

      pub before_fill : ReportsBefore frame.values instrs.MemoryFill (execute_plain code store frame next
          instrs.MemoryFill)
      before_fill =
          before_range instrs.MemoryFill (λ memory operands.
          with_bytes_filled memory.bytes (bits_at operands 0) (bits_at operands 1 % 256) (bits_at operands 2))
          (range_reported frame.values Fill refl words)
