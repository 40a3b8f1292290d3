-- The code inserted after an instruction that goes on within its activation makes the hook calls of the original's
-- step.
use Rattle.std.proofs.Common.{◌≡◌, ℕ, List, [], ◌∷◌, length, Option, Some, None, Bool, true, false, cond, slice_get, refl, sym, subst}
use Rattle.wasm_syntax.specs.declared.values.ValType.TheVariants.{I32}
use Rattle.wasm_syntax.specs.declared.values.Val.{Val}
use Rattle.wasm_syntax.specs.declared.signatures.GlobalType.{GlobalType}
use Rattle.wasm_syntax.specs.declared.instructions.Instr.{Instr}
use Rattle.wasm_syntax.specs.declared.instructions.Instr.TheVariants as instrs
use Rattle.wasm_syntax.specs.Index.{all_globals}
use Rattle.history_spec.specs.Store.{Store, Memory, grown_memory}
use Rattle.history_spec.specs.Code.{Code, i32_value}
use Rattle.history_spec.specs.Configuration.{Place, Frame, Activation}
use Rattle.history_spec.specs.Instruction.{Goes, Execution, Did, on, pop, bits_at, grow_result, execute_plain}
use Rattle.history_spec.specs.Step.{Program}
use Rattle.history_spec.specs.Run.{Meter}
use Rattle.record_replay_spec.specs.declared.hooks.Hook.TheVariants.{Grow, Gget}
use Rattle.record_replay_spec.specs.Hooks as hooks
use Rattle.record_replay_spec.specs.Hooks.{HookCall, renumbered_view}
use Rattle.record_replay_spec.specs.Insertions.{Site, imports_at, reports_global, reports_index, inserted_after}
use Rattle.record_replay_spec.specs.ReportedCalls.{reported, reported_global, reported_after}
use Rattle.instrumented_run_laws.proofs.Leads as leads
use Rattle.instrumented_run_laws.proofs.Scratch.{Scratch, with_address, with_value, IsNumber}
use Rattle.instrumented_run_laws.proofs.Straight.{IsStraight}
use Rattle.instrumented_run_laws.proofs.Pieces as pieces
use Rattle.instrumented_run_laws.proofs.Pieces.{HasHooks}
use Rattle.instrumented_run_laws.proofs.Before as before
use Rattle.instrumented_run_laws.proofs.BeforeWrites.{IsNumberGlobal}
use Rattle.instrumented_run_laws.proofs.AllBefore.{number_global}
use Rattle.instrumented_run_laws.proofs.PieceFacts.{HasGlobals}

module _ (s : Site) (program : Program) (meter : Meter) (has : HasHooks (imports_at s) program meter)
    (below : List Activation) (outer : Frame) (own : List Val) (whole : s.locals ≡ length own) (counts : List ℕ)
    (x : Scratch) where
  abbrev Reports : Store → List Val → List Instr → List HookCall → Type 0
  Reports after = before.Reports s program meter has after below outer own whole counts x

  -- the code inserted after an instruction that goes on makes the hook calls after it
  abbrev IsReportedAfter : Instr → Execution → Type 0
  IsReportedAfter i (Did operands results found (Goes after left)) =
      Reports after left.values (inserted_after s i) (reported_after (all_globals s.m) i results after)
  IsReportedAfter i e = Unit {0}

  record ReportsAfter (i : Instr) (e : Execution) : Type 0 where
    reported : IsReportedAfter i e

  on_reported : {X : Type 0} (i : Instr) (o : Option X) (go : X → Execution)
      → ((y : X) → o ≡ Some y → ReportsAfter i (go y)) → ReportsAfter i (on o go)
  on_reported i None go each = record { reported = tt }
  on_reported i (Some y) go each = each y refl

  silent : (i : Instr) → inserted_after s i ≡ []
      → ((results : List Val) (after : Store) → reported_after (all_globals s.m) i results after ≡ []) → (e : Execution)
      → IsReportedAfter i e
  silent i none reported (Did operands results found (Goes after left)) =
      subst (λ is. Reports after left.values is (reported_after (all_globals s.m) i results after)) (sym none)
      (subst (Reports after left.values []) (sym (reported results after))
      (before.reports_none s program meter has after below outer own whole counts x left.values))
  silent i none reported e = tt

  -- ---- a growth

  size_reported : (after : Store) (values : List Val) (bits : ℕ)
      → Reports after (i32_value bits ∷ values) (reports_index s Grow) (reported Grow (i32_value bits ∷ []) after)
  size_reported after values bits =
      record {
        after = leads.counted (imports_at s) program meter counts Grow;
        scratch = with_address x bits;
        makes = pieces.reports_top s program meter has (renumbered_view (imports_at s) after) below outer own whole Grow
            refl
            counts x values bits;
        counted = before.counted_alike s program meter has after below outer own whole counts Grow;
      }

  -- ---- a global

  global_reported : (after : Store) (values : List Val) (global : ℕ) (value : Val)
      → IsNumberGlobal (all_globals s.m) global value
      → Reports after (value ∷ values) (inserted_after s (instrs.GlobalGet global))
      (reported_after (all_globals s.m) (instrs.GlobalGet global) (value ∷ []) after)
  global_reported after values global value g =
      subst
      (λ o. Reports after (value ∷ values)
      (hooks.on o (λ (ty : GlobalType). cond ty.mutable (reports_global s Gget global ty.ty) []))
      (hooks.on o (λ (ty : GlobalType). cond ty.mutable (reported_global Gget global value.bits after) [])))
      (sym g.declared)
      (subst
      (λ ty. Reports after (value ∷ values) (cond g.ty.mutable (reports_global s Gget global ty) [])
      (cond g.ty.mutable (reported_global Gget global value.bits after) []))
      (sym g.typed) (by g.ty.mutable))
    where
      by : (mutable : Bool)
          → Reports after (value ∷ values) (cond mutable (reports_global s Gget global value.ty) [])
          (cond mutable (reported_global Gget global value.bits after) [])
      by false = before.reports_none s program meter has after below outer own whole counts x (value ∷ values)
      by true =
          record {
            after = leads.counted (imports_at s) program meter counts Gget;
            scratch = with_value value.ty x value.bits;
            makes = pieces.reports_value s program meter has (renumbered_view (imports_at s) after) below outer own whole
                Gget refl counts x values global value.bits value.ty (subst IsNumber g.typed g.number);
            counted = before.counted_alike s program meter has after below outer own whole counts Gget;
          }

  -- ---- any instruction

  module _ (first : Store) (globals : HasGlobals s.m first) (code : Code) (frame : Frame) (next : Place) where
    grown : (memory : Memory) (operands rest : List Val) (o : Option Memory)
        → ReportsAfter instrs.MemoryGrow (grow_result first frame next memory operands rest o)
    grown memory operands rest None = record { reported = size_reported first rest 0xFFFFFFFF }
    grown memory operands rest (Some larger) = record { reported = size_reported _ rest _ }

    all_reported : (i : Instr) → IsStraight i → ReportsAfter i (execute_plain code first frame next i)
    all_reported instrs.MemoryGrow is =
        on_reported instrs.MemoryGrow first.memory _ (λ memory there.
        on_reported instrs.MemoryGrow (pop (I32 ∷ []) frame.values) _ (λ p taken.
        grown memory p.operands p.rest (grown_memory memory (bits_at p.operands 0))))
    all_reported (instrs.GlobalGet global) is =
        on_reported (instrs.GlobalGet global) (slice_get first.globals global) _ (λ value there.
        record {
          reported = global_reported first frame.values global value (number_global s.m first globals global value there);
        })
    all_reported (instrs.Call func) is = absurd is
    all_reported (instrs.CallIndirect t) is = absurd is
    all_reported i is = record { reported = silent i refl (λ results after. refl) (execute_plain code first frame next i) }

    pub after_reported : (i : Instr) → IsStraight i → (after : Store) (left : Frame) (operands results : List Val)
        (found : Option ℕ) → execute_plain code first frame next i ≡ Did operands results found (Goes after left)
        → Reports after left.values (inserted_after s i) (reported_after (all_globals s.m) i results after)
    after_reported i is after left operands results found e = subst (IsReportedAfter i) e (all_reported i is).reported
