-- The code inserted before any instruction makes the hook calls of the original's step.
use Rattle.std.proofs.Common.{◌≡◌, ℕ, ◌^◌, ◌<◌, List, length, Some, slice_get, subst}
use Rattle.wasm_syntax.specs.declared.values.ValType.{ValType}
use Rattle.wasm_syntax.specs.declared.values.ValType.TheVariants.{I32}
use Rattle.wasm_syntax.specs.declared.values.Val.{Val}
use Rattle.wasm_syntax.specs.declared.instructions.Instr.{Instr}
use Rattle.wasm_syntax.specs.declared.instructions.Instr.TheVariants as instrs
use Rattle.wasm_syntax.specs.declared.modules.Module.{Module}
use Rattle.wasm_syntax.specs.Encoding.Forms.{IsCoreInstr}
use Rattle.wasm_syntax.specs.Index.{all_globals}
use Rattle.history_spec.specs.Store.{Store}
use Rattle.history_spec.specs.Code.{Code}
use Rattle.history_spec.specs.Configuration.{Place, Frame, Activation}
use Rattle.history_spec.specs.Instruction.{execute_plain}
use Rattle.history_spec.specs.Step.{Program}
use Rattle.history_spec.specs.Run.{Meter}
use Rattle.type_safety.specs.Stores.{func_count}
use Rattle.type_safety.specs.Values.{count_of, AreValues}
use Rattle.record_replay_spec.specs.Insertions.{Site, imports_at, inserted_before}
use Rattle.record_replay_spec.specs.ReportedCalls.{reported_before}
use Rattle.tape_laws.proofs.RunCalls.{global_at}
use Rattle.tape_laws.proofs.Reportable.{in_range}
use Rattle.instrumented_run_laws.proofs.Scratch.{Scratch}
use Rattle.instrumented_run_laws.proofs.Pieces.{HasHooks}
use Rattle.instrumented_run_laws.proofs.Before as before
use Rattle.instrumented_run_laws.proofs.Before.{operands_of, IsRule, number_type}
use Rattle.instrumented_run_laws.proofs.BeforeWrites as writes
use Rattle.instrumented_run_laws.proofs.BeforeWrites.{IsNumberGlobal}
use Rattle.instrumented_run_laws.proofs.BeforeCalls as calls
use Rattle.instrumented_run_laws.proofs.PieceFacts.{HasGlobals, IsNoReturn}

pub number_global : (m : Module) (store : Store) → HasGlobals m store → (x : ℕ) (value : Val)
    → slice_get store.globals x ≡ Some value → IsNumberGlobal (all_globals m) x value
number_global m store has x value there =
    let g = global_at (func_count m) (all_globals m) store.globals x value has.values there in
    record {
      ty = g.ty;
      declared = g.declared;
      typed = g.typed;
      number = number_type g.ty.ty (has.numbers x g.ty g.declared);
    }

module _ (s : Site) (program : Program) (meter : Meter) (has : HasHooks (imports_at s) program meter) (store : Store)
    (below : List Activation) (outer : Frame) (own : List Val) (whole : s.locals ≡ length own) (counts : List ℕ)
    (x : Scratch) (code : Code) (frame : Frame) (next : Place) where
  abbrev IsReported : Instr → Type 0
  IsReported i =
      before.Reports s program meter has store below outer own whole counts x frame.values (inserted_before s i)
      (reported_before i (operands_of (execute_plain code store frame next i)) store)

  pub before_reported : (i : Instr) → IsCoreInstr i → IsNoReturn i → (types : List ValType) (funcs : ℕ)
      → AreValues funcs types frame.values → HasGlobals s.m store → IsRule (execute_plain code store frame next i)
      → IsReported i
  before_reported i core returns types funcs are globals rule = go i returns rule
    where
      words : (j : ℕ) (value : Val) → slice_get frame.values j ≡ Some value → value.ty ≡ I32 → value.bits < 2 ^ 32
      words j value there is =
          subst (λ ty. value.bits < count_of funcs ty) is (in_range funcs types frame.values j value are there)

      go : (i : Instr) → IsNoReturn i → IsRule (execute_plain code store frame next i) → IsReported i
      go (instrs.Call func) returns rule =
          (calls.before_call s program meter has store below outer own whole counts x frame.values func
          (execute_plain code store frame next (instrs.Call func))).reports rule
      go (instrs.CallIndirect t) returns rule =
          (calls.before_call_indirect s program meter has store below outer own whole counts x code frame next t).reports
          rule
      go (instrs.Load at) returns rule =
          before.before_loads s program meter has store below outer own whole counts x code frame next at rule
      go (instrs.Store at) returns rule =
          before.before_stores s program meter has store below outer own whole counts x code frame next at rule
      go instrs.MemorySize returns rule =
          before.before_size s program meter has store below outer own whole counts x code frame next
      go (instrs.GlobalSet global) returns rule =
          (writes.before_global_set s program meter has store below outer own whole counts x code frame next global
          (number_global s.m store globals global)).reports rule
      go instrs.MemoryCopy returns rule =
          (writes.before_copy s program meter has store below outer own whole counts x code frame next words).reports rule
      go instrs.MemoryFill returns rule =
          (writes.before_fill s program meter has store below outer own whole counts x code frame next words).reports rule
      go instrs.Return returns rule = absurd returns
      go i returns rule =
          before.reports_none s program meter has store below outer own whole counts x frame.values
