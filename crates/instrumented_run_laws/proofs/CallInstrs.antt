-- The function that an instruction calls, and the piece before which the waiting activation waits.
use Rattle.std.proofs.Common.{◌≡◌, ℕ, ◌-◌, List, [], ◌∷◌, ◌++◌, length, take, Option, Some, None, Bool, true, false, slice_get, refl, sym, ap, ◌∙◌}
use Rattle.wasm_syntax.specs.declared.values.Val.{Val}
use Rattle.wasm_syntax.specs.declared.values.ValType.TheVariants.{I32}
use Rattle.wasm_syntax.specs.declared.signatures.FuncType.{FuncType}
use Rattle.wasm_syntax.specs.declared.instructions.Instr.{Instr}
use Rattle.wasm_syntax.specs.declared.instructions.Instr.TheVariants as instrs
use Rattle.wasm_syntax.specs.declared.modules.Module.{Module}
use Rattle.wasm_syntax.specs.Alike.{same_signature}
use Rattle.wasm_syntax.proofs.ValTypes.{signature_same}
use Rattle.history_spec.specs.Store.{Store, Table}
use Rattle.history_spec.specs.Code.{Code, code_of, signature}
use Rattle.history_spec.specs.Configuration.{Place, Frame}
use Rattle.history_spec.specs.Instruction.{Goes, Calls, Returns, Execution, Did, Traps, NoRule, on, pop, bits_at, calls_if, calls_entry, execute_plain}
use Rattle.record_replay_spec.specs.Insertions as insertions
use Rattle.record_replay_spec.specs.Insertions.{Site, reports_number, inserted_after, after_call}
use Rattle.record_replay_spec.specs.declared.hooks.Hook.TheVariants.{Post, Ipost}
use Rattle.record_replay_spec.specs.Hooks as hooks
use Rattle.record_replay_spec.specs.Hooks.{HookCall}
use Rattle.record_replay_spec.specs.ReportedCalls.{WaitingCall, waiting_after}
use Rattle.tape_laws.proofs.CoreFrames.{CallsAs}
use Rattle.instrumented_run_laws.proofs.Relation.{over_piece}
use Rattle.instrumented_run_laws.proofs.PieceFacts.{IsCallInstr}
use Rattle.instrumented_run_laws.proofs.InstrKinds.{ReportsNothingAfter}

-- ---- the function of a call

-- the function that an execution calls
abbrev callee_of : Execution → Option ℕ
callee_of (Did operands results found (Calls waiting func args)) = Some func
callee_of (Did operands results found (Goes store frame)) = None
callee_of (Did operands results found (Returns given)) = None
callee_of (Traps kind operands found) = None
callee_of NoRule = None

on_called : {X : Type 0} (o : Option X) (go : X → Execution) (func : ℕ) → callee_of (on o go) ≡ Some func
    → (x : X) × (o ≡ Some x) × (callee_of (go x) ≡ Some func)
on_called None go func h = cc
on_called (Some x) go func h = (x, refl, h)

-- the function has the wanted type
pub record IsOfWanted (code : Code) (t func : ℕ) : Type 0 where
  pub wanted : FuncType
  pub there : slice_get code.types t ≡ Some wanted
  pub has_type : signature code func ≡ Some wanted

indirect_callee : (code : Code) (store : Store) (frame : Frame) (next : Place) (t func : ℕ)
    → callee_of (execute_plain code store frame next (instrs.CallIndirect t)) ≡ Some func → IsOfWanted code t func
indirect_callee code store frame next t func h = at_type
  where
    fits : (ty found : FuncType) (operands rest : List Val) (g : ℕ) → signature code g ≡ Some found
        → (b : Bool) → same_signature ty found ≡ b
        → callee_of (calls_if b frame next operands rest g (take (length ty.params) operands)) ≡ Some func
        → signature code func ≡ Some ty
    fits ty found operands rest g has true same h =
        let callee : Some g ≡ Some func = h in
        let equal : g ≡ func = cc in
        ap (signature code) (sym equal) ∙ has ∙ ap Some (sym (signature_same ty found same))
    fits ty found operands rest g has false same h = cc

    by_entry : (ty : FuncType) (table : Table) (operands rest : List Val) (o : Option (Option ℕ))
        → callee_of (calls_entry code ty frame next table operands rest o) ≡ Some func → signature code func ≡ Some ty
    by_entry ty table operands rest None h = cc
    by_entry ty table operands rest (Some None) h = cc
    by_entry ty table operands rest (Some (Some g)) h =
        let p = on_called (signature code g) _ func h in
        fits ty p.0 operands rest g p.1 (same_signature ty p.0) refl p.2

    at_type : IsOfWanted code t func
    at_type =
        let p = on_called (slice_get code.types t) _ func h in
        let q = on_called store.table _ func p.2 in
        let r = on_called (pop (p.0.params ++ I32 ∷ []) frame.values) _ func q.2 in
        record {
          wanted = p.0;
          there = p.1;
          has_type = by_entry p.0 q.0 r.0.operands r.0.rest
              (slice_get q.0.entries (bits_at r.0.operands (length p.0.params))) r.2;
        }

-- ---- the waiting call, and the piece before which the activation waits

pub record IsCallOf (m : Module) (s : Site) (i : Instr) (operands args : List Val) (ty : FuncType)
    (waiting : List WaitingCall) : Type 0 where
  pub call : WaitingCall
  pub waits : waiting_after i operands waiting ≡ call ∷ waiting
  pub args_are : call.args ≡ args
  pub piece : inserted_after s i ≡ after_call s (over_piece s call.callee) ty.results
  pub quiet : ReportsNothingAfter i

pub call_of : (m : Module) (s : Site) → s.m ≡ m → (store : Store) (frame : Frame) (next : Place) (i : Instr)
    → IsCallInstr i → (operands results : List Val) (found : Option ℕ) (wait : Frame) (func : ℕ) (args : List Val)
    → execute_plain (code_of m) store frame next i ≡ Did operands results found (Calls wait func args)
    → CallsAs store frame.values (Some i) operands func args → (ty : FuncType) → signature (code_of m) func ≡ Some ty
    → (waiting : List WaitingCall) → IsCallOf m s i operands args ty waiting
call_of m s same store frame next (instrs.Call callee) is operands results found wait func args e named ty has waiting =
    record {
      call = record { callee = Some callee; args = operands };
      waits = refl;
      args_are = sym named.1;
      piece = ap
          (λ o. hooks.on o (λ (t : FuncType). after_call s (reports_number s Post callee) t.results))
          (ap (λ x. signature (code_of x) callee) same ∙ ap (signature (code_of m)) named.0 ∙ has);
      quiet = λ globals results view. refl;
    }
call_of m s same store frame next (instrs.CallIndirect t) is operands results found wait func args e named ty has
    waiting =
    let w = indirect_callee (code_of m) store frame next t func (ap callee_of e) in
    let both : Some w.wanted ≡ Some ty = sym w.has_type ∙ has in
    let equal : w.wanted ≡ ty = cc in
    record {
      call = record { callee = None; args = take (length operands - 1) operands };
      waits = refl;
      args_are = sym named.given;
      piece = ap
          (λ o. hooks.on o (λ (x : FuncType). after_call s (insertions.calls s Ipost ∷ []) x.results))
          (ap (λ (x : Module). slice_get x.types t) same ∙ w.there ∙ ap Some equal);
      quiet = λ globals results view. refl;
    }
call_of m s same store frame next i is operands results found wait func args e named ty has waiting = absurd is
