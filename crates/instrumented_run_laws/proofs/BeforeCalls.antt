-- The code inserted before a call and before a call by the table makes the hook calls of the original's step.
use Rattle.std.proofs.Common.{◌≡◌, ℕ, ◌+◌, ◌-◌, List, [], ◌∷◌, ◌++◌, length, take, Option, Some, None, Bool, true, false, slice_get, refl, sym, ap, ◌∙◌, subst, arith}
use Rattle.std.specs.List.{slice_index_or}
use Rattle.std.proofs.lemmas.List.{length-append}
use Rattle.std.proofs.lemmas.Option.{same_Some}
use Rattle.wasm_syntax.specs.declared.values.ValType.{ValType}
use Rattle.wasm_syntax.specs.declared.values.ValType.TheVariants.{I32}
use Rattle.wasm_syntax.specs.declared.values.Val.{Val}
use Rattle.wasm_syntax.specs.declared.signatures.FuncType.{FuncType}
use Rattle.wasm_syntax.specs.declared.instructions.Instr.{Instr}
use Rattle.wasm_syntax.specs.declared.instructions.Instr.TheVariants as instrs
use Rattle.wasm_syntax.specs.Alike.{same_signature}
use Rattle.history_spec.specs.Store.{Store, Table}
use Rattle.history_spec.specs.Code.{Code, signature, i32_value, types_of}
use Rattle.history_spec.specs.Configuration.{Place, Frame, Activation}
use Rattle.history_spec.specs.Instruction.{Execution, Operands, pop, bits_at, calls_if, calls_entry, execute_plain}
use Rattle.history_spec.specs.Step.{Program}
use Rattle.history_spec.specs.Run.{Meter}
use Rattle.record_replay_spec.proofs.Operands.{popped}
use Rattle.record_replay_spec.specs.declared.hooks.Hook.TheVariants.{Pre, Ipre}
use Rattle.record_replay_spec.specs.Hooks.{HookCall, renumbered_view}
use Rattle.record_replay_spec.specs.Insertions.{Site, imports_at, reports_index}
use Rattle.record_replay_spec.specs.ReportedCalls.{reported_number}
use Rattle.instrumented_run_laws.proofs.Leads as leads
use Rattle.instrumented_run_laws.proofs.PieceSteps.{typed}
use Rattle.instrumented_run_laws.proofs.Scratch.{Scratch, with_address}
use Rattle.instrumented_run_laws.proofs.Pieces as pieces
use Rattle.instrumented_run_laws.proofs.Pieces.{HasHooks}
use Rattle.instrumented_run_laws.proofs.Before as before
use Rattle.instrumented_run_laws.proofs.BeforeWrites as writes
use Rattle.instrumented_run_laws.proofs.BeforeWrites.{ReportsBefore}

-- the topmost operand has the last type
last_typed : (operands : List Val) (params : List ValType) (d : Val) → types_of operands ≡ params ++ I32 ∷ []
    → (slice_index_or operands (length params) d).ty ≡ I32
last_typed [] [] d e = cc
last_typed [] (t ∷ params) d e = cc
last_typed (v ∷ operands) [] d e = ap (λ types. slice_index_or types 0 I32) e
last_typed (v ∷ operands) (t ∷ params) d e = last_typed operands params d (cc)

-- the topmost value
first_value : (values : List Val) (v : Val) → slice_get values 0 ≡ Some v → (rest : List Val) × (values ≡ v ∷ rest)
first_value [] v e = cc
first_value (w ∷ values) v e = (values, ap (λ u. u ∷ values) (same_Some w v e))

module _ (s : Site) (program : Program) (meter : Meter) (has : HasHooks (imports_at s) program meter) (store : Store)
    (below : List Activation) (outer : Frame) (own : List Val) (whole : s.locals ≡ length own) (counts : List ℕ)
    (x : Scratch) where
  abbrev Reports : List Val → List Instr → List HookCall → Type 0
  Reports = before.Reports s program meter has store below outer own whole counts x

  abbrev IsReported : List Val → Instr → Execution → Type 0
  IsReported = ReportsBefore s program meter has store below outer own whole counts x

  pub before_call : (values : List Val) (func : ℕ) (e : Execution) → IsReported values (instrs.Call func) e
  before_call values func e =
      record {
        reports = λ rule.
            before.reports_number_reported s program meter has store below outer own whole Pre refl counts x values func;
      }

  -- the code that passes the index on top of the stack to a hook
  top_reported : (values : List Val) (v : Val) → slice_get values 0 ≡ Some v → v.ty ≡ I32
      → Reports values (reports_index s Ipre) (reported_number Ipre v.bits store)
  top_reported values v there is =
      let found = first_value values v there in
      let same : values ≡ i32_value v.bits ∷ found.0 =
      found.1 ∙ ap (λ ty. typed ty v.bits ∷ found.0) is
      in
      subst (λ vs. Reports vs (reports_index s Ipre) (reported_number Ipre v.bits store)) (sym same)
      (record {
        after = leads.counted (imports_at s) program meter counts Ipre;
        scratch = with_address x v.bits;
        makes = pieces.reports_top s program meter has (renumbered_view (imports_at s) store) below outer own whole Ipre
            refl
            counts x found.0 v.bits;
        counted = before.counted_alike s program meter has store below outer own whole counts Ipre;
      })

  module _ (code : Code) (frame : Frame) (next : Place) where
    index_reported : (ty : FuncType) (p : Operands) → pop (ty.params ++ I32 ∷ []) frame.values ≡ Some p
        → Reports frame.values (reports_index s Ipre)
        (reported_number Ipre (bits_at p.operands (length p.operands - 1)) store)
    index_reported ty p taken =
        let are = popped (ty.params ++ I32 ∷ []) frame.values p taken in
        let v = slice_index_or p.operands (length ty.params) (i32_value 0) in
        let long = length-append ty.params (I32 ∷ []) in
        let number = are.number in
        let sum : length ty.params + 0 + 1 ≡ length (ty.params ++ I32 ∷ []) = omega (arith, long) in
        let last : length ty.params ≡ length p.operands - 1 = omega (arith, long, number) in
        subst (λ at. Reports frame.values (reports_index s Ipre) (reported_number Ipre (bits_at p.operands at) store)) last
        (top_reported frame.values v (are.at (length ty.params) 0 (i32_value 0) sum)
        (last_typed p.operands ty.params (i32_value 0) are.typed))

    called_if : (t : ℕ) (operands rest : List Val) (func : ℕ) (args : List Val)
        → Reports frame.values (reports_index s Ipre) (reported_number Ipre (bits_at operands (length operands - 1)) store)
        → (b : Bool) → IsReported frame.values (instrs.CallIndirect t) (calls_if b frame next operands rest func args)
    called_if t operands rest func args reports true = record { reports = λ rule. reports }
    called_if t operands rest func args reports false = record { reports = λ rule. reports }

    called_entry : (t : ℕ) (ty : FuncType) (table : Table) (operands rest : List Val)
        → Reports frame.values (reports_index s Ipre) (reported_number Ipre (bits_at operands (length operands - 1)) store)
        → (o : Option (Option ℕ))
        → IsReported frame.values (instrs.CallIndirect t) (calls_entry code ty frame next table operands rest o)
    called_entry t ty table operands rest reports None = record { reports = λ rule. reports }
    called_entry t ty table operands rest reports (Some None) = record { reports = λ rule. reports }
    called_entry t ty table operands rest reports (Some (Some func)) =
        writes.on_reports s program meter has store below outer own whole counts x frame.values (instrs.CallIndirect t)
        (signature code func) _ (λ found is.
        called_if t operands rest func (take (length ty.params) operands) reports (same_signature ty found))

    pub before_call_indirect : (t : ℕ)
        → IsReported frame.values (instrs.CallIndirect t) (execute_plain code store frame next (instrs.CallIndirect t))
    before_call_indirect t =
        writes.on_reports s program meter has store below outer own whole counts x frame.values (instrs.CallIndirect t)
        (slice_get code.types t) _ (λ ty is.
        writes.on_reports s program meter has store below outer own whole counts x frame.values (instrs.CallIndirect t)
        store.table _ (λ table there.
        writes.on_reports s program meter has store below outer own whole counts x frame.values (instrs.CallIndirect t)
        (pop (ty.params ++ I32 ∷ []) frame.values) _ (λ p taken.
        called_entry t ty table p.operands p.rest (index_reported ty p taken)
        (slice_get table.entries (bits_at p.operands (length ty.params))))))
