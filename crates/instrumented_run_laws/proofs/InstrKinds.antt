-- The kinds of instructions, by the steps of the instrumented run beside them.
use Rattle.std.proofs.Common.{◌≡◌, ℕ, List, [], ◌∷◌, Some, refl}
use Rattle.wasm_syntax.specs.declared.values.Val.{Val}
use Rattle.wasm_syntax.specs.declared.signatures.GlobalType.{GlobalType}
use Rattle.wasm_syntax.specs.declared.instructions.Instr.{Instr}
use Rattle.wasm_syntax.specs.declared.instructions.Instr.TheVariants as instrs
use Rattle.wasm_syntax.specs.Encoding.Forms.{IsCoreInstr}
use Rattle.wasm_syntax.specs.Nest.{Nest, Plain}
use Rattle.history_spec.specs.Store.{Store}
use Rattle.history_spec.specs.Code.{Code}
use Rattle.history_spec.specs.Configuration.{Place, Frame}
use Rattle.history_spec.specs.Instruction.{NoRule, execute_plain}
use Rattle.record_replay_spec.specs.Insertions.{Site}
use Rattle.record_replay_spec.specs.Instrumented.{renumbered, instrumented_nest, weights_of_nest}
use Rattle.record_replay_spec.specs.ReportedCalls.{reported_before, reported_after, waiting_after, WaitingCall}
use Rattle.tape_laws.proofs.CoreFrames.{IsNoCall}
use Rattle.instrumented_run_laws.proofs.Straight.{IsStraight}
use Rattle.instrumented_run_laws.proofs.PieceFacts.{IsNoReturn, IsCallInstr, IsBranch}

pub data Kind (i : Instr) : Type 0 where
  GoesOn : (is : IsStraight i) → Kind i
  Branches : (is : IsBranch i) → Kind i
  Calls : (is : IsCallInstr i) → Kind i
  Returns : (is : i ≡ instrs.Return) → Kind i
  HasNone : (none : (code : Code) (store : Store) (frame : Frame) (next : Place)
      → execute_plain code store frame next i ≡ NoRule)
      → Kind i

pub kind_of : (i : Instr) → IsCoreInstr i → Kind i
kind_of instrs.Unreachable core = GoesOn tt
kind_of instrs.Nop core = GoesOn tt
kind_of (instrs.Br l) core = Branches tt
kind_of (instrs.BrIf l) core = Branches tt
kind_of (instrs.BrTable labels l) core = Branches tt
kind_of instrs.Return core = Returns refl
kind_of (instrs.Call func) core = Calls tt
kind_of (instrs.CallIndirect t) core = Calls tt
kind_of instrs.Drop core = GoesOn tt
kind_of instrs.Select core = GoesOn tt
kind_of (instrs.LocalGet x) core = GoesOn tt
kind_of (instrs.LocalSet x) core = GoesOn tt
kind_of (instrs.LocalTee x) core = GoesOn tt
kind_of (instrs.GlobalGet x) core = GoesOn tt
kind_of (instrs.GlobalSet x) core = GoesOn tt
kind_of (instrs.Load at) core = GoesOn tt
kind_of (instrs.Store at) core = GoesOn tt
kind_of instrs.MemorySize core = GoesOn tt
kind_of instrs.MemoryGrow core = GoesOn tt
kind_of instrs.MemoryCopy core = GoesOn tt
kind_of instrs.MemoryFill core = GoesOn tt
kind_of (instrs.Const value) core = GoesOn tt
kind_of (instrs.Numeric op) core = GoesOn tt
kind_of instrs.RefNull core = absurd core
kind_of (instrs.RefFunc func) core = absurd core
kind_of (instrs.TableSet t) core = absurd core
kind_of (instrs.TableGrow t) core = absurd core
kind_of (instrs.TableSize t) core = absurd core
kind_of i core = HasNone (λ code store frame next. refl)

-- ---- instructions that go on

pub record IsPlainly (n : ℕ) (i : Instr) : Type 0 where
  pub no_call : IsNoCall (Some i)
  pub no_return : IsNoReturn i
  pub same : renumbered n i ≡ i

pub straight_plainly : (n : ℕ) (i : Instr) → IsStraight i → IsPlainly n i
straight_plainly n (instrs.Call func) is = absurd is
straight_plainly n (instrs.CallIndirect t) is = absurd is
straight_plainly n instrs.Return is = absurd is
straight_plainly n i is = record { no_call = tt; no_return = tt; same = refl }

-- ---- branches, around which no code is inserted and which no hook reports

-- no hook reports the results of the instruction
abbrev pub ReportsNothingAfter : Instr → Type 0
ReportsNothingAfter i =
    (globals : List GlobalType) (results : List Val) (view : Store) → reported_after globals i results view ≡ []

pub record IsBranchPlainly (s : Site) (i : Instr) : Type 0 where
  pub nest : (rest : Nest) → instrumented_nest s (Plain i rest) ≡ Plain i (instrumented_nest s rest)
  pub weights : (rest : Nest) → weights_of_nest s (Plain i rest) ≡ 1 ∷ weights_of_nest s rest
  pub before : (operands : List Val) (view : Store) → reported_before i operands view ≡ []
  pub after : ReportsNothingAfter i
  pub waits : (operands : List Val) (waiting : List WaitingCall) → waiting_after i operands waiting ≡ waiting

plainly : {s : Site} {i : Instr}
    → ((rest : Nest) → instrumented_nest s (Plain i rest) ≡ Plain i (instrumented_nest s rest))
    → ((rest : Nest) → weights_of_nest s (Plain i rest) ≡ 1 ∷ weights_of_nest s rest)
    → ((operands : List Val) (view : Store) → reported_before i operands view ≡ [])
    → ReportsNothingAfter i
    → ((operands : List Val) (waiting : List WaitingCall) → waiting_after i operands waiting ≡ waiting)
    → IsBranchPlainly s i
plainly nest weights before after waits =
    record { nest = nest; weights = weights; before = before; after = after; waits = waits }

pub branch_plainly : (s : Site) (i : Instr) → IsBranch i → IsBranchPlainly s i
branch_plainly s (instrs.Br l) is =
    plainly (λ rest. refl) (λ rest. refl) (λ operands view. refl) (λ globals results view. refl)
    (λ operands waiting. refl)
branch_plainly s (instrs.BrIf l) is =
    plainly (λ rest. refl) (λ rest. refl) (λ operands view. refl) (λ globals results view. refl)
    (λ operands waiting. refl)
branch_plainly s (instrs.BrTable labels l) is =
    plainly (λ rest. refl) (λ rest. refl) (λ operands view. refl) (λ globals results view. refl)
    (λ operands waiting. refl)
branch_plainly s i is = absurd is
