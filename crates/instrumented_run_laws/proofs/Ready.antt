-- The facts at the next instruction of the original and of the instrumented run, and what follows the instruction.
use Rattle.std.specs.Prelude.{ℕ, ◌+◌, List, [], ◌∷◌, Option}
use Rattle.wasm_syntax.specs.declared.instructions.Instr.{Instr}
use Rattle.wasm_syntax.specs.declared.modules.Module.{Module}
use Rattle.wasm_syntax.specs.Index.{imported_funcs}
use Rattle.wasm_syntax.specs.Nest.{Nest, Plain}
use Rattle.wasm_syntax.specs.Validity.{IsValid}
use Rattle.wasm_syntax.specs.declared.signatures.FuncType.{FuncType}
use Rattle.history_spec.specs.Store.{Store}
use Rattle.history_spec.specs.Code.{Definition, code_of}
use Rattle.history_spec.specs.Configuration.{place, Frame, Activation, InModule, Config}
use Rattle.history_spec.specs.Instruction.{Execution, execute_plain}
use Rattle.history_spec.specs.Run.{Meter}
use Rattle.history_spec.specs.Step.{Program, Progress, after_instruction}
use Rattle.type_safety.specs.Configurations.{scope, Accept}
use Rattle.type_safety.specs.Frames.{IsFrame}
use Rattle.type_safety.specs.Heights.{Heights}
use Rattle.record_replay_spec.specs.ReportedCalls.{WaitingCall, store_executed}
use Rattle.record_replay_spec.specs.Hooks.{renumbered_view}
use Rattle.record_replay_spec.specs.Insertions.{Site}
use Rattle.instrumented_run_laws.proofs.Leads as leads
use Rattle.instrumented_run_laws.proofs.Delivers as delivers
use Rattle.instrumented_run_laws.proofs.Delivers.{AreResults}
use Rattle.instrumented_run_laws.proofs.Pieces.{HasHooks}
use Rattle.instrumented_run_laws.proofs.Relation.{Beside, type_of, IsBeside, AreWaiting, AreCounted, site_at, frame_beside, waiting_stack}
use Rattle.instrumented_run_laws.proofs.Settled as settled
use Rattle.instrumented_run_laws.proofs.PieceFacts.{HasPieces, HasGlobals}

-- the facts about the activation and about those below it
pub record IsReady (m : Module) (heights : Heights) (meter : Meter) (store : Store) (counts : List ℕ) (frame : Frame)
    (below : List Activation) (waiting : List WaitingCall) (b : Beside) (bs : List Beside) (second : List ℕ)
    (body : Definition) : Type 0 where
  pub framed : IsFrame (scope m heights frame.func (type_of m frame.func) body) [] frame
  pub accepts : Accept m heights below (type_of m frame.func).results
  pub good : AreResults (type_of m frame.func).results
  pub beside : IsBeside m meter frame [] b
  pub waits : AreWaiting m meter (type_of m frame.func).results below waiting bs
  pub counted : AreCounted (imported_funcs m) counts second
  pub globals : HasGlobals m store

-- the parts of the instrumented run beside an activation and those below it
pub record Names : Type 0 where
  pub site : Site
  pub ty : FuncType
  pub hooked : Frame
  pub hooked_below : List Activation
  pub start : Progress

abbrev pub names : (m : Module) (other : Program) (meter : Meter) (store : Store) (frame : Frame)
    (below : List Activation) → List WaitingCall → Beside → List Beside → (second : List ℕ) → Names
names m other meter store frame below waiting b bs second =
    record {
      site = site_at m frame.func;
      ty = type_of m frame.func;
      hooked = frame_beside m meter frame [] b;
      hooked_below = waiting_stack m meter (type_of m frame.func).results below waiting bs;
      start =
          leads.running (imported_funcs m) other meter (renumbered_view (imported_funcs m) store) second
          (waiting_stack m meter (type_of m frame.func).results below waiting bs) (frame_beside m meter frame [] b);
    }

-- the original's activation before an instruction, and the execution of it
pub record InstrNames : Type 0 where
  pub n : ℕ
  pub frame : Frame
  pub exec : Execution

abbrev pub instr_names : (m : Module) (store : Store) (f : Frame) (i : Instr) (rest : Nest) (number : ℕ) → InstrNames
instr_names m store f i rest number =
    let frame : Frame = record f { at = place (Plain i rest) number } in
    record {
      n = imported_funcs m;
      frame = frame;
      exec = execute_plain (code_of m) store frame (place rest (number + 1)) i;
    }

module _ (m : Module) (heights : Heights) (valid : IsValid m) (program other : Program) (meter : Meter)
    (has : HasHooks (imported_funcs m) other meter) (pieces : HasPieces m other meter has) where
  -- what follows an execution of the original's next instruction
  abbrev pub FollowsExecution : Option Instr → Store → List ℕ → Frame → List Activation → List WaitingCall
      → Execution → Progress → ℕ → Type 0
  FollowsExecution instr store counts frame below waiting e from turns =
      let config : Config = record { store = store; stack = InModule frame ∷ below; counts = counts } in
      settled.Follows m heights other meter has
      (settled.reported_of m heights other meter has instr store (store_executed store e) waiting
      (after_instruction program config frame below e).entries)
      (settled.waiting_of m heights other meter has instr store (store_executed store e) waiting
      (after_instruction program config frame below e).entries)
      (after_instruction program config frame below e).next from turns

  -- results are delivered to the activations below
  pub results_below : (instr : Option Instr) (earlier store left : Store) (counts : List ℕ) (frame : Frame)
      (below : List Activation) (waiting : List WaitingCall) (b : Beside) (bs : List Beside) (second : List ℕ)
      (body : Definition) → IsReady m heights meter store counts frame below waiting b bs second body
      → settled.Below m heights other meter has instr earlier left counts below waiting bs frame
  results_below instr earlier store left counts frame below waiting b bs second body ready given others are counted =
      delivers.deliver_from m heights valid other meter has pieces instr earlier left counts below
      (type_of m frame.func).results given waiting bs others ready.good ready.accepts are ready.waits counted
