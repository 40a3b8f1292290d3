-- An instruction of the original, and the code inserted before it in the instrumented run, which makes its hook calls.
use Rattle.std.proofs.Common.{◌≡◌, ℕ, ◌+◌, List, [], map, Option, Some, refl, sym, ap, ◌∙◌, subst}
use Rattle.std.proofs.lemmas.List.{append-nil}
use Rattle.wasm_syntax.specs.declared.values.Val.{Val}
use Rattle.wasm_syntax.specs.declared.instructions.Instr.{Instr}
use Rattle.wasm_syntax.specs.declared.modules.Module.{Module}
use Rattle.wasm_syntax.specs.Encoding.Forms.{IsCoreInstr}
use Rattle.wasm_syntax.specs.Index.{imported_funcs}
use Rattle.wasm_syntax.specs.Nest.{Nest, Plain}
use Rattle.wasm_syntax.specs.Validity.{IsValid}
use Rattle.history_spec.specs.declared.entries.TrapKind.{TrapKind}
use Rattle.base.specs.declared.outcomes.Outcome.TheVariants.{Trapped}
use Rattle.history_spec.specs.Store.{Store}
use Rattle.history_spec.specs.Code.{Definition, code_of}
use Rattle.history_spec.specs.Configuration.{Place, place, Frame, Activation}
use Rattle.history_spec.specs.Instruction.{Execution, Traps, execute_plain}
use Rattle.history_spec.specs.Run.{Meter}
use Rattle.history_spec.specs.Step.{Program, Progress, Finished}
use Rattle.type_safety.specs.Heights.{Heights}
use Rattle.type_safety.specs.Stores.{func_count}
use Rattle.record_replay_spec.specs.Hooks.{renumbered_view, renumbered_call}
use Rattle.record_replay_spec.specs.Insertions.{inserted_before}
use Rattle.record_replay_spec.specs.Instrumented.{renumbered}
use Rattle.record_replay_spec.specs.ReportedCalls.{WaitingCall, reported_before}
use Rattle.instrumented_run_laws.proofs.Before as before
use Rattle.instrumented_run_laws.proofs.Before.{operands_of, IsRule}
use Rattle.instrumented_run_laws.proofs.Executed as executed
use Rattle.instrumented_run_laws.proofs.Follows as follows
use Rattle.instrumented_run_laws.proofs.Leads as leads
use Rattle.instrumented_run_laws.proofs.Pieces.{HasHooks}
use Rattle.instrumented_run_laws.proofs.Ready as ready
use Rattle.instrumented_run_laws.proofs.Ready.{IsReady}
use Rattle.instrumented_run_laws.proofs.Relation.{Beside}
use Rattle.instrumented_run_laws.proofs.Settled as settled
use Rattle.instrumented_run_laws.proofs.PieceFacts.{HasPieces, IsNoReturn}

module _ (m : Module) (heights : Heights) (valid : IsValid m) (program other : Program) (meter : Meter)
    (has : HasHooks (imported_funcs m) other meter) (pieces : HasPieces m other meter has) where
  abbrev n : ℕ
  n = imported_funcs m

  module _ (store : Store) (counts : List ℕ) (f : Frame) (i : Instr) (rest : Nest) (number : ℕ)
      (below : List Activation) (waiting : List WaitingCall) (b : Beside) (bs : List Beside) (second : List ℕ)
      (body : Definition) where
    abbrev frame : Frame
    frame = record f { at = place (Plain i rest) number }

    open (ready.names m other meter store frame below waiting b bs second) use {site, hooked, hooked_below, start}

    abbrev exec : Execution
    exec = execute_plain (code_of m) store frame (place rest (number + 1)) i

    -- the place after the instruction in the instrumented body
    abbrev pub hooked_next : Place
    hooked_next =
        place (executed.instr_rest m other meter has store second hooked_below f i rest number b)
        (executed.instr_number m other meter has store second hooked_below f i rest number b + 1)

    module _ (known : IsReady m heights meter store counts frame below waiting b bs second body)
        (none : IsNoReturn i) (core : IsCoreInstr i) (rule : IsRule exec) where
      -- the hook calls of the code before the instruction
      pub t : before.Reports site other meter has store hooked_below hooked f.locals known.beside.locals second b.scratch
          f.values (inserted_before site i) (reported_before i (operands_of exec) store)
      t = pieces.before_reported site refl has store hooked_below hooked f.locals known.beside.locals second b.scratch
          (code_of m) frame (place rest (number + 1)) i core none known.framed.types (func_count m) known.framed.values
          known.globals rule

      -- the instrumented activation before the instruction
      abbrev pub at_instr : Instr → Frame
      at_instr j = executed.at_instr m other meter has store second hooked_below f i rest number b j t.scratch

      abbrev pub middle : Progress
      middle = leads.running n other meter (renumbered_view n store) t.after hooked_below (at_instr (renumbered n i))

      pub to_instr : leads.Leads n other meter start middle 0
          (map (renumbered_call n) (reported_before i (operands_of exec) store))
      to_instr =
          executed.reported_there m other meter has store second hooked_below f i rest number b known.beside
          (reported_before i (operands_of exec) store) t

      pub weighs : meter.instruction (at_instr (renumbered n i)).func (at_instr (renumbered n i)).at.number ≡ 1
      weighs = executed.weight_there m other meter has store second hooked_below f i rest number b known.beside

      abbrev pub hooked_exec : Execution
      hooked_exec =
          execute_plain other.code (renumbered_view n store) (at_instr (renumbered n i)) hooked_next (renumbered n i)

      -- the instruction traps
      pub trapped : (kind : TrapKind) (operands : List Val) (found other_found : Option ℕ)
          → exec ≡ Traps kind operands found → hooked_exec ≡ Traps kind operands other_found
          → ready.FollowsExecution m heights valid program other meter has pieces (Some i) store counts frame below
          waiting
          (Traps kind operands found) start 1
      trapped kind operands found other_found e traps =
          subst
          (λ calls. settled.Follows m heights other meter has calls waiting (Finished Trapped) start 1)
          (ap (λ x. reported_before i (operands_of x) store) e ∙ sym (append-nil (reported_before i operands store)))
          (subst
          (λ calls. settled.Follows m heights other meter has calls waiting (Finished Trapped) start 1)
          (append-nil (reported_before i (operands_of exec) store))
          (follows.after_way m other meter (reported_before i (operands_of exec) store) [] waiting (Finished Trapped) start
          middle
          0 1 to_instr
          (record {
            to = Finished Trapped;
            led = executed.traps_there m other meter has (renumbered_view n store) t.after hooked_below
                (at_instr (renumbered n i)) weighs kind operands other_found traps;
            beside = refl;
          })))

      -- the names of this file as a record, for the files on kinds of instructions
      pub record Names : Type 0 where
        pub t : before.Reports site other meter has store hooked_below hooked f.locals known.beside.locals second
            b.scratch f.values (inserted_before site i) (reported_before i (operands_of exec) store)
        pub at_instr : Frame
        pub middle : Progress
        pub next_there : Place
        pub hooked_exec : Execution
        pub to_instr : leads.Leads n other meter start middle 0
            (map (renumbered_call n) (reported_before i (operands_of exec) store))
        pub weighs : meter.instruction at_instr.func at_instr.at.number ≡ 1
        pub trapped : (kind : TrapKind) (operands : List Val) (found other_found : Option ℕ)
            → exec ≡ Traps kind operands found → hooked_exec ≡ Traps kind operands other_found
            → ready.FollowsExecution m heights valid program other meter has pieces (Some i) store counts frame below
            waiting (Traps kind operands found) start 1

      abbrev pub names : Names
      names = record {
        t = t;
        at_instr = at_instr (renumbered n i);
        middle = middle;
        next_there = hooked_next;
        hooked_exec = hooked_exec;
        to_instr = to_instr;
        weighs = weighs;
        trapped = trapped;
      }
