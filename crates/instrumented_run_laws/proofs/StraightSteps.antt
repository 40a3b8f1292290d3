-- A step by an instruction that neither branches nor calls, and the step of the instrumented run beside it.
use Rattle.std.proofs.Common.{◌≡◌, ℕ, ◌+◌, List, [], ◌∷◌, ◌++◌, length, Option, Some, refl, sym, ap, ◌∙◌, subst, append_assoc}
use Rattle.wasm_syntax.specs.declared.values.Val.{Val}
use Rattle.wasm_syntax.specs.declared.instructions.Instr.{Instr}
use Rattle.wasm_syntax.specs.declared.modules.Module.{Module}
use Rattle.wasm_syntax.specs.Encoding.Forms.{IsCoreInstr}
use Rattle.wasm_syntax.specs.Index.{imported_funcs, all_globals}
use Rattle.wasm_syntax.specs.Nest.{Nest, Plain}
use Rattle.wasm_syntax.specs.Validity.{IsValid}
use Rattle.history_spec.specs.declared.entries.Entry.{Entry}
use Rattle.history_spec.specs.Store.{Store}
use Rattle.history_spec.specs.Code.{Definition, code_of}
use Rattle.history_spec.specs.Configuration.{place, Frame, Activation, InModule}
use Rattle.history_spec.specs.Instruction.{Goes, Calls, Returns, Execution, Did, Traps, NoRule, execute_plain}
use Rattle.history_spec.specs.Run.{Meter}
use Rattle.history_spec.specs.Settle.{settle}
use Rattle.history_spec.specs.Step.{Program, Progress, after_settling}
use Rattle.type_safety.specs.Configurations.{scope}
use Rattle.type_safety.specs.Frames.{IsFrame}
use Rattle.type_safety.specs.Heights.{Heights}
use Rattle.type_safety.specs.Results.{HasRule}
use Rattle.type_safety.specs.Stores.{func_count}
use Rattle.type_safety.proofs.Values.{length_values}
use Rattle.record_replay_spec.specs.Hooks.{HookCall, renumbered_view}
use Rattle.record_replay_spec.specs.Insertions.{inserted_after}
use Rattle.record_replay_spec.specs.ReportedCalls.{WaitingCall, reported_before, reported_after}
use Rattle.tape_laws.proofs.ModuleFacts.{no_call_waits}
use Rattle.instrumented_run_laws.proofs.Before.{operands_of, IsRule}
use Rattle.instrumented_run_laws.proofs.Executed as executed
use Rattle.instrumented_run_laws.proofs.Follows as follows
use Rattle.instrumented_run_laws.proofs.Kept as kept
use Rattle.instrumented_run_laws.proofs.InstrKinds.{IsPlainly, straight_plainly}
use Rattle.instrumented_run_laws.proofs.Leads as leads
use Rattle.instrumented_run_laws.proofs.Pieces.{HasHooks}
use Rattle.instrumented_run_laws.proofs.Ready as ready
use Rattle.instrumented_run_laws.proofs.Ready.{IsReady}
use Rattle.instrumented_run_laws.proofs.Relation.{Beside, frame_beside, IsBeside, AreCounted}
use Rattle.instrumented_run_laws.proofs.Scratch.{scratch_values}
use Rattle.instrumented_run_laws.proofs.Settled as settled
use Rattle.instrumented_run_laws.proofs.ReportedBefore as reported_first
use Rattle.instrumented_run_laws.proofs.Straight as straight
use Rattle.instrumented_run_laws.proofs.Straight.{IsStraight}
use Rattle.type_safety.proofs.SettleEnds.{results_end}
use Rattle.instrumented_run_laws.proofs.PieceFacts.{HasPieces}

module _ (m : Module) (heights : Heights) (valid : IsValid m) (program other : Program) (meter : Meter)
    (has : HasHooks (imported_funcs m) other meter) (pieces : HasPieces m other meter has) where
  module _ (store : Store) (counts : List ℕ) (f : Frame) (i : Instr) (rest : Nest) (number : ℕ)
      (below : List Activation) (waiting : List WaitingCall) (b : Beside) (bs : List Beside) (second : List ℕ)
      (body : Definition) where
    open (ready.instr_names m store f i rest number) use {n, frame, exec}
    open (ready.names m other meter store frame below waiting b bs second) use {site, ty, hooked, hooked_below, start}

    module _ (known : IsReady m heights meter store counts frame below waiting b bs second body)
        (is : IsStraight i) (core : IsCoreInstr i) (rule : IsRule exec) where
      abbrev FollowsExecution : Execution → Type 0
      FollowsExecution e =
          ready.FollowsExecution m heights valid program other meter has pieces (Some i) store counts frame below
          waiting e start 1

      plainly : IsPlainly n i
      plainly = straight_plainly n i is

      -- the hook calls of the code before the instruction are made
      open (reported_first.names m heights valid program other meter has pieces store counts f i rest number below
          waiting b bs second body known plainly.no_return core rule)
          use {t, at_instr, middle, next_there, hooked_exec, to_instr, weighs, trapped}

      alike : straight.IsAlike n hooked (scratch_values t.scratch) next_there exec hooked_exec
      alike =
          subst
          (λ j. straight.IsAlike n hooked (scratch_values t.scratch) next_there exec
          (execute_plain other.code (renumbered_view n store)
          (reported_first.at_instr m heights valid program other meter has pieces store counts f i rest number below waiting
          b bs second body known plainly.no_return core rule j) next_there j))
          (sym plainly.same)
          (straight.straight n hooked (scratch_values t.scratch) (code_of m) other.code store frame (place rest (number
          + 1))
          (place
          (Plain i (executed.instr_rest m other meter has store second hooked_below f i rest number b))
          (executed.instr_number m other meter has store second hooked_below f i rest number b))
          next_there i is)

      -- the instruction goes on
      went : (left : Store) (locals values : List Val) (operands results : List Val) (found : Option ℕ)
          → exec
          ≡ Did operands results found
          (Goes left (record frame { locals = locals; values = values; at = place rest (number + 1) }))
          → IsFrame (scope m heights f.func ty body) []
          (record frame { locals = locals; values = values; at = place rest (number + 1) })
          → FollowsExecution (Did operands results found
          (Goes left (record frame { locals = locals; values = values; at = place rest (number + 1) })))
      went left locals values operands results found e framed =
          subst
          (λ w. settled.Follows m heights other meter has
          ((reported_before i operands store ++ reported_after (all_globals m) i results left)
          ++ settled.reported_of m heights other meter has (Some i) store left w entries)
          (settled.waiting_of m heights other meter has (Some i) store left w entries) later start 1)
          (sym (no_call_waits (Some i) operands plainly.no_call waiting))
          (subst (λ calls. Follows calls start 1)
          (sym (append_assoc (reported_before i operands store) (reported_after (all_globals m) i results left) reported_later))
          (subst
          (λ calls. Follows (calls ++ (reported_after (all_globals m) i results left ++ reported_later)) start 1)
          (ap (λ x. reported_before i (operands_of x) store) e) all))
        where
          next : Frame
          next = record frame { locals = locals; values = values; at = place rest (number + 1) }

          beside_next : Beside
          beside_next = executed.beside_after m other meter has store second hooked_below f i rest number b t.scratch

          beside : IsBeside m meter next (inserted_after site i) beside_next
          beside =
              record {
                arity = known.beside.arity;
                locals = locals_kept;
                weights = executed.weights_after m other meter has store second hooked_below f i rest number b
                    known.beside;
                labels = known.beside.labels;
                last = known.beside.last;
              }
            where
              locals_kept : site.locals ≡ length locals
              locals_kept =
                  known.beside.locals
                  ∙ length_values (func_count m) _ f.locals known.framed.around.locals
                  ∙ sym (length_values (func_count m) _ locals framed.around.locals)

          u : settled.PieceReported m heights other meter has left t.after hooked_below next (inserted_after site i)
              beside_next
              (reported_after (all_globals m) i results left)
          u = settled.piece_reported m heights other meter has left t.after hooked_below next (inserted_after site i)
              beside_next
              (reported_after (all_globals m) i results left) beside
              (pieces.after_reported site refl has store left hooked_below
              (frame_beside m meter next (inserted_after site i) beside_next) locals beside.locals t.after t.scratch
              (code_of m) frame next (place rest (number + 1)) i operands results found is e known.globals)

          counted : AreCounted n counts u.after
          counted =
              settled.counted_after m heights other meter has counts t.after u.after
              (settled.counted_after m heights other meter has counts second t.after known.counted t.counted) u.counted

          entries : List Entry
          entries = (settle (InModule next ∷ below)).entries

          reported_later : List HookCall
          reported_later = settled.reported_of m heights other meter has (Some i) store left waiting entries

          waiting_later : List WaitingCall
          waiting_later = settled.waiting_of m heights other meter has (Some i) store left waiting entries

          later : Progress
          later = (after_settling left counts (settle (InModule next ∷ below))).next

          Follows : List HookCall → Progress → ℕ → Type 0
          Follows calls from turns = settled.Follows m heights other meter has calls waiting_later later from turns

          after_piece : Follows reported_later
              (leads.settled n other meter (renumbered_view n left) u.after hooked_below (frame_beside m meter next []
              u.next))
              0
          after_piece =
              settled.settles m heights other meter has (Some i) store left counts below waiting bs next body u.next
              u.after
              u.is_beside counted known.waits
              (ready.results_below m heights valid program other meter has pieces (Some i) store store left counts frame
              below
              waiting b bs second body known)
              (results_end (scope m heights f.func ty body) [] next [] framed tt)

          before_piece : leads.Leads n other meter middle
              (leads.settled n other meter (renumbered_view n left) t.after hooked_below
              (frame_beside m meter next (inserted_after site i) beside_next))
              1 []
          before_piece =
              executed.goes_there m other meter has (renumbered_view n store) t.after hooked_below at_instr weighs
              (renumbered_view n left) (frame_beside m meter next (inserted_after site i) beside_next) operands results
              found
              (subst (λ x. straight.IsAlike n hooked (scratch_values t.scratch) next_there x hooked_exec) e alike)

          all : Follows (reported_before i (operands_of exec) store ++ (reported_after (all_globals m) i results left ++
              reported_later))
              start 1
          all =
              follows.after_way m other meter (reported_before i (operands_of exec) store)
              (reported_after (all_globals m) i results left ++ reported_later) waiting_later later start middle 0 1
              to_instr
              (follows.after_way m other meter [] (reported_after (all_globals m) i results left ++ reported_later)
              waiting_later
              later middle
              (leads.settled n other meter (renumbered_view n left) t.after hooked_below
              (frame_beside m meter next (inserted_after site i) beside_next))
              1 0 before_piece
              (follows.after_way m other meter (reported_after (all_globals m) i results left) reported_later waiting_later
              later
              (leads.settled n other meter (renumbered_view n left) t.after hooked_below
              (frame_beside m meter next (inserted_after site i) beside_next))
              (leads.settled n other meter (renumbered_view n left) u.after hooked_below (frame_beside m meter next []
              u.next))
              0 0 u.led after_piece))

      -- one step
      pub straight_step : (e : Execution) → exec ≡ e → HasRule (scope m heights f.func ty body) e
          → FollowsExecution e
      straight_step NoRule e fine = absurd fine
      straight_step (Traps kind operands found) e fine =
          trapped kind operands found found e
          (subst (λ x. straight.IsAlike n hooked (scratch_values t.scratch) next_there x hooked_exec) e alike)
      straight_step (Did operands results found (Goes left next)) e fine =
          subst
          (λ g. FollowsExecution (Did operands results found (Goes left g)))
          (sym gone)
          (went left next.locals next.values operands results found
          (e ∙ ap (λ g. Did operands results found (Goes left g)) gone)
          (subst (IsFrame (scope m heights f.func ty body) []) gone fine.1))
        where
          gone : next ≡ record frame { locals = next.locals; values = next.values; at = place rest (number + 1) }
          gone =
              subst (kept.IsGoneOn store frame (place rest (number + 1))) e
              (kept.straight_goes_on store frame (code_of m) (place rest (number + 1)) i is).gone
      straight_step (Did operands results found (Calls waits func args)) e fine =
          absurd
          (subst (kept.IsGoneOn store frame (place rest (number + 1))) e
          (kept.straight_goes_on store frame (code_of m) (place rest (number + 1)) i is).gone)
      straight_step (Did operands results found (Returns given)) e fine =
          absurd
          (subst (kept.IsGoneOn store frame (place rest (number + 1))) e
          (kept.straight_goes_on store frame (code_of m) (place rest (number + 1)) i is).gone)
