-- A step by which control moves within a function or out of it, and the step of the instrumented run beside it.
use Rattle.std.proofs.Common.{◌≡◌, ℕ, List, [], ◌∷◌, ◌++◌, length, reverse, take, Option, Some, true, nat_le, refl, sym, ap, ◌∙◌, subst, arith}
use Rattle.std.proofs.lemmas.Bool.Decides.{nat_tests}
use Rattle.std.proofs.lemmas.List.{append-nil, reverse-reverse, length-reverse, take_all}
use Rattle.wasm_syntax.specs.declared.values.Val.{Val}
use Rattle.wasm_syntax.specs.declared.instructions.Instr.{Instr}
use Rattle.wasm_syntax.specs.declared.modules.Module.{Module}
use Rattle.wasm_syntax.specs.Index.{imported_funcs, all_globals}
use Rattle.wasm_syntax.specs.Nest.{Nest}
use Rattle.wasm_syntax.specs.Validity.{IsValid}
use Rattle.history_spec.specs.declared.entries.Entry.{Entry}
use Rattle.history_spec.specs.declared.entries.Entry.TheVariants.{Step, Trap}
use Rattle.base.specs.declared.outcomes.Outcome.TheVariants.{Trapped}
use Rattle.history_spec.specs.Store.{Store}
use Rattle.history_spec.specs.Code.{Definition, code_of}
use Rattle.history_spec.specs.Configuration.{Place, place, Label, Frame, Activation, InModule, topmost, push_all}
use Rattle.history_spec.specs.Instruction.{Goes, Calls, Returns, Execution, Did, Traps, NoRule, execute_at}
use Rattle.history_spec.specs.Run.{Meter}
use Rattle.history_spec.specs.Settle.{return_entry, deliver, settle}
use Rattle.history_spec.specs.Step.{Program, Progress, Finished, after_settling}
use Rattle.type_safety.specs.Configurations.{scope}
use Rattle.type_safety.specs.Frames.{IsFrame}
use Rattle.type_safety.specs.Heights.{Heights}
use Rattle.type_safety.specs.Results.{HasRule}
use Rattle.type_safety.specs.Stores.{func_count}
use Rattle.type_safety.specs.Values.{AreValues}
use Rattle.type_safety.proofs.Values.{length_values}
use Rattle.record_replay_spec.specs.Hooks.{renumber, renumbered_view}
use Rattle.record_replay_spec.specs.Instrumented.{instrumented_nest}
use Rattle.record_replay_spec.specs.ReportedCalls.{WaitingCall, Moment, next_of_nest, reported_by_step, reported_by_trap, waiting_after_step}
use Rattle.instrumented_run_laws.proofs.Branches as branches
use Rattle.instrumented_run_laws.proofs.Executed as executed
use Rattle.instrumented_run_laws.proofs.Follows as follows
use Rattle.instrumented_run_laws.proofs.Kept as kept
use Rattle.instrumented_run_laws.proofs.Leads as leads
use Rattle.instrumented_run_laws.proofs.Pieces.{HasHooks}
use Rattle.instrumented_run_laws.proofs.Ready as ready
use Rattle.instrumented_run_laws.proofs.Ready.{IsReady}
use Rattle.instrumented_run_laws.proofs.Relation.{Beside, frame_beside}
use Rattle.instrumented_run_laws.proofs.Settled as settled
use Rattle.type_safety.proofs.SettleEnds.{results_end}
use Rattle.instrumented_run_laws.proofs.PieceFacts.{HasPieces}

-- results that were pushed on an empty stack are the topmost values
pub pushed_top : (given : List Val) (count : ℕ) → length given ≡ count → topmost count (push_all given []) ≡ Some given
pushed_top given count long =
    let values : push_all given [] ≡ reverse given = append-nil (reverse given) in
    let size : length (reverse given) ≡ count = length-reverse given ∙ long in
    let enough : nat_le count (length (reverse given)) ≡ true = grind (arith, nat_tests, size) in
    let all : take count (reverse given) ≡ reverse given =
    take_all count (reverse given) (omega (arith, size))
    in
    ap (topmost count) values
    ∙ rw enough (ap (λ vs. Some (reverse vs)) all ∙ ap Some (reverse-reverse given))

-- ---- control moves

module _ (m : Module) (heights : Heights) (valid : IsValid m) (program other : Program) (meter : Meter)
    (has : HasHooks (imported_funcs m) other meter) (pieces : HasPieces m other meter has) where
  abbrev n : ℕ
  n = imported_funcs m

  abbrev FollowsExecution : Option Instr → Store → List ℕ → Frame → List Activation → List WaitingCall → Execution
      → Progress → ℕ → Type 0
  FollowsExecution = ready.FollowsExecution m heights valid program other meter has pieces

  module _ (store : Store) (counts : List ℕ) (f : Frame) (nest : Nest) (number : ℕ) (below : List Activation)
      (waiting : List WaitingCall) (b : Beside) (bs : List Beside) (second : List ℕ) (body : Definition) where
    abbrev frame : Frame
    frame = record f { at = place nest number }

    open (ready.names m other meter store frame below waiting b bs second) use {site, ty, hooked, hooked_below, start}

    abbrev instr : Option Instr
    instr = next_of_nest nest

    abbrev exec : Execution
    exec = execute_at (code_of m) store frame nest number

    abbrev hooked_exec : Execution
    hooked_exec = execute_at other.code (renumbered_view n store) hooked (instrumented_nest site nest) b.number

    -- hooks do not report the instruction, and no call waits for it
    pub record IsQuiet : Type 0 where
      pub step : (operands results : List Val) (moment : Moment)
          → reported_by_step (all_globals m) instr operands results moment ≡ []
      pub trap : (operands : List Val) (moment : Moment) → reported_by_trap instr operands moment ≡ []
      pub waits : (operands : List Val) → waiting_after_step instr operands waiting ≡ waiting

    module _ (known : IsReady m heights meter store counts frame below waiting b bs second body) (quiet : IsQuiet)
        (moved : branches.IsMoved meter site ty b.last hooked exec hooked_exec)
        (keeps : kept.MovesOn store frame exec) (hooked_keeps : kept.MovesOn (renumbered_view n store) hooked
        hooked_exec)
        (weighs : meter.instruction (renumber n f.func) b.number ≡ 1) where
      -- if hooks do not report the instruction, only the hook calls after it are made
      quietly : (left : Store) (operands results : List Val) (found : Option ℕ) (entries : List Entry)
          (later : Progress)
          → settled.Follows m heights other meter has
          (settled.reported_of m heights other meter has instr store left waiting entries)
          (settled.waiting_of m heights other meter has instr store left waiting entries) later start 1
          → settled.Follows m heights other meter has
          (reported_by_step (all_globals m) instr operands results
          (record {
            entry = Step f.func number operands results found;
            instr = instr;
            before = store;
            after = left;
          })
          ++ settled.reported_of m heights other meter has instr store left (waiting_after_step instr operands waiting)
          entries)
          (settled.waiting_of m heights other meter has instr store left (waiting_after_step instr operands waiting)
          entries) later start 1
      quietly left operands results found entries later alone =
          subst
          (λ w. settled.Follows m heights other meter has
          (reported_by_step (all_globals m) instr operands results moment
          ++ settled.reported_of m heights other meter has instr store left w entries)
          (settled.waiting_of m heights other meter has instr store left w entries) later start 1)
          (sym (quiet.waits operands))
          (subst
          (λ reported. settled.Follows m heights other meter has
          (reported ++ settled.reported_of m heights other meter has instr store left waiting entries)
          (settled.waiting_of m heights other meter has instr store left waiting entries) later start 1)
          (sym (quiet.step operands results moment)) alone)
        where
          moment : Moment
          moment = record {
            entry = Step f.func number operands results found;
            instr = instr;
            before = store;
            after = left;
          }

      went : (left : Store) (values : List Val) (labels : List Label) (at : Place) (operands results : List Val)
          (found : Option ℕ)
          → branches.GoesBeside meter site ty b.last hooked operands results found left
          (record frame { values = values; labels = labels; at = at }) hooked_exec
          → IsFrame (scope m heights f.func ty body) [] (record frame { values = values; labels = labels; at = at })
          → FollowsExecution instr store counts frame below waiting
          (Did operands results found (Goes left (record frame { values = values; labels = labels; at = at })))
          start 1
      went left values labels at operands results found g framed =
          quietly left operands results found entries later
          (follows.after_way m other meter []
          (settled.reported_of m heights other meter has instr store left waiting entries)
          (settled.waiting_of m heights other meter has instr store left waiting entries) later start
          (leads.settled n other meter (renumbered_view n left) second hooked_below (frame_beside m meter next []
          beside_next))
          1 0
          (executed.goes_there m other meter has (renumbered_view n store) second hooked_below hooked weighs
          (renumbered_view n left) (frame_beside m meter next [] beside_next) operands results found g.is)
          (settled.settles m heights other meter has instr store left counts below waiting bs next body beside_next
          second
          (record {
            arity = known.beside.arity;
            locals = known.beside.locals;
            weights = g.at;
            labels = g.labels;
            last = known.beside.last;
          })
          known.counted known.waits
          (ready.results_below m heights valid program other meter has pieces instr store store left counts frame below
          waiting b bs second body known)
          (results_end (scope m heights f.func ty body) [] next [] framed tt)))
        where
          next : Frame
          next = record frame { values = values; labels = labels; at = at }

          beside_next : Beside
          beside_next = record { scratch = b.scratch; number = g.number; numbers = g.numbers; last = b.last }

          entries : List Entry
          entries = (settle (InModule next ∷ below)).entries

          later : Progress
          later = (after_settling left counts (settle (InModule next ∷ below))).next

      -- control leaves the function
      left_body : (given operands results : List Val) (found : Option ℕ) (held : Store)
          → hooked_exec
          ≡ Did operands results found (Goes held (branches.ending meter site ty b.last hooked given))
          → AreValues (func_count m) ty.results given
          → FollowsExecution instr store counts frame below waiting (Did operands results found (Returns given)) start 1
      left_body given operands results found held e are =
          quietly store operands results found entries later
          (subst
          (λ reported. settled.Follows m heights other meter has reported
          (settled.waiting_of m heights other meter has instr store store waiting entries) later start 1)
          (sym
          (follows.reported_return_entry m other meter instr store store waiting f.func given below
          (deliver below given).entries))
          (subst
          (λ w. settled.Follows m heights other meter has
          (settled.reported_ended m heights other meter has instr store store counts below waiting bs frame given) w later
          start 1)
          (sym
          (follows.waiting_return_entry m other meter instr store store waiting f.func given below
          (deliver below given).entries))
          (follows.after_way m other meter []
          (settled.reported_ended m heights other meter has instr store store counts below waiting bs frame given)
          (settled.waiting_ended m heights other meter has instr store store counts below waiting bs frame given) later
          start
          (leads.settled n other meter (renumbered_view n store) second hooked_below ended) 1 0
          (executed.goes_there m other meter has (renumbered_view n store) second hooked_below hooked weighs
          (renumbered_view n store) ended operands results found
          (e ∙ ap (λ view. Did operands results found (Goes view ended)) view_held))
          (settled.ends m heights other meter has instr store store counts below waiting bs frame b (push_all given [])
          given second known.beside.locals known.beside.last
          (pushed_top given f.arity
          (length_values (func_count m) ty.results given are ∙ sym known.framed.around.arity))
          are known.counted
          (ready.results_below m heights valid program other meter has pieces instr store store store counts frame below
          waiting b bs second body known)))))
        where
          ended : Frame
          ended = branches.ending meter site ty b.last hooked given

          view_held : held ≡ renumbered_view n store
          view_held = (subst (kept.IsMovedOn (renumbered_view n store) hooked) e hooked_keeps.moved).0

          entries : List Entry
          entries = return_entry f.func given below ∷ (deliver below given).entries

          later : Progress
          later = (after_settling store counts (deliver below given)).next

      pub move : (e : Execution) → exec ≡ e → HasRule (scope m heights f.func ty body) e
          → FollowsExecution instr store counts frame below waiting e start 1
      move NoRule e fine = absurd fine
      move (Traps kind operands found) e fine =
          subst
          (λ reported. settled.Follows m heights other meter has (reported ++ []) waiting (Finished Trapped) start 1)
          (sym
          (quiet.trap operands
          (record { entry = Trap f.func number kind operands found; instr = instr; before = store; after = store })))
          (record {
            to = Finished Trapped;
            led = executed.traps_there m other meter has (renumbered_view n store) second hooked_below hooked weighs
                kind
                operands found
                (subst (λ x. branches.IsMoved meter site ty b.last hooked x hooked_exec) e moved);
            beside = refl;
          })
      move (Did operands results found (Goes left next)) e fine =
          subst
          (λ g. FollowsExecution instr store counts frame below waiting (Did operands results found (Goes left g)) start
          1)
          (sym gone)
          (went left next.values next.labels next.at operands results found
          (subst
          (λ g. branches.GoesBeside meter site ty b.last hooked operands results found left g hooked_exec) gone
          (subst (λ x. branches.IsMoved meter site ty b.last hooked x hooked_exec) e moved))
          (subst (IsFrame (scope m heights f.func ty body) []) gone fine.1))
        where
          gone : next ≡ record frame { values = next.values; labels = next.labels; at = next.at }
          gone = (subst (kept.IsMovedOn store frame) e keeps.moved).1
      move (Did operands results found (Calls waits func args)) e fine =
          absurd (subst (kept.IsMovedOn store frame) e keeps.moved)
      move (Did operands results found (Returns given)) e fine =
          let p = subst (λ x. branches.IsMoved meter site ty b.last hooked x hooked_exec) e moved in
          left_body given operands results found p.0 p.1 fine
