-- All steps of a scripted run beside the tape's run, from the start of the run.
use Rattle.std.proofs.Common.{◌≡◌, ℕ, zero, suc, ◌*◌, ◌≤◌, List, [], ◌∷◌, length, Option, Some, None, Bool, true, false, nat_lt, replicate, refl, sym, ap, subst, arith, ◌++◌}
use Rattle.std.specs.Prelude.{IfSome}
use Rattle.std.specs.Option.{option_flatten}
use Rattle.std.proofs.lemmas.List.{get_or_past}
use Rattle.std.proofs.lemmas.Option.{slice_get_past}
use Rattle.wasm_syntax.specs.declared.limits.TheConstants.{PAGE_SIZE}
use Rattle.wasm_syntax.specs.declared.modules.Module.{Module}
use Rattle.wasm_syntax.specs.Index.{imported_funcs}
use Rattle.wasm_syntax.specs.Validity.{IsValid}
use Rattle.wasm_syntax.specs.declared.signatures.FuncType.{FuncType}
use Rattle.host_script.specs.declared.scripts.Action.{Action}
use Rattle.host_script.specs.declared.scripts.Answer.{Answer}
use Rattle.host_script.specs.Fits.{FitAnswers}
use Rattle.base.specs.declared.outcomes.Outcome.TheVariants.{Trapped}
use Rattle.trace_model.specs.declared.tapes.Origin.TheVariants.{Begin}
use Rattle.trace_model.specs.declared.tapes.Next.TheVariants.{Call as CallNext}
use Rattle.trace_model.specs.declared.tapes.Origin.{Origin}
use Rattle.history_spec.specs.declared.entries.Entry.TheVariants.{HostCall, Step, Trap}
use Rattle.history_spec.specs.Store.{Store, Memory, Table}
use Rattle.history_spec.specs.Code.{Code, code_of, Definition}
use Rattle.history_spec.specs.Configuration.{InModule, InMain, InImport, Config, Frame, Activation}
use Rattle.history_spec.specs.Instantiation.{memory_length, table_length}
use Rattle.history_spec.specs.Instruction.{execute, Execution, Did, Traps, NoRule}
use Rattle.history_spec.specs.Settle.{deliver}
use Rattle.history_spec.specs.Action.{perform}
use Rattle.history_spec.specs.Step.{Program, StepResult, after_entries, after_settling, enter_function, start, start_with_call, Finished, step_result, after_control, after_instruction}
use Rattle.history_spec.specs.declared.entries.Entry.{Entry}
use Rattle.history_spec.specs.Run.{all_one, steps}
use Rattle.record_replay_spec.specs.Observations.{Begins, Observation}
use Rattle.record_replay_spec.specs.Known.{Known, byte_of, entry_of, pages_of, opening_known, known_after_all}
use Rattle.record_replay_spec.specs.TapeRun.{tape_result, tape_start, program_awaiting, after_step}
use Rattle.record_replay_spec.specs.Windows.{window}
use Rattle.record_replay_spec.specs.Changes.{with_changes}
use Rattle.record_replay_spec.specs.Executions.{in_store}
use Rattle.record_replay_spec.specs.ObservedStepLaws.{observed}
use Rattle.type_safety.specs.Configurations.{IsConfig, IsSafe, IsTypedCode, scope}
use Rattle.type_safety.specs.Heights.{Heights}
use Rattle.type_safety.specs.Stores.{IsStore}
use Rattle.type_safety.specs.Results.{HasRule}
use Rattle.tape_laws.proofs.SafeSteps.{safe_step}
use Rattle.tape_laws.specs.Below.{LawsOfSteps}
use Rattle.tape_laws.proofs.Relation.{IsKnownOf, Holds, IsReadOf, AreSeen}
use Rattle.tape_laws.proofs.Claims.{Claim}
use Rattle.tape_laws.proofs.Closed.{OneMore, IsClosed, IsBeforeInstruction, tape_at}
use Rattle.tape_laws.proofs.Follows.{all_paused, observed_from, Follows, AreNested}
use Rattle.tape_laws.proofs.Activities.{HasSizes}
use Rattle.tape_laws.proofs.HostStores.{sizes_of}
use Rattle.tape_laws.proofs.Parts.{follows_none, host_reads, follows_entry, follows_segment, window_after, finished_observations, finished_history, finished_outcome}
use Rattle.tape_laws.proofs.Simulation as sim
use Rattle.tape_laws.proofs.StepItems.{known_of_all, read_of_all, nothing_read}
use Rattle.tape_laws.proofs.KeptSteps.{trap_seen, done_seen, left_is}

-- ---- where the run begins

pub opening_is_known : (store : Store) → HasSizes store → IsKnownOf (opening_known store) store
opening_is_known store sizes =
    record {
      pages = omega arith;
      entries = omega arith;
      past_pages = λ at past. no_byte store.memory at (subst (λ n. n ≤ at) (sym sizes.whole) past);
      past_entries = no_entry store.table;
      types = λ at. refl;
    }
  where
    no_byte : (o : Option Memory) (at : ℕ) → memory_length o ≤ at → byte_of o at ≡ 0
    no_byte None at past = refl
    no_byte (Some m) at past = get_or_past m.bytes at 0 past

    no_entry : (o : Option Table) (at : ℕ) → table_length o ≤ at → entry_of o at ≡ None
    no_entry None at past = refl
    no_entry (Some t) at past = ap option_flatten (slice_get_past t.entries at past)

pub opening_holds : (store : Store) → HasSizes store → Holds (opening_known store) [] store
opening_holds store sizes =
    record {
      pages = size store.memory sizes.whole;
      entries = count store.table;
      byte = λ at. refl;
      entry = λ at. refl;
      global = λ at. refl;
    }
  where
    size : (o : Option Memory) → memory_length o ≡ pages_of o * PAGE_SIZE
        → IfSome o (λ m. length m.bytes ≡ pages_of o * PAGE_SIZE)
    size None h = tt
    size (Some m) h = h

    count : (o : Option Table) → IfSome o (λ t. length t.entries ≡ table_length o)
    count None = tt
    count (Some t) = refl

module _ (laws : LawsOfSteps) (m : Module) (heights : Heights) (valid : IsValid m) (typed : IsTypedCode m heights)
    (answers : List (Option Answer)) (fits : FitAnswers m answers) (claim : Claim)
    (closed : IsClosed claim m heights) where
  abbrev program : Program
  program = record { code = code_of m; answers = answers }

  abbrev code : Code
  code = code_of m

  abbrev Delivers : ℕ → Type 0
  Delivers = sim.Delivers laws m heights valid typed answers fits claim closed

  abbrev Makes : ℕ → Type 0
  Makes = sim.Makes laws m heights valid typed answers fits claim closed

  -- ---- an instruction

  module _ (k : ℕ) (delivers : Delivers k) (frame : Frame) (below : List Activation) (store : Store) (counts : List ℕ)
      (known : Known) (came : Origin) (nested : AreNested below)
      (fine : IsConfig m heights (record { store = store; stack = InModule frame ∷ below; counts = counts }))
      (of : IsKnownOf known store) where
    abbrev config : Config
    config = record { store = store; stack = InModule frame ∷ below; counts = counts }

    abbrev items : List Observation
    items = observed store frame

    before : AreSeen known store items → IsBeforeInstruction m heights known store frame
    before are =
        let a = fine.stack in
        record { ty = a.0; body = a.1; typed = a.2; going = fine.at_step; is = fine.store; of = of; seen = are }

    reads_all : AreSeen known store items → (later : List Observation)
        → IsReadOf (known_after_all known items) (window later) (with_changes store items)
        → IsReadOf known (window (items ++ later)) store
    reads_all are later real =
        subst (λ w. IsReadOf known w store) (sym (window_after known store items later are))
        (read_of_all (window later) known store items are real)

    pub executed : (ty : FuncType) (body : Definition) (e : Execution) → execute code store frame ≡ e
        → HasRule (scope m heights frame.func ty body) e
        → IsSafe m heights (after_instruction program config frame below e).next
        → Follows claim program k known store
        (items ++ observed_from program k (after_instruction program config frame below e))
        (after_instruction program config frame below e) (tape_at (InModule frame ∷ all_paused below) counts came)
    executed ty body NoRule e rule safe = absurd rule
    executed ty body (Traps kind operands found) e rule safe =
        subst
        (λ left. Follows claim program k known store (items ++ left)
        (step_result (Trap frame.func frame.at.number kind operands found ∷ []) (Finished Trapped))
        (tape_at (InModule frame ∷ all_paused below) counts came))
        (sym (finished_observations program k Trapped))
        (record {
          reads = reads_all are [] (nothing_read _ _);
          shows = λ other segments outcome same ready h.
              subst
              (λ o. claim.comes code (tape_at (InModule frame ∷ all_paused below) counts came other segments) history o)
              (finished_outcome program k Trapped outcome h)
              (subst
              (λ l. claim.comes code (tape_at (InModule frame ∷ all_paused below) counts came other segments)
              (Trap frame.func frame.at.number kind operands found ∷ l) Trapped)
              (sym (finished_history program k Trapped))
              (closed.trap known store frame (all_paused below) counts came (before are) kind operands found e other
              segments same ready));
        })
      where
        are : AreSeen known store items
        are = trap_seen laws.own laws.answers m code store fine.store frame known kind operands found e

        history : List Entry
        history =
            Trap frame.func frame.at.number kind operands found
            ∷ (steps program all_one k (Finished Trapped)).history
    executed ty body (Did operands results found control) e rule safe =
        record {
          reads = reads_all are later next.reads;
          shows = λ other segments outcome same ready h.
              closed.step known store frame (all_paused below) counts came (before are) operands results found control later
              history outcome e next.reads
              (λ after left kept ready. next.shows after left outcome kept ready h) other segments same ready;
        }
      where
        are : AreSeen known store items
        are = done_seen laws.own laws.answers m code store fine.store frame known operands results found control e

        s : StepResult
        s = after_control program config frame below control

        history : List Entry
        history = s.entries ++ (steps program all_one k s.next).history

        later : List Observation
        later =
            observed_from program k (after_instruction program config frame below (Did operands results found control))

        next : Follows claim program k (known_after_all known items) (with_changes store items) later
            (after_instruction program config frame below (Did operands results found control))
            (λ other segments. after_step segments came
            (after_entries (Step frame.func frame.at.number operands results found ∷ [])
            (after_control (program_awaiting code)
            (record { store = other; stack = InModule frame ∷ all_paused below; counts = counts }) frame
            (all_paused below) (in_store other control))))
        next =
            follows_entry m heights answers claim closed k (known_after_all known items) (with_changes store items) _ _
            _ _ (Step frame.func frame.at.number operands results found) (λ other segments. refl)
            (sim.controlled laws m heights valid typed answers fits claim closed k delivers frame below store
            (with_changes store items) counts (known_after_all known items) came ty body control nested fine.store rule
            (left_is laws.own laws.answers m code store fine.store frame known operands results found control e)
            (known_of_all known store items are of) safe)

  -- ---- all steps

  made_next : (k : ℕ) → Delivers k → Makes (suc k)
  made_next k delivers =
      record {
        runs = λ frame below store counts known came nested fine of.
            let config : Config = record { store = store; stack = InModule frame ∷ below; counts = counts } in
            let a = fine.stack in
            let f = executed k delivers frame below store counts known came nested fine of a.0 a.1
            (execute code store frame) refl
            (laws.rules m heights store frame a.0 a.1 valid typed fine.store a.2 fine.at_step)
            (safe_step laws m heights valid typed answers fits config fine) in
            record { reads = f.reads; shows = f.shows };
        main = λ action actions below store counts known came nested fine of.
            let config : Config =
            record { store = store; stack = InMain (action ∷ actions) ∷ below; counts = counts } in
            let a = fine.stack in
            let f = sim.acts laws m heights valid typed answers fits claim closed k delivers (InMain actions ∷ below)
            store counts known came [] action (λ t. refl) (λ left. refl) (λ func given other segments. refl)
            (λ other segments. refl) nested fine.store of (perform code store [] action) refl
            (laws.actions m heights store [] [] action typed fine.store tt (a.0 0 action (omega arith)))
            (safe_step laws m heights valid typed answers fits config fine) in
            record { reads = f.reads; shows = f.shows };
        import = λ number args action actions end below store counts known came nested fine of.
            let config : Config =
            record { store = store; stack = InImport number args (action ∷ actions) end ∷ below; counts = counts }
            in
            let a = fine.stack in
            let f = sim.acts laws m heights valid typed answers fits claim closed k delivers
            (InImport number args actions end ∷ below) store counts known came args action (λ t. refl)
            (λ left. refl) (λ func given other segments. refl) (λ other segments. refl) nested fine.store of
            (perform code store args action) refl
            (laws.actions m heights store a.0.params args action typed fine.store a.2
            (a.3 0 action (omega arith)))
            (safe_step laws m heights valid typed answers fits config fine) in
            record { reads = f.reads; shows = f.shows };
      }

  made_none : Makes zero
  made_none =
      record {
        runs = λ frame below store counts known came nested fine of. follows_none program claim known store _ _;
        main = λ action actions below store counts known came nested fine of.
            host_reads program claim zero known store came [] _ _ (λ other segments outcome same ready h. cc);
        import = λ number args action actions end below store counts known came nested fine of.
            host_reads program claim zero known store came [] _ _ (λ other segments outcome same ready h. cc);
      }

  pub makes : (k : ℕ) → Makes k
  makes zero = made_none
  makes (suc k) =
      made_next k (sim.deliver_from laws m heights valid typed answers fits claim closed k (makes k))

  pub delivers : (k : ℕ) → Delivers k
  delivers k = sim.deliver_from laws m heights valid typed answers fits claim closed k (makes k)

  -- ---- the start

  module _ (k : ℕ) (main : List Action) (store : Store) (is : IsStore m store) where
    abbrev known : Known
    known = opening_known store

    abbrev counts : List ℕ
    counts = replicate (imported_funcs m) 0

    of : IsKnownOf known store
    of = opening_is_known store (sizes_of m store is)

    abbrev Started : StepResult → Type 0
    Started s =
        Follows claim program k known store (Begins Begin ∷ observed_from program k s) s
        (λ other segments. tape_result [] (tape_start code other segments))

    without_call : IsSafe m heights (after_settling store counts (deliver (InMain main ∷ []) [])).next
        → Started (after_settling store counts (deliver (InMain main ∷ []) []))
    without_call safe = delivers k (InMain main ∷ []) [] store counts known Begin refl is of safe

    with_call : (b : Bool) (func : ℕ)
        → IsSafe m heights (start_with_call program b store counts func (InMain main ∷ [])).next
        → Started (start_with_call program b store counts func (InMain main ∷ []))
    with_call true func safe = without_call safe
    with_call false func safe =
        follows_segment m heights answers claim closed k known store Begin (CallNext func [])
        (observed_from program k (enter_function code store counts func [] (InMain main ∷ [])))
        (after_entries (HostCall func [] ∷ []) (enter_function code store counts func [] (InMain main ∷ [])))
        (all_paused (InMain main ∷ [])) counts (λ t. refl) is of (OneMore (HostCall func []) _ refl)
        (follows_entry m heights answers claim closed k known store _ _ _ _ (HostCall func []) (λ other segments. refl)
        (sim.enters laws m heights valid typed answers fits claim closed k (delivers k) func []
        (InMain main ∷ []) store counts known
        Begin refl is of safe))

    pub started : (func : Option ℕ) → IsSafe m heights (start program func store counts main).next
        → Started (start program func store counts main)
    started None safe = without_call safe
    started (Some func) safe = with_call (nat_lt func (imported_funcs m)) func safe
