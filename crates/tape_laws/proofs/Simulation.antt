-- A tape's run follows the scripted run, step by step.
use Rattle.std.proofs.Common.{◌≡◌, ℕ, zero, suc, ◌+◌, List, [], ◌∷◌, Option, Some, None, Bool, true, false, nat_lt, slice_get, slice_set, slice_index, option_to_list, refl, sym, ap, ◌∙◌, subst}
use Rattle.wasm_syntax.specs.declared.values.Val.{Val}
use Rattle.wasm_syntax.specs.declared.signatures.FuncType.{FuncType}
use Rattle.wasm_syntax.specs.declared.modules.Module.{Module}
use Rattle.wasm_syntax.specs.Validity.{IsValid}
use Rattle.host_script.specs.declared.scripts.Action.{Action}
use Rattle.host_script.specs.declared.scripts.Answer.{Answer}
use Rattle.host_script.specs.declared.scripts.Response.{Response}
use Rattle.host_script.specs.declared.scripts.ResponseEnd.TheVariants.{Return, Trap as EndsInTrap}
use Rattle.host_script.specs.Fits.{FitAnswers}
use Rattle.base.specs.declared.outcomes.Outcome.{Outcome}
use Rattle.base.specs.declared.outcomes.Outcome.TheVariants.{Ended, HostTrapped}
use Rattle.trace_model.specs.declared.tapes.Origin.{Origin}
use Rattle.trace_model.specs.declared.tapes.Origin.TheVariants.{Import, Back}
use Rattle.trace_model.specs.declared.tapes.Next.TheVariants.{Call as CallNext, Return as ReturnNext, End as EndNext, Trap as TrapNext}
use Rattle.trace_model.specs.declared.tapes.Segment.{Segment}
use Rattle.history_spec.specs.declared.entries.Entry.TheVariants.{HostCall, HostReturn, ImportCall, ImportReturn, Enter, Exit, HostTrap}
use Rattle.history_spec.specs.declared.entries.FaultKind.{FaultKind}
use Rattle.history_spec.specs.Store.{Store}
use Rattle.history_spec.specs.Code.{Code, Definition, code_of, signature, definition}
use Rattle.history_spec.specs.Configuration.{Frame, Activation, InModule, InMain, InImport, with_results}
use Rattle.history_spec.specs.Instruction.{Control, Goes, Calls, Returns}
use Rattle.history_spec.specs.Action.{ActionResult, Changes, Enters, Fails, Unfit, perform}
use Rattle.history_spec.specs.Settle.{AtEnd, Within, Gives, TooFew, at_end, return_entry, return_from, deliver}
use Rattle.history_spec.specs.Step.{Program, Running, Finished, Faulted, StepResult, step_result, after_entries, after_settling, enter_defined, enter_function, frame_of, response_to, answer_call, call_function, after_control, after_action}
use Rattle.history_spec.specs.Run.{all_one, steps}
use Rattle.record_replay_spec.specs.Observations.{Observation, Begins, Ends, observations}
use Rattle.record_replay_spec.specs.Known.{Known}
use Rattle.record_replay_spec.specs.TapeRun.{program_awaiting, TapeConfig, TapeResult, after_step, after_next, after_segment, tape_step_of}
use Rattle.record_replay_spec.specs.Executions.{left_store, in_store}
use Rattle.record_replay_spec.proofs.Awaited.{awaits}
use Rattle.type_safety.specs.Configurations.{IsConfig, IsSafe, IsTypedCode, scope}
use Rattle.type_safety.specs.Heights.{Heights}
use Rattle.type_safety.specs.Results.{IsControl, IsActionResult}
use Rattle.type_safety.specs.Stores.{IsStore}
use Rattle.tape_laws.proofs.Same.{listed_value}
use Rattle.tape_laws.specs.Below.{LawsOfSteps}
use Rattle.tape_laws.proofs.Stores.{maxima}
use Rattle.tape_laws.proofs.Relation.{IsKnownOf}
use Rattle.tape_laws.proofs.Claims.{Claim}
use Rattle.tape_laws.proofs.Closed.{tape_at, NoneLeft, OneMore, IsClosed}
use Rattle.tape_laws.proofs.Follows.{AtEachStep, all_paused, pending, observed_from, Follows, AreNested}
use Rattle.tape_laws.proofs.HostStores.{host_change, known_of_change}
use Rattle.tape_laws.proofs.Parts.{finished_observations, follows_fault, host_reads, follows_entry, follows_over, follows_segment}

module _ (laws : LawsOfSteps) (m : Module) (heights : Heights) (valid : IsValid m) (typed : IsTypedCode m heights)
    (answers : List (Option Answer)) (fits : FitAnswers m answers) (claim : Claim)
    (closed : IsClosed claim m heights) where
  abbrev pub program : Program
  program = record { code = code_of m; answers = answers }

  abbrev pub code : Code
  code = code_of m

  -- ---- the statements, by the number of steps that are left

  -- what holds if results are delivered to the topmost activation
  abbrev pub Delivered : ℕ → Known → Store → List ℕ → List Activation → List Val → Origin → Type 0
  Delivered k known store counts stack results came =
      Follows claim program k known store
      (pending stack came (observed_from program k (after_settling store counts (deliver stack results))))
      (after_settling store counts (deliver stack results))
      (λ other segments. after_step segments came (after_settling other counts (deliver (all_paused stack) results)))

  abbrev pub Delivers : ℕ → Type 0
  Delivers k =
      (stack : List Activation) (results : List Val) (store : Store) (counts : List ℕ) (known : Known) (came : Origin)
      → AreNested stack → IsStore m store → IsKnownOf known store
      → IsSafe m heights (after_settling store counts (deliver stack results)).next
      → Delivered k known store counts stack results came

  -- the tape's run at a configuration
  abbrev pub at_config : List Activation → List ℕ → Origin → Store → List Segment → TapeResult
  at_config stack = tape_at (all_paused stack)

  -- what holds if a step is made from a configuration
  abbrev pub Goes_on : ℕ → List Activation → Type 0
  Goes_on k stack =
      (store : Store) (counts : List ℕ) (known : Known) (came : Origin)
      → AreNested stack → IsConfig m heights (record { store = store; stack = stack; counts = counts })
      → IsKnownOf known store
      → Follows claim program k known store
      (pending stack came (observations program k (Running (record { store = store; stack = stack; counts = counts }))))
      (step_result [] (Running (record { store = store; stack = stack; counts = counts })))
      (at_config stack counts came)

  abbrev pub Makes : ℕ → Type 0
  Makes k = AtEachStep (Goes_on k)

  -- ---- returns

  no_fault_outcome : (k : ℕ) (kind : FaultKind) (outcome : Outcome)
      → (steps program all_one k (Faulted kind)).at ≡ Finished outcome → ⊥
  no_fault_outcome zero kind outcome h = cc
  no_fault_outcome (suc k) kind outcome h = cc

  returns : (k func : ℕ) (results : List Val) (below : List Activation) (known : Known) (store : Store)
      (counts : List ℕ) (came : Origin)
      → ((from : Origin) → Delivered k known store counts below results from)
      → Follows claim program k known store
      (observed_from program k
      (after_entries (return_entry func results below ∷ []) (after_settling store counts (deliver below results))))
      (after_entries (return_entry func results below ∷ []) (after_settling store counts (deliver below results)))
      (λ other segments. after_step segments came
      (after_entries (return_entry func results (all_paused below) ∷ [])
      (after_settling other counts (deliver (all_paused below) results))))
  returns k func results [] known store counts came f =
      follows_entry m heights answers claim closed k known store _ _ _ _ (HostReturn func results)
      (λ other segments. refl) (f Back)
  returns k func results (InModule frame ∷ below) known store counts came f =
      follows_entry m heights answers claim closed k known store _ _ _ _ (Exit func results) (λ other segments. refl)
      (f came)
  returns k func results (InMain actions ∷ below) known store counts came f =
      follows_entry m heights answers claim closed k known store _ _ _ _ (HostReturn func results)
      (λ other segments. refl) (f Back)
  returns k func results (InImport import args actions end ∷ below) known store counts came f =
      follows_entry m heights answers claim closed k known store _ _ _ _ (HostReturn func results)
      (λ other segments. refl) (f Back)

  -- ---- results are delivered to the topmost activation

  module _ (k : ℕ) (makes : Makes k) where
    pub deliver_from : Delivers k
    deliver_from [] results store counts known came nested is of safe = absurd safe
    deliver_from (InModule frame ∷ below) results store counts known came nested is of safe =
        go (λ given from safe. deliver_from below given store counts known from nested is of safe)
        (at_end (with_results frame results)) safe
      where
        next : Frame
        next = with_results frame results

        go : ((given : List Val) (from : Origin)
            → IsSafe m heights (after_settling store counts (deliver below given)).next
            → Delivered k known store counts below given from)
            → (e : AtEnd)
            → IsSafe m heights (after_settling store counts (return_from e next below (deliver below))).next
            → Follows claim program k known store
            (observed_from program k (after_settling store counts (return_from e next below (deliver below))))
            (after_settling store counts (return_from e next below (deliver below)))
            (λ other segments. after_step segments came
            (after_settling other counts (return_from e next (all_paused below) (deliver (all_paused below)))))
        go rest Within safe = makes.runs next below store counts known came nested safe of
        go rest (Gives given) safe =
            returns k next.func given below known store counts came (λ from. rest given from safe)
        go rest TooFew safe = absurd safe
    deliver_from (InMain [] ∷ below) results store counts known came nested is of safe =
        subst
        (λ left. Follows claim program k known store (Begins came ∷ left) (step_result [] (Finished Ended))
        (at_config (InMain [] ∷ below) counts came))
        (sym (finished_observations program k Ended))
        (follows_segment m heights answers claim closed k known store came EndNext [] (step_result [] (Finished Ended))
        (all_paused (InMain [] ∷ below)) counts (λ t. refl) is of (NoneLeft refl)
        (follows_over m heights answers claim closed k known store [] Ended _ (λ other segments. refl)))
    deliver_from (InMain (action ∷ actions) ∷ below) results store counts known came nested is of safe =
        makes.main action actions below store counts known came nested safe of
    deliver_from (InImport import args [] (Return value) ∷ InModule frame ∷ below) results store counts known came
        nested is of safe =
        follows_segment m heights answers claim closed k
        known store came (ReturnNext (slice_get (option_to_list value) 0))
        (observed_from program k
        (after_settling store counts (deliver (InModule frame ∷ below) (option_to_list value))))
        (after_entries (ImportReturn import (option_to_list value) ∷ [])
        (after_settling store counts (deliver (InModule frame ∷ below) (option_to_list value))))
        (all_paused (InImport import args [] (Return value) ∷ InModule frame ∷ below)) counts (λ t. refl)
        is of (OneMore (ImportReturn import (option_to_list value)) _ refl)
        (follows_entry m heights answers claim closed k known store _ _ _ _ (ImportReturn import (option_to_list value))
        (λ other segments. ap
        (λ o. after_next code other counts
        (all_paused (InImport import args [] (Return value) ∷ InModule frame ∷ below)) segments came (ReturnNext o))
        (listed_value value))
        (deliver_from (InModule frame ∷ below) (option_to_list value) store counts known came nested.1 is of safe))
    deliver_from (InImport import args [] (Return value) ∷ below) results store counts known came nested is of safe =
        absurd nested.0
    deliver_from (InImport import args [] EndsInTrap ∷ below) results store counts known came nested is of safe =
        subst
        (λ left. Follows claim program k known store (Begins came ∷ Ends TrapNext ∷ left)
        (step_result (HostTrap ∷ []) (Finished HostTrapped))
        (at_config (InImport import args [] EndsInTrap ∷ below) counts came))
        (sym (finished_observations program k HostTrapped))
        (follows_segment m heights answers claim closed k known store came TrapNext []
        (step_result (HostTrap ∷ []) (Finished HostTrapped))
        (all_paused (InImport import args [] EndsInTrap ∷ below)) counts (λ t. refl) is of
        (NoneLeft refl)
        (follows_over m heights answers claim closed k known store (HostTrap ∷ []) HostTrapped _
        (λ other segments. refl)))
    deliver_from (InImport import args (action ∷ actions) end ∷ below) results store counts known came nested is of
        safe =
        makes.import import args action actions end below store counts known came nested safe of

  -- ---- calls

  -- control enters a defined function
  pub enters : (k : ℕ) → Delivers k → (func : ℕ) (args : List Val) (stack : List Activation) (store : Store)
      (counts : List ℕ) (known : Known) (came : Origin) → AreNested stack → IsStore m store → IsKnownOf known store
      → IsSafe m heights (enter_function code store counts func args stack).next
      → Follows claim program k known store (observed_from program k (enter_function code store counts func args stack))
      (enter_function code store counts func args stack)
      (λ other segments. after_step segments came (enter_function code other counts func args (all_paused stack)))
  enters k delivers func args stack store counts known came nested is of safe =
      go (signature code func) (definition code func) safe
    where
      go : (ty : Option FuncType) (d : Option Definition)
          → IsSafe m heights (enter_defined ty d store counts func args stack).next
          → Follows claim program k known store
          (observed_from program k (enter_defined ty d store counts func args stack))
          (enter_defined ty d store counts func args stack)
          (λ other segments. after_step segments came
          (enter_defined ty d other counts func args (all_paused stack)))
      go None d safe = absurd safe
      go (Some ty) None safe = absurd safe
      go (Some ty) (Some d) safe =
          delivers (InModule (frame_of func ty d args) ∷ stack) [] store counts known came nested is of safe

  -- the module calls a function
  call : (k : ℕ) → Delivers k → (waiting : Frame) (below : List Activation) (func : ℕ) (args : List Val) (store : Store)
      (counts : List ℕ) (known : Known) (came : Origin) (b : Bool) → nat_lt func code.imported ≡ b → AreNested below
      → IsStore m store → IsKnownOf known store
      → IsSafe m heights (call_function program b store counts func args (InModule waiting ∷ below)).next
      → Follows claim program k known store
      (observed_from program k (call_function program b store counts func args (InModule waiting ∷ below)))
      (call_function program b store counts func args (InModule waiting ∷ below))
      (λ other segments. after_step segments came
      (call_function (program_awaiting code) b other counts func args (InModule waiting ∷ all_paused below)))
  call k delivers waiting below func args store counts known came false e nested is of safe =
      follows_entry m heights answers claim closed k known store _ _ _ _ (Enter func) (λ other segments. refl)
      (enters k delivers func args (InModule waiting ∷ below) store counts known came nested is of safe)
  call k delivers waiting below func args store counts known came true e nested is of safe =
      go (response_to answers func (slice_index counts func)) safe
    where
      stack : List Activation
      stack = InModule waiting ∷ below

      go : (response : Option Response) → IsSafe m heights (answer_call response store counts func args stack).next
          → Follows claim program k known store
          (observed_from program k (answer_call response store counts func args stack))
          (answer_call response store counts func args stack)
          (λ other segments. after_step segments came
          (call_function (program_awaiting code) true other counts func args (all_paused stack)))
      go None safe = follows_fault program claim k known store _ _
      go (Some response) safe =
          follows_entry m heights answers claim closed k known store _ _ _ _ (ImportCall func args)
          (λ other segments. ap
          (λ r. after_step segments came (answer_call r other counts func args (all_paused stack)))
          (awaits code func (slice_index counts func) e))
          (delivers (InImport func args response.actions response.end ∷ stack) [] store
          (slice_set counts func (slice_index counts func + 1)) known (Import func) (tt, nested) is of safe)

  -- ---- a step of the host

  -- what follows an action of the host that changes the store
  moved : (k : ℕ) (known : Known) (store after : Store) (came : Origin) (left : List Observation) (s : StepResult)
      (tape : Store → List Segment → TapeResult) → maxima after ≡ maxima store
      → Follows claim program k known after (Begins came ∷ left) s tape
      → Follows claim program k known store (Begins came ∷ left) s tape
  moved k known store after came left s tape same f =
      host_reads program claim k known store came left s tape
      (λ other segments outcome kept ready h.
      f.shows other segments outcome (kept ∙ sym same) ready h)

  pub acts : (k : ℕ) → Delivers k → (stack : List Activation) (store : Store) (counts : List ℕ) (known : Known)
      (came : Origin) (args : List Val) (action : Action)
      → ((t : TapeConfig) → tape_step_of code (all_paused stack) t
      ≡ after_segment code t.config t.left t.came)
      → ((left : List Observation) → pending stack came left ≡ Begins came ∷ left)
      → ((func : ℕ) (given : List Val) (other : Store) (segments : List Segment)
      → after_next code other counts (all_paused stack) segments came (CallNext func given)
      ≡ after_step segments came
      (after_entries (HostCall func given ∷ []) (enter_function code other counts func given (all_paused stack))))
      → ((other : Store) (segments : List Segment)
      → after_step segments came (after_settling other counts (deliver (all_paused stack) []))
      ≡ at_config stack counts came other segments)
      → AreNested stack → IsStore m store → IsKnownOf known store
      → (r : ActionResult) → perform code store args action ≡ r → IsActionResult m r
      → IsSafe m heights
      (after_action program (record { store = store; stack = stack; counts = counts }) stack r).next
      → Follows claim program k known store
      (Begins came
      ∷ observed_from program k
      (after_action program (record { store = store; stack = stack; counts = counts }) stack r))
      (after_action program (record { store = store; stack = stack; counts = counts }) stack r)
      (at_config stack counts came)
  acts k delivers stack store counts known came args action takes begins calls rests nested is of (Changes after) e
      fine safe =
      let change = host_change code store args action after e in
      let s = after_settling after counts (deliver stack []) in
      moved k known store after came (observed_from program k s) s (at_config stack counts came) change.same
      (subst
      (λ tape. Follows claim program k known after (Begins came ∷ observed_from program k s) s tape)
      (λ i other segments. rests other segments i)
      (subst
      (λ left. Follows claim program k known after left s
      (λ other segments. after_step segments came (after_settling other counts (deliver (all_paused stack) []))))
      (begins (observed_from program k s))
      (delivers stack [] after counts known came nested fine
      (known_of_change m known store after is fine change of) safe)))
  acts k delivers stack store counts known came args action takes begins calls rests nested is of (Enters func given) e
      fine safe =
      follows_segment m heights answers claim closed k known store came (CallNext func given)
      (observed_from program k (enter_function code store counts func given stack))
      (after_entries (HostCall func given ∷ []) (enter_function code store counts func given stack))
      (all_paused stack) counts takes is of (OneMore (HostCall func given) _ refl)
      (follows_entry m heights answers claim closed k known store _ _ _ _ (HostCall func given)
      (λ other segments. calls func given other segments)
      (enters k delivers func given stack store counts known came nested is of safe))
  acts k delivers stack store counts known came args action takes begins calls rests nested is of (Fails kind) e fine
      safe =
      host_reads program claim k known store came _ _ _
      (λ other segments outcome same ready h. absurd (no_fault_outcome k kind outcome h))
  acts k delivers stack store counts known came args action takes begins calls rests nested is of Unfit e fine safe =
      absurd fine

  -- ---- a step of the module

  -- what follows an instruction, in the store that it leaves
  pub controlled : (k : ℕ) → Delivers k → (frame : Frame) (below : List Activation) (store after : Store)
      (counts : List ℕ) (known : Known) (came : Origin) (ty : FuncType) (body : Definition) (control : Control)
      → AreNested below
      → IsStore m store → IsControl (scope m heights frame.func ty body) control
      → left_store store control ≡ after → IsKnownOf known after
      → IsSafe m heights
      (after_control program (record { store = store; stack = InModule frame ∷ below; counts = counts }) frame below
      control).next
      → Follows claim program k known after
      (observed_from program k
      (after_control program (record { store = store; stack = InModule frame ∷ below; counts = counts }) frame below
      control))
      (after_control program (record { store = store; stack = InModule frame ∷ below; counts = counts }) frame below
      control)
      (λ other segments. after_step segments came
      (after_control (program_awaiting code)
      (record { store = other; stack = InModule frame ∷ all_paused below; counts = counts }) frame (all_paused below)
      (in_store other control)))
  controlled k delivers frame below store after counts known came ty body (Goes next_store next) nested is fine left of
      safe =
      subst
      (λ s. Follows claim program k known s
      (observed_from program k (after_settling next_store counts (deliver (InModule next ∷ below) [])))
      (after_settling next_store counts (deliver (InModule next ∷ below) []))
      (λ other segments. after_step segments came
      (after_settling other counts (deliver (InModule next ∷ all_paused below) []))))
      left
      (delivers (InModule next ∷ below) [] next_store counts known came nested fine.0
      (subst (IsKnownOf known) (sym left) of) safe)
  controlled k delivers frame below store after counts known came ty body (Calls waiting func args) nested is fine
      left of safe =
      let s = call_function program (nat_lt func code.imported) store counts func args (InModule waiting ∷ below) in
      subst
      (λ now. Follows claim program k known now (observed_from program k s) s
      (λ other segments. after_step segments came
      (call_function (program_awaiting code) (nat_lt func code.imported) other counts func args
      (InModule waiting ∷ all_paused below))))
      left
      (call k delivers waiting below func args store counts known came (nat_lt func code.imported) refl nested is
      (subst (IsKnownOf known) (sym left) of) safe)
  controlled k delivers frame below store after counts known came ty body (Returns results) nested is fine left of
      safe =
      subst
      (λ now. Follows claim program k known now
      (observed_from program k
      (after_entries (return_entry frame.func results below ∷ [])
      (after_settling store counts (deliver below results))))
      (after_entries (return_entry frame.func results below ∷ []) (after_settling store counts (deliver below results)))
      (λ other segments. after_step segments came
      (after_entries (return_entry frame.func results (all_paused below) ∷ [])
      (after_settling other counts (deliver (all_paused below) results)))))
      left
      (returns k frame.func results below known store counts came
      (λ from. delivers below results store counts known from nested is (subst (IsKnownOf known) (sym left) of) safe))
