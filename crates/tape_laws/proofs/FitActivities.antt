-- The activities of the host in a scripted run fit the module, and each window reads what the store holds, step by
-- step.
use Rattle.std.proofs.Common.{◌≡◌, ℕ, zero, suc, ◌+◌, ◌≤◌, List, [], ◌∷◌, ◌++◌, Option, Some, None, Bool, true, false, cond, not, ◌&&◌, nat_le, nat_lt, replicate, slice_get, slice_set, slice_index, option_to_list, refl, sym, ap, ◌∙◌, subst, arith}
use Rattle.std.specs.Prelude.{IfSome}
use Rattle.std.proofs.lemmas.Bool.Decides.{nat_tests}
use Rattle.base.proofs.Booleans.{and_true}
use Rattle.wasm_syntax.specs.declared.values.ValType.{ValType}
use Rattle.wasm_syntax.specs.declared.values.Val.{Val}
use Rattle.wasm_syntax.specs.declared.signatures.FuncType.{FuncType}
use Rattle.wasm_syntax.specs.declared.modules.Module.{Module}
use Rattle.wasm_syntax.specs.Alike.{same_types}
use Rattle.wasm_syntax.specs.Index.{imported_funcs, func_type}
use Rattle.wasm_syntax.specs.Validity.{IsStart, IsValid}
use Rattle.wasm_syntax.proofs.ValTypes.{types_own}
use Rattle.host_script.specs.declared.scripts.Action.{Action}
use Rattle.host_script.specs.declared.scripts.Answer.{Answer}
use Rattle.host_script.specs.declared.scripts.Response.{Response}
use Rattle.host_script.specs.declared.scripts.ResponseEnd.TheVariants.{Return, Trap as EndsInTrap}
use Rattle.host_script.specs.Fits.{FitsAction, FitsEnd, FitAnswers}
use Rattle.base.specs.declared.outcomes.Outcome.{Outcome}
use Rattle.base.specs.declared.outcomes.Outcome.TheVariants.{Ended, HostTrapped, Trapped}
use Rattle.trace_model.specs.declared.tapes.Origin.TheVariants.{Import, Back}
use Rattle.trace_model.specs.declared.tapes.Next.TheVariants.{Call as CallNext, Return as ReturnNext, End as EndNext, Trap as TrapNext}
use Rattle.trace_model.specs.Fitting.{types_of, takes_values, gives_values}
use Rattle.history_spec.specs.declared.entries.Entry.TheVariants.{HostCall}
use Rattle.history_spec.specs.Store.{Store}
use Rattle.history_spec.specs.Code.{Code, Definition, code_of, signature, definition}
use Rattle.history_spec.specs.Configuration.{Frame, Activation, InModule, InMain, InImport, Config, with_results}
use Rattle.history_spec.specs.Instruction.{Control, Goes, Calls, Returns, Execution, Did, Traps, NoRule, execute}
use Rattle.history_spec.specs.Action.{ActionResult, Changes, Enters, Fails, Unfit, perform}
use Rattle.history_spec.specs.Settle.{AtEnd, Within, Gives, TooFew, at_end, return_entry, return_from, deliver}
use Rattle.history_spec.specs.Step.{Program, Progress, Running, Finished, Faulted, Stuck, after_entries, after_settling, enter_defined, enter_function, frame_of, response_to, answer_call, call_function, after_control, after_instruction, after_action, start, start_with_call}
use Rattle.history_spec.specs.Run.{all_one, steps}
use Rattle.record_replay_spec.specs.Observations.{Observation, Ends, observations}
use Rattle.record_replay_spec.specs.Known.{Known, known_after_all}
use Rattle.record_replay_spec.specs.Windows.{window}
use Rattle.record_replay_spec.specs.Executions.{left_store}
use Rattle.record_replay_spec.specs.ObservedStepLaws.{observed}
use Rattle.type_safety.specs.Configurations.{Accept, IsConfig, IsSafe, IsTypedCode, scope}
use Rattle.type_safety.specs.Heights.{Heights}
use Rattle.type_safety.specs.Results.{HasRule, IsControl, IsActionResult}
use Rattle.type_safety.specs.Stores.{func_count}
use Rattle.type_safety.proofs.Responses.{response_fits}
use Rattle.type_safety.proofs.Values.{types_values}
use Rattle.tape_laws.proofs.SafeSteps.{safe_step}
use Rattle.tape_laws.proofs.Same.{listed_value}
use Rattle.tape_laws.specs.Below.{LawsOfSteps}
use Rattle.tape_laws.specs.RealReads.{IsReadOf, AreNested, observed_from, ReadsAreRealAfterSettling}
use Rattle.tape_laws.proofs.StepItems.{nothing_read}
use Rattle.tape_laws.proofs.Parts.{finished_observations}
use Rattle.tape_laws.proofs.KeptStores.{IsKept}
use Rattle.tape_laws.proofs.KeptActions.{host_keeps}
use Rattle.tape_laws.proofs.KeptSteps.{left_is_store, trap_seen, done_seen, done_keeps}
use Rattle.tape_laws.proofs.FitSegments.{open_imports, Comes, Leaves, IsWindow, AreActivities, AreFromEnd, AreFrom, from_begin, after_seen}
use Rattle.tape_laws.proofs.Follows.{AtEachStep}

-- each call of an import ends with results of the import's type
abbrev pub FitEnds : Module → List Activation → Type 0
FitEnds m [] = Unit {0}
FitEnds m (InModule frame ∷ below) = FitEnds m below
FitEnds m (InMain actions ∷ below) = FitEnds m below
FitEnds m (InImport import args actions end ∷ below) =
    (ty : FuncType) × (signature (code_of m) import ≡ Some ty) × FitsEnd ty.results end × FitEnds m below

ends_fit : (m : Module) (heights : Heights) (stack : List Activation) (types : List ValType)
    → Accept m heights stack types → FitEnds m stack
ends_fit m heights [] types a = absurd a
ends_fit m heights (InModule frame ∷ below) types a = ends_fit m heights below a.0.results a.3
ends_fit m heights (InMain actions ∷ below) types a = subst (FitEnds m) (sym a.1) tt
ends_fit m heights (InImport import args actions end ∷ below) types a =
    (a.0, a.1.has_type, a.4, ends_fit m heights below a.0.results a.5)

-- ---- how control comes and leaves

comes_back : (m : Module) (opened : List ℕ) → Comes m Back opened opened
comes_back m opened at past = ap (λ b. cond b None (Some opened)) past

comes_by_call : (m : Module) (import : ℕ) (opened : List ℕ) → nat_lt import (imported_funcs m) ≡ true
    → Comes m (Import import) opened (import ∷ opened)
comes_by_call m import opened own at past =
    (λ i. cond (not (past i) && own i) (Some (import ∷ opened)) None)

leaves_by_call : (m : Module) (func : ℕ) (args : List Val) (ty : FuncType) (opened : List ℕ) (later : List Observation)
    → imported_funcs m ≤ func → signature (code_of m) func ≡ Some ty → types_of args ≡ ty.params
    → Leaves m (CallNext func args) later opened opened
leaves_by_call m func args ty opened later own is fit is_last last =
    ap (λ b. cond b (Some opened) None)
    (and_true (nat_le (imported_funcs m) func) (takes_values (types_of args) (func_type m func))
    (grind (arith, nat_tests, own))
    (ap (takes_values (types_of args)) is ∙ ap (λ ts. same_types ts ty.params) fit ∙ types_own ty.params))

leaves_by_return : (m : Module) (import : ℕ) (result : Option Val) (ty : FuncType) (opened : List ℕ)
    (later : List Observation) → signature (code_of m) import ≡ Some ty
    → types_of (option_to_list result) ≡ ty.results → Leaves m (ReturnNext result) later (import ∷ opened) opened
leaves_by_return m import result ty opened later is fit is_last last =
    ap (λ b. cond b (Some opened) None)
    (ap (gives_values (types_of (option_to_list result))) is ∙ ap (λ ts. same_types ts ty.results) fit
    ∙ types_own ty.results)

module _ (laws : LawsOfSteps) (reads : ReadsAreRealAfterSettling) (m : Module) (heights : Heights) (valid : IsValid m)
    (typed : IsTypedCode m heights) (answers : List (Option Answer)) (fits : FitAnswers m answers) where
  abbrev pub program : Program
  program = record { code = code_of m; answers = answers }

  abbrev code : Code
  code = code_of m

  -- ---- the statements, by the number of steps that are left

  -- the run has an outcome within `k` steps
  abbrev pub HasOutcomeWithin : ℕ → Progress → Type 0
  HasOutcomeWithin k at = (outcome : Outcome) × ((steps program all_one k at).at ≡ Finished outcome)

  abbrev Delivered : ℕ → Known → Store → List ℕ → List Activation → List Val → Type 0
  Delivered k known store counts stack results =
      HasOutcomeWithin k (after_settling store counts (deliver stack results)).next
      → AreFrom m known stack (observed_from program k (after_settling store counts (deliver stack results)))

  -- what holds if results are delivered to the topmost activation
  abbrev pub Delivers : ℕ → Type 0
  Delivers k =
      (stack : List Activation) (results : List Val) (store : Store) (counts : List ℕ) (known : Known)
      → AreNested stack → FitEnds m stack → IsKept m known store
      → IsSafe m heights (after_settling store counts (deliver stack results)).next
      → Delivered k known store counts stack results

  -- what holds if a step is made from a configuration
  abbrev GoesOn : ℕ → List Activation → Type 0
  GoesOn k stack =
      (store : Store) (counts : List ℕ) (known : Known)
      → AreNested stack → IsConfig m heights (record { store = store; stack = stack; counts = counts })
      → IsKept m known store
      → HasOutcomeWithin k (Running (record { store = store; stack = stack; counts = counts }))
      → AreFrom m known stack
      (observations program k (Running (record { store = store; stack = stack; counts = counts })))

  abbrev pub Makes : ℕ → Type 0
  Makes k = AtEachStep (GoesOn k)

  no_fault : (k : ℕ) (at : Progress) → HasOutcomeWithin k at → ((outcome : Outcome) → at ≡ Finished outcome → ⊥)
      → ((config : Config) → at ≡ Running config → ⊥) → ⊥
  no_fault zero at ends over goes = over ends.0 ends.1
  no_fault (suc k) (Running config) ends over goes = goes config refl
  no_fault (suc k) (Finished outcome) ends over goes = over outcome refl
  no_fault (suc k) (Faulted kind) ends over goes = over ends.0 ends.1
  no_fault (suc k) Stuck ends over goes = over ends.0 ends.1

  -- the last activity ends
  ends_here : (known : Known) (store : Store) (opened : List ℕ) → IsKept m known store → IsWindow m known []
  ends_here known store opened kept = record { store = store; kept = kept; real = nothing_read known store }

  -- ---- returns

  from_return : (k func : ℕ) (results : List Val) (below : List Activation) (known : Known) (store : Store)
      (counts : List ℕ)
      → AreFrom m known below (observed_from program k (after_settling store counts (deliver below results)))
      → AreActivities m known (open_imports below)
      (observed_from program k
      (after_entries (return_entry func results below ∷ []) (after_settling store counts (deliver below results))))
  from_return k func results [] known store counts are =
      from_begin m known Back [] [] _ (comes_back m []) are
  from_return k func results (InModule frame ∷ below) known store counts are = are
  from_return k func results (InMain actions ∷ below) known store counts are =
      from_begin m known Back (open_imports below) (open_imports below) _ (comes_back m (open_imports below)) are
  from_return k func results (InImport import args actions end ∷ below) known store counts are =
      from_begin m known Back (import ∷ open_imports below) (import ∷ open_imports below) _
      (comes_back m (import ∷ open_imports below)) are

  -- what is read if results are delivered to the module
  read_after : (k : ℕ) (known : Known) (store : Store) (counts : List ℕ) (frame : Frame) (below : List Activation)
      (results : List Val) → IsKept m known store → AreNested below
      → IsSafe m heights (after_settling store counts (deliver (InModule frame ∷ below) results)).next
      → IsReadOf known
      (window (observed_from program k (after_settling store counts (deliver (InModule frame ∷ below) results)))) store
  read_after k known store counts frame below results kept nested safe =
      reads m heights program known store counts (InModule frame ∷ below) results k valid typed
      (record { code = refl; answers = fits }) kept.is nested tt kept.of safe

  -- ---- results are delivered to the topmost activation

  module _ (k : ℕ) (makes : Makes k) where
    pub deliver_from : Delivers k
    deliver_from [] results store counts known nested ends kept safe within = absurd safe
    deliver_from (InModule frame ∷ below) results store counts known nested ends kept safe within =
        go (λ given safe within. deliver_from below given store counts known nested ends kept safe within)
        (at_end (with_results frame results)) safe within
      where
        next : Frame
        next = with_results frame results

        go : ((given : List Val) → IsSafe m heights (after_settling store counts (deliver below given)).next
            → Delivered k known store counts below given)
            → (e : AtEnd)
            → IsSafe m heights (after_settling store counts (return_from e next below (deliver below))).next
            → HasOutcomeWithin k (after_settling store counts (return_from e next below (deliver below))).next
            → AreActivities m known (open_imports below)
            (observed_from program k (after_settling store counts (return_from e next below (deliver below))))
        go rest Within safe within = makes.runs next below store counts known nested safe kept within
        go rest (Gives given) safe within =
            from_return k next.func given below known store counts (rest given safe within)
        go rest TooFew safe within = absurd safe
    deliver_from (InMain [] ∷ below) results store counts known nested ends kept safe within =
        subst (λ later. AreFromEnd m known (open_imports below) later) (sym (finished_observations program k Ended))
        (subst (λ stack. AreFromEnd m known (open_imports stack) (Ends EndNext ∷ [])) (sym nested)
        ([], (λ is_last last. ap (λ b. cond b (Some []) None) (last refl)), ends_here known store [] kept, tt))
    deliver_from (InMain (action ∷ actions) ∷ below) results store counts known nested ends kept safe within =
        makes.main action actions below store counts known nested safe kept within
    deliver_from (InImport import args [] (Return value) ∷ InModule frame ∷ below) results store counts known nested
        ends kept safe within = (
          open_imports below,
          leaves_by_return m import (slice_get (option_to_list value) 0) ends.0 (open_imports below) _ ends.1
              (ap (λ o. types_of (option_to_list o)) (listed_value value) ∙ ends.2.typed),
          record {
            store = store;
            kept = kept;
            real = read_after k known store counts frame below (option_to_list value) kept nested.1 safe;
          },
          deliver_from (InModule frame ∷ below) (option_to_list value) store counts known nested.1 ends.3 kept safe
              within,
        )
    deliver_from (InImport import args [] (Return value) ∷ below) results store counts known nested ends kept safe within =
        absurd nested.0
    deliver_from (InImport import args [] EndsInTrap ∷ below) results store counts known nested ends kept safe within =
        subst (λ later. AreFromEnd m known (import ∷ open_imports below) (Ends TrapNext ∷ later))
        (sym (finished_observations program k HostTrapped)) (
          import ∷ open_imports below,
          (λ is_last last. ap (λ b. cond b (Some (import ∷ open_imports below)) None) (last refl)),
          ends_here known store [] kept,
          tt,
        )
    deliver_from (InImport import args (action ∷ actions) end ∷ below) results store counts known nested ends kept safe
        within =
        makes.import import args action actions end below store counts known nested safe kept within

  -- ---- calls

  -- control enters a defined function: the remaining activities fit, and windows read what the store holds
  from_entry : (k : ℕ) → Delivers k → (func : ℕ) (args : List Val) (stack : List Activation) (store : Store)
      (counts : List ℕ) (known : Known) → AreNested stack → FitEnds m stack → IsKept m known store
      → IsSafe m heights (enter_function code store counts func args stack).next
      → HasOutcomeWithin k (enter_function code store counts func args stack).next
      → AreActivities m known (open_imports stack)
      (observed_from program k (enter_function code store counts func args stack))
      × IsReadOf known (window (observed_from program k (enter_function code store counts func args stack))) store
  from_entry k delivers func args stack store counts known nested ends kept safe within =
      go (signature code func) (definition code func) safe within
    where
      go : (ty : Option FuncType) (d : Option Definition)
          → IsSafe m heights (enter_defined ty d store counts func args stack).next
          → HasOutcomeWithin k (enter_defined ty d store counts func args stack).next
          → AreActivities m known (open_imports stack)
          (observed_from program k (enter_defined ty d store counts func args stack))
          × IsReadOf known (window (observed_from program k (enter_defined ty d store counts func args stack))) store
      go None d safe within = absurd safe
      go (Some ty) None safe within = absurd safe
      go (Some ty) (Some d) safe within = (
        delivers (InModule (frame_of func ty d args) ∷ stack) [] store counts known nested ends kept safe within,
        read_after k known store counts (frame_of func ty d args) stack [] kept nested safe,
      )

  -- the host calls a defined function
  from_host_call : (k : ℕ) → Delivers k → (func : ℕ) (args : List Val) (stack : List Activation) (store : Store)
      (counts : List ℕ) (known : Known) (ty : FuncType) → signature code func ≡ Some ty → imported_funcs m ≤ func
      → types_of args ≡ ty.params → AreNested stack → FitEnds m stack → IsKept m known store
      → IsSafe m heights (enter_function code store counts func args stack).next
      → HasOutcomeWithin k (enter_function code store counts func args stack).next
      → AreFromEnd m known (open_imports stack)
      (observed_from program k
      (after_entries (HostCall func args ∷ []) (enter_function code store counts func args stack)))
  from_host_call k delivers func args stack store counts known ty is own fit nested ends kept safe within =
      let p = from_entry k delivers func args stack store counts known nested ends kept safe within in (
        open_imports stack,
        leaves_by_call m func args ty (open_imports stack) _ own is fit,
        record { store = store; kept = kept; real = p.1 },
        p.0,
      )

  -- the module calls a function
  from_call : (k : ℕ) → Delivers k → (waiting : Frame) (below : List Activation) (func : ℕ) (args : List Val)
      (ty : FuncType) (store : Store) (counts : List ℕ) (known : Known) (b : Bool)
      → nat_lt func code.imported ≡ b → signature code func ≡ Some ty → AreNested below → FitEnds m below
      → IsKept m known store
      → IsSafe m heights (call_function program b store counts func args (InModule waiting ∷ below)).next
      → HasOutcomeWithin k (call_function program b store counts func args (InModule waiting ∷ below)).next
      → AreActivities m known (open_imports below)
      (observed_from program k (call_function program b store counts func args (InModule waiting ∷ below)))
  from_call k delivers waiting below func args ty store counts known false e is nested ends kept safe within =
      (from_entry k delivers func args (InModule waiting ∷ below) store counts known nested ends kept safe within).0
  from_call k delivers waiting below func args ty store counts known true e is nested ends kept safe within =
      go (response_to answers func (slice_index counts func)) refl safe within
    where
      stack : List Activation
      stack = InModule waiting ∷ below

      go : (o : Option Response) → response_to answers func (slice_index counts func) ≡ o
          → IsSafe m heights (answer_call o store counts func args stack).next
          → HasOutcomeWithin k (answer_call o store counts func args stack).next
          → AreActivities m known (open_imports below)
          (observed_from program k (answer_call o store counts func args stack))
      go None there safe within =
          absurd (no_fault k _ within (λ outcome h. cc) (λ config h. cc))
      go (Some response) there safe within =
          from_begin m known (Import func) (open_imports below) (func ∷ open_imports below) _
          (comes_by_call m func (open_imports below) e)
          (delivers (InImport func args response.actions response.end ∷ stack) [] store
          (slice_set counts func (slice_index counts func + 1)) known (tt, nested)
          (ty, is, (response_fits m answers func (slice_index counts func) ty response fits is there).end, ends) kept
          safe within)

  -- ---- a step of the host

  from_action : (k : ℕ) → Delivers k → (stack : List Activation) (store : Store) (counts : List ℕ) (known : Known)
      (params : List ValType) (args : List Val) (action : Action)
      → ((later : List Observation) → AreFrom m known stack later → AreFromEnd m known (open_imports stack) later)
      → AreNested stack → FitEnds m stack → IsKept m known store → FitsAction m params action
      → (r : ActionResult) → perform code store args action ≡ r → IsActionResult m r
      → IsSafe m heights
      (after_action program (record { store = store; stack = stack; counts = counts }) stack r).next
      → HasOutcomeWithin k
      (after_action program (record { store = store; stack = stack; counts = counts }) stack r).next
      → AreFromEnd m known (open_imports stack)
      (observed_from program k
      (after_action program (record { store = store; stack = stack; counts = counts }) stack r))
  from_action k delivers stack store counts known params args action host nested ends kept fit (Changes after) e fine
      safe within =
      host (observed_from program k (after_settling after counts (deliver stack [])))
      (delivers stack [] after counts known nested ends
      (host_keeps m known code store params args action after kept fine fit e) safe within)
  from_action k delivers stack store counts known params args action host nested ends kept fit (Enters func given) e
      fine safe within =
      from_host_call k delivers func given stack store counts known fine.0 fine.1 fine.2
      (types_values (func_count m) fine.0.params given fine.3) nested ends kept safe within
  from_action k delivers stack store counts known params args action host nested ends kept fit (Fails kind) e fine safe
      within =
      absurd (no_fault k _ within (λ outcome h. cc) (λ config h. cc))
  from_action k delivers stack store counts known params args action host nested ends kept fit Unfit e fine _ _ =
      absurd fine

  -- ---- a step of the module

  abbrev standing : Frame → List Activation → Store → List ℕ → Config
  standing frame below store counts = record { store = store; stack = InModule frame ∷ below; counts = counts }

  -- what follows an instruction, in the store that it leaves
  from_control : (k : ℕ) → Delivers k → (frame : Frame) (below : List Activation) (store : Store)
      (counts : List ℕ) (known : Known) (ty : FuncType) (body : Definition) (control : Control)
      → AreNested below → FitEnds m below → IsControl (scope m heights frame.func ty body) control
      → IsKept m known (left_store store control)
      → IsSafe m heights (after_control program (standing frame below store counts) frame below control).next
      → HasOutcomeWithin k (after_control program (standing frame below store counts) frame below control).next
      → AreActivities m known (open_imports below)
      (observed_from program k (after_control program (standing frame below store counts) frame below control))
  from_control k delivers frame below store counts known ty body (Goes next_store next) nested ends fine kept safe
      within =
      delivers (InModule next ∷ below) [] next_store counts known nested ends kept safe within
  from_control k delivers frame below store counts known ty body (Calls waiting func args) nested ends fine kept safe
      within =
      from_call k delivers waiting below func args fine.0 store counts known (nat_lt func code.imported) refl fine.1
      nested ends kept safe within
  from_control k delivers frame below store counts known ty body (Returns results) nested ends fine kept safe within =
      from_return k frame.func results below known store counts
      (delivers below results store counts known nested ends kept safe within)

  from_instruction : (k : ℕ) → Delivers k → (frame : Frame) (below : List Activation) (store : Store) (counts : List ℕ)
      (known : Known) (ty : FuncType) (body : Definition) → AreNested below → FitEnds m below → IsKept m known store
      → (e : Execution) → execute code store frame ≡ e → HasRule (scope m heights frame.func ty body) e
      → IsSafe m heights (after_instruction program (standing frame below store counts) frame below e).next
      → HasOutcomeWithin k (after_instruction program (standing frame below store counts) frame below e).next
      → AreActivities m known (open_imports below)
      (observed store frame
      ++ observed_from program k (after_instruction program (standing frame below store counts) frame below e))
  from_instruction k delivers frame below store counts known ty body nested ends kept NoRule e rule _ _ = absurd rule
  from_instruction k delivers frame below store counts known ty body nested ends kept (Traps kind operands found) e
      rule safe within =
      after_seen m known store (open_imports below) (observed store frame) _
      (trap_seen laws.own laws.answers m code store kept.is frame known kind operands found e)
      (subst (AreActivities m (known_after_all known (observed store frame)) (open_imports below))
      (sym (finished_observations program k Trapped)) tt)
  from_instruction k delivers frame below store counts known ty body nested ends kept
      (Did operands results found control) e rule safe within =
      after_seen m known store (open_imports below) (observed store frame) _
      (done_seen laws.own laws.answers m code store kept.is frame known operands results found control e)
      (from_control k delivers frame below store counts (known_after_all known (observed store frame)) ty body control
      nested ends rule
      (done_keeps laws.own laws.answers m code store kept.is frame known operands results found control e kept
      (left_is_store (scope m heights frame.func ty body) store control kept.is rule))
      safe within)

  -- ---- all steps

  makes_next : (k : ℕ) → Delivers k → Makes (suc k)
  makes_next k delivers =
      record {
        runs = λ frame below store counts known nested fine kept within.
            let a = fine.stack in
            from_instruction k delivers frame below store counts known a.0 a.1 nested
            (ends_fit m heights below a.0.results a.3) kept (execute code store frame) refl
            (laws.rules m heights store frame a.0 a.1 valid typed fine.store a.2 fine.at_step)
            (safe_step laws m heights valid typed answers fits (standing frame below store counts) fine) within;
        main = λ action actions below store counts known nested fine kept within.
            let config : Config =
            record { store = store; stack = InMain (action ∷ actions) ∷ below; counts = counts } in
            let a = fine.stack in
            from_action k delivers (InMain actions ∷ below) store counts known [] [] action (λ later are. are) nested
            (ends_fit m heights (InMain (action ∷ actions) ∷ below) [] a) kept (a.0 0 action (omega arith))
            (perform code store [] action) refl
            (laws.actions m heights store [] [] action typed fine.store tt (a.0 0 action (omega arith)))
            (safe_step laws m heights valid typed answers fits config fine) within;
        import = λ number args action actions end below store counts known nested fine kept within.
            let config : Config =
            record { store = store; stack = InImport number args (action ∷ actions) end ∷ below; counts = counts } in
            let a = fine.stack in
            from_action k delivers (InImport number args actions end ∷ below) store counts known a.0.params args action
            (λ later are. are) nested
            (ends_fit m heights (InImport number args (action ∷ actions) end ∷ below) [] a) kept
            (a.3 0 action (omega arith)) (perform code store args action) refl
            (laws.actions m heights store a.0.params args action typed fine.store a.2 (a.3 0 action (omega arith)))
            (safe_step laws m heights valid typed answers fits config fine) within;
      }

  none_within : (config : Config) → HasOutcomeWithin zero (Running config) → ⊥
  none_within config within = let h = within.1 in cc

  makes_none : Makes zero
  makes_none =
      record {
        runs = λ frame below store counts known nested fine kept within. absurd (none_within _ within);
        main = λ action actions below store counts known nested fine kept within. absurd (none_within _ within);
        import = λ number args action actions end below store counts known nested fine kept within.
            absurd (none_within _ within);
      }

  pub makes : (k : ℕ) → Makes k
  makes zero = makes_none
  makes (suc k) = makes_next k (deliver_from k (makes k))

  delivers : (k : ℕ) → Delivers k
  delivers k = deliver_from k (makes k)

  -- ---- the start

  module _ (k : ℕ) (main : List Action) (store : Store) (known : Known) (kept : IsKept m known store) where
    abbrev counts : List ℕ
    counts = replicate (imported_funcs m) 0

    without_call : IsSafe m heights (after_settling store counts (deliver (InMain main ∷ []) [])).next
        → HasOutcomeWithin k (after_settling store counts (deliver (InMain main ∷ []) [])).next
        → AreFromEnd m known []
        (observed_from program k (after_settling store counts (deliver (InMain main ∷ []) [])))
    without_call safe within = delivers k (InMain main ∷ []) [] store counts known refl tt kept safe within

    with_call : (func : ℕ) (ty : FuncType) → signature code func ≡ Some ty → ty.params ≡ [] → (b : Bool)
        → nat_lt func (imported_funcs m) ≡ b
        → IsSafe m heights (start_with_call program b store counts func (InMain main ∷ [])).next
        → HasOutcomeWithin k (start_with_call program b store counts func (InMain main ∷ [])).next
        → AreFromEnd m known []
        (observed_from program k (start_with_call program b store counts func (InMain main ∷ [])))
    with_call func ty is none true e safe within = without_call safe within
    with_call func ty is none false e safe within =
        from_host_call k (delivers k) func [] (InMain main ∷ []) store counts known ty is (grind (arith, nat_tests, e))
        (sym none) refl tt kept safe within

    -- the host's first activity, from its end on
    pub from_start : (func : Option ℕ) → IfSome func (IsStart m)
        → IsSafe m heights (start program func store counts main).next
        → HasOutcomeWithin k (start program func store counts main).next
        → AreFromEnd m known [] (observed_from program k (start program func store counts main))
    from_start None valid safe within = without_call safe within
    from_start (Some func) valid safe within =
        with_call func valid.ty valid.has_type valid.params (nat_lt func (imported_funcs m)) refl safe within
