-- What each instruction and each action of the host keeps holds at each configuration of a run.
use Rattle.std.proofs.Common.{◌≡◌, ℕ, zero, suc, ◌+◌, List, [], ◌∷◌, ◌++◌, Option, Some, None, Bool, true, false, nat_lt, replicate, slice_set, slice_index, option_to_list, refl, sym, ◌∙◌, subst, arith}
use Rattle.wasm_syntax.specs.declared.values.ValType.{ValType}
use Rattle.wasm_syntax.specs.declared.values.Val.{Val}
use Rattle.wasm_syntax.specs.declared.signatures.FuncType.{FuncType}
use Rattle.wasm_syntax.specs.declared.modules.Module.{Module}
use Rattle.wasm_syntax.specs.Index.{imported_funcs}
use Rattle.wasm_syntax.specs.Validity.{IsValid}
use Rattle.host_script.specs.declared.scripts.Action.{Action}
use Rattle.host_script.specs.declared.scripts.Answer.{Answer}
use Rattle.host_script.specs.declared.scripts.Response.{Response}
use Rattle.host_script.specs.declared.scripts.ResponseEnd.TheVariants.{Return, Trap as EndsInTrap}
use Rattle.host_script.specs.declared.scripts.Script.{Script}
use Rattle.host_script.specs.Fits.{Fits, FitsAction, FitAnswers}
use Rattle.history_spec.specs.declared.entries.Entry.{Entry}
use Rattle.history_spec.specs.declared.entries.Entry.TheVariants.{HostCall, HostReturn, ImportCall, ImportReturn, HostTrap}
use Rattle.history_spec.specs.Store.{Store}
use Rattle.history_spec.specs.Code.{Code, Definition, code_of, signature, definition}
use Rattle.history_spec.specs.Configuration.{Frame, Activation, InModule, InMain, InImport, Config, with_results}
use Rattle.history_spec.specs.Instruction.{Control, Goes, Calls, Returns, Execution, Did, Traps, NoRule, execute}
use Rattle.history_spec.specs.Action.{ActionResult, Changes, Enters, Fails, Unfit, perform}
use Rattle.history_spec.specs.Settle.{AtEnd, Within, Gives, TooFew, at_end, return_from, deliver}
use Rattle.history_spec.specs.Step.{Program, Progress, Running, Finished, Faulted, Stuck, after_settling, enter_defined, enter_function, frame_of, response_to, answer_call, call_function, after_control, after_instruction, after_action, step, start, start_with_call}
use Rattle.history_spec.specs.Run.{all_one, program_of, start_in_store, steps, run_from}
use Rattle.record_replay_spec.specs.Observations.{Observation, stack_observations, activity_observations, observations}
use Rattle.record_replay_spec.specs.Known.{Known, known_after, known_after_all, opening_known}
use Rattle.record_replay_spec.specs.Executions.{left_store}
use Rattle.record_replay_spec.specs.ObservedStepLaws.{observed}
use Rattle.type_safety.specs.Configurations.{IsConfig, IsSafe, IsTypedCode, scope}
use Rattle.type_safety.specs.Frames.{IsFrame}
use Rattle.type_safety.specs.Heights.{Heights}
use Rattle.type_safety.specs.Results.{HasRule, IsActionResult}
use Rattle.type_safety.specs.Stores.{IsStore}
use Rattle.type_safety.specs.Supplies.{IsRunnable}
use Rattle.tape_laws.specs.Below.{LawsOfSteps}
use Rattle.tape_laws.specs.RealReads.{AreNested, known_so_far}
use Rattle.tape_laws.proofs.KeptSteps.{left_is_store}
use Rattle.tape_laws.proofs.SafeRuns.{IsSafeRun}

-- each instruction of a well-typed activation, and each action of the host that fits, keeps a property of what is known
-- and of the store
pub record IsKeptInRuns (m : Module) (heights : Heights) (P : Known → Store → Type 0) : Type 0 where
  pub instruction : (known : Known) (store : Store) (frame : Frame) (ty : FuncType) (body : Definition)
      (operands results : List Val) (found : Option ℕ) (control : Control)
      → IsStore m store → IsStore m (left_store store control) → IsFrame (scope m heights frame.func ty body) [] frame
      → execute (code_of m) store frame ≡ Did operands results found control → P known store
      → P (known_after_all known (observed store frame)) (left_store store control)
  pub action : (known : Known) (store : Store) (params : List ValType) (args : List Val) (action : Action)
      (after : Store) → IsStore m store → IsStore m after → FitsAction m params action
      → perform (code_of m) store args action ≡ Changes after → P known store → P known after

-- ---- what is known after activities of the host

pub known_after_both : (known : Known) (seen later : List Observation)
    → known_after_all known (seen ++ later) ≡ known_after_all (known_after_all known seen) later
known_after_both known [] later = refl
known_after_both known (o ∷ seen) later = known_after_both (known_after known o) seen later

-- activities of the host leave what is known
pub known_after_activities : (known : Known) (entries : List Entry) (later : List Observation)
    → known_after_all known (activity_observations entries ++ later) ≡ known_after_all known later
known_after_activities known [] later = refl
known_after_activities known (HostCall func args ∷ entries) later = known_after_activities known entries later
known_after_activities known (HostReturn func results ∷ entries) later = known_after_activities known entries later
known_after_activities known (ImportCall import args ∷ entries) later = known_after_activities known entries later
known_after_activities known (ImportReturn import results ∷ entries) later =
    known_after_activities known entries later
known_after_activities known (HostTrap ∷ entries) later = known_after_activities known entries later
known_after_activities known (entry ∷ entries) later = known_after_activities known entries later

module _ (laws : LawsOfSteps) (m : Module) (heights : Heights) (valid : IsValid m) (typed : IsTypedCode m heights)
    (answers : List (Option Answer)) (fits : FitAnswers m answers) (P : Known → Store → Type 0)
    (keeps : IsKeptInRuns m heights P) where
  abbrev program : Program
  program = record { code = code_of m; answers = answers }

  abbrev code : Code
  code = code_of m

  -- if a run goes on, its store and what is known have the property, and its activations are nested
  abbrev IsAt : Known → Progress → Type 0
  IsAt known (Running config) = AreNested config.stack × P known config.store
  IsAt known at = Unit {0}

  -- ---- what follows without a turn

  after_results : (known : Known) (store : Store) (counts : List ℕ) → P known store → (stack : List Activation)
      (results : List Val) → AreNested stack
      → IsAt known (after_settling store counts (deliver stack results)).next
  after_results known store counts of [] results nested = tt
  after_results known store counts of (InModule frame ∷ below) results nested =
      go (λ given. after_results known store counts of below given nested) (at_end (with_results frame results))
    where
      go : ((given : List Val) → IsAt known (after_settling store counts (deliver below given)).next)
          → (e : AtEnd)
          → IsAt known
          (after_settling store counts (return_from e (with_results frame results) below (deliver below))).next
      go rest Within = (nested, of)
      go rest (Gives given) = rest given
      go rest TooFew = tt
  after_results known store counts of (InMain [] ∷ below) results nested = tt
  after_results known store counts of (InMain (action ∷ actions) ∷ below) results nested = (nested, of)
  after_results known store counts of (InImport import args [] (Return value) ∷ below) results nested =
      after_results known store counts of below (option_to_list value) nested.1
  after_results known store counts of (InImport import args [] EndsInTrap ∷ below) results nested = tt
  after_results known store counts of (InImport import args (action ∷ actions) end ∷ below) results nested =
      (nested, of)

  after_entry : (known : Known) (store : Store) (counts : List ℕ) → P known store → (func : ℕ) (args : List Val)
      (stack : List Activation) → AreNested stack
      → IsAt known (enter_function code store counts func args stack).next
  after_entry known store counts of func args stack nested = go (signature code func) (definition code func)
    where
      go : (ty : Option FuncType) (d : Option Definition)
          → IsAt known (enter_defined ty d store counts func args stack).next
      go None d = tt
      go (Some ty) None = tt
      go (Some ty) (Some d) =
          after_results known store counts of (InModule (frame_of func ty d args) ∷ stack) [] nested

  after_call : (known : Known) (store : Store) (counts : List ℕ) → P known store → (func : ℕ) (args : List Val)
      (waiting : Frame) (below : List Activation) → AreNested below → (b : Bool)
      → IsAt known (call_function program b store counts func args (InModule waiting ∷ below)).next
  after_call known store counts of func args waiting below nested false =
      after_entry known store counts of func args (InModule waiting ∷ below) nested
  after_call known store counts of func args waiting below nested true =
      go (response_to answers func (slice_index counts func))
    where
      go : (o : Option Response)
          → IsAt known (answer_call o store counts func args (InModule waiting ∷ below)).next
      go None = tt
      go (Some response) =
          after_results known store (slice_set counts func (slice_index counts func + 1)) of
          (InImport func args response.actions response.end ∷ InModule waiting ∷ below) [] (tt, nested)

  -- ---- a step

  after_this_control : (known : Known) (config : Config) (frame : Frame) (below : List Activation) (control : Control)
      → AreNested below → P known (left_store config.store control)
      → IsAt known (after_control program config frame below control).next
  after_this_control known config frame below (Goes store next) nested of =
      after_results known store config.counts of (InModule next ∷ below) [] nested
  after_this_control known config frame below (Calls waiting func args) nested of =
      after_call known config.store config.counts of func args waiting below nested (nat_lt func code.imported)
  after_this_control known config frame below (Returns results) nested of =
      after_results known config.store config.counts of below results nested

  after_execution : (known : Known) (config : Config) (frame : Frame) (below : List Activation) (e : Execution)
      (ty : FuncType) (body : Definition) → IsStore m config.store
      → IsFrame (scope m heights frame.func ty body) [] frame → HasRule (scope m heights frame.func ty body) e
      → AreNested below → P known config.store → execute code config.store frame ≡ e
      → IsAt (known_after_all known (observed config.store frame))
      (after_instruction program config frame below e).next
  after_execution known config frame below NoRule ty body is fine rule nested of e = tt
  after_execution known config frame below (Traps kind operands found) ty body is fine rule nested of e = tt
  after_execution known config frame below (Did operands results found control) ty body is fine rule nested of e =
      after_this_control (known_after_all known (observed config.store frame)) config frame below control nested
      (keeps.instruction known config.store frame ty body operands results found control is
      (left_is_store (scope m heights frame.func ty body) config.store control is rule) fine e of)

  after_this_action : (known : Known) (config : Config) (stack : List Activation) (args : List Val) (action : Action)
      (params : List ValType) (r : ActionResult) → IsStore m config.store → FitsAction m params action → AreNested stack
      → P known config.store → perform code config.store args action ≡ r → IsActionResult m r
      → IsAt known (after_action program config stack r).next
  after_this_action known config stack args action params (Changes after) is fits nested of e fine =
      after_results known after config.counts
      (keeps.action known config.store params args action after is fine fits e of) stack [] nested
  after_this_action known config stack args action params (Enters func given) is fits nested of e fine =
      after_entry known config.store config.counts of func given stack nested
  after_this_action known config stack args action params (Fails kind) is fits nested of e fine = tt
  after_this_action known config stack args action params Unfit is fits nested of e fine = tt

  after_step : (known : Known) (config : Config) → IsConfig m heights config → AreNested config.stack
      → P known config.store
      → IsAt (known_after_all known (stack_observations config.store config.stack)) (step program config).next
  after_step known config fine nested of = go config.stack config.store config.counts fine nested of
    where
      go : (stack : List Activation) (store : Store) (counts : List ℕ)
          → IsConfig m heights (record { store = store; stack = stack; counts = counts }) → AreNested stack
          → P known store
          → IsAt (known_after_all known (stack_observations store stack))
          (step program (record { store = store; stack = stack; counts = counts })).next
      go [] store counts fine nested of = tt
      go (InModule frame ∷ below) store counts fine nested of =
          let a = fine.stack in
          after_execution known (record { store = store; stack = InModule frame ∷ below; counts = counts }) frame below
          (execute code store frame) a.0 a.1 fine.store a.2
          (laws.rules m heights store frame a.0 a.1 valid typed fine.store a.2 fine.at_step) nested of refl
      go (InMain [] ∷ below) store counts fine nested of = tt
      go (InMain (action ∷ actions) ∷ below) store counts fine nested of =
          let a = fine.stack in
          after_this_action known
          (record { store = store; stack = InMain (action ∷ actions) ∷ below; counts = counts })
          (InMain actions ∷ below) [] action [] (perform code store [] action) fine.store
          (a.0 0 action (omega arith)) nested of refl
          (laws.actions m heights store [] [] action typed fine.store tt (a.0 0 action (omega arith)))
      go (InImport number args [] end ∷ below) store counts fine nested of = tt
      go (InImport number args (action ∷ actions) end ∷ below) store counts fine nested of =
          let a = fine.stack in
          after_this_action known
          (record { store = store; stack = InImport number args (action ∷ actions) end ∷ below; counts = counts })
          (InImport number args actions end ∷ below) args action a.0.params (perform code store args action) fine.store
          (a.3 0 action (omega arith)) nested of refl
          (laws.actions m heights store a.0.params args action typed fine.store a.2 (a.3 0 action (omega arith)))

  -- ---- all steps

  after_steps : (j : ℕ) (known : Known) (at : Progress) (config : Config) → IsSafe m heights at → IsAt known at
      → (steps program all_one j at).at ≡ Running config
      → IsConfig m heights config × AreNested config.stack
      × P (known_after_all known (observations program j at)) config.store
  after_steps zero known (Running now) config safe is h =
      let same : now ≡ config = cc in
      subst
      (λ (c : Config). IsConfig m heights c × AreNested c.stack × P known c.store) same (safe, is.0, is.1)
  after_steps (suc j) known (Running now) config safe is h =
      let next = after_step known now safe is.0 is.1 in
      let rest = after_steps j (known_after_all known (stack_observations now.store now.stack)) (step program now).next
      config (laws.steps m heights program now valid typed (record { code = refl; answers = fits }) safe) next h in (
        rest.0,
        rest.1,
        subst (λ known. P known config.store)
            (sym
            (known_after_both known (stack_observations now.store now.stack) _
            ∙ known_after_activities (known_after_all known (stack_observations now.store now.stack))
            (step program now).entries (observations program j (step program now).next)))
            rest.2,
      )
  after_steps zero known (Finished outcome) config safe is h = cc
  after_steps zero known (Faulted kind) config safe is h = cc
  after_steps zero known Stuck config safe is h = cc
  after_steps (suc j) known (Finished outcome) config safe is h = cc
  after_steps (suc j) known (Faulted kind) config safe is h = cc
  after_steps (suc j) known Stuck config safe is h = cc

  -- ---- the start

  after_start : (main : List Action) (store : Store) (known : Known) → P known store → (func : Option ℕ)
      → IsAt known (start program func store (replicate (imported_funcs m) 0) main).next
  after_start main store known of None =
      after_results known store (replicate (imported_funcs m) 0) of (InMain main ∷ []) [] refl
  after_start main store known of (Some func) = go (nat_lt func (imported_funcs m))
    where
      go : (b : Bool)
          → IsAt known
          (start_with_call program b store (replicate (imported_funcs m) 0) func (InMain main ∷ [])).next
      go true = after_results known store (replicate (imported_funcs m) 0) of (InMain main ∷ []) [] refl
      go false = after_entry known store (replicate (imported_funcs m) 0) of func [] (InMain main ∷ []) refl

-- a configuration that a run reaches: it is well typed, its activations are nested, and the property holds there
pub record IsReached (m : Module) (heights : Heights) (P : Known → Store → Type 0) (known : Known) (config : Config)
    : Type 0 where
  pub fine : IsConfig m heights config
  pub nested : AreNested config.stack
  pub kept : P known config.store

-- a property that holds of the store in which a run begins, and is kept, holds at each step at which the run goes on
pub kept_so_far : LawsOfSteps → (m : Module) (script : Script) (store : Store) → IsRunnable m → Fits m script
    → (run : IsSafeRun m script store) (P : Known → Store → Type 0) → IsKeptInRuns m run.heights P
    → P (opening_known store) store → (so_far : ℕ) (config : Config)
    → (run_from (program_of m script) all_one (start_in_store m script store) so_far).at ≡ Running config
    → IsReached m run.heights P (known_so_far m script store so_far) config
kept_so_far laws m script store runnable fits run P keeps opening so_far config at =
    let program = program_of m script in
    let initial = start_in_store m script store in
    let begins = after_start laws m run.heights runnable.valid run.typed script.imports fits.imports P keeps
    script.main store (opening_known store) opening m.start in
    let found = after_steps laws m run.heights runnable.valid run.typed script.imports fits.imports P keeps so_far
    (opening_known store) initial.next config run.safe begins at in
    let known_is =
    known_after_activities (opening_known store) initial.entries (observations program so_far initial.next) in
    record {
      fine = found.0;
      nested = found.1;
      kept = subst (λ known. P known config.store) (sym known_is) found.2;
    }
