-- The hook calls of a run observe what the run observes, as far as hooks report it.
use Rattle.std.proofs.Common.{◌≡◌, ℕ, zero, suc, ◌+◌, ◌≤◌, List, [], ◌∷◌, ◌++◌, map, Option, Some, None, Bool, true, false, nat_lt, slice_get, slice_index, option_to_list, replicate, refl, sym, ap, ◌∙◌, subst}
use Rattle.std.specs.List.{AllByRecursion}
use Rattle.std.proofs.lemmas.List.{append_assoc}
use Rattle.std.proofs.lemmas.Option.{none-some, same_Some}
use Rattle.wasm_syntax.specs.declared.limits.TheConstants.{MAX_PAGES}
use Rattle.wasm_syntax.specs.declared.values.Val.{Val}
use Rattle.wasm_syntax.specs.declared.signatures.FuncType.{FuncType}
use Rattle.wasm_syntax.specs.declared.signatures.GlobalType.{GlobalType}
use Rattle.wasm_syntax.specs.declared.signatures.Limits.{Limits}
use Rattle.wasm_syntax.specs.declared.instructions.Instr.{Instr}
use Rattle.wasm_syntax.specs.declared.modules.Module.{Module}
use Rattle.wasm_syntax.specs.Encoding.Forms.{IsCoreModule}
use Rattle.wasm_syntax.specs.Index.{imported_funcs, all_globals, all_memories}
use Rattle.wasm_syntax.specs.Nest.{Nest, Plain}
use Rattle.wasm_syntax.specs.Validity.{IsValid}
use Rattle.host_script.specs.declared.scripts.Action.{Action}
use Rattle.host_script.specs.declared.scripts.Answer.{Answer}
use Rattle.host_script.specs.declared.scripts.Response.{Response}
use Rattle.host_script.specs.declared.scripts.ResponseEnd.TheVariants.{Return, Trap as EndsInTrap}
use Rattle.host_script.specs.Fits.{FitAnswers}
use Rattle.base.specs.declared.outcomes.Outcome.TheVariants.{Ended, Trapped, HostTrapped}
use Rattle.history_spec.specs.declared.entries.Entry.{Entry}
use Rattle.history_spec.specs.declared.entries.Entry.TheVariants.{HostCall, HostReturn, ImportCall, ImportReturn, Enter, Exit, Step, Trap, HostTrap}
use Rattle.history_spec.specs.Store.{Store, Memory, pages}
use Rattle.history_spec.specs.Code.{Code, Definition, code_of, signature, definition}
use Rattle.history_spec.specs.Configuration.{place, Frame, Activation, InModule, InMain, InImport, Config, with_results}
use Rattle.history_spec.specs.Instruction.{Control, Goes, Calls, Returns, Execution, Did, Traps, NoRule, execute, execute_at}
use Rattle.history_spec.specs.Action.{ActionResult, Changes, Enters, Fails, Unfit, perform}
use Rattle.history_spec.specs.Settle.{AtEnd, Within, Gives, TooFew, at_end, return_entry, return_from, deliver}
use Rattle.history_spec.specs.Step.{Program, Progress, Running, Finished, Faulted, Stuck, StepResult, frame_of, enter_defined, enter_function, response_to, answer_call, call_function, after_control, after_instruction, after_action, step, start, start_with_call}
use Rattle.record_replay_spec.specs.Observations.{Observation, nest_observations, activity_observations, end_observations, observations, run_observations}
use Rattle.type_safety.specs.Configurations.{IsConfig, IsSafe, IsTypedCode, scope}
use Rattle.type_safety.specs.Heights.{Heights}
use Rattle.type_safety.specs.Frames.{Scope}
use Rattle.type_safety.specs.Results.{HasRule}
use Rattle.type_safety.specs.Stores.{func_count, MayBeMemory}
use Rattle.type_safety.specs.Values.{AreValues}
use Rattle.tape_laws.specs.Below.{LawsOfSteps, LawsOfRuns}
use Rattle.tape_laws.proofs.SafeRuns.{safe_run}
use Rattle.record_replay_spec.specs.HookLaws.{InstrumentedKeepIndices}
use Rattle.record_replay_spec.specs.Hooks.{HookCall, on, renumbered_call}
use Rattle.record_replay_spec.specs.ReportedCalls.{Moment, next_of_nest, store_executed, store_after, moments, run_moments, WaitingCall, latest_args, reported_before, reported_after, reported_values, reported_number, reported_over, reported_return, reported_at, reported_calls, waiting_at}
use Rattle.record_replay_spec.specs.Order.{HookedShape}
use Rattle.record_replay_spec.specs.Logs.{call_observations}
use Rattle.record_replay_spec.specs.declared.hooks.Hook.TheVariants.{Enter as ToEnter}
use Rattle.tape_laws.specs.CallLaws.{hooked_shape, HookCallsObserveRuns}
use Rattle.tape_laws.specs.ReportedObservations.{reported_observation}
use Rattle.tape_laws.proofs.CallObservations.{seen_by, as_reported}
use Rattle.tape_laws.proofs.CoreFrames.{CoreNest, CoreStack, CoreProgress, core_step, core_start}
use Rattle.tape_laws.proofs.StepCalls.{IsTypedGlobal, IsReportedBy, plain_reported}

-- ---- the entries after a step's own

-- the entry is not a step of the module
abbrev pub IsQuiet : Entry → Type 0
IsQuiet (Step func number operands results found) = ⊥
IsQuiet (Trap func number kind operands found) = ⊥
IsQuiet entry = Unit {0}

abbrev pub AreQuiet : List Entry → Type 0
AreQuiet = AllByRecursion IsQuiet

returned_quiet : (func : ℕ) (results : List Val) (below : List Activation) (entries : List Entry) → AreQuiet entries
    → AreQuiet (return_entry func results below ∷ entries)
returned_quiet func results [] entries h = (tt, h)
returned_quiet func results (InModule frame ∷ below) entries h = (tt, h)
returned_quiet func results (InMain actions ∷ below) entries h = (tt, h)
returned_quiet func results (InImport import args actions «end» ∷ below) entries h = (tt, h)

delivered_quiet : (stack : List Activation) (results : List Val) → AreQuiet (deliver stack results).entries
delivered_quiet [] results = tt
delivered_quiet (InModule frame ∷ below) results =
    go (delivered_quiet below) (at_end (with_results frame results))
  where
    go : ((given : List Val) → AreQuiet (deliver below given).entries) → (e : AtEnd)
        → AreQuiet (return_from e (with_results frame results) below (deliver below)).entries
    go rest Within = tt
    go rest (Gives given) = returned_quiet _ given below _ (rest given)
    go rest TooFew = tt
delivered_quiet (InMain [] ∷ below) results = tt
delivered_quiet (InMain (action ∷ actions) ∷ below) results = tt
delivered_quiet (InImport import args [] (Return value) ∷ below) results =
    (tt, delivered_quiet below (option_to_list value))
delivered_quiet (InImport import args [] EndsInTrap ∷ below) results = (tt, tt)
delivered_quiet (InImport import args (action ∷ actions) «end» ∷ below) results = tt

module _ (program : Program) where
  entered_quiet : (store : Store) (counts : List ℕ) (func : ℕ) (args : List Val) (stack : List Activation)
      → AreQuiet (enter_function program.code store counts func args stack).entries
  entered_quiet store counts func args stack = go (signature program.code func) (definition program.code func)
    where
      go : (ty : Option FuncType) (d : Option Definition)
          → AreQuiet (enter_defined ty d store counts func args stack).entries
      go None d = tt
      go (Some ty) None = tt
      go (Some ty) (Some d) = delivered_quiet (InModule (frame_of func ty d args) ∷ stack) []

  called_quiet : (b : Bool) (store : Store) (counts : List ℕ) (func : ℕ) (args : List Val) (stack : List Activation)
      → AreQuiet (call_function program b store counts func args stack).entries
  called_quiet false store counts func args stack = (tt, entered_quiet store counts func args stack)
  called_quiet true store counts func args stack = go (response_to program.answers func (slice_index counts func))
    where
      go : (r : Option Response) → AreQuiet (answer_call r store counts func args stack).entries
      go None = tt
      go (Some r) = (tt, delivered_quiet (InImport func args r.actions r.end ∷ stack) [])

  controlled_quiet : (config : Config) (frame : Frame) (below : List Activation) (control : Control)
      → AreQuiet (after_control program config frame below control).entries
  controlled_quiet config frame below (Goes store next) = delivered_quiet (InModule next ∷ below) []
  controlled_quiet config frame below (Calls waiting func args) =
      called_quiet (nat_lt func program.code.imported) config.store config.counts func args (InModule waiting ∷ below)
  controlled_quiet config frame below (Returns results) =
      returned_quiet frame.func results below _ (delivered_quiet below results)

  acted_quiet : (config : Config) (stack : List Activation) (r : ActionResult)
      → AreQuiet (after_action program config stack r).entries
  acted_quiet config stack (Changes store) = delivered_quiet stack []
  acted_quiet config stack (Enters func args) =
      (tt, entered_quiet config.store config.counts func args stack)
  acted_quiet config stack (Fails kind) = tt
  acted_quiet config stack Unfit = tt

  pub started_quiet : (func : Option ℕ) (store : Store) (counts : List ℕ) (main : List Action)
      → AreQuiet (start program func store counts main).entries
  started_quiet None store counts main = delivered_quiet (InMain main ∷ []) []
  started_quiet (Some func) store counts main = go (nat_lt func program.code.imported)
    where
      go : (b : Bool) → AreQuiet (start_with_call program b store counts func (InMain main ∷ [])).entries
      go true = delivered_quiet (InMain main ∷ []) []
      go false = (tt, entered_quiet store counts func [] (InMain main ∷ []))

-- ---- hook calls of entries

-- the moments of a step
abbrev pub moments_at : Option Instr → (before after : Store) → List Entry → List Moment
moments_at instr before after entries =
    map (λ entry. record { entry = entry; instr = instr; before = before; after = after }) entries

-- a global of a well-typed store has the declared type
pub global_at : (funcs : ℕ) (globals : List GlobalType) (values : List Val) (x : ℕ) (value : Val)
    → AreValues funcs (map (λ global. global.ty) globals) values → slice_get values x ≡ Some value
    → IsTypedGlobal globals x value
global_at funcs [] [] x value are h = absurd (none-some value h)
global_at funcs [] (v ∷ values) x value are h = absurd are
global_at funcs (g ∷ globals) [] x value are h = absurd are
global_at funcs (g ∷ globals) (v ∷ values) zero value are h =
    record { ty = g; declared = refl; typed = sym are.0.typed ∙ ap (λ (w : Val). w.ty) (same_Some v value h) }
global_at funcs (g ∷ globals) (v ∷ values) (suc x) value are h =
    let p = global_at funcs globals values x value are.1 h in
    record { ty = p.ty; declared = p.declared; typed = p.typed }

-- a memory of a well-typed store has no more pages than are allowed
pub few_pages : (limits : List Limits) (o : Option Memory) (memory : Memory) → MayBeMemory limits o
    → o ≡ Some memory → pages memory ≤ MAX_PAGES
few_pages limits None memory h e = absurd (none-some memory e)
few_pages [] (Some own) memory h e = absurd h
few_pages (l ∷ limits) (Some own) memory h e = subst (λ m. pages m ≤ MAX_PAGES) (same_Some own memory e) h.most

module _ (shape : HookedShape) (n : ℕ) (globals : List GlobalType) (same_globals : shape.globals ≡ globals) where
  abbrev seen : List HookCall → List Observation
  seen calls = seen_by shape n globals calls

  abbrev reported : List Observation → List Observation
  reported items = as_reported shape n globals items

  seen_both : (a b : List HookCall) → seen (a ++ b) ≡ seen a ++ seen b
  seen_both [] b = refl
  seen_both (call ∷ a) b =
      ap (λ l. call_observations shape (renumbered_call n call) ++ l) (seen_both a b)
      ∙ sym (append_assoc (call_observations shape (renumbered_call n call)) (seen a) (seen b))

  reported_both : (a b : List Observation) → reported (a ++ b) ≡ reported a ++ reported b
  reported_both [] b = refl
  reported_both (o ∷ a) b =
      ap (λ l. reported_observation n globals o ++ l) (reported_both a b)
      ∙ sym (append_assoc (reported_observation n globals o) (reported a) (reported b))

  -- hook calls that report values, an entry or a return observe nothing
  values_silent : (view : Store) (values : List Val) (calls : List HookCall) → seen calls ≡ []
      → seen (reported_values view values ++ calls) ≡ []
  values_silent view [] calls h = h
  values_silent view (value ∷ values) calls h = values_silent view values calls h

  over_silent : (callee : Option ℕ) (view : Store) → seen (reported_over callee view) ≡ []
  over_silent None view = refl
  over_silent (Some func) view = refl

  return_silent : (waiting : List WaitingCall) (results : List Val) (view : Store)
      → seen (reported_return waiting results view) ≡ []
  return_silent [] results view = refl
  return_silent (call ∷ waiting) results view =
      values_silent view results (reported_over call.callee view) (over_silent call.callee view)

  entry_silent : (waiting : List WaitingCall) (m : Moment) (entry : Entry) → IsQuiet entry
      → seen (reported_at globals waiting m entry) ≡ []
  entry_silent waiting m (HostCall func args) quiet =
      values_silent m.after args (reported_number ToEnter func m.after) refl
  entry_silent waiting m (Enter func) quiet =
      values_silent m.after (latest_args waiting) (reported_number ToEnter func m.after) refl
  entry_silent waiting m (HostReturn func results) quiet = refl
  entry_silent waiting m (Exit func results) quiet = return_silent waiting results m.after
  entry_silent waiting m (ImportReturn import results) quiet = return_silent waiting results m.after
  entry_silent waiting m (Step func number operands results found) quiet = absurd quiet
  entry_silent waiting m (Trap func number kind operands found) quiet = absurd quiet
  entry_silent waiting m entry quiet = refl

  activities_unreported : (entries : List Entry) → reported (activity_observations entries) ≡ []
  activities_unreported [] = refl
  activities_unreported (HostCall func args ∷ later) = activities_unreported later
  activities_unreported (HostReturn func results ∷ later) = activities_unreported later
  activities_unreported (ImportCall import args ∷ later) = activities_unreported later
  activities_unreported (ImportReturn import results ∷ later) = activities_unreported later
  activities_unreported (HostTrap ∷ later) = activities_unreported later
  activities_unreported (entry ∷ later) = activities_unreported later

  -- the hook calls of later moments observe these items, whatever calls wait
  abbrev AreReportedAs : List Moment → List Observation → Type 0
  AreReportedAs later items = (waiting : List WaitingCall) → seen (reported_calls globals waiting later) ≡ reported items

  quiet_reported : (entries : List Entry) (instr : Option Instr) (before after : Store) (later : List Moment)
      (items : List Observation) → AreQuiet entries → AreReportedAs later items
      → AreReportedAs (moments_at instr before after entries ++ later) items
  quiet_reported [] instr before after later items quiet h waiting = h waiting
  quiet_reported (entry ∷ entries) instr before after later items quiet h waiting =
      let m : Moment = record { entry = entry; instr = instr; before = before; after = after } in
      seen_both (reported_at globals waiting m entry)
      (reported_calls globals (waiting_at waiting m entry) (moments_at instr before after entries ++ later))
      ∙ ap
      (λ l. l ++ seen
      (reported_calls globals (waiting_at waiting m entry) (moments_at instr before after entries ++ later)))
      (entry_silent waiting m entry quiet.0)
      ∙ quiet_reported entries instr before after later items quiet.1 h (waiting_at waiting m entry)

  -- hooks do not report the activities of such entries
  with_activities : (entries : List Entry) (later : List Moment) (items : List Observation) → AreReportedAs later items
      → AreReportedAs later (activity_observations entries ++ items)
  with_activities entries later items h waiting =
      h waiting
      ∙ sym
      (reported_both (activity_observations entries) items ∙ ap (λ l. l ++ reported items) (activities_unreported entries))

  -- ---- a step of the module

  abbrev pub IsReportedOfNest : Store → List Val → Nest → Execution → Type 0
  IsReportedOfNest store values nest (Did operands results found control) =
      seen
      (on (next_of_nest nest) (λ i.
      reported_before i operands store
      ++ reported_after globals i results (store_executed store (Did operands results found control))))
      ≡ reported (nest_observations store values nest)
  IsReportedOfNest store values nest (Traps kind operands found) =
      seen (on (next_of_nest nest) (λ i. reported_before i operands store)) ≡ reported (nest_observations store values nest)
  IsReportedOfNest store values nest NoRule = ⊥

  -- the execution has a rule
  abbrev pub RuleHolds : Execution → Type 0
  RuleHolds NoRule = ⊥
  RuleHolds e = Unit {0}

  silent_nest : (store : Store) (values : List Val) (nest : Nest) → next_of_nest nest ≡ None
      → nest_observations store values nest ≡ [] → (e : Execution) → RuleHolds e → IsReportedOfNest store values nest e
  silent_nest store values nest none nothing (Did operands results found control) rule =
      ap
      (λ (o : Option Instr). seen
      (on o (λ i.
      reported_before i operands store
      ++ reported_after globals i results (store_executed store (Did operands results found control)))))
      none
      ∙ sym (ap reported nothing)
  silent_nest store values nest none nothing (Traps kind operands found) rule =
      ap (λ (o : Option Instr). seen (on o (λ i. reported_before i operands store))) none ∙ sym (ap reported nothing)
  silent_nest store values nest none nothing NoRule rule = rule

  plain_nest : (store : Store) (values : List Val) (i : Instr) (rest : Nest) (e : Execution)
      → IsReportedBy shape n globals same_globals store values i e → RuleHolds e
      → IsReportedOfNest store values (Plain i rest) e
  plain_nest store values i rest (Did operands results found control) h rule = h
  plain_nest store values i rest (Traps kind operands found) h rule = h
  plain_nest store values i rest NoRule h rule = rule

  pub has_rule : (s : Scope) (e : Execution) → HasRule s e → RuleHolds e
  has_rule s (Did operands results found control) h = tt
  has_rule s (Traps kind operands found) h = tt
  has_rule s NoRule h = h

  -- the hook calls of the next instruction of a body of the form Core
  pub nest_reported : (code : Code) (store : Store) (frame : Frame) → CoreNest frame.at.rest
      → ((x : ℕ) (value : Val) → slice_get store.globals x ≡ Some value → IsTypedGlobal globals x value)
      → ((memory : Memory) → store.memory ≡ Some memory → pages memory ≤ MAX_PAGES)
      → RuleHolds (execute code store frame)
      → IsReportedOfNest store frame.values frame.at.rest (execute code store frame)
  nest_reported code store frame core typed small rule = go frame.at.rest frame.at.number core rule
    where
      go : (nest : Nest) (number : ℕ) → CoreNest nest → RuleHolds (execute_at code store frame nest number)
          → IsReportedOfNest store frame.values nest (execute_at code store frame nest number)
      go (Plain i rest) number c rule =
          plain_nest store frame.values i rest (execute_at code store frame (Plain i rest) number)
          (plain_reported shape n globals same_globals store frame.values code frame (place rest (number + 1)) refl typed
          small i c.0).reported rule
      go nest number c rule =
          silent_nest store frame.values nest refl refl (execute_at code store frame nest number) rule

  executed_reported : (program : Program) (config : Config) (frame : Frame) (below : List Activation) (e : Execution)
      → IsReportedOfNest config.store frame.values frame.at.rest e → (later : List Moment) (items : List Observation)
      → AreReportedAs later items
      → AreReportedAs
      (moments_at (next_of_nest frame.at.rest) config.store (store_executed config.store e)
      (after_instruction program config frame below e).entries ++ later)
      (nest_observations config.store frame.values frame.at.rest
      ++ (activity_observations (after_instruction program config frame below e).entries ++ items))
  executed_reported program config frame below (Did operands results found control) own later items h waiting =
      let after = store_executed config.store (Did operands results found control) in
      let instr = next_of_nest frame.at.rest in
      let entry = Step frame.func frame.at.number operands results found in
      let entries = (after_control program config frame below control).entries in
      let m : Moment = record { entry = entry; instr = instr; before = config.store; after = after } in
      let rest = reported_calls globals (waiting_at waiting m entry)
      (moments_at instr config.store after entries ++ later) in
      seen_both (reported_at globals waiting m entry) rest
      ∙ ap (λ l. l ++ seen rest) own
      ∙ ap (λ l. reported (nest_observations config.store frame.values frame.at.rest) ++ l)
      (quiet_reported entries instr config.store after later (activity_observations entries ++ items)
      (controlled_quiet program config frame below control) (with_activities entries later items h)
      (waiting_at waiting m entry))
      ∙ sym (reported_both (nest_observations config.store frame.values frame.at.rest)
      (activity_observations entries ++ items))
  executed_reported program config frame below (Traps kind operands found) own later items h waiting =
      let instr = next_of_nest frame.at.rest in
      let entry = Trap frame.func frame.at.number kind operands found in
      let m : Moment = record { entry = entry; instr = instr; before = config.store; after = config.store } in
      seen_both (reported_at globals waiting m entry) (reported_calls globals (waiting_at waiting m entry) later)
      ∙ ap (λ l. l ++ seen (reported_calls globals (waiting_at waiting m entry) later)) own
      ∙ ap (λ l. reported (nest_observations config.store frame.values frame.at.rest) ++ l)
      (h (waiting_at waiting m entry))
      ∙ sym (reported_both (nest_observations config.store frame.values frame.at.rest) items)
  executed_reported program config frame below NoRule own later items h waiting = absurd own

-- ---- runs

module _ (laws : LawsOfSteps) (m : Module) (heights : Heights) (valid : IsValid m) (typed : IsTypedCode m heights)
    (core : IsCoreModule m) (answers : List (Option Answer)) (fits : FitAnswers m answers) (shape : HookedShape)
    (same_globals : shape.globals ≡ all_globals m) where
  abbrev program : Program
  program = record { code = code_of m; answers = answers }

  abbrev ReportedAs : List Moment → List Observation → Type 0
  ReportedAs later items = AreReportedAs shape (imported_funcs m) (all_globals m) same_globals later items

  -- the observations of a step's result and of the steps after it
  abbrev left_from : ℕ → StepResult → List Observation
  left_from k s = activity_observations s.entries ++ observations program k s.next

  over_reported : (at : Progress) → ReportedAs [] (end_observations at)
  over_reported (Running config) waiting = refl
  over_reported (Finished Ended) waiting = refl
  over_reported (Finished Trapped) waiting = refl
  over_reported (Finished HostTrapped) waiting = refl
  over_reported (Faulted kind) waiting = refl
  over_reported Stuck waiting = refl

  acted_reported : (k : ℕ) (config : Config) (instr : Option Instr) (after : Store) (stack : List Activation)
      (r : ActionResult)
      → ReportedAs (moments program k (after_action program config stack r).next)
      (observations program k (after_action program config stack r).next)
      → ReportedAs
      (moments_at instr config.store after (after_action program config stack r).entries
      ++ moments program k (after_action program config stack r).next)
      (left_from k (after_action program config stack r))
  acted_reported k config instr after stack r later =
      let s = after_action program config stack r in
      quiet_reported shape (imported_funcs m) (all_globals m) same_globals s.entries instr config.store after
      (moments program k s.next) (left_from k s) (acted_quiet program config stack r)
      (with_activities shape (imported_funcs m) (all_globals m) same_globals s.entries (moments program k s.next)
      (observations program k s.next) later)

  step_reported : (k : ℕ) (store : Store) (counts : List ℕ) (stack : List Activation)
      → IsConfig m heights (record { store = store; stack = stack; counts = counts }) → CoreStack stack
      → ReportedAs (moments program k (step program (record { store = store; stack = stack; counts = counts })).next)
      (observations program k (step program (record { store = store; stack = stack; counts = counts })).next)
      → ReportedAs (moments program (suc k) (Running (record { store = store; stack = stack; counts = counts })))
      (observations program (suc k) (Running (record { store = store; stack = stack; counts = counts })))
  step_reported k store counts [] fine c later = later
  step_reported k store counts (InModule frame ∷ below) fine c later =
      let config : Config = record { store = store; stack = InModule frame ∷ below; counts = counts } in
      let a = fine.stack in
      let rule = laws.rules m heights store frame a.0 a.1 valid typed fine.store a.2 fine.at_step in
      let s = step program config in
      executed_reported shape (imported_funcs m) (all_globals m) same_globals program config frame below
      (execute (code_of m) store frame)
      (nest_reported shape (imported_funcs m) (all_globals m) same_globals (code_of m) store frame c.0.rest
      (λ x value is. global_at (func_count m) (all_globals m) store.globals x value fine.store.globals is)
      (λ memory is. few_pages (all_memories m) store.memory memory fine.store.memory is)
      (has_rule shape (imported_funcs m) (all_globals m) same_globals (scope m heights frame.func a.0 a.1)
      (execute (code_of m) store frame) rule))
      (moments program k s.next) (observations program k s.next) later
  step_reported k store counts (InMain [] ∷ below) fine c later = later
  step_reported k store counts (InMain (action ∷ actions) ∷ below) fine c later =
      let config : Config =
      record { store = store; stack = InMain (action ∷ actions) ∷ below; counts = counts } in
      acted_reported k config None (store_after program store config.stack) (InMain actions ∷ below)
      (perform (code_of m) store [] action) later
  step_reported k store counts (InImport import args [] «end» ∷ below) fine c later = later
  step_reported k store counts (InImport import args (action ∷ actions) «end» ∷ below) fine c later =
      let config : Config =
      record { store = store; stack = InImport import args (action ∷ actions) «end» ∷ below; counts = counts } in
      acted_reported k config None (store_after program store config.stack) (InImport import args actions «end» ∷ below)
      (perform (code_of m) store args action) later

  pub run_reported : (k : ℕ) (at : Progress) → IsSafe m heights at → CoreProgress at
      → ReportedAs (moments program k at) (observations program k at)
  run_reported zero at safe c = over_reported at
  run_reported (suc k) (Running config) safe c =
      step_reported k config.store config.counts config.stack safe c
      (run_reported k (step program config).next
      (laws.steps m heights program config valid typed (record { code = refl; answers = fits }) safe)
      (core_step m core program refl config c))
  run_reported (suc k) (Finished outcome) safe c = over_reported (Finished outcome)
  run_reported (suc k) (Faulted kind) safe c = over_reported (Faulted kind)
  run_reported (suc k) Stuck safe c = over_reported Stuck

  -- the hook calls of a run from its start
  pub start_reported : (k : ℕ) (func : Option ℕ) (store : Store) (counts : List ℕ) (main : List Action)
      → IsSafe m heights (start program func store counts main).next
      → seen_by shape (imported_funcs m) (all_globals m)
      (reported_calls (all_globals m) [] (run_moments program store (start program func store counts main) k))
      ≡ as_reported shape (imported_funcs m) (all_globals m)
      (run_observations program (start program func store counts main) k)
  start_reported k func store counts main safe =
      let s = start program func store counts main in
      quiet_reported shape (imported_funcs m) (all_globals m) same_globals s.entries None store store
      (moments program k s.next) (left_from k s) (started_quiet program func store counts main)
      (with_activities shape (imported_funcs m) (all_globals m) same_globals s.entries (moments program k s.next)
      (observations program k s.next)
      (run_reported k s.next safe (core_start m core program refl func store counts main))) []

-- the law: hook calls observe runs
pub calls_observe : LawsOfSteps → LawsOfRuns → InstrumentedKeepIndices → HookCallsObserveRuns
calls_observe laws safety indices run count =
    let m = run.m in
    let r = safe_run safety m run.script run.supply run.store run.runnable run.fits run.supplied run.opens in
    start_reported laws m r.heights run.runnable.valid r.typed run.core run.script.imports run.fits.imports
    (hooked_shape run) (indices m run.digest).globals count m.start run.store (replicate (imported_funcs m) 0)
    run.script.main r.safe
