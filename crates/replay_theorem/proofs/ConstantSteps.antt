-- What a run of a module under a script that fits it observes is constant, step by step.
use Rattle.std.proofs.Common.{◌≡◌, ℕ, List, [], ◌∷◌, Option, Some, None, Bool, true, false, nat_lt, slice_get, slice_index, refl, sym, subst, arith}
use Rattle.std.specs.Prelude.{IsTrue}
use Rattle.std.specs.Option.{option_to_list}
use Rattle.std.proofs.lemmas.List.Elements.{recursion_from_All}
use Rattle.base.proofs.Lists.{joined_all}
use Rattle.wasm_syntax.specs.declared.values.Val.{Val}
use Rattle.wasm_syntax.specs.declared.values.ValType.{ValType}
use Rattle.wasm_syntax.specs.declared.signatures.FuncType.{FuncType}
use Rattle.wasm_syntax.specs.declared.modules.Module.{Module}
use Rattle.wasm_syntax.specs.Alike.{same_types}
use Rattle.wasm_syntax.specs.Typing.{is_constant}
use Rattle.wasm_syntax.specs.Validity.{IsValid}
use Rattle.host_script.specs.declared.scripts.Action.{Action}
use Rattle.host_script.specs.declared.scripts.Action.TheVariants.{Write, Copy, SetTable, SetGlobal, Grow, GrowTable, Call, CallTable}
use Rattle.host_script.specs.declared.scripts.Answer.{Answer}
use Rattle.host_script.specs.declared.scripts.Response.{Response}
use Rattle.host_script.specs.declared.scripts.ResponseEnd.{ResponseEnd}
use Rattle.host_script.specs.declared.scripts.ResponseEnd.TheVariants.{Return, Trap}
use Rattle.host_script.specs.Fits.{FitAnswers, FitsAction, FitsEnd, AreConstants as AreScriptConstants}
use Rattle.base.specs.declared.outcomes.Outcome.TheVariants.{Ended}
use Rattle.history_spec.specs.declared.entries.FaultKind.{FaultKind}
use Rattle.history_spec.specs.declared.entries.FaultKind.TheVariants.{Outside, TableOutside, GrowRefused}
use Rattle.history_spec.specs.Store.{Store, bytes_at, grown_memory, grown_table, with_bytes_at, with_entry, with_global, with_memory, with_table}
use Rattle.history_spec.specs.Code.{Code, Definition, code_of, signature, definition, types_of}
use Rattle.history_spec.specs.Configuration.{Frame, Activation, InModule, InMain, InImport, Config, with_results}
use Rattle.history_spec.specs.Instruction.{Control, Goes, Calls, Returns, Execution, Did, Traps, NoRule, execute}
use Rattle.history_spec.specs.Action.{ActionResult, Changes, Enters, Fails, Unfit, address_of, calls_defined, calls_entry, if_fits, on, or_fault, perform, with_new_bytes}
use Rattle.history_spec.specs.Settle.{AtEnd, Within, Gives, TooFew, at_end, deliver, return_entry, return_from}
use Rattle.history_spec.specs.Step.{Program, Progress, Finished, StepResult, after_action, after_control, after_instruction, answer_call, call_function, enter_defined, enter_function, frame_of, response_to, start, start_with_call, step}
use Rattle.history_spec.specs.declared.entries.Entry.{Entry}
use Rattle.record_replay_spec.specs.Observations.{activity_observations, end_observations, observations, run_observations, stack_observations}
use Rattle.type_safety.specs.Configurations.{Accept, IsConfig, IsSafe, IsTypedCode, scope}
use Rattle.type_safety.specs.Heights.{Heights}
use Rattle.type_safety.specs.Laws.{InstructionsHaveRules, StepsAreSafe}
use Rattle.type_safety.specs.Results.{HasRule, IsControl}
use Rattle.type_safety.specs.Stores.{IsStore}
use Rattle.type_safety.proofs.Responses.{response_fits}
use Rattle.replay_module_laws.specs.Written.{AreConstants}
use Rattle.replay_theorem.proofs.ReadBytes.{each_observed}
use Rattle.replay_theorem.proofs.ConstantRuns.{AreConstantSeen, IsConstantSeen, observed_constant}

-- ---- open calls of imports

-- the end of a response returns a constant
abbrev IsConstantEnd : ResponseEnd → Type 0
IsConstantEnd (Return value) = AreConstants (option_to_list value)
IsConstantEnd Trap = Unit {0}

abbrev EndConstant : List Activation → Type 0
EndConstant [] = Unit {0}
EndConstant (InModule frame ∷ below) = EndConstant below
EndConstant (InMain actions ∷ below) = EndConstant below
EndConstant (InImport import args actions end ∷ below) = IsConstantEnd end × EndConstant below

constants_of : (values : List Val) → AreScriptConstants values → AreConstants values
constants_of values all = recursion_from_All (λ (value : Val). IsTrue (is_constant value)) values all

end_constant : (results : List ValType) (end : ResponseEnd) → FitsEnd results end → IsConstantEnd end
end_constant results (Return value) fits = constants_of (option_to_list value) fits.in_range
end_constant results Trap fits = tt

ends_constant : (m : Module) (heights : Heights) (stack : List Activation) (types : List ValType)
    → Accept m heights stack types → EndConstant stack
ends_constant m heights [] types a = absurd a
ends_constant m heights (InModule frame ∷ below) types a = ends_constant m heights below a.0.results a.3
ends_constant m heights (InMain actions ∷ below) types a = subst EndConstant (sym a.1) tt
ends_constant m heights (InImport import args actions end ∷ below) types a =
    (end_constant a.0.results end a.4, ends_constant m heights below a.0.results a.5)

-- ---- results are delivered to the topmost activation

returned : (value : Option Val) → AreConstants (option_to_list value)
    → AreConstants (option_to_list (slice_get (option_to_list value) 0))
returned None constant = tt
returned (Some value) constant = constant

return_constant : (func : ℕ) (results : List Val) (below : List Activation) (later : List Entry)
    → AreConstantSeen (activity_observations later)
    → AreConstantSeen (activity_observations (return_entry func results below ∷ later))
return_constant func results [] later all = (tt, all)
return_constant func results (InModule frame ∷ below) later all = all
return_constant func results (InMain actions ∷ below) later all = (tt, all)
return_constant func results (InImport import args actions end ∷ below) later all = (tt, all)

deliver_constant : (stack : List Activation) → EndConstant stack → (results : List Val)
    → AreConstantSeen (activity_observations (deliver stack results).entries)
deliver_constant [] ends results = tt
deliver_constant (InModule frame ∷ below) ends results =
    go (at_end (with_results frame results)) (λ given. deliver_constant below ends given)
  where
    go : (e : AtEnd) → ((given : List Val) → AreConstantSeen (activity_observations (deliver below given).entries))
        → AreConstantSeen (activity_observations (return_from e (with_results frame results) below (deliver below)).entries)
    go Within later = tt
    go (Gives given) later =
        return_constant (with_results frame results).func given below (deliver below given).entries (later given)
    go TooFew later = tt
deliver_constant (InMain [] ∷ below) ends results = tt
deliver_constant (InMain (action ∷ actions) ∷ below) ends results = tt
deliver_constant (InImport import args [] (Return value) ∷ below) ends results =
    (returned value ends.0, deliver_constant below ends.1 (option_to_list value))
deliver_constant (InImport import args [] Trap ∷ below) ends results = (tt, tt)
deliver_constant (InImport import args (action ∷ actions) end ∷ below) ends results = tt

-- ---- calls

enter_constant : (code : Code) (store : Store) (counts : List ℕ) (func : ℕ) (args : List Val) (stack : List Activation)
    → EndConstant stack
    → AreConstantSeen (activity_observations (enter_function code store counts func args stack).entries)
enter_constant code store counts func args stack ends = go (signature code func) (definition code func)
  where
    go : (ty : Option FuncType) (d : Option Definition)
        → AreConstantSeen (activity_observations (enter_defined ty d store counts func args stack).entries)
    go None d = tt
    go (Some ty) None = tt
    go (Some ty) (Some d) = deliver_constant (InModule (frame_of func ty d args) ∷ stack) ends []

-- ---- actions

-- an action passes constants to the function that it enters
abbrev PassesConstants : ActionResult → Type 0
PassesConstants (Enters func args) = AreConstants args
PassesConstants other = Unit {0}

on_passes : {X : Type 0} (o : Option X) (go : X → ActionResult) → ((x : X) → PassesConstants (go x))
    → PassesConstants (on o go)
on_passes None go each = tt
on_passes (Some x) go each = each x

fault_passes : {X : Type 0} (kind : FaultKind) (o : Option X) (go : X → ActionResult)
    → ((x : X) → PassesConstants (go x)) → PassesConstants (or_fault kind o go)
fault_passes kind None go each = tt
fault_passes kind (Some x) go each = each x

fit_passes : (b : Bool) (func : ℕ) (args : List Val) → AreConstants args
    → PassesConstants (if_fits b (Enters func args))
fit_passes true func args constant = constant
fit_passes false func args constant = tt

defined_passes : (code : Code) (func : ℕ) (args : List Val) (own : Bool) → AreConstants args
    → PassesConstants (calls_defined code func args own)
defined_passes code func args true constant = tt
defined_passes code func args false constant =
    on_passes (signature code func) (λ ty. if_fits (same_types ty.params (types_of args)) (Enters func args))
    (λ ty. fit_passes (same_types ty.params (types_of args)) func args constant)

entry_passes : (code : Code) (args : List Val) (entry : Option ℕ) → AreConstants args
    → PassesConstants (calls_entry code args entry)
entry_passes code args None constant = tt
entry_passes code args (Some func) constant =
    defined_passes code func args (nat_lt func code.imported) constant

perform_passes : (m : Module) (code : Code) (store : Store) (params : List ValType) (args : List Val) (action : Action)
    → FitsAction m params action → PassesConstants (perform code store args action)
perform_passes m code store params args (Write to bytes) fits =
    on_passes store.memory
    (λ memory.
    on (address_of args to) (λ address.
    or_fault Outside (with_bytes_at memory.bytes address bytes) (with_new_bytes store memory)))
    (λ memory.
    on_passes (address_of args to)
    (λ address. or_fault Outside (with_bytes_at memory.bytes address bytes) (with_new_bytes store memory))
    (λ address.
    fault_passes Outside (with_bytes_at memory.bytes address bytes) (with_new_bytes store memory) (λ all. tt)))
perform_passes m code store params args (Copy to source count) fits =
    on_passes store.memory
    (λ memory.
    on (address_of args to) (λ address.
    on (address_of args source) (λ from.
    or_fault Outside (bytes_at memory.bytes from count) (λ bytes.
    or_fault Outside (with_bytes_at memory.bytes address bytes) (with_new_bytes store memory)))))
    (λ memory.
    on_passes (address_of args to)
    (λ address.
    on (address_of args source) (λ from.
    or_fault Outside (bytes_at memory.bytes from count) (λ bytes.
    or_fault Outside (with_bytes_at memory.bytes address bytes) (with_new_bytes store memory))))
    (λ address.
    on_passes (address_of args source)
    (λ from.
    or_fault Outside (bytes_at memory.bytes from count) (λ bytes.
    or_fault Outside (with_bytes_at memory.bytes address bytes) (with_new_bytes store memory)))
    (λ from.
    fault_passes Outside (bytes_at memory.bytes from count)
    (λ bytes. or_fault Outside (with_bytes_at memory.bytes address bytes) (with_new_bytes store memory))
    (λ bytes.
    fault_passes Outside (with_bytes_at memory.bytes address bytes) (with_new_bytes store memory) (λ all. tt)))))
perform_passes m code store params args (SetTable index func) fits =
    on_passes store.table
    (λ table.
    or_fault TableOutside (with_entry table.entries index func) (λ entries.
    Changes (with_table store (record table { entries = entries }))))
    (λ table.
    fault_passes TableOutside (with_entry table.entries index func)
    (λ entries. Changes (with_table store (record table { entries = entries }))) (λ entries. tt))
perform_passes m code store params args (SetGlobal global value) fits =
    on_passes (slice_get store.globals global) (λ old. Changes (with_global store global value)) (λ old. tt)
perform_passes m code store params args (Grow by) fits =
    on_passes store.memory
    (λ memory. or_fault GrowRefused (grown_memory memory by) (λ larger. Changes (with_memory store larger)))
    (λ memory.
    fault_passes GrowRefused (grown_memory memory by) (λ larger. Changes (with_memory store larger)) (λ larger. tt))
perform_passes m code store params args (GrowTable by) fits =
    on_passes store.table
    (λ table. or_fault GrowRefused (grown_table table by None) (λ larger. Changes (with_table store larger)))
    (λ table.
    fault_passes GrowRefused (grown_table table by None) (λ larger. Changes (with_table store larger)) (λ larger. tt))
perform_passes m code store params args (Call func given) fits = constants_of given fits.fit.in_range
perform_passes m code store params args (CallTable index given) fits =
    on_passes store.table
    (λ table. or_fault TableOutside (slice_get table.entries index) (calls_entry code given))
    (λ table.
    fault_passes TableOutside (slice_get table.entries index) (calls_entry code given)
    (λ entry. entry_passes code given entry (constants_of given fits.1)))

-- ---- steps

module _ (laws : InstructionsHaveRules) (steps : StepsAreSafe) (m : Module) (heights : Heights) (valid : IsValid m)
    (typed : IsTypedCode m heights) (answers : List (Option Answer)) (fits : FitAnswers m answers) where
  abbrev program : Program
  program = record { code = code_of m; answers = answers }

  abbrev code : Code
  code = code_of m

  abbrev Are : StepResult → Type 0
  Are s = AreConstantSeen (activity_observations s.entries)

  call_constant : (b : Bool) (store : Store) (counts : List ℕ) (func : ℕ) (args : List Val) (ty : FuncType)
      (stack : List Activation) → signature code func ≡ Some ty → EndConstant stack
      → Are (call_function program b store counts func args stack)
  call_constant false store counts func args ty stack is ends =
      enter_constant code store counts func args stack ends
  call_constant true store counts func args ty stack is ends =
      go (response_to answers func (slice_index counts func)) refl
    where
      go : (o : Option Response) → response_to answers func (slice_index counts func) ≡ o
          → Are (answer_call o store counts func args stack)
      go None there = tt
      go (Some response) there = (
        tt,
        deliver_constant (InImport func args response.actions response.end ∷ stack) (
          end_constant ty.results response.end
              (response_fits m answers func (slice_index counts func) ty response fits is there).end,
          ends,
        ) [],
      )

  control_constant : (config : Config) (frame : Frame) (below : List Activation) (ty : FuncType) (body : Definition)
      (control : Control) → EndConstant below → IsControl (scope m heights frame.func ty body) control
      → Are (after_control program config frame below control)
  control_constant config frame below ty body (Goes store next) ends fine =
      deliver_constant (InModule next ∷ below) ends []
  control_constant config frame below ty body (Calls waiting func args) ends fine =
      call_constant (nat_lt func code.imported) config.store config.counts func args fine.0 (InModule waiting ∷ below)
      fine.1 ends
  control_constant config frame below ty body (Returns results) ends fine =
      return_constant frame.func results below (deliver below results).entries (deliver_constant below ends results)

  instruction_constant : (config : Config) (frame : Frame) (below : List Activation) (ty : FuncType) (body : Definition)
      (e : Execution) → EndConstant below → HasRule (scope m heights frame.func ty body) e
      → Are (after_instruction program config frame below e)
  instruction_constant config frame below ty body (Did operands results found control) ends rule =
      control_constant config frame below ty body control ends rule
  instruction_constant config frame below ty body (Traps kind operands found) ends rule = tt
  instruction_constant config frame below ty body NoRule ends rule = tt

  action_constant : (config : Config) (stack : List Activation) (r : ActionResult) → EndConstant stack
      → PassesConstants r → Are (after_action program config stack r)
  action_constant config stack (Changes store) ends passes = deliver_constant stack ends []
  action_constant config stack (Enters func args) ends passes =
      (passes, enter_constant code config.store config.counts func args stack ends)
  action_constant config stack (Fails kind) ends passes = tt
  action_constant config stack Unfit ends passes = tt

  step_constant : (store : Store) (stack : List Activation) (counts : List ℕ)
      → IsConfig m heights (record { store = store; stack = stack; counts = counts })
      → Are (step program (record { store = store; stack = stack; counts = counts }))
  step_constant store [] counts fine = tt
  step_constant store (InModule frame ∷ below) counts fine =
      let a = fine.stack in
      instruction_constant (record { store = store; stack = InModule frame ∷ below; counts = counts }) frame below a.0
      a.1 (execute code store frame) (ends_constant m heights below a.0.results a.3)
      (laws m heights store frame a.0 a.1 valid typed fine.store a.2 fine.at_step)
  step_constant store (InMain [] ∷ below) counts fine = tt
  step_constant store (InMain (action ∷ actions) ∷ below) counts fine =
      let a = fine.stack in
      action_constant (record { store = store; stack = InMain (action ∷ actions) ∷ below; counts = counts })
      (InMain actions ∷ below) (perform code store [] action)
      (ends_constant m heights (InMain (action ∷ actions) ∷ below) [] a)
      (perform_passes m code store [] [] action (a.0 0 action (omega arith)))
  step_constant store (InImport import args [] end ∷ below) counts fine = tt
  step_constant store (InImport import args (action ∷ actions) end ∷ below) counts fine =
      let a = fine.stack in
      action_constant (record { store = store; stack = InImport import args (action ∷ actions) end ∷ below; counts = counts })
      (InImport import args actions end ∷ below) (perform code store args action)
      (ends_constant m heights (InImport import args (action ∷ actions) end ∷ below) [] a)
      (perform_passes m code store a.0.params args action (a.3 0 action (omega arith)))

  stack_constant : (store : Store) (stack : List Activation) → IsStore m store
      → AreConstantSeen (stack_observations store stack)
  stack_constant store (InModule frame ∷ below) is = observed_constant m store valid is frame.values frame.at.rest
  stack_constant store stack is = tt

  progress_constant : (at : Progress) → AreConstantSeen (end_observations at)
  progress_constant (Finished Ended) = (tt, tt)
  progress_constant at = tt

  from_constant : (k : ℕ) (at : Progress) → IsSafe m heights at → AreConstantSeen (observations program k at)
  from_constant =
      each_observed IsConstantSeen m heights program
      (λ config safe. (
        stack_constant config.store config.stack safe.store,
        step_constant config.store config.stack config.counts safe,
        steps m heights program config valid typed (record { code = refl; answers = fits }) safe,
      ))
      progress_constant

  -- ---- the start

  with_call_constant : (b : Bool) (store : Store) (counts : List ℕ) (func : ℕ) (main : List Action)
      → Are (start_with_call program b store counts func (InMain main ∷ []))
  with_call_constant true store counts func main = deliver_constant (InMain main ∷ []) tt []
  with_call_constant false store counts func main =
      (tt, enter_constant code store counts func [] (InMain main ∷ []) tt)

  start_constant : (first : Option ℕ) (store : Store) (counts : List ℕ) (main : List Action)
      → Are (start program first store counts main)
  start_constant None store counts main = deliver_constant (InMain main ∷ []) tt []
  start_constant (Some func) store counts main =
      with_call_constant (nat_lt func code.imported) store counts func main

  pub run_constant : (first : Option ℕ) (store : Store) (counts : List ℕ) (main : List Action) (k : ℕ)
      → IsSafe m heights (start program first store counts main).next
      → AreConstantSeen (run_observations program (start program first store counts main) k)
  run_constant first store counts main k safe = (
    tt,
    joined_all IsConstantSeen (activity_observations (start program first store counts main).entries)
        (observations program k (start program first store counts main).next)
        (start_constant first store counts main)
        (from_constant k (start program first store counts main).next safe),
  )
