-- The hook calls of a run of a valid module have values of some types, and a view that is a store of the module.
use Rattle.std.proofs.Common.{◌≡◌, ℕ, zero, suc, ◌-◌, List, [], ◌∷◌, Option, Some, None, Bool, true, false, nat_lt, cond, slice_get, slice_index, sym, ◌∙◌, subst}
use Rattle.std.specs.List.{AllByRecursion}
use Rattle.base.proofs.Lists.{joined_all}
use Rattle.wasm_syntax.specs.declared.values.Val.{Val}
use Rattle.wasm_syntax.specs.declared.values.ValType.{ValType}
use Rattle.wasm_syntax.specs.declared.signatures.FuncType.{FuncType}
use Rattle.wasm_syntax.specs.declared.modules.Module.{Module}
use Rattle.wasm_syntax.specs.Validity.{IsValid}
use Rattle.host_script.specs.declared.scripts.Response.{Response}
use Rattle.history_spec.specs.Action.{Enters, perform}
use Rattle.history_spec.specs.Store.{Store}
use Rattle.history_spec.specs.Code.{Definition}
use Rattle.history_spec.specs.Configuration.{Frame, Activation, InModule, InMain, InImport, Config}
use Rattle.history_spec.specs.Instruction.{Goes, Calls, Returns, Execution, Did, Traps, NoRule, execute}
use Rattle.history_spec.specs.Settle.{deliver}
use Rattle.history_spec.specs.Step.{Program, Progress, Running, Finished, Faulted, Stuck, response_to, answer_call, call_function, after_instruction, step_of, step}
use Rattle.type_safety.specs.Values.{AreValues}
use Rattle.type_safety.specs.Stores.{IsStore, func_count}
use Rattle.type_safety.specs.Configurations.{Accept, IsAtStep, IsProgram, IsSafe, IsTypedCode, scope}
use Rattle.type_safety.specs.Heights.{Heights}
use Rattle.type_safety.specs.Laws.{InstructionsHaveRules, StepsAreSafe}
use Rattle.type_safety.specs.Results.{HasRule}
use Rattle.record_replay_spec.specs.declared.hooks.Hook.{Hook}
use Rattle.record_replay_spec.specs.Hooks.{HookCall, hooks, on}
use Rattle.record_replay_spec.specs.HookedRuns.{call_of_hook, calls_among, hook_calls}
use Rattle.instrumented_run_laws.proofs.Leads.{returns_report_none, settles_unreported}
use Rattle.instrumented_run_laws.proofs.QuietSteps.{acted_unreported}

-- a hook call has values of some types, and its view is a store of the module
pub record IsTypedCall (m : Module) (call : HookCall) : Type 0 where
  pub types : List ValType
  pub values : AreValues (func_count m) types call.args
  pub view : IsStore m call.view

abbrev pub AreTypedCalls : Module → List HookCall → Type 0
AreTypedCalls m calls = AllByRecursion (IsTypedCall m) calls

none_typed : (m : Module) (calls : List HookCall) → calls ≡ [] → AreTypedCalls m calls
none_typed m calls e = subst (AreTypedCalls m) (sym e) tt

module _ (rules : InstructionsHaveRules) (m : Module) (heights : Heights) (valid : IsValid m)
    (typed : IsTypedCode m heights) (program : Program) (is : IsProgram m program) (n : ℕ) where
  hook_typed : (import : ℕ) (types : List ValType) (args : List Val) (view : Store)
      → AreValues (func_count m) types args → IsStore m view → AreTypedCalls m (call_of_hook n import args view)
  hook_typed import types args view values store = by (nat_lt import n) (slice_get hooks (import - n))
    where
      by : (b : Bool) (o : Option Hook)
          → AreTypedCalls m (cond b [] (on o (λ kind. record { kind = kind; args = args; view = view } ∷ [])))
      by true o = tt
      by false None = tt
      by false (Some kind) = (record { types = types; values = values; view = store }, tt)

  answer_typed : (o : Option Response) (store : Store) (counts : List ℕ) (func : ℕ) (types : List ValType)
      (args : List Val) (stack : List Activation) → AreValues (func_count m) types args → IsStore m store
      → AreTypedCalls m (calls_among n store (answer_call o store counts func args stack).entries)
  answer_typed None store counts func types args stack values is_store = tt
  answer_typed (Some response) store counts func types args stack values is_store =
      joined_all (IsTypedCall m) (call_of_hook n func args store) _ (hook_typed func types args store values is_store)
      (none_typed m _ (settles_unreported n store (InImport func args response.actions response.«end» ∷ stack) []))

  call_typed : (b : Bool) (store : Store) (counts : List ℕ) (func : ℕ) (types : List ValType) (args : List Val)
      (stack : List Activation) → AreValues (func_count m) types args → IsStore m store
      → AreTypedCalls m (calls_among n store (call_function program b store counts func args stack).entries)
  call_typed true store counts func types args stack values is_store =
      answer_typed (response_to program.answers func (slice_index counts func)) store counts func types args stack
      values is_store
  call_typed false store counts func types args stack values is_store =
      none_typed m _
      (acted_unreported n store program (record { store = store; stack = stack; counts = counts }) stack (Enters func args))

  control_typed : (config : Config) (frame : Frame) (ty : FuncType) (body : Definition) (below : List Activation)
      (executed : Execution) → IsStore m config.store → HasRule (scope m heights frame.func ty body) executed
      → AreTypedCalls m (calls_among n config.store (after_instruction program config frame below executed).entries)
  control_typed config frame ty body below (Did operands results found (Goes store next)) is_store rule =
      none_typed m _ (settles_unreported n config.store (InModule next ∷ below) [])
  control_typed config frame ty body below (Did operands results found (Calls waiting func args)) is_store rule =
      call_typed (nat_lt func program.code.imported) config.store config.counts func rule.0.params args
      (InModule waiting ∷ below) rule.3 is_store
  control_typed config frame ty body below (Did operands results found (Returns values)) is_store rule =
      none_typed m _
      (returns_report_none n frame.func config.store values below (deliver below values).entries
      ∙ settles_unreported n config.store below values)
  control_typed config frame ty body below (Traps kind operands found) is_store rule = tt
  control_typed config frame ty body below NoRule is_store rule = tt

  rule_of : (config : Config) (frame : Frame) (below : List Activation) → IsStore m config.store
      → (a : Accept m heights (InModule frame ∷ below) []) → IsAtStep (InModule frame ∷ below)
      → HasRule (scope m heights frame.func a.0 a.1) (execute program.code config.store frame)
  rule_of config frame below is_store a going =
      subst (λ code. HasRule (scope m heights frame.func a.0 a.1) (execute code config.store frame)) (sym is.code)
      (rules m heights config.store frame a.0 a.1 valid typed is_store a.2 going)

  stack_typed : (config : Config) (stack : List Activation) → IsStore m config.store → Accept m heights stack []
      → IsAtStep stack → AreTypedCalls m (calls_among n config.store (step_of program config stack).entries)
  stack_typed config [] is_store a going = tt
  stack_typed config (InModule frame ∷ below) is_store a going =
      control_typed config frame a.0 a.1 below (execute program.code config.store frame) is_store
      (rule_of config frame below is_store a going)
  stack_typed config (InMain [] ∷ below) is_store a going = tt
  stack_typed config (InMain (action ∷ actions) ∷ below) is_store a going =
      none_typed m _
      (acted_unreported n config.store program config (InMain actions ∷ below)
      (perform program.code config.store [] action))
  stack_typed config (InImport import args [] «end» ∷ below) is_store a going = tt
  stack_typed config (InImport import args (action ∷ actions) «end» ∷ below) is_store a going =
      none_typed m _
      (acted_unreported n config.store program config (InImport import args actions «end» ∷ below)
      (perform program.code config.store args action))

  -- the hook calls of a number of steps
  pub calls_typed : StepsAreSafe → (k : ℕ) (at : Progress) → IsSafe m heights at
      → AreTypedCalls m (hook_calls n program k at)
  calls_typed steps zero at safe = tt
  calls_typed steps (suc k) (Running config) safe =
      joined_all (IsTypedCall m) (calls_among n config.store (step program config).entries) _
      (stack_typed config config.stack safe.store safe.stack safe.at_step)
      (calls_typed steps k (step program config).next (steps m heights program config valid typed is safe))
  calls_typed steps (suc k) (Finished outcome) safe = tt
  calls_typed steps (suc k) (Faulted kind) safe = tt
  calls_typed steps (suc k) Stuck safe = tt
