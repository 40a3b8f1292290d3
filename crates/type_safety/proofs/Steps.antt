-- A step of a well-typed configuration leads to a well-typed one, or ends the run.
use Rattle.std.proofs.Common.{◌≡◌, ℕ, ◌+◌, ◌<◌, ◌≤◌, List, [], ◌∷◌, length, Option, Some, None, Bool, true, false, refl, sym, ◌∙◌, subst, arith}
use Rattle.std.specs.Prelude.{nat_lt, map, reverse, slice_set, slice_index}
use Rattle.std.proofs.lemmas.Bool.{ltb-true, ltb-false}
use Rattle.std.proofs.lemmas.List.{length-set}
use Rattle.std.proofs.lemmas.List.Elements.{All-head, All-tail}
use Rattle.wasm_syntax.specs.declared.values.ValType.{ValType}
use Rattle.wasm_syntax.specs.declared.values.Val.{Val}
use Rattle.wasm_syntax.specs.declared.signatures.FuncType.{FuncType}
use Rattle.wasm_syntax.specs.declared.modules.Module.{Module}
use Rattle.wasm_syntax.specs.Index.{imported_funcs, all_tables}
use Rattle.host_script.specs.declared.scripts.Action.{Action}
use Rattle.host_script.specs.declared.scripts.Answer.{Answer}
use Rattle.host_script.specs.declared.scripts.Response.{Response}
use Rattle.host_script.specs.Fits.{FitsAction, FitActions, FitAnswers}
use Rattle.history_spec.specs.Store.{Store}
use Rattle.history_spec.specs.Code.{Definition, code_of, signature, definition, zero_of}
use Rattle.history_spec.specs.Configuration.{Frame, Activation, InModule, InMain, InImport, Config}
use Rattle.history_spec.specs.Instruction.{Control, Goes, Calls, Returns, Execution, Did, Traps, NoRule, execute}
use Rattle.history_spec.specs.Action.{ActionResult, Changes, Enters, Fails, Unfit, perform}
use Rattle.history_spec.specs.Settle.{SettleEnd, Continues, Finishes, NoRule as NoneHolds, deliver, settle}
use Rattle.history_spec.specs.Step.{Program, progress_of, after_settling, frame_of, enter_defined, enter_function, response_to, answer_call, call_function, after_control, after_instruction, after_action, step_of, step, start_with_call}
use Rattle.wasm_numeric.specs.Laws.{ResultsFit}
use Rattle.type_safety.specs.Values.{AreValues}
use Rattle.type_safety.specs.Stores.{func_count, IsStore}
use Rattle.type_safety.specs.Frames.{IsFrame}
use Rattle.type_safety.specs.Heights.{Heights}
use Rattle.type_safety.specs.Configurations.{scope, IsTypedCode, Accept, IsAtStep, IsConfig, IsSafe}
use Rattle.type_safety.proofs.Values.{append_values, zero_values}
use Rattle.type_safety.proofs.SettleEnds.{IsSettleEnd, deliver_safe, settle_safe}
use Rattle.type_safety.specs.Results.{HasRule, IsControl}
use Rattle.type_safety.proofs.Execution.{execute_fine}
use Rattle.type_safety.proofs.Responses.{response_fits}
use Rattle.type_safety.specs.Results.{IsActionResult}
use Rattle.type_safety.proofs.Actions.{act_fine}

module _ (m : Module) (heights : Heights) (typed : IsTypedCode m heights) where
  -- ---- where settling ends, and entering a function

  pub progress_safe : (store : Store) (counts : List ℕ) (stand : SettleEnd) → IsStore m store
      → length counts ≡ imported_funcs m → IsSettleEnd m heights stand
      → IsSafe m heights (progress_of store counts stand)
  progress_safe store counts (Continues stack) is_store count p =
      record { store = is_store; stack = p.0; at_step = p.1; counts = count }
  progress_safe store counts (Finishes outcome) is_store count p = tt
  progress_safe store counts NoneHolds is_store count p = absurd p

  pub settling_safe : (store : Store) (counts : List ℕ) (stack : List Activation) → IsStore m store
      → length counts ≡ imported_funcs m → Accept m heights stack []
      → IsSafe m heights (after_settling store counts (settle stack)).next
  settling_safe store counts stack is_store count a =
      progress_safe store counts (settle stack).next is_store count (settle_safe m heights stack a)

  pub enter_safe : (store : Store) (counts : List ℕ) (func : ℕ) (ty : FuncType) (args : List Val)
      (stack : List Activation)
      → IsStore m store → length counts ≡ imported_funcs m → signature (code_of m) func ≡ Some ty
      → imported_funcs m ≤ func → AreValues (func_count m) ty.params args → Accept m heights stack ty.results
      → IsSafe m heights (enter_function (code_of m) store counts func args stack).next
  enter_safe store counts func ty args stack is_store count is own p a =
      let b = typed.bodies func ty own is in
      let frame = frame_of func ty b.0 args in
      let f : IsFrame (scope m heights func ty b.0) [] frame = record {
        labels = [];
        given = reverse ty.results;
        types = [];
        around = record {
          scope = record { has_type = is; defined = b.1 };
          func = refl;
          arity = refl;
          locals = append_values (func_count m) ty.params b.0.locals args (map zero_of b.0.locals) p
              (zero_values (func_count m) b.0.locals);
          blocks = refl;
        };
        values = tt;
        code = b.2;
      } in
      let safe : IsSafe m heights (enter_defined (Some ty) (Some b.0) store counts func args stack).next =
      settling_safe store counts (InModule frame ∷ stack) is_store count (ty, b.0, f, a) in
      subst (λ o. IsSafe m heights (enter_defined o (definition (code_of m) func) store counts func args stack).next)
      (sym is)
      (subst (λ o. IsSafe m heights (enter_defined (Some ty) o store counts func args stack).next) (sym b.1) safe)

module _ (laws : ResultsFit) (m : Module) (heights : Heights) (typed : IsTypedCode m heights)
    (one : length (all_tables m) ≤ 1) (answers : List (Option Answer)) (fit : FitAnswers m answers) where
  abbrev program : Program
  program = record { code = code_of m; answers = answers }

  -- ---- calls

  answer_safe : (store : Store) (counts : List ℕ) (func : ℕ) (ty : FuncType) (args : List Val)
      (stack : List Activation) (o : Option Response)
      → IsStore m store → length counts ≡ imported_funcs m → signature (code_of m) func ≡ Some ty
      → func < imported_funcs m → AreValues (func_count m) ty.params args → Accept m heights stack ty.results
      → response_to answers func (slice_index counts func) ≡ o
      → IsSafe m heights (answer_call o store counts func args stack).next
  answer_safe store counts func ty args stack None is_store count is own p a e = tt
  answer_safe store counts func ty args stack (Some response) is_store count is own p a e =
      let r = response_fits m answers func (slice_index counts func) ty response fit is e in
      settling_safe m heights typed store (slice_set counts func (slice_index counts func + 1))
      (InImport func args response.actions response.«end» ∷ stack) is_store
      (length-set counts func (slice_index counts func + 1) ∙ count)
      (ty, record { imported = own; has_type = is }, p, r.actions, r.«end», a)

  call_safe : (b : Bool) (store : Store) (counts : List ℕ) (func : ℕ) (ty : FuncType) (args : List Val)
      (stack : List Activation)
      → nat_lt func (imported_funcs m) ≡ b → IsStore m store → length counts ≡ imported_funcs m
      → signature (code_of m) func ≡ Some ty → AreValues (func_count m) ty.params args
      → Accept m heights stack ty.results
      → IsSafe m heights (call_function program b store counts func args stack).next
  call_safe true store counts func ty args stack own is_store count is p a =
      answer_safe store counts func ty args stack (response_to answers func (slice_index counts func)) is_store count
      is (ltb-true func (imported_funcs m) own) p a refl
  call_safe false store counts func ty args stack own is_store count is p a =
      enter_safe m heights typed store counts func ty args stack is_store count is
      (ltb-false func (imported_funcs m) own) p a

  -- ---- a step of the module

  -- an activation remains one of the same function
  same_frame : (func : ℕ) (ty : FuncType) (body : Definition) (awaited : List ValType) (next : Frame)
      → IsFrame (scope m heights func ty body) awaited next → IsFrame (scope m heights next.func ty body) awaited next
  same_frame func ty body awaited next f =
      subst (λ k. IsFrame (scope m heights k ty body) awaited next) (sym f.around.func) f

  effect_safe : (config : Config) (frame : Frame) (ty : FuncType) (body : Definition) (below : List Activation)
      (effect : Control)
      → IsStore m config.store → length config.counts ≡ imported_funcs m → Accept m heights below ty.results
      → IsControl (scope m heights frame.func ty body) effect
      → IsSafe m heights (after_control program config frame below effect).next
  effect_safe config frame ty body below (Goes store next) is_store count a fine =
      settling_safe m heights typed store config.counts (InModule next ∷ below) fine.0 count
      (ty, body, same_frame frame.func ty body [] next fine.1, a)
  effect_safe config frame ty body below (Calls waiting func args) is_store count a fine =
      call_safe (nat_lt func (imported_funcs m)) config.store config.counts func fine.0 args
      (InModule waiting ∷ below) refl is_store count fine.1 fine.3
      (ty, body, same_frame frame.func ty body fine.0.results waiting fine.2, a)
  effect_safe config frame ty body below (Returns results) is_store count a fine =
      progress_safe m heights typed config.store config.counts (deliver below results).next is_store count
      (deliver_safe m heights below ty.results results a fine)

  instruction_safe : (config : Config) (frame : Frame) (ty : FuncType) (body : Definition) (below : List Activation)
      (executed : Execution)
      → IsStore m config.store → length config.counts ≡ imported_funcs m → Accept m heights below ty.results
      → HasRule (scope m heights frame.func ty body) executed
      → IsSafe m heights (after_instruction program config frame below executed).next
  instruction_safe config frame ty body below (Did operands results found effect) is_store count a fine =
      effect_safe config frame ty body below effect is_store count a fine
  instruction_safe config frame ty body below (Traps kind operands found) is_store count a fine = tt
  instruction_safe config frame ty body below NoRule is_store count a fine = absurd fine

  -- ---- a step of the host

  action_safe : (config : Config) (stack : List Activation) (acted : ActionResult)
      → length config.counts ≡ imported_funcs m → ((types : List ValType) → Accept m heights stack types)
      → IsStore m config.store → IsActionResult m acted
      → IsSafe m heights (after_action program config stack acted).next
  action_safe config stack (Changes store) count a is_store fine =
      settling_safe m heights typed store config.counts stack fine count (a [])
  action_safe config stack (Enters func args) count a is_store fine =
      enter_safe m heights typed config.store config.counts func fine.0 args stack is_store count fine.1 fine.2 fine.3
      (a fine.0.results)
  action_safe config stack (Fails kind) count a is_store fine = tt
  action_safe config stack Unfit count a is_store fine = absurd fine

  step_of_safe : (config : Config) (stack : List Activation) → IsStore m config.store
      → length config.counts ≡ imported_funcs m → Accept m heights stack [] → IsAtStep stack
      → IsSafe m heights (step_of program config stack).next
  step_of_safe config [] is_store count a going = absurd a
  step_of_safe config (InModule frame ∷ below) is_store count a going =
      instruction_safe config frame a.0 a.1 below (execute (code_of m) config.store frame) is_store count a.3
      (execute_fine laws (scope m heights frame.func a.0 a.1) typed.has_type one config.store is_store frame a.2 going)
  step_of_safe config (InMain [] ∷ below) is_store count a going = absurd (omega arith)
  step_of_safe config (InMain (action ∷ actions) ∷ below) is_store count a going =
      action_safe config (InMain actions ∷ below) (perform (code_of m) config.store [] action) count
      (λ types. (All-tail (FitsAction m []) action actions a.0, a.1)) is_store
      (act_fine m typed.has_type config.store is_store [] [] tt action (All-head (FitsAction m []) action actions a.0))
  step_of_safe config (InImport import args [] «end» ∷ below) is_store count a going = absurd (omega arith)
  step_of_safe config (InImport import args (action ∷ actions) «end» ∷ below) is_store count a going =
      action_safe config (InImport import args actions «end» ∷ below) (perform (code_of m) config.store args action)
      count
      (λ types. (a.0, a.1, a.2, All-tail (FitsAction m a.0.params) action actions a.3, a.4, a.5)) is_store
      (act_fine m typed.has_type config.store is_store a.0.params args a.2 action
      (All-head (FitsAction m a.0.params) action actions a.3))

  pub step_is_safe : (config : Config) → IsConfig m heights config → IsSafe m heights (step program config).next
  step_is_safe config c = step_of_safe config config.stack c.store c.counts c.stack c.at_step

  -- ---- the start

  pub starts_safe : (b : Bool) (store : Store) (counts : List ℕ) (func : ℕ) (ty : FuncType) (main : List Action)
      → nat_lt func (imported_funcs m) ≡ b
      → IsStore m store → length counts ≡ imported_funcs m → FitActions m [] main
      → signature (code_of m) func ≡ Some ty → ty.params ≡ []
      → IsSafe m heights (start_with_call program b store counts func (InMain main ∷ [])).next
  starts_safe true store counts func ty main own is_store count fits is none =
      settling_safe m heights typed store counts (InMain main ∷ []) is_store count (fits, refl)
  starts_safe false store counts func ty main own is_store count fits is none =
      enter_safe m heights typed store counts func ty [] (InMain main ∷ []) is_store count is
      (ltb-false func (imported_funcs m) own) (subst (λ ts. AreValues (func_count m) ts []) (sym none) tt)
      (fits, refl)
