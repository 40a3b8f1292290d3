-- Runs of a valid and supported module are safe from their start on: under a script that fits it, and alone.
use Rattle.std.proofs.Common.{◌≡◌, ◌≢◌, ℕ, suc, zero, List, [], ◌∷◌, length, Option, Some, None, Result, Ok, Err, refl, sym, ap, subst, arith}
use Rattle.std.specs.Prelude.{nat_lt, replicate, IfSome, IsTrue}
use Rattle.std.proofs.lemmas.List.{length-replicate}
use Rattle.std.proofs.lemmas.List.Elements.{All-nil, All-cons}
use Rattle.wasm_syntax.specs.declared.signatures.FuncType.{FuncType}
use Rattle.wasm_syntax.specs.declared.modules.Module.{Module}
use Rattle.wasm_syntax.specs.Index.{of_kind, func_import, imported_funcs, func_type}
use Rattle.wasm_syntax.specs.Typing.{is_constant}
use Rattle.wasm_syntax.specs.Validity.{IsStart, IsValid}
use Rattle.wasm_syntax.specs.Profile.{IsSupported}
use Rattle.host_script.specs.declared.scripts.Action.{Action}
use Rattle.host_script.specs.declared.scripts.Action.TheVariants.{Call}
use Rattle.host_script.specs.declared.scripts.Answer.{Answer}
use Rattle.host_script.specs.declared.scripts.Script.{Script}
use Rattle.host_script.specs.declared.scripts.Supply.{Supply}
use Rattle.host_script.specs.declared.scripts.LinkFault.{LinkFault}
use Rattle.host_script.specs.Supply.{supply_of}
use Rattle.host_script.specs.Fits.{AreOfTypes, IsCallable, FitsAction, FitActions, FitAnswers, Fits}
use Rattle.history_spec.specs.Store.{Store}
use Rattle.history_spec.specs.Code.{code_of}
use Rattle.history_spec.specs.Configuration.{InMain, Config}
use Rattle.history_spec.specs.Instantiation.{instantiate}
use Rattle.history_spec.specs.Step.{Program, Progress, Running, Finished, Faulted, Stuck, StepResult, step, start}
use Rattle.history_spec.specs.Settle.{deliver}
use Rattle.history_spec.specs.Run.{Meter, steps, run_from, program_of, start_in_store, start_or_fault, start_with_supply, run_start}
use Rattle.history_spec.specs.Replay.{alone, program_alone, start_alone_or_fault, run_start_alone}
use Rattle.wasm_numeric.specs.Laws.{ResultsFit}
use Rattle.type_safety.specs.Stores.{IsStore}
use Rattle.type_safety.specs.Heights.{Heights}
use Rattle.type_safety.specs.Configurations.{scope, IsTypedCode, IsConfig, IsSafe, IsProgram}
use Rattle.type_safety.specs.Supplies.{HasBytes, IsSupply}
use Rattle.type_safety.proofs.Execution.{execute_fine}
use Rattle.type_safety.specs.Laws.{CallsAreSafe, FittingActionsHaveResults, InstructionsHaveRules, ResultsAreSafe, RunsAloneAreNeverStuck, RunsAreNeverStuck}
use Rattle.type_safety.proofs.Actions.{act_fine}
use Rattle.type_safety.proofs.SettleEnds.{deliver_safe}
use Rattle.type_safety.proofs.Steps.{progress_safe, settling_safe, starts_safe, enter_safe, step_is_safe}
use Rattle.type_safety.proofs.NewStores.{store_fits}
use Rattle.type_safety.proofs.Supplies.{supply_fits}
use Rattle.type_safety.proofs.TypedCode.{heights_there, typed_code}

module _ (laws : ResultsFit) (m : Module) (heights : Heights) (typed : IsTypedCode m heights) (valid : IsValid m) where
  -- ---- steps

  pub program_step_safe : (program : Program) → IsProgram m program → (config : Config) → IsConfig m heights config
      → IsSafe m heights (step program config).next
  program_step_safe program p config c =
      subst (λ code. IsSafe m heights (step (record { code = code; answers = program.answers }) config).next)
      (sym p.code)
      (step_is_safe laws m heights typed valid.outside.one_table program.answers p.answers config c)

  steps_safe : (program : Program) → IsProgram m program → (meter : Meter) (count : ℕ) (at : Progress)
      → IsSafe m heights at → IsSafe m heights (steps program meter count at).at
  steps_safe program p meter zero at safe = safe
  steps_safe program p meter (suc k) (Running config) safe =
      steps_safe program p meter k (step program config).next (program_step_safe program p config safe)
  steps_safe program p meter (suc k) (Finished outcome) safe = tt
  steps_safe program p meter (suc k) (Faulted kind) safe = tt
  steps_safe program p meter (suc k) Stuck safe = safe

  -- ---- the start

  start_safe : (answers : List (Option Answer)) → FitAnswers m answers
      → (store : Store) (counts : List ℕ) (main : List Action) (func : Option ℕ)
      → IfSome func (IsStart m) → IsStore m store → length counts ≡ imported_funcs m → FitActions m [] main
      → IsSafe m heights (start (record { code = code_of m; answers = answers }) func store counts main).next
  start_safe answers fit store counts main None valid' is_store count fits =
      settling_safe m heights typed store counts (InMain main ∷ []) is_store count (fits, refl)
  start_safe answers fit store counts main (Some func) s is_store count fits =
      starts_safe laws m heights typed valid.outside.one_table answers fit (nat_lt func (imported_funcs m)) store
      counts func s.ty main refl is_store count fits s.has_type s.params

  -- ---- under a script

  opened : (script : Script) (initial : StepResult) → run_start m script ≡ Ok initial
      → (supply : Supply) × (supply_of m script ≡ Ok supply) × (store : Store) × (instantiate m supply ≡ Ok store)
      × (start_in_store m script store ≡ initial)
  opened script initial is = by (supply_of m script) refl is
    where
      link : (supply : Supply) (r : Result Store LinkFault) → instantiate m supply ≡ r
          → start_or_fault m script r ≡ Ok initial → (store : Store) × (instantiate m supply ≡ Ok store)
          × (start_in_store m script store ≡ initial)
      link supply (Ok store) e h = (store, e, cc)
      link supply (Err fault) e h = cc

      by : (r : Result Supply LinkFault) → supply_of m script ≡ r → start_with_supply m script r ≡ Ok initial
          → (supply : Supply) × (supply_of m script ≡ Ok supply) × (store : Store) × (instantiate m supply ≡ Ok store)
          × (start_in_store m script store ≡ initial)
      by (Ok supply) e h =
          let l = link supply (instantiate m supply) refl h in
          (supply, e, l.0, l.1, l.2)
      by (Err fault) e h = cc

  pub opening_safe : IsSupported m → HasBytes m → (script : Script) → Fits m script → (initial : StepResult)
      → run_start m script ≡ Ok initial → IsSafe m heights initial.next
  opening_safe supported bytes script fits initial is =
      let o = opened script initial is in
      let is_store = store_fits m o.0 o.2 valid supported bytes (supply_fits m script o.0 fits o.1) o.3 in
      subst (λ s. IsSafe m heights s.next) o.4
      (start_safe script.imports fits.imports o.2 (replicate (imported_funcs m) 0) script.main m.start
      valid.outside.start is_store (length-replicate {A = ℕ} (imported_funcs m) 0) fits.main)

  pub scripted_safe : IsSupported m → HasBytes m → (script : Script) → Fits m script → (initial : StepResult)
      → run_start m script ≡ Ok initial
      → (meter : Meter) (count : ℕ) → IsSafe m heights (run_from (program_of m script) meter initial count).at
  scripted_safe supported bytes script fits initial is meter count =
      steps_safe (program_of m script) (record { code = refl; answers = fits.imports }) meter count initial.next
      (opening_safe supported bytes script fits initial is)

  -- ---- alone

  alone_supply : m.imports ≡ [] → IsSupply m alone
  alone_supply none =
      let own : IsSupply (record m { imports = [] }) alone = record { memory = tt; table = tt; globals = tt } in
      subst (λ imports. IsSupply (record m { imports = imports }) alone) (sym none) own

  alone_answers : m.imports ≡ [] → FitAnswers m []
  alone_answers none =
      let own : FitAnswers (record m { imports = [] }) [] = tt in
      subst (λ imports. FitAnswers (record m { imports = imports }) []) (sym none) own

  no_imported : m.imports ≡ [] → imported_funcs m ≡ 0
  no_imported none = ap (λ imports. length (of_kind func_import imports)) none

  opened_alone : (entry : ℕ) (initial : StepResult) (r : Result Store LinkFault)
      → start_alone_or_fault m entry r ≡ Ok initial
      → (store : Store) × (r ≡ Ok store) × (start (program_alone m) m.start store [] (Call entry [] ∷ []) ≡ initial)
  opened_alone entry initial (Ok store) h = (store, refl, cc)
  opened_alone entry initial (Err fault) h = cc

  pub alone_safe : IsSupported m → HasBytes m → m.imports ≡ [] → (entry : ℕ) (ty : FuncType)
      → func_type m entry ≡ Some ty → ty.params ≡ [] → (initial : StepResult) → run_start_alone m entry ≡ Ok initial
      → (meter : Meter) (count : ℕ) → IsSafe m heights (run_from (program_alone m) meter initial count).at
  alone_safe supported bytes none entry ty has_type params initial is meter count =
      let o = opened_alone entry initial (instantiate m alone) is in
      let is_store = store_fits m alone o.0 valid supported bytes (alone_supply none) o.1 in
      let fit : AreOfTypes ty.params [] =
      record { in_range = All-nil (λ value. IsTrue (is_constant value)); typed = sym params } in
      let call : IsCallable m entry [] =
      record { defined = omega (arith, no_imported none); ty = ty; has_type = has_type; fit = fit } in
      let main : FitActions m [] (Call entry [] ∷ []) =
      All-cons (FitsAction m []) (Call entry []) [] call (All-nil (FitsAction m [])) in
      let safe = start_safe [] (alone_answers none) o.0 [] (Call entry [] ∷ []) m.start valid.outside.start is_store
      (sym (no_imported none)) main in
      steps_safe (program_alone m) (record { code = refl; answers = alone_answers none }) meter count initial.next
      (subst (λ s. IsSafe m heights s.next) o.2 safe)

  pub program_start_safe : (program : Program) → IsProgram m program → (store : Store) (main : List Action)
      → IsStore m store → FitActions m [] main
      → IsSafe m heights (start program m.start store (replicate (imported_funcs m) 0) main).next
  program_start_safe program p store main is_store fits =
      subst (λ code.
      IsSafe m heights
      (start (record { code = code; answers = program.answers }) m.start store (replicate (imported_funcs m) 0)
      main).next) (sym p.code)
      (start_safe program.answers p.answers store (replicate (imported_funcs m) 0) main m.start valid.outside.start
      is_store (length-replicate {A = ℕ} (imported_funcs m) 0) fits)

-- ---- a rule holds

pub has_rule : ResultsFit → InstructionsHaveRules
has_rule laws m heights store frame ty body valid typed is_store f going =
    execute_fine laws (scope m heights frame.func ty body) typed.has_type valid.outside.one_table store is_store frame
    f going

pub action_done : FittingActionsHaveResults
action_done m heights store params args action typed is_store values fits =
    act_fine m typed.has_type store is_store params args values action fits

pub results_safe : ResultsAreSafe
results_safe m heights store counts stack types results typed is_store count a p =
    progress_safe m heights typed store counts (deliver stack results).next is_store count
    (deliver_safe m heights stack types results a p)

pub call_safe : CallsAreSafe
call_safe m heights store counts func ty args stack typed is_store count own is p a =
    enter_safe m heights typed store counts func ty args stack is_store count is own p a

-- ---- never stuck

not_stuck : (m : Module) (heights : Heights) (at : Progress) → IsSafe m heights at → at ≢ Stuck
not_stuck m heights at safe is = subst (IsSafe m heights) is safe

pub scripted_never_stuck : ResultsFit → RunsAreNeverStuck
scripted_never_stuck laws m script initial runnable fits starts meter count =
    let h = heights_there m runnable.valid in
    let typed = typed_code m h.0 runnable.valid runnable.supported h.1 in
    not_stuck m h.0 (run_from (program_of m script) meter initial count).at
    (scripted_safe laws m h.0 typed runnable.valid runnable.supported runnable.bytes script fits initial starts
    meter count)

pub alone_never_stuck : ResultsFit → RunsAloneAreNeverStuck
alone_never_stuck laws m entry ty initial runnable none has_type params starts meter count =
    let h = heights_there m runnable.valid in
    let typed = typed_code m h.0 runnable.valid runnable.supported h.1 in
    not_stuck m h.0 (run_from (program_alone m) meter initial count).at
    (alone_safe laws m h.0 typed runnable.valid runnable.supported runnable.bytes none entry ty has_type params
    initial starts meter count)
