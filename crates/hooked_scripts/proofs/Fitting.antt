-- A script that fits a module has an answer for each imported function; if the module has few functions, the
-- indices of those that the script names leave room for the hooks.
use Rattle.std.proofs.Common.{◌≡◌, ℕ, ◌<◌, List, [], ◌∷◌, ◌++◌, length, map, Option, Some, None, replicate, refl, ap, arith}
use Rattle.std.specs.Prelude.{IfSome}
use Rattle.std.specs.List.{AllZip}
use Rattle.std.proofs.lemmas.List.{length-map}
use Rattle.std.proofs.lemmas.List.Elements.{All-cons, All-nil, All-weaker}
use Rattle.std.proofs.lemmas.Slice.Zip.{AllZip-long}
use Rattle.wasm_syntax.specs.declared.values.ValType.{ValType}
use Rattle.wasm_syntax.specs.declared.signatures.FuncType.{FuncType}
use Rattle.wasm_syntax.specs.declared.modules.Module.{Module}
use Rattle.wasm_syntax.specs.Index.{func_import, func_indices, imported_funcs, of_kind}
use Rattle.wasm_syntax.proofs.FuncTypes.{func_within}
use Rattle.wasm_flat.specs.Sizes.{list_limit}
use Rattle.host_script.specs.declared.scripts.Action.{Action}
use Rattle.host_script.specs.declared.scripts.Action.TheVariants.{Call, SetTable}
use Rattle.host_script.specs.declared.scripts.Answer.{Answer}
use Rattle.host_script.specs.declared.scripts.Response.{Response}
use Rattle.host_script.specs.declared.scripts.Script.{Script}
use Rattle.host_script.specs.Fits.{FitActions, FitsAction, FitsAnswer, FitsImport, FitsResponse, Fits}
use Rattle.record_replay_spec.specs.Hooks.{hook_count}
use Rattle.record_replay_spec.specs.HookedRuns.{first_answers, hook_answer, with_hook_answers}
use Rattle.hooked_scripts.specs.Low.{AreLowActions, AreLowAnswers, IsLowAction, IsLowAnswer, IsLowResponse, IsLowScript}

-- the first answers are all answers, if their number is that of all
pub first_are_all : (answers : List (Option Answer)) → first_answers (length answers) answers ≡ answers
first_are_all [] = refl
first_are_all (answer ∷ answers) = ap (λ (list : List (Option Answer)). answer ∷ list) (first_are_all answers)

-- the hooks' answers after the converted answers of all imports
pub hooks_after_all : (n : ℕ) (answers : List (Option Answer)) (made : Option Answer → Option Answer)
    → length answers ≡ n
    → map made answers ++ replicate hook_count (Some hook_answer) ≡ with_hook_answers n (map made answers)
hooks_after_all n answers made same =
    let all = first_are_all (map made answers) in
    let long = length-map answers made in
    cc

-- each imported function has an answer
pub imports_counted : (m : Module) (script : Script) → Fits m script → length script.imports ≡ imported_funcs m
imports_counted m script fits = AllZip-long (FitsImport m) (of_kind func_import m.imports) script.imports fits.imports

module _ (m : Module) (few : length (func_indices m) < list_limit) where
  entry_low : (func : Option ℕ) → IfSome func (λ f. f < length (func_indices m)) → IfSome func (λ f. f < list_limit)
  entry_low None h = h
  entry_low (Some f) h = omega (arith, h, few)

  action_low : (params : List ValType) (action : Action) → FitsAction m params action → IsLowAction action
  action_low params (Call func args) fits =
      let there = func_within m func fits.ty fits.has_type in omega (arith, there, few)
  action_low params (SetTable index func) fits = entry_low func fits.1
  action_low params action fits = tt

  actions_low : (params : List ValType) (actions : List Action) → FitActions m params actions → AreLowActions actions
  actions_low params actions fit = All-weaker (FitsAction m params) IsLowAction (action_low params) actions fit

  response_low : (ty : FuncType) (response : Response) → FitsResponse m ty response → IsLowResponse response
  response_low ty response fits = actions_low ty.params response.actions fits.actions

  rest_low : (ty : FuncType) (rest : Option Response) → IfSome rest (FitsResponse m ty) → IfSome rest IsLowResponse
  rest_low ty None fits = fits
  rest_low ty (Some response) fits = response_low ty response fits

  answer_low : (ty : FuncType) (answer : Answer) → FitsAnswer m ty answer → IsLowAnswer answer
  answer_low ty answer fits = record {
    calls = All-weaker (FitsResponse m ty) IsLowResponse (response_low ty) answer.calls fits.calls;
    rest = rest_low ty answer.rest fits.rest;
  }

  any_low : (t : ℕ) (answer : Option Answer) → FitsImport m t answer → IfSome answer IsLowAnswer
  any_low t None fits = fits
  any_low t (Some answer) fits = answer_low fits.0 answer fits.2

  answers_low : (types : List ℕ) (answers : List (Option Answer)) → AllZip (FitsImport m) types answers
      → AreLowAnswers answers
  answers_low [] [] fit = All-nil (λ (answer : Option Answer). IfSome answer IsLowAnswer)
  answers_low [] (answer ∷ answers) fit = absurd fit
  answers_low (ty ∷ types) [] fit = absurd fit
  answers_low (ty ∷ types) (answer ∷ answers) fit =
      All-cons (λ (a : Option Answer). IfSome a IsLowAnswer) answer answers (any_low ty answer fit.0)
      (answers_low types answers fit.1)

  pub script_low : (script : Script) → Fits m script → IsLowScript script
  script_low script fits = record {
    imports = answers_low (of_kind func_import m.imports) script.imports fits.imports;
    main = actions_low [] script.main fits.main;
  }
