-- Responses and answers that were read fit the functions that they answer.
use Rattle.std.proofs.Common.{◌≡◌, ℕ, List, [], ◌∷◌, map, codes, All, Option, Some, None, IfSome, Ok, true, false, subst}
use Rattle.std.specs.Bool.{⊤}
use Rattle.std.specs.List.{list_all}
use Rattle.std.specs.Option.{option_to_list}
use Rattle.std.proofs.lemmas.List.Elements.{All-nil, All-cons}
use Rattle.wasm_syntax.specs.declared.values.Val.{Val}
use Rattle.wasm_syntax.specs.declared.signatures.FuncType.{FuncType}
use Rattle.wasm_syntax.specs.declared.modules.Module.{Module}
use Rattle.wasm_syntax.specs.Typing.{is_constant}
use Rattle.wasm_syntax.specs.Validity.{IsValid}
use Rattle.host_script.specs.declared.scripts.Answer.{Answer}
use Rattle.host_script.specs.declared.scripts.Response.{Response}
use Rattle.host_script.specs.declared.scripts.ResponseEnd.{ResponseEnd}
use Rattle.host_script.specs.declared.scripts.ResponseEnd.TheVariants.{Return, Trap}
use Rattle.host_script.specs.Fits.{AreConstants, AreOfTypes, FitsEnd, FitsResponse, FitsAnswer}
use Rattle.serde_json.specs.Data.{Data, null, boolean, number, string, array, object}
use Rattle.serde_json.specs.Find.{get}
use Rattle.script_text.specs.declared.faults.ScriptFault.TheVariants.{WrongType}
use Rattle.script_text.specs.Walk.{only, under_or, under_if_there, list_of}
use Rattle.script_text.specs.Values.{value_of}
use Rattle.script_text.specs.Actions.{InResponse, actions_under}
use Rattle.script_text.specs.Texts.{returns, fits_results, trap_of, return_of, end_by, end_of, response_of, answer_of}
use Rattle.script_text.proofs.Steps.{ok_one, both_ok, passed, below_ok, under_or_holds, if_there_holds, list_holds}
use Rattle.script_text.proofs.Tests.{Among}
use Rattle.wasm_syntax.proofs.ValTypes.{types_same}
use Rattle.script_text.proofs.FittingValues.{value_in_range}
use Rattle.script_text.proofs.FittingActions.{serves_response, actions_fit}

constants : (value : Option Val) → IfSome value (λ v. is_constant v ≡ true) → AreConstants (option_to_list value)
constants None h = All-nil (λ v. is_constant v ≡ true)
constants (Some v) h = All-cons (λ v. is_constant v ≡ true) v [] h (All-nil (λ v. is_constant v ≡ true))

module _ (m : Module) (valid : IsValid m) (name : List ℕ) (types : List FuncType) (ty : FuncType)
    (among : Among ty types) where
  results_fit : (value : Option Val) (t : ⊤) → IfSome value (λ v. is_constant v ≡ true)
      → fits_results name types value ≡ Ok t → AreOfTypes ty.results (option_to_list value)
  unfolding fits_results
  results_fit value t constant h =
      let typed = among (returns value) (passed (list_all (returns value) types) (Ok tt) (WrongType name) t h).0 in
      record { in_range = constants value constant; typed = types_same (map (λ v. v.ty) (option_to_list value)) ty.results typed }

  return_fits : (d : Data) (e : ResponseEnd) → return_of name types d ≡ Ok e → FitsEnd ty.results e
  unfolding return_of
  return_fits d e h =
      let value = both_ok (under_if_there (codes "return") value_of d) _ e h in
      let fits = both_ok (fits_results name types value.0) _ e value.2 in
      subst (FitsEnd ty.results) (ok_one (Return value.0) e fits.2)
      (results_fit value.0 fits.0 (if_there_holds (λ v. is_constant v ≡ true) value_of value_in_range (codes "return") d value.0 value.1) fits.1)

  trap_fits : (d : Data) (e : ResponseEnd) → trap_of d ≡ Ok e → FitsEnd ty.results e
  unfolding trap_of
  trap_fits null e h = cc h
  trap_fits (boolean true) e h = subst (FitsEnd ty.results) (ok_one Trap e h) tt
  trap_fits (boolean false) e h = cc h
  trap_fits (number n) e h = cc h
  trap_fits (string s) e h = cc h
  trap_fits (array ds) e h = cc h
  trap_fits (object ms) e h = cc h

  end_fits : (d : Data) (e : ResponseEnd) → end_of name types d ≡ Ok e → FitsEnd ty.results e
  unfolding end_of
  end_fits d e h = by (get (codes "return") d) (get (codes "trap") d) h
    where
      by : (returned trapped : Option Data) → end_by name types returned trapped d ≡ Ok e → FitsEnd ty.results e
      by (Some r) (Some t) h = cc h
      by None (Some t) h = trap_fits t e (below_ok (codes "trap") (trap_of t) e h)
      by (Some r) None h = return_fits d e h
      by None None h = return_fits d e h

  response_fits : (d : Data) (response : Response) → response_of m name types d ≡ Ok response
      → FitsResponse m ty response
  unfolding response_of
  response_fits d response h =
      let listed = both_ok (only (codes "do" ∷ codes "return" ∷ codes "trap" ∷ []) d) _ response h in
      let actions = both_ok (actions_under m (InResponse name types) (codes "do") d) _ response listed.2 in
      let e = both_ok (end_of name types d) _ response actions.2 in
      subst (FitsResponse m ty) (ok_one (record { actions = actions.0; «end» = e.0 }) response e.2) (record {
        actions = actions_fit m (InResponse name types) ty.params valid (serves_response name types ty among) (codes "do") d actions.0 actions.1;
        «end» = end_fits d e.0 e.1;
      })

  pub answer_fits : (d : Data) (answer : Answer) → answer_of m name types d ≡ Ok answer → FitsAnswer m ty answer
  unfolding answer_of
  answer_fits d answer h =
      let listed = both_ok (only (codes "calls" ∷ codes "rest" ∷ []) d) _ answer h in
      let calls = both_ok (under_or (codes "calls") [] (list_of (response_of m name types)) d) _ answer listed.2 in
      let rest = both_ok (under_if_there (codes "rest") (response_of m name types) d) _ answer calls.2 in
      subst (FitsAnswer m ty) (ok_one (record { calls = calls.0; rest = rest.0 }) answer rest.2) (record {
        calls =
            under_or_holds (All (FitsResponse m ty)) (list_of (response_of m name types))
            (list_holds (FitsResponse m ty) (response_of m name types) response_fits) (codes "calls") [] d calls.0
            (All-nil (FitsResponse m ty)) calls.1;
        rest = if_there_holds (FitsResponse m ty) (response_of m name types) response_fits (codes "rest") d rest.0 rest.1;
      })
