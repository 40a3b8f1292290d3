-- The start of the original's run, and that of the instrumented one.
use Rattle.std.proofs.Common.{◌≡◌, ℕ, ◌+◌, ◌<◌, List, [], ◌∷◌, length, map, replicate, Option, Some, None, Bool, true, false, nat_lt, slice_get, refl, sym, ap, ◌∙◌, subst, arith, ltb-false}
use Rattle.std.specs.Prelude.{IfSome, option_map}
use Rattle.std.proofs.lemmas.List.{length-replicate, get_or-replicate}
use Rattle.std.proofs.lemmas.Option.{slice_get-get_or}
use Rattle.wasm_syntax.specs.declared.modules.Module.{Module}
use Rattle.wasm_syntax.specs.Index.{imported_funcs}
use Rattle.wasm_syntax.specs.Validity.{IsValid, IsStart}
use Rattle.host_script.specs.declared.scripts.Action.{Action}
use Rattle.host_script.specs.declared.scripts.Answer.{Answer}
use Rattle.host_script.specs.Fits.{FitActions, FitAnswers}
use Rattle.history_spec.specs.Store.{Store}
use Rattle.history_spec.specs.Code.{code_of}
use Rattle.history_spec.specs.Configuration.{InMain}
use Rattle.history_spec.specs.Run.{Meter}
use Rattle.history_spec.specs.Step.{Program, StepResult, start, start_with_call}
use Rattle.type_safety.specs.Configurations.{IsTypedCode}
use Rattle.type_safety.specs.Heights.{Heights}
use Rattle.type_safety.specs.Stores.{func_count}
use Rattle.type_safety.specs.Values.{AreValues}
use Rattle.record_replay_spec.specs.Hooks.{hook_count, renumber, renumbered_view}
use Rattle.record_replay_spec.specs.HookedRuns.{renumbered_action}
use Rattle.instrumented_run_laws.proofs.Calls as calls
use Rattle.instrumented_run_laws.proofs.Delivers as delivers
use Rattle.instrumented_run_laws.proofs.Delivers.{none_good}
use Rattle.instrumented_run_laws.proofs.Pieces.{HasHooks}
use Rattle.instrumented_run_laws.proofs.Relation.{AreCounted}
use Rattle.instrumented_run_laws.proofs.Settled as settled
use Rattle.instrumented_run_laws.proofs.PieceFacts.{HasPieces, HasProgram}

none_counted : (k i : ℕ) → i < k → slice_get {X = ℕ} (replicate k 0) i ≡ Some 0
none_counted k i less =
    let long : length (replicate k 0) ≡ k = length-replicate {A = ℕ} k 0 in
    slice_get-get_or {X = ℕ} (replicate k 0) i 0 (omega (arith, less, long)) ∙ ap Some (get_or-replicate {A = ℕ} k i 0 0
    less)

module _ (m : Module) (heights : Heights) (valid : IsValid m) (typed : IsTypedCode m heights)
    (answers : List (Option Answer)) (fits : FitAnswers m answers) (other : Program) (meter : Meter)
    (has : HasHooks (imported_funcs m) other meter) (pieces : HasPieces m other meter has)
    (knows : HasProgram m answers other) (imported : other.code.imported ≡ imported_funcs m + hook_count)
    (store : Store) (main : List Action) (fit : FitActions m [] main) where
  abbrev n : ℕ
  n = imported_funcs m

  abbrev program : Program
  program = record { code = code_of m; answers = answers }

  abbrev counts : List ℕ
  counts = replicate n 0

  abbrev second : List ℕ
  second = replicate other.code.imported 0

  abbrev hooked_main : List Action
  hooked_main = map (renumbered_action n) main

  counted : AreCounted n counts second
  counted import less =
      none_counted other.code.imported import (omega (arith, less, imported)) ∙ sym (none_counted n import less)

  abbrev FollowsStart : StepResult → StepResult → Type 0
  FollowsStart s r =
      settled.Follows m heights other meter has
      (settled.reported_of m heights other meter has None store store [] s.entries)
      (settled.waiting_of m heights other meter has None store store [] s.entries) s.next r.next 0

  without_call : FollowsStart (start program None store counts main) (start other None (renumbered_view n store) second
      hooked_main)
  without_call =
      delivers.deliver_from m heights valid other meter has pieces None store store counts (InMain main ∷ []) [] [] []
      []
      second none_good (fit, refl) tt tt counted

  with_call : (func : ℕ) → IsStart m func → (b : Bool) → nat_lt func n ≡ b
      → FollowsStart (start_with_call program b store counts func (InMain main ∷ []))
      (start_with_call other b (renumbered_view n store) second (renumber n func) (InMain hooked_main ∷ []))
  with_call func is true e = without_call
  with_call func is false e =
      calls.entered m heights valid typed answers fits other meter has pieces knows None store store counts func is.ty
      []
      (InMain main ∷ []) [] [] second is.has_type (ltb-false func n e)
      (subst (λ types. AreValues (func_count m) types []) (sym is.params) tt) (fit, refl) tt counted

  pub start_follows : (func : Option ℕ) → IfSome func (IsStart m)
      → FollowsStart (start program func store counts main)
      (start other (option_map (renumber n) func) (renumbered_view n store) second hooked_main)
  start_follows None is = without_call
  start_follows (Some func) is =
      subst
      (λ b. FollowsStart (start_with_call program (nat_lt func n) store counts func (InMain main ∷ []))
      (start_with_call other b (renumbered_view n store) second (renumber n func) (InMain hooked_main ∷ [])))
      (sym (knows.own func)) (with_call func is (nat_lt func n) refl)
