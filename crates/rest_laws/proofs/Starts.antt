-- A run whose history has a rest from a top-level call on makes this call.
use Rattle.std.proofs.Common.{◌≡◌, ℕ, zero, suc, List, [], ◌∷◌, ◌++◌, Option, Some, None, Bool, true, false, nat_lt, refl, sym, ap, ◌∙◌, replicate}
use Rattle.std.proofs.lemmas.Option.{same_Some}
use Rattle.host_script.specs.declared.scripts.Action.{Action}
use Rattle.trace_model.specs.declared.tapes.Origin.TheVariants.{Begin}
use Rattle.history_spec.specs.declared.entries.Entry.{Entry}
use Rattle.history_spec.specs.declared.entries.Entry.TheVariants.{HostCall}
use Rattle.history_spec.specs.Store.{Store}
use Rattle.history_spec.specs.Configuration.{InMain}
use Rattle.history_spec.specs.Settle.{settle}
use Rattle.history_spec.specs.Step.{Program, Running, StepResult, after_entries, after_settling, enter_function, start, start_with_call}
use Rattle.history_spec.specs.Run.{all_one, program_of, run_from}
use Rattle.record_replay_spec.specs.Observations.{activity_observations, observations}
use Rattle.record_replay_spec.specs.Known.{Known, opening_known}
use Rattle.rest_spec.specs.Rests.{rest_of}
use Rattle.rest_laws.specs.Calls.{IsCallOfRun, AtStart, InRun, CallsAreOfRuns}
use Rattle.tape_laws.proofs.KeptInRuns.{known_after_activities}
use Rattle.rest_laws.proofs.Places.{call_after, call_from, begun}
use Rattle.rest_laws.proofs.Walks.{delivered, entered}
use Rattle.rest_laws.proofs.Found.{IsFoundAfter, goes_on, find}

module _ (program : Program) (opening : Known) (count : ℕ) where
  -- a call after the start
  later_call : (number next : ℕ) (host : Bool) (opened : ℕ) (s : StepResult) (entries : List Entry) (rest : List Entry)
      → IsFoundAfter program next count host opened s rest
      → call_after number 0 opening
      (activity_observations (entries ++ s.entries) ++ observations program count s.next)
      ≡ call_from host next opened opening (activity_observations s.entries ++ observations program count s.next)
      → IsCallOfRun program (after_entries entries s) opening count number rest
  later_call number next host opened s entries rest after front =
      let found = after.found in
      let initial = after_entries entries s in
      InRun found.before found.later found.config found.action found.actions found.all found.reached found.alone found.is
      (begun number 0 opening Begin (activity_observations initial.entries ++ observations program count s.next)
      ∙ front ∙ after.seen opening ∙ found.seen opening
      ∙ ap
      (λ known. Some (record { known = known; later = observations program found.later (Running found.config) }))
      (sym (known_after_activities opening initial.entries (observations program found.before s.next))))

  -- the host's own work begins without a call
  without_call : (main : List Action) (store : Store) (counts : List ℕ) (number : ℕ) (rest : List Entry)
      → rest_of (run_from program all_one (after_settling store counts (settle (InMain main ∷ []))) count).history
      number 0 ≡ Some rest
      → IsCallOfRun program (after_settling store counts (settle (InMain main ∷ []))) opening count number rest
  without_call main store counts number rest h =
      let s = after_settling store counts (settle (InMain main ∷ [])) in
      later_call number number true 0 s [] rest
      (goes_on program count number true 0 s rest (delivered store counts (InMain main ∷ []) [] refl)
      (find program count rest) h) refl

  -- the start function is called
  with_call : (b : Bool) (func : ℕ) (main : List Action) (store : Store) (counts : List ℕ) (number : ℕ)
      (rest : List Entry)
      → rest_of (run_from program all_one (start_with_call program b store counts func (InMain main ∷ [])) count).history
      number 0 ≡ Some rest
      → IsCallOfRun program (start_with_call program b store counts func (InMain main ∷ [])) opening count number rest
  with_call true func main store counts number rest h = without_call main store counts number rest h
  with_call false func main store counts zero rest h =
      AtStart (sym (same_Some _ rest h)) refl
  with_call false func main store counts (suc number) rest h =
      let s = enter_function program.code store counts func [] (InMain main ∷ []) in
      later_call (suc number) number false 0 s (HostCall func [] ∷ []) rest
      (goes_on program count number false 0 s rest
      (entered program store counts func [] (InMain main ∷ []) refl) (find program count rest) h) refl

  pub called : (func : Option ℕ) (main : List Action) (store : Store) (counts : List ℕ) (number : ℕ)
      (rest : List Entry)
      → rest_of (run_from program all_one (start program func store counts main) count).history number 0 ≡ Some rest
      → IsCallOfRun program (start program func store counts main) opening count number rest
  called None main store counts number rest h = without_call main store counts number rest h
  called (Some func) main store counts number rest h =
      with_call (nat_lt func program.code.imported) func main store counts number rest h

pub calls_are_of_runs : CallsAreOfRuns
calls_are_of_runs m script store count number rest h =
    let program = program_of m script in
    called program (opening_known store) count m.start script.main store (replicate program.code.imported 0) number
    rest h
