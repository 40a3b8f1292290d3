-- Steps that make no top-level call: where they lead, in a history and in the observations of a run.
use Rattle.std.proofs.Common.{◌≡◌, ℕ, suc, ◌+◌, List, [], ◌∷◌, ◌++◌, Option, Some, None, Bool, true, false, nat_lt, slice_set, slice_index, refl, ap, ◌∙◌}
use Rattle.std.specs.Option.{option_to_list}
use Rattle.wasm_syntax.specs.declared.values.Val.{Val}
use Rattle.wasm_syntax.specs.declared.signatures.FuncType.{FuncType}
use Rattle.host_script.specs.declared.scripts.Action.{Action}
use Rattle.host_script.specs.declared.scripts.Response.{Response}
use Rattle.host_script.specs.declared.scripts.ResponseEnd.{ResponseEnd}
use Rattle.host_script.specs.declared.scripts.ResponseEnd.TheVariants.{Return, Trap as EndsInTrap}
use Rattle.trace_model.specs.declared.tapes.Origin.TheVariants.{Import, Back}
use Rattle.history_spec.specs.declared.entries.Entry.{Entry}
use Rattle.history_spec.specs.declared.entries.Entry.TheVariants.{HostCall, HostReturn, ImportCall, ImportReturn, HostTrap}
use Rattle.history_spec.specs.Store.{Store}
use Rattle.history_spec.specs.Code.{Definition, signature, definition}
use Rattle.history_spec.specs.Configuration.{Frame, Activation, InModule, InMain, InImport, Config, with_results}
use Rattle.history_spec.specs.Instruction.{Control, Goes, Calls, Returns, Execution, Did, Traps, NoRule}
use Rattle.history_spec.specs.Action.{ActionResult, Changes, Enters, Fails, Unfit}
use Rattle.history_spec.specs.Settle.{AtEnd, Within, Gives, TooFew, at_end, return_from, return_entry, deliver}
use Rattle.history_spec.specs.Step.{Program, Progress, Running, Finished, Faulted, Stuck, StepResult, after_settling, enter_defined, enter_function, frame_of, response_to, answer_call, call_function, after_control, after_instruction, after_action}
use Rattle.record_replay_spec.specs.Observations.{Observation, activity_observations}
use Rattle.record_replay_spec.specs.Known.{Known}
use Rattle.tape_laws.specs.RealReads.{AreNested}
use Rattle.rest_spec.specs.Rests.{rest_of}
use Rattle.rest_laws.proofs.Places.{opens, with_host, call_from, call_at, begun}

-- entries make no top-level call, and lead from where control is, with a number of open calls of imports, to where a run
-- goes on
abbrev pub Walks : List Entry → (host : Bool) (opened : ℕ) → Progress → Type 0
Walks [] host opened (Running config) =
    AreNested config.stack × (host ≡ with_host config.stack) × (opened ≡ opens config.stack)
Walks [] host opened at = Unit {0}
Walks (HostCall func args ∷ later) true (suc opened) at = Walks later false (suc opened) at
Walks (HostCall func args ∷ later) host opened at = ⊥
Walks (HostReturn func results ∷ later) false opened at = Walks later true opened at
Walks (HostReturn func results ∷ later) true opened at = ⊥
Walks (ImportCall import args ∷ later) false opened at = Walks later true (suc opened) at
Walks (ImportCall import args ∷ later) true opened at = ⊥
Walks (ImportReturn import results ∷ later) true (suc opened) at = Walks later false opened at
Walks (ImportReturn import results ∷ later) host opened at = ⊥
Walks (HostTrap ∷ later) true opened at = Walks later false opened at
Walks (HostTrap ∷ later) false opened at = ⊥
Walks (entry ∷ later) host opened at = Walks later host opened at

abbrev pub StepWalks : (host : Bool) (opened : ℕ) → StepResult → Type 0
StepWalks host opened s = Walks s.entries host opened s.next

-- ---- steps

module _ (store : Store) (counts : List ℕ) where
  abbrev pub Delivers : List Activation → List Val → Type 0
  Delivers stack results =
      StepWalks (with_host stack) (opens stack) (after_settling store counts (deliver stack results))

  returned : (func : ℕ) (results : List Val) (below : List Activation) → Delivers below results
      → Walks (return_entry func results below ∷ (deliver below results).entries) false (opens below)
      (after_settling store counts (deliver below results)).next
  returned func results [] w = w
  returned func results (InModule frame ∷ below) w = w
  returned func results (InMain actions ∷ below) w = w
  returned func results (InImport import args actions end ∷ below) w = w

  pub delivered : (stack : List Activation) (results : List Val) → AreNested stack → Delivers stack results
  delivered [] results nested = tt
  delivered (InModule frame ∷ below) results nested =
      go (λ given. delivered below given nested) (at_end (with_results frame results))
    where
      go : ((given : List Val) → Delivers below given) → (e : AtEnd)
          → StepWalks false (opens below)
          (after_settling store counts (return_from e (with_results frame results) below (deliver below)))
      go rest Within = (nested, refl, refl)
      go rest (Gives given) = returned (with_results frame results).func given below (rest given)
      go rest TooFew = tt
  delivered (InMain [] ∷ below) results nested = tt
  delivered (InMain (action ∷ actions) ∷ below) results nested = (nested, refl, refl)
  delivered (InImport import args [] (Return value) ∷ InModule frame ∷ below) results nested =
      delivered (InModule frame ∷ below) (option_to_list value) nested.1
  delivered (InImport import args [] (Return value) ∷ below) results nested = absurd nested.0
  delivered (InImport import args [] EndsInTrap ∷ below) results nested = tt
  delivered (InImport import args (action ∷ actions) end ∷ below) results nested = (nested, refl, refl)

module _ (program : Program) where
  pub entered : (store : Store) (counts : List ℕ) (func : ℕ) (args : List Val) (stack : List Activation)
      → AreNested stack → StepWalks false (opens stack) (enter_function program.code store counts func args stack)
  entered store counts func args stack nested = go (signature program.code func) (definition program.code func)
    where
      go : (ty : Option FuncType) (d : Option Definition)
          → StepWalks false (opens stack) (enter_defined ty d store counts func args stack)
      go None d = tt
      go (Some ty) None = tt
      go (Some ty) (Some d) = delivered store counts (InModule (frame_of func ty d args) ∷ stack) [] nested

  called : (b : Bool) (store : Store) (counts : List ℕ) (func : ℕ) (args : List Val) (waiting : Frame)
      (below : List Activation) → AreNested below
      → StepWalks false (opens below) (call_function program b store counts func args (InModule waiting ∷ below))
  called false store counts func args waiting below nested =
      entered store counts func args (InModule waiting ∷ below) nested
  called true store counts func args waiting below nested =
      go (response_to program.answers func (slice_index counts func))
    where
      go : (o : Option Response)
          → StepWalks false (opens below) (answer_call o store counts func args (InModule waiting ∷ below))
      go None = tt
      go (Some response) =
          delivered store (slice_set counts func (slice_index counts func + 1))
          (InImport func args response.actions response.end ∷ InModule waiting ∷ below) [] (tt, nested)

  controlled : (config : Config) (frame : Frame) (below : List Activation) (control : Control) → AreNested below
      → StepWalks false (opens below) (after_control program config frame below control)
  controlled config frame below (Goes after next) nested =
      delivered after config.counts (InModule next ∷ below) [] nested
  controlled config frame below (Calls waiting func args) nested =
      called (nat_lt func program.code.imported) config.store config.counts func args waiting below nested
  controlled config frame below (Returns results) nested =
      returned config.store config.counts frame.func results below
      (delivered config.store config.counts below results nested)

  -- an instruction makes no top-level call
  pub instructed : (config : Config) (frame : Frame) (below : List Activation) (e : Execution) → AreNested below
      → StepWalks false (opens below) (after_instruction program config frame below e)
  instructed config frame below (Did operands results found control) nested =
      controlled config frame below control nested
  instructed config frame below (Traps kind operands found) nested = tt
  instructed config frame below NoRule nested = tt

  -- an action within the call of an import makes no top-level call
  pub acted_inside : (config : Config) (import : ℕ) (args : List Val) (actions : List Action) (end : ResponseEnd)
      (below : List Activation) (r : ActionResult) → AreNested (InImport import args actions end ∷ below)
      → StepWalks true (suc (opens below)) (after_action program config (InImport import args actions end ∷ below) r)
  acted_inside config import args actions end below (Changes store) nested =
      delivered store config.counts (InImport import args actions end ∷ below) [] nested
  acted_inside config import args actions end below (Enters func given) nested =
      entered config.store config.counts func given (InImport import args actions end ∷ below) nested
  acted_inside config import args actions end below (Fails kind) nested = tt
  acted_inside config import args actions end below Unfit nested = tt

-- ---- what a walk means

-- a run that does not go on has no more entries
abbrev pub IsAfter : Progress → List Entry → Type 0
IsAfter (Running config) later = Unit {0}
IsAfter at later = later ≡ []

-- the rest of a history from where a run goes on
abbrev pub rest_at : (number : ℕ) → Progress → List Entry → Option (List Entry)
rest_at number (Running config) later = rest_of later number (opens config.stack)
rest_at number at later = None

-- the activations from which a run goes on are nested
pub nested_after : (entries : List Entry) (host : Bool) (opened : ℕ) (config : Config)
    → Walks entries host opened (Running config) → AreNested config.stack
nested_after [] host opened config w = w.0
nested_after (HostCall func args ∷ entries) true (suc opened) config w = nested_after entries false (suc opened) config w
nested_after (HostCall func args ∷ entries) host opened config w = absurd w
nested_after (HostReturn func results ∷ entries) false opened config w = nested_after entries true opened config w
nested_after (HostReturn func results ∷ entries) true opened config w = absurd w
nested_after (ImportCall import args ∷ entries) false opened config w =
    nested_after entries true (suc opened) config w
nested_after (ImportCall import args ∷ entries) true opened config w = absurd w
nested_after (ImportReturn import results ∷ entries) true (suc opened) config w =
    nested_after entries false opened config w
nested_after (ImportReturn import results ∷ entries) host opened config w = absurd w
nested_after (HostTrap ∷ entries) true opened config w = nested_after entries false opened config w
nested_after (HostTrap ∷ entries) false opened config w = absurd w
nested_after (entry ∷ entries) host opened config w = nested_after entries host opened config w

-- the rest is that from where the run goes on
pub rest_walked : (number : ℕ) (entries : List Entry) (host : Bool) (opened : ℕ) (at : Progress) (later : List Entry)
    → Walks entries host opened at → IsAfter at later
    → rest_of (entries ++ later) number opened ≡ rest_at number at later
rest_walked number [] host opened (Running config) later w after = ap (rest_of later number) w.2
rest_walked number [] host opened (Finished outcome) later w after = ap (λ l. rest_of l number opened) after
rest_walked number [] host opened (Faulted kind) later w after = ap (λ l. rest_of l number opened) after
rest_walked number [] host opened Stuck later w after = ap (λ l. rest_of l number opened) after
rest_walked number (HostCall func args ∷ entries) true (suc opened) at later w after =
    rest_walked number entries false (suc opened) at later w after
rest_walked number (HostCall func args ∷ entries) host opened at later w after = absurd w
rest_walked number (HostReturn func results ∷ entries) false opened at later w after =
    rest_walked number entries true opened at later w after
rest_walked number (HostReturn func results ∷ entries) true opened at later w after = absurd w
rest_walked number (ImportCall import args ∷ entries) false opened at later w after =
    rest_walked number entries true (suc opened) at later w after
rest_walked number (ImportCall import args ∷ entries) true opened at later w after = absurd w
rest_walked number (ImportReturn import results ∷ entries) true (suc opened) at later w after =
    rest_walked number entries false opened at later w after
rest_walked number (ImportReturn import results ∷ entries) host opened at later w after = absurd w
rest_walked number (HostTrap ∷ entries) true opened at later w after =
    rest_walked number entries false opened at later w after
rest_walked number (HostTrap ∷ entries) false opened at later w after = absurd w
rest_walked number (entry ∷ entries) host opened at later w after =
    rest_walked number entries host opened at later w after

-- the search in the observations is that from where the run goes on
pub call_walked : (number : ℕ) (known : Known) (entries : List Entry) (host : Bool) (opened : ℕ) (config : Config)
    (later : List Observation) → Walks entries host opened (Running config)
    → call_from host number opened known (activity_observations entries ++ later)
    ≡ call_at number known (Running config) later
call_walked number known [] host opened config later w =
    ap (λ h. call_from h number opened known later) w.1
    ∙ ap (λ o. call_from (with_host config.stack) number o known later) w.2
call_walked number known (HostCall func args ∷ entries) true (suc opened) config later w =
    call_walked number known entries false (suc opened) config later w
call_walked number known (HostCall func args ∷ entries) host opened config later w = absurd w
call_walked number known (HostReturn func results ∷ entries) false opened config later w =
    begun number opened known Back (activity_observations entries ++ later)
    ∙ call_walked number known entries true opened config later w
call_walked number known (HostReturn func results ∷ entries) true opened config later w = absurd w
call_walked number known (ImportCall import args ∷ entries) false opened config later w =
    begun number opened known (Import import) (activity_observations entries ++ later)
    ∙ call_walked number known entries true (suc opened) config later w
call_walked number known (ImportCall import args ∷ entries) true opened config later w = absurd w
call_walked number known (ImportReturn import results ∷ entries) true (suc opened) config later w =
    call_walked number known entries false opened config later w
call_walked number known (ImportReturn import results ∷ entries) host opened config later w = absurd w
call_walked number known (HostTrap ∷ entries) true opened config later w =
    call_walked number known entries false opened config later w
call_walked number known (HostTrap ∷ entries) false opened config later w = absurd w
call_walked number known (entry ∷ entries) host opened config later w =
    call_walked number known entries host opened config later w
