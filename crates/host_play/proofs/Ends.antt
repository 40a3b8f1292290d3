-- The host has nothing left to do: its work is over, or it ends the call that it answers.
use Rattle.std.proofs.Common.{◌≡◌, ℕ, suc, zero, List, [], ◌∷◌, drop, Option, Some, None, slice_get, refl, sym, ap, ◌∙◌, subst}
use Rattle.std.specs.Option.{option_to_list}
use Rattle.wasm_syntax.specs.declared.values.Val.{Val}
use Rattle.wasm_syntax.specs.declared.values.ValType.{ValType}
use Rattle.wasm_syntax.specs.declared.signatures.FuncType.{FuncType}
use Rattle.wasm_syntax.specs.declared.modules.Module.{Module}
use Rattle.host_script.specs.declared.scripts.Action.{Action}
use Rattle.host_script.specs.declared.scripts.Response.{Response}
use Rattle.host_script.specs.declared.scripts.ResponseEnd.{ResponseEnd}
use Rattle.host_script.specs.declared.scripts.ResponseEnd.TheVariants.{Return, Trap}
use Rattle.host_script.specs.declared.scripts.Script.{Script}
use Rattle.host_script.specs.Fits.{AreOfTypes, FitsEnd}
use Rattle.base.specs.declared.outcomes.Outcome.TheVariants.{Ended, HostTrapped}
use Rattle.history_spec.specs.declared.entries.Entry.TheVariants.{HostTrap, ImportReturn}
use Rattle.history_spec.specs.Code.{code_of, signature}
use Rattle.history_spec.specs.Configuration.{Activation, Frame, InModule, InMain, InImport}
use Rattle.history_spec.specs.Settle.{settle}
use Rattle.history_spec.specs.Step.{Finished, StepResult, step_result, after_entries, after_settling, response_to}
use Rattle.type_safety.specs.Heights.{Heights}
use Rattle.type_safety.specs.Stores.{func_count}
use Rattle.type_safety.specs.Values.{AreValues}
use Rattle.flat_steps.specs.Follows.{AwaitsHost}
use Rattle.wasm_interp.specs.Calls.{ResumesRun}
use Rattle.wasm_interp.specs.State.{StandsFor}
use Rattle.host_play.specs.declared.play_state.Host.{Host}
use Rattle.host_play.specs.declared.play_state.Host.TheVariants as host
use Rattle.host_play.specs.declared.play_state.Stand.TheVariants as at
use Rattle.host_play.specs.declared.play_state.PlayState.{PlayState}
use Rattle.host_play.specs.Hosts.{Plays, IsCaller, action_at, actions_in, below_of, top_of}
use Rattle.host_play.proofs.Arrivals.{stands_then}
use Rattle.host_play.specs.Stands.{Leads, StandsAt}

drop_past : {A : Type 0} (xs : List A) (i : ℕ) → slice_get xs i ≡ None → drop i xs ≡ []
drop_past [] zero is = refl
drop_past [] (suc i) is = refl
drop_past (x ∷ xs) zero is = cc
drop_past (x ∷ xs) (suc i) is = drop_past xs i is

-- the activation of the host that is at its end
pub record Done (m : Module) (heights : Heights) (script : Script) (counts : List ℕ) (playing : PlayState) (top : Host) (s : StepResult) : Type 0 where
  pub import : ℕ
  pub number : ℕ
  pub next : ℕ
  pub response : Response
  pub ty : FuncType
  pub args : List Val
  pub frame : Frame
  pub below : List Activation
  pub is_top : top ≡ host.Answer import number next
  pub chosen : response_to script.imports import number ≡ Some response
  pub has_type : signature (code_of m) import ≡ Some ty
  pub fits : (value : Option Val) → response.«end» ≡ Return value → AreOfTypes ty.results (option_to_list value)
  pub stands : StandsFor m heights (InImport import args [] response.«end» ∷ InModule frame ∷ below) playing.machine
  pub hosts : Plays script below (below_of playing.hosts)
  pub same : s ≡ after_settling playing.machine.store counts (settle (InImport import args [] response.«end» ∷ InModule frame ∷ below))

module _ (m : Module) (heights : Heights) (script : Script) (counts : List ℕ) (playing : PlayState) (s : StepResult) where
  pub main_done : (stack : List Activation) (hosts : List Host) (next : ℕ) → AwaitsHost stack → Plays script stack hosts
      → s ≡ after_settling playing.machine.store counts (settle stack)
      → top_of hosts ≡ Some (host.Main next) → action_at script (host.Main next) ≡ None → s ≡ step_result [] (Finished Ended)
  main_done [] hosts next awaits plays same is none = absurd awaits
  main_done (InModule frame ∷ below) hosts next awaits plays same is none = absurd awaits
  main_done (InMain actions ∷ below) [] next awaits plays same is none = absurd plays
  main_done (InMain actions ∷ below) (host.Answer called number n ∷ hosts) next awaits plays same is none = absurd plays.0
  main_done (InMain actions ∷ below) (host.Main n ∷ hosts) next awaits plays same is none =
      let n_is : n ≡ next = cc in
      let nothing : actions ≡ [] = plays.0 ∙ drop_past script.main n (ap (slice_get script.main) n_is ∙ none) in
      same ∙ ap (λ a. after_settling playing.machine.store counts (settle (InMain a ∷ below))) nothing
  main_done (InImport import args actions «end» ∷ below) [] next awaits plays same is none = absurd plays
  main_done (InImport import args actions «end» ∷ below) (host.Main n ∷ hosts) next awaits plays same is none = absurd plays.0
  main_done (InImport import args actions «end» ∷ below) (host.Answer called number n ∷ hosts) next awaits plays same is none = cc

  done_called : (stack : List Activation) (i : ℕ) (args : List Val) (actions : List Action) («end» : ResponseEnd) (called number next : ℕ)
      → IsCaller stack → Plays script (InImport i args actions «end» ∷ stack) (host.Answer called number next ∷ below_of playing.hosts)
      → StandsFor m heights (InImport i args actions «end» ∷ stack) playing.machine
      → s ≡ after_settling playing.machine.store counts (settle (InImport i args actions «end» ∷ stack))
      → action_at script (host.Answer called number next) ≡ None → Done m heights script counts playing (host.Answer called number next) s
  done_called [] i args actions «end» called number next caller plays stands same none = absurd caller
  done_called (InMain others ∷ below) i args actions «end» called number next caller plays stands same none = absurd caller
  done_called (InImport j other more ends ∷ below) i args actions «end» called number next caller plays stands same none = absurd caller
  done_called (InModule frame ∷ below) i args actions «end» called number next caller plays stands same none =
      let chosen = plays.0 in
      let found : response_to script.imports called number ≡ Some chosen.response = ap (λ x. response_to script.imports x number) chosen.same ∙ chosen.chosen in
      let at : slice_get chosen.response.actions next ≡ None = subst (λ r. slice_get (actions_in r) next ≡ None) found none in
      let nothing : actions ≡ [] = chosen.left ∙ drop_past chosen.response.actions next at in
      let here : StandsFor m heights (InImport called args [] chosen.response.«end» ∷ InModule frame ∷ below) playing.machine =
      subst (λ x. StandsFor m heights (InImport x args [] chosen.response.«end» ∷ InModule frame ∷ below) playing.machine) (sym chosen.same)
      (subst (λ e. StandsFor m heights (InImport i args [] e ∷ InModule frame ∷ below) playing.machine) chosen.ends
      (subst (λ a. StandsFor m heights (InImport i args a «end» ∷ InModule frame ∷ below) playing.machine) nothing stands)) in
      record {
        import = called;
        number = number;
        next = next;
        response = chosen.response;
        ty = here.holds.typed.0;
        args = args;
        frame = frame;
        below = below;
        is_top = refl;
        chosen = found;
        has_type = here.holds.typed.1.has_type;
        fits = λ value is. subst (FitsEnd here.holds.typed.0.results) is here.holds.typed.4;
        stands = here;
        hosts = plays.2;
        same =
            same
            ∙ ap (λ a. after_settling playing.machine.store counts (settle (InImport i args a «end» ∷ InModule frame ∷ below))) nothing
            ∙ ap (λ e. after_settling playing.machine.store counts (settle (InImport i args [] e ∷ InModule frame ∷ below))) chosen.ends
            ∙ ap (λ x. after_settling playing.machine.store counts
            (settle (InImport x args [] chosen.response.«end» ∷ InModule frame ∷ below))) (sym chosen.same);
      }

  pub answer_done : (stack : List Activation) (hosts : List Host) (import number next : ℕ) → playing.hosts ≡ hosts
      → AwaitsHost stack → StandsFor m heights stack playing.machine → Plays script stack hosts
      → s ≡ after_settling playing.machine.store counts (settle stack)
      → top_of hosts ≡ Some (host.Answer import number next) → action_at script (host.Answer import number next) ≡ None
      → Done m heights script counts playing (host.Answer import number next) s
  answer_done [] hosts import number next are awaits stands plays same is none = absurd awaits
  answer_done (InModule frame ∷ below) hosts import number next are awaits stands plays same is none = absurd awaits
  answer_done (InMain actions ∷ below) [] import number next are awaits stands plays same is none = absurd plays
  answer_done (InMain actions ∷ below) (host.Answer called n nx ∷ hosts) import number next are awaits stands plays same is none = absurd plays.0
  answer_done (InMain actions ∷ below) (host.Main nx ∷ hosts) import number next are awaits stands plays same is none = cc
  answer_done (InImport i args actions «end» ∷ below) [] import number next are awaits stands plays same is none = absurd plays
  answer_done (InImport i args actions «end» ∷ below) (host.Main nx ∷ hosts) import number next are awaits stands plays same is none = absurd plays.0
  answer_done (InImport i args actions «end» ∷ below) (host.Answer called n nx ∷ hosts) import number next are awaits stands plays same is none =
      let top_is : host.Answer called n nx ≡ host.Answer import number next = cc in
      subst (λ t. Done m heights script counts playing t s) top_is
      (done_called below i args actions «end» called n nx plays.1
      (subst (λ hs. Plays script (InImport i args actions «end» ∷ below) (host.Answer called n nx ∷ hs))
      (sym (ap below_of are)) plays) stands same (ap (action_at script) top_is ∙ none))

-- the host is at the end of what it does by this response
pub record Answered (m : Module) (script : Script) (s : StepResult) (playing : PlayState) (import : ℕ) (top : Host)
    («end» : ResponseEnd) (standing : StandsAt m script at.Host playing s) : Type 0 where
  pub done : Done m standing.heights script standing.counts playing top s
  pub same_import : import ≡ done.import
  pub same_end : done.response.«end» ≡ «end»

pub answered : (m : Module) (script : Script) (s : StepResult) (playing : PlayState) (top : Host)
    (import number next : ℕ) (response : Response) (standing : StandsAt m script at.Host playing s)
    → top ≡ host.Answer import number next → top_of playing.hosts ≡ Some top → action_at script top ≡ None
    → response_to script.imports import number ≡ Some response
    → Answered m script s playing import (host.Answer import number next) response.«end» standing
answered m script s playing top import number next response standing is top_is none chosen =
    let d : Done m standing.heights script standing.counts playing (host.Answer import number next) s =
    answer_done m standing.heights script standing.counts playing s standing.goes_on.activations playing.hosts import
    number next refl standing.goes_on.awaits standing.goes_on.stack.machine standing.goes_on.stack.hosts
    standing.goes_on.same (top_is ∙ ap (λ t. Some t) is) (ap (action_at script) (sym is) ∙ none) in
    let same : import ≡ d.import = let all : host.Answer import number next ≡ host.Answer d.import d.number d.next = d.is_top in cc in
    let numbers : number ≡ d.number = let all : host.Answer import number next ≡ host.Answer d.import d.number d.next = d.is_top in cc in
    let found : Some response ≡ Some d.response = sym chosen ∙ ap (λ i. response_to script.imports i number) same
    ∙ ap (response_to script.imports d.import) numbers ∙ d.chosen in
    let responses : response ≡ d.response = cc in
    record { done = d; same_import = same; same_end = ap (λ (r : Response). r.«end») (sym responses) }

-- ---- what the run goes on with

pub main_leads : (m : Module) (script : Script) (s : StepResult) (next : ℕ) (playing : PlayState)
    → StandsAt m script at.Host playing s → top_of playing.hosts ≡ Some (host.Main next)
    → action_at script (host.Main next) ≡ None
    → Leads m script s [] (at.Over Ended) playing
main_leads m script s next playing standing is none = record {
  next = step_result [] (Finished Ended);
  same =
      main_done m standing.heights script standing.counts playing s standing.goes_on.activations playing.hosts next
      standing.goes_on.awaits standing.goes_on.stack.hosts standing.goes_on.same is none;
  standing = stands_then m script at.Host playing s standing (at.Over Ended) playing (step_result [] (Finished Ended)) refl refl refl;
}

module _ (m : Module) (script : Script) (s : StepResult) (playing : PlayState) (top : Host)
    (standing : StandsAt m script at.Host playing s)
    (d : Done m standing.heights script standing.counts playing top s) where
  pub trap_leads : d.response.«end» ≡ Trap → Leads m script s (HostTrap ∷ []) (at.Over HostTrapped) playing
  trap_leads is = record {
    next = step_result [] (Finished HostTrapped);
    same = d.same ∙ ap (λ e. after_settling playing.machine.store standing.counts (settle (InImport d.import d.args [] e ∷ InModule d.frame ∷ d.below))) is;
    standing = stands_then m script at.Host playing s standing (at.Over HostTrapped) playing (step_result [] (Finished HostTrapped)) refl refl refl;
  }

  pub return_leads : (import : ℕ) (value : Option Val) (new_playing : PlayState) → import ≡ d.import
      → ((m : Module) (types : List ValType) (values : List Val) → AreOfTypes types values → AreValues (func_count m) types values)
      → d.response.«end» ≡ Return value → ResumesRun playing.machine value new_playing.machine
      → new_playing.functions ≡ playing.functions → new_playing.counts.items ≡ playing.counts.items → new_playing.hosts ≡ below_of playing.hosts
      → Leads m script s (ImportReturn import (option_to_list value) ∷ []) at.Module new_playing
  return_leads import value new_playing same_import results_law is resumes same_functions same_counts same_hosts =
      let r = resumes m standing.heights d.import d.args [] d.response.«end» d.frame d.below d.ty d.stands d.has_type
      (results_law m d.ty.results (option_to_list value) (d.fits value is)) in
      let next : StepResult = after_settling playing.machine.store standing.counts (settle (InModule r.next ∷ d.below)) in
      subst (λ i. Leads m script s (ImportReturn i (option_to_list value) ∷ []) at.Module new_playing) (sym same_import)
      (record {
        next = next;
        same =
            d.same
            ∙ ap (λ e. after_settling playing.machine.store standing.counts (settle (InImport d.import d.args [] e ∷ InModule d.frame ∷ d.below))) is
            ∙ ap (λ q. after_entries (ImportReturn d.import (option_to_list value) ∷ []) (after_settling playing.machine.store standing.counts q)) r.same;
        standing = stands_then m script at.Host playing s standing at.Module new_playing next same_functions same_counts (record {
          frame = r.next;
          below = d.below;
          stack = record { machine = r.stands; hosts = subst (Plays script d.below) (sym same_hosts) d.hosts };
          same = ap (λ st. after_settling st standing.counts (settle (InModule r.next ∷ d.below))) (sym r.store);
        });
      })
