-- The host's next action, if it has one: its step, and what the run goes on with after it.
use Rattle.std.proofs.Common.{◌≡◌, ℕ, suc, zero, ◌+◌, List, [], ◌∷◌, drop, Some, slice_get, refl, sym, ap, ◌∙◌, subst, arith}
use Rattle.std.proofs.lemmas.List.Elements.{All-head}
use Rattle.wasm_syntax.specs.declared.values.Val.{Val}
use Rattle.wasm_syntax.specs.declared.values.ValType.{ValType}
use Rattle.wasm_syntax.specs.declared.modules.Module.{Module}
use Rattle.host_script.specs.declared.scripts.Action.{Action}
use Rattle.host_script.specs.declared.scripts.ResponseEnd.{ResponseEnd}
use Rattle.host_script.specs.declared.scripts.Script.{Script}
use Rattle.host_script.specs.Fits.{FitsAction}
use Rattle.history_spec.specs.Action.{perform}
use Rattle.history_spec.specs.Code.{code_of}
use Rattle.history_spec.specs.Configuration.{Activation, InModule, InMain, InImport}
use Rattle.history_spec.specs.Settle.{settle}
use Rattle.history_spec.specs.Store.{Store}
use Rattle.history_spec.specs.Step.{Running, StepResult, step_result, after_action, after_settling, response_to, step}
use Rattle.history_spec.specs.Run.{program_of}
use Rattle.type_safety.specs.Heights.{Heights}
use Rattle.type_safety.specs.Stores.{func_count}
use Rattle.type_safety.specs.Values.{AreValues}
use Rattle.flat_steps.specs.Follows.{AwaitsHost}
use Rattle.wasm_interp.specs.Frames.{argument_of}
use Rattle.wasm_interp.specs.State.{IsWaiting, State, StandsFor}
use Rattle.wasm_interp.specs.Calls.{config_of}
use Rattle.host_play.specs.declared.play_state.Host.{Host}
use Rattle.host_play.specs.declared.play_state.Host.TheVariants as host
use Rattle.host_play.specs.declared.play_state.PlayState.{PlayState}
use Rattle.host_play.specs.HostParts.{BeforeHostStep}
use Rattle.host_play.specs.Hosts.{Plays, IsChosen, action_at, actions_in, after_next_action, below_of, top_of}

drop_at : {A : Type 0} (xs : List A) (i : ℕ) (x : A) → slice_get xs i ≡ Some x → drop i xs ≡ x ∷ drop (i + 1) xs
drop_at [] i x is = cc
drop_at (a ∷ xs) zero x is = let same : a ≡ x = cc in ap (λ b. b ∷ xs) same
drop_at (a ∷ xs) (suc i) x is =
    let more : suc i + 1 ≡ suc (i + 1) = omega arith in
    drop_at xs i x is ∙ ap (λ n. x ∷ drop n (a ∷ xs)) (sym more)

-- what holds if the host's next action is this one
pub record IsNext (m : Module) (heights : Heights) (script : Script) (counts : List ℕ) (playing : PlayState)
    (top : Host) (action : Action) (s : StepResult) : Type 0 where
  pub whole : List Activation
  pub left : List Activation
  pub params : List ValType
  pub args : List Val
  pub values : AreValues (func_count m) params args
  pub fits : FitsAction m params action
  pub each : (number : ℕ) (value : Val) → slice_get args number ≡ Some value
      → IsWaiting playing.machine.flat playing.machine.frames
      × (argument_of playing.machine.flat playing.machine.frames playing.machine.slots number ≡ Some value)
  pub same : s ≡ step_result [] (Running (config_of playing.machine whole counts))
  pub is_step : step (program_of m script) (config_of playing.machine whole counts) ≡ after_action (program_of m script)
      (config_of playing.machine whole counts) left (perform (code_of m) playing.machine.store args action)
  pub stands : StandsFor m heights left playing.machine
  pub hosts : Plays script left (after_next_action top ∷ below_of playing.hosts)
  pub awaits : AwaitsHost left

module _ (m : Module) (heights : Heights) (script : Script) (counts : List ℕ)
    (main_law : (action : Action) (actions : List Action) (below : List Activation) (machine : State) → StandsFor m
    heights (InMain (action ∷ actions) ∷ below) machine → StandsFor m heights (InMain actions ∷ below) machine)
    (response_law : (import : ℕ) (args : List Val) (action : Action) (actions : List Action) («end» : ResponseEnd)
    (below : List Activation) (machine : State)
    → StandsFor m heights (InImport import args (action ∷ actions) «end» ∷ below) machine
    → StandsFor m heights (InImport import args actions «end» ∷ below) machine)
    (waits_law : (import : ℕ) (args : List Val) (actions : List Action) («end» : ResponseEnd) (below : List Activation)
    (machine : State) → StandsFor m heights (InImport import args actions «end» ∷ below) machine
    → IsWaiting machine.flat machine.frames)
    (argument_law : (import : ℕ) (args : List Val) (actions : List Action) («end» : ResponseEnd)
    (below : List Activation) (machine : State) (number : ℕ)
    → StandsFor m heights (InImport import args actions «end» ∷ below) machine
    → argument_of machine.flat machine.frames machine.slots number ≡ slice_get args number)
    (playing : PlayState) (action : Action) (s : StepResult) where
  opened_main : (actions : List Action) (next : ℕ) (below : List Activation) → actions ≡ drop next script.main → slice_get script.main next ≡ Some action
      → below ≡ [] → below_of playing.hosts ≡ [] → StandsFor m heights (InMain actions ∷ below) playing.machine
      → s ≡ after_settling playing.machine.store counts (settle (InMain actions ∷ below)) → IsNext m heights script counts playing (host.Main next) action s
  opened_main actions next below is there alone last stands same =
      let rest : List Action = drop (next + 1) script.main in
      let front : actions ≡ action ∷ rest = is ∙ drop_at script.main next action there in
      let opened : StandsFor m heights (InMain (action ∷ rest) ∷ below) playing.machine =
      subst (λ a. StandsFor m heights (InMain a ∷ below) playing.machine) front stands in
      record {
        whole = InMain (action ∷ rest) ∷ below;
        left = InMain rest ∷ below;
        params = [];
        args = [];
        values = tt;
        fits = All-head (FitsAction m []) action rest opened.holds.typed.0;
        each = λ number value no. cc;
        same = same ∙ ap (λ a. after_settling playing.machine.store counts (settle (InMain a ∷ below))) front;
        is_step = refl;
        stands = main_law action rest below playing.machine opened;
        hosts = (refl, alone, last);
        awaits = tt;
      }

  opened_answer : (import : ℕ) (args : List Val) (actions : List Action) («end» : ResponseEnd) (called number next : ℕ)
      (below : List Activation) → IsChosen script import actions «end» called number next
      → slice_get (actions_in (response_to script.imports called number)) next ≡ Some action
      → Plays script (InImport import args actions «end» ∷ below) (host.Answer called number next ∷ below_of playing.hosts)
      → StandsFor m heights (InImport import args actions «end» ∷ below) playing.machine
      → s ≡ after_settling playing.machine.store counts (settle (InImport import args actions «end» ∷ below))
      → IsNext m heights script counts playing (host.Answer called number next) action s
  opened_answer import args actions «end» called number next below chosen there plays stands same =
      let found : response_to script.imports called number ≡ Some chosen.response = ap (λ i. response_to script.imports i number) chosen.same ∙ chosen.chosen in
      let at : slice_get chosen.response.actions next ≡ Some action = subst (λ r. slice_get (actions_in r) next ≡ Some action) found there in
      let rest : List Action = drop (next + 1) chosen.response.actions in
      let front : actions ≡ action ∷ rest = chosen.left ∙ drop_at chosen.response.actions next action at in
      let opened : StandsFor m heights (InImport import args (action ∷ rest) «end» ∷ below) playing.machine =
      subst (λ a. StandsFor m heights (InImport import args a «end» ∷ below) playing.machine) front stands in
      record {
        whole = InImport import args (action ∷ rest) «end» ∷ below;
        left = InImport import args rest «end» ∷ below;
        params = opened.holds.typed.0.params;
        args = args;
        values = opened.holds.typed.2;
        fits = All-head (FitsAction m opened.holds.typed.0.params) action rest opened.holds.typed.3;
        each = λ n value is. (
          waits_law import args (action ∷ rest) «end» below playing.machine opened,
          argument_law import args (action ∷ rest) «end» below playing.machine n opened ∙ is,
        );
        same = same ∙ ap (λ a. after_settling playing.machine.store counts (settle (InImport import args a «end» ∷ below))) front;
        is_step = refl;
        stands = response_law import args action rest «end» below playing.machine opened;
        hosts = (record { same = chosen.same; response = chosen.response; chosen = chosen.chosen; left = refl; ends = chosen.ends }, plays.1, plays.2);
        awaits = tt;
      }

  pub opened : (stack : List Activation) (hosts : List Host) (top : Host) → playing.hosts ≡ hosts → AwaitsHost stack
      → StandsFor m heights stack playing.machine → Plays script stack hosts
      → s ≡ after_settling playing.machine.store counts (settle stack) → top_of hosts ≡ Some top
      → action_at script top ≡ Some action → IsNext m heights script counts playing top action s
  opened [] hosts top are awaits stands plays same is there = absurd awaits
  opened (InModule frame ∷ below) hosts top are awaits stands plays same is there = absurd awaits
  opened (InMain actions ∷ below) [] top are awaits stands plays same is there = absurd plays
  opened (InMain actions ∷ below) (host.Answer called number next ∷ hosts) top are awaits stands plays same is there = absurd plays.0
  opened (InMain actions ∷ below) (host.Main next ∷ hosts) top are awaits stands plays same is there =
      let top_is : host.Main next ≡ top = cc in
      subst (λ t. IsNext m heights script counts playing t action s) top_is
      (opened_main actions next below plays.0 (ap (action_at script) top_is ∙ there) plays.1 (ap below_of are ∙ plays.2) stands same)
  opened (InImport import args actions «end» ∷ below) [] top are awaits stands plays same is there = absurd plays
  opened (InImport import args actions «end» ∷ below) (host.Main next ∷ hosts) top are awaits stands plays same is there = absurd plays.0
  opened (InImport import args actions «end» ∷ below) (host.Answer called number next ∷ hosts) top are awaits stands plays same is there =
      let top_is : host.Answer called number next ≡ top = cc in
      subst (λ t. IsNext m heights script counts playing t action s) top_is
      (opened_answer import args actions «end» called number next below plays.0 (ap (action_at script) top_is ∙ there)
      (subst (λ hs. Plays script (InImport import args actions «end» ∷ below) (host.Answer called number next ∷ hs))
      (sym (ap below_of are)) plays) stands same)

-- the run before that action
module _ (script : Script) (counts : List ℕ) (store : Store) (action : Action) (s : StepResult) where
  stands_main : (actions : List Action) (next : ℕ) (below : List Activation) → actions ≡ drop next script.main → slice_get script.main next ≡ Some action
      → s ≡ after_settling store counts (settle (InMain actions ∷ below)) → BeforeHostStep s
  stands_main actions next below is there same =
      let rest : List Action = drop (next + 1) script.main in
      let front : actions ≡ action ∷ rest = is ∙ drop_at script.main next action there in
      record {
        config = record { store = store; stack = InMain (action ∷ rest) ∷ below; counts = counts };
        standing = same ∙ ap (λ a. after_settling store counts (settle (InMain a ∷ below))) front;
        awaits = tt;
      }

  stands_answer : (import : ℕ) (args : List Val) (actions : List Action) («end» : ResponseEnd) (called number next : ℕ)
      (below : List Activation) → IsChosen script import actions «end» called number next
      → slice_get (actions_in (response_to script.imports called number)) next ≡ Some action
      → s ≡ after_settling store counts (settle (InImport import args actions «end» ∷ below)) → BeforeHostStep s
  stands_answer import args actions «end» called number next below chosen there same =
      let found : response_to script.imports called number ≡ Some chosen.response = ap (λ i. response_to script.imports i number) chosen.same ∙ chosen.chosen in
      let at : slice_get chosen.response.actions next ≡ Some action = subst (λ r. slice_get (actions_in r) next ≡ Some action) found there in
      let rest : List Action = drop (next + 1) chosen.response.actions in
      let front : actions ≡ action ∷ rest = chosen.left ∙ drop_at chosen.response.actions next action at in
      record {
        config = record { store = store; stack = InImport import args (action ∷ rest) «end» ∷ below; counts = counts };
        standing = same ∙ ap (λ a. after_settling store counts (settle (InImport import args a «end» ∷ below))) front;
        awaits = tt;
      }

  pub action_stands : (stack : List Activation) (hosts : List Host) (top : Host) → AwaitsHost stack
      → Plays script stack hosts → s ≡ after_settling store counts (settle stack)
      → top_of hosts ≡ Some top → action_at script top ≡ Some action → BeforeHostStep s
  action_stands [] hosts top awaits plays same is there = absurd awaits
  action_stands (InModule frame ∷ below) hosts top awaits plays same is there = absurd awaits
  action_stands (InMain actions ∷ below) [] top awaits plays same is there = absurd plays
  action_stands (InMain actions ∷ below) (host.Answer called number next ∷ hosts) top awaits plays same is there = absurd plays.0
  action_stands (InMain actions ∷ below) (host.Main next ∷ hosts) top awaits plays same is there =
      let top_is : host.Main next ≡ top = cc in
      stands_main actions next below plays.0 (ap (action_at script) top_is ∙ there) same
  action_stands (InImport import args actions «end» ∷ below) [] top awaits plays same is there = absurd plays
  action_stands (InImport import args actions «end» ∷ below) (host.Main next ∷ hosts) top awaits plays same is there = absurd plays.0
  action_stands (InImport import args actions «end» ∷ below) (host.Answer called number next ∷ hosts) top awaits plays same is there =
      let top_is : host.Answer called number next ≡ top = cc in
      stands_answer import args actions «end» called number next below plays.0 (ap (action_at script) top_is ∙ there) same
