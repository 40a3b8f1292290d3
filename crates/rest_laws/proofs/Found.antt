-- Where a run makes a top-level call: only the host's own actions are on the stack, and the rest of the history and of
-- the observations are those of the run from there on.
use Rattle.std.proofs.Common.{◌≡◌, ℕ, zero, suc, ◌+◌, List, [], ◌∷◌, ◌++◌, Some, Bool, true, false, refl, sym, ap, ◌∙◌, subst, arith}
use Rattle.base.proofs.Options.{none_some}
use Rattle.std.proofs.lemmas.Option.{none-some, same_Some}
use Rattle.wasm_syntax.specs.declared.values.Val.{Val}
use Rattle.host_script.specs.declared.scripts.Action.{Action}
use Rattle.base.specs.declared.outcomes.Outcome.{Outcome}
use Rattle.history_spec.specs.declared.entries.Entry.{Entry}
use Rattle.history_spec.specs.declared.entries.FaultKind.{FaultKind}
use Rattle.history_spec.specs.Store.{Store}
use Rattle.history_spec.specs.Configuration.{Activation, InModule, InMain, InImport, Config}
use Rattle.history_spec.specs.Instruction.{execute}
use Rattle.history_spec.specs.Action.{ActionResult, Changes, Enters, Fails, Unfit, perform}
use Rattle.history_spec.specs.Step.{Program, Progress, Running, Finished, Faulted, Stuck, StepResult, step_result, enter_function, after_action, step}
use Rattle.history_spec.specs.Run.{all_one, steps}
use Rattle.record_replay_spec.specs.Observations.{Observation, nest_observations, stack_observations, activity_observations, observations}
use Rattle.record_replay_spec.specs.Known.{Known, known_after_all}
use Rattle.tape_laws.specs.RealReads.{AreNested}
use Rattle.rest_spec.specs.Rests.{rest_of}
use Rattle.tape_laws.proofs.KeptInRuns.{known_after_both, known_after_activities}
use Rattle.rest_laws.proofs.Places.{opens, with_host, call_after, call_from, call_at, passed}
use Rattle.rest_laws.proofs.StoreItems.{of_store}
use Rattle.rest_laws.proofs.Walks.{StepWalks, IsAfter, nested_after, rest_walked, call_walked, delivered, entered, instructed, acted_inside}

-- after some of a number of steps only the host's own actions are on the stack, and this is the rest of the history; the
-- search in the observations finds what is known after those steps, and the observations of the steps that are left
pub record IsFound (program : Program) (number count : ℕ) (at : Progress) (rest : List Entry) : Type 0 where
  pub before : ℕ
  pub later : ℕ
  pub all : count ≡ before + later
  pub config : Config
  pub reached : (steps program all_one before at).at ≡ Running config
  pub action : Action
  pub actions : List Action
  pub alone : config.stack ≡ InMain (action ∷ actions) ∷ []
  pub is : rest ≡ (steps program all_one later (Running config)).history
  pub seen : (known : Known) → call_at number known at (observations program count at)
      ≡ Some (record {
        known = known_after_all known (observations program before at);
        later = observations program later (Running config);
      })

-- the same after a step, with the search from before the step's entries
pub record IsFoundAfter (program : Program) (number k : ℕ) (host : Bool) (opened : ℕ) (s : StepResult)
    (rest : List Entry) : Type 0 where
  pub found : IsFound program number k s.next rest
  pub seen : (known : Known)
      → call_from host number opened known (activity_observations s.entries ++ observations program k s.next)
      ≡ call_at number known s.next (observations program k s.next)

module _ (program : Program) where
  -- from each configuration with a number of steps left
  abbrev pub Finds : ℕ → List Entry → Type 0
  Finds k rest =
      (number : ℕ) (config : Config) → AreNested config.stack
      → rest_of (steps program all_one k (Running config)).history number (opens config.stack) ≡ Some rest
      → IsFound program number k (Running config) rest

  -- a run that is over has no more entries
  finished_after : (k : ℕ) (outcome : Outcome) → IsAfter (Finished outcome) (steps program all_one k (Finished outcome)).history
  finished_after zero outcome = refl
  finished_after (suc k) outcome = refl

  faulted_after : (k : ℕ) (kind : FaultKind) → IsAfter (Faulted kind) (steps program all_one k (Faulted kind)).history
  faulted_after zero kind = refl
  faulted_after (suc k) kind = refl

  stuck_after : (k : ℕ) → IsAfter Stuck (steps program all_one k Stuck).history
  stuck_after zero = refl
  stuck_after (suc k) = refl

  -- after a step that makes no top-level call
  pub goes_on : (k number : ℕ) (host : Bool) (opened : ℕ) (s : StepResult) (rest : List Entry)
      → StepWalks host opened s → Finds k rest
      → rest_of (s.entries ++ (steps program all_one k s.next).history) number opened ≡ Some rest
      → IsFoundAfter program number k host opened s rest
  goes_on k number host opened s rest walks finds h = go s.next walks h
    where
      go : (at : Progress) → StepWalks host opened (step_result s.entries at)
          → rest_of (s.entries ++ (steps program all_one k at).history) number opened ≡ Some rest
          → IsFoundAfter program number k host opened (step_result s.entries at) rest
      go (Running config) w h =
          let now = (steps program all_one k (Running config)).history in
          let same = rest_walked number s.entries host opened (Running config) now w tt in
          record {
            found = finds number config (nested_after s.entries host opened config w) (sym same ∙ h);
            seen = λ known.
                call_walked number known s.entries host opened config (observations program k (Running config)) w;
          }
      go (Finished outcome) w h =
          absurd
          (none_some _ rest
          (rest_walked number s.entries host opened (Finished outcome) _ w (finished_after k outcome)) h)
      go (Faulted kind) w h =
          absurd
          (none_some _ rest (rest_walked number s.entries host opened (Faulted kind) _ w (faulted_after k kind)) h)
      go Stuck w h =
          absurd (none_some _ rest (rest_walked number s.entries host opened Stuck _ w (stuck_after k)) h)

  -- with a step in front
  one_more : (k number next : ℕ) (config : Config) (rest : List Entry)
      → IsFound program next k (step program config).next rest
      → ((known : Known) → call_at number known (Running config) (observations program (suc k) (Running config))
      ≡ call_at next (known_after_all known (stack_observations config.store config.stack)) (step program config).next
      (observations program k (step program config).next))
      → IsFound program number (suc k) (Running config) rest
  one_more k number next config rest f link =
      let all = f.all in
      let items = stack_observations config.store config.stack in
      let s = step program config in
      let front = observations program f.before s.next in
      record {
        before = suc f.before;
        later = f.later;
        all = omega (arith, all);
        config = f.config;
        reached = f.reached;
        action = f.action;
        actions = f.actions;
        alone = f.alone;
        is = f.is;
        seen = λ known.
            link known ∙ f.seen (known_after_all known items)
            ∙ ap (λ after. Some (record { known = after; later = observations program f.later (Running f.config) }))
            (sym
            (known_after_both known items (activity_observations s.entries ++ front)
            ∙ known_after_activities (known_after_all known items) s.entries front));
      }

  module _ (k : ℕ) (rest : List Entry) (finds : Finds k rest) (store : Store) (counts : List ℕ) where
    abbrev here : List Activation → Config
    here stack = record { store = store; stack = stack; counts = counts }

    -- a step that makes no top-level call
    by_step : (number : ℕ) (stack : List Activation)
        → ((known : Known) (later : List Observation)
        → call_from (with_host stack) number (opens stack) known (stack_observations store stack ++ later)
        ≡ call_from (with_host stack) number (opens stack) (known_after_all known (stack_observations store stack))
        later)
        → StepWalks (with_host stack) (opens stack) (step program (here stack))
        → rest_of (steps program all_one (suc k) (Running (here stack))).history number (opens stack) ≡ Some rest
        → IsFound program number (suc k) (Running (here stack)) rest
    by_step number stack skips walks h =
        let s = step program (here stack) in
        let found = goes_on k number (with_host stack) (opens stack) s rest walks finds h in
        one_more k number number (here stack) rest found.found
        (λ known.
        skips known (activity_observations s.entries ++ observations program k s.next)
        ∙ found.seen (known_after_all known (stack_observations store stack)))

    -- ---- an action of the host's own work

    module _ (action : Action) (actions : List Action) where
      abbrev now : Config
      now = here (InMain (action ∷ actions) ∷ [])

      abbrev acted : ActionResult → StepResult
      acted r = after_action program now (InMain actions ∷ []) r

      abbrev history_of : ActionResult → List Entry
      history_of r = (acted r).entries ++ (steps program all_one k (acted r).next).history

      abbrev seen_of : ActionResult → List Observation
      seen_of r = activity_observations (acted r).entries ++ observations program k (acted r).next

      -- after an action that is not the call that is looked for
      after : (number next : ℕ) (r : ActionResult) → perform program.code store [] action ≡ r
          → IsFound program next k (acted r).next rest
          → ((known : Known) → call_after number 0 known (seen_of r)
          ≡ call_at next known (acted r).next (observations program k (acted r).next))
          → IsFound program number (suc k) (Running now) rest
      after number next r e found seen =
          one_more k number next now rest (subst (λ r. IsFound program next k (acted r).next rest) (sym e) found)
          (subst
          (λ r. (known : Known) → call_after number 0 known (seen_of r)
          ≡ call_at next known (acted r).next (observations program k (acted r).next)) (sym e) seen)

      -- a call, by its number
      calls : (number func : ℕ) (args : List Val) → perform program.code store [] action ≡ Enters func args
          → rest_of (history_of (Enters func args)) number 0 ≡ Some rest
          → IsFound program number (suc k) (Running now) rest
      calls zero func args e h =
          record {
            before = 0;
            later = suc k;
            all = omega arith;
            config = now;
            reached = refl;
            action = action;
            actions = actions;
            alone = refl;
            is = sym (same_Some (history_of (Enters func args)) rest h) ∙ sym (ap history_of e);
            seen = λ known.
                subst
                (λ r. call_after 0 0 known (seen_of r) ≡ Some (record { known = known; later = seen_of r })) (sym e)
                refl;
          }
      calls (suc number) func args e h =
          let found = goes_on k number false 0
          (enter_function program.code store counts func args (InMain actions ∷ [])) rest
          (entered program store counts func args (InMain actions ∷ []) refl) finds h in
          after (suc number) number (Enters func args) e found.found found.seen

      acts : (number : ℕ) (r : ActionResult) → perform program.code store [] action ≡ r
          → rest_of (history_of r) number 0 ≡ Some rest
          → IsFound program number (suc k) (Running now) rest
      acts number (Changes next) e h =
          let found = goes_on k number true 0 (acted (Changes next)) rest
          (delivered next counts (InMain actions ∷ []) [] refl) finds h in
          after number number (Changes next) e found.found found.seen
      acts number (Enters func args) e h = calls number func args e h
      acts number (Fails kind) e h =
          let found = goes_on k number true 0 (acted (Fails kind)) rest tt finds h in
          after number number (Fails kind) e found.found found.seen
      acts number Unfit e h =
          let found = goes_on k number true 0 (acted Unfit) rest tt finds h in
          after number number Unfit e found.found found.seen

    by_stack : (number : ℕ) (stack : List Activation) → AreNested stack
        → rest_of (steps program all_one (suc k) (Running (here stack))).history number (opens stack) ≡ Some rest
        → IsFound program number (suc k) (Running (here stack)) rest
    by_stack number [] nested h = by_step number [] (λ known later. refl) tt h
    by_stack number (InModule frame ∷ below) nested h =
        let items = of_store store frame.values frame.at.rest in
        by_step number (InModule frame ∷ below)
        (λ known later. passed number (opens below) known (nest_observations store frame.values frame.at.rest) later items)
        (instructed program (here (InModule frame ∷ below)) frame below (execute program.code store frame) nested) h
    by_stack number (InMain [] ∷ below) nested h =
        by_step number (InMain [] ∷ below) (λ known later. refl) tt h
    by_stack number (InImport import args [] end ∷ below) nested h =
        by_step number (InImport import args [] end ∷ below) (λ known later. refl) tt h
    by_stack number (InImport import args (action ∷ actions) end ∷ below) nested h =
        by_step number (InImport import args (action ∷ actions) end ∷ below) (λ known later. refl)
        (acted_inside program (here (InImport import args (action ∷ actions) end ∷ below)) import args actions end below
        (perform program.code store args action) nested) h
    by_stack number (InMain (action ∷ actions) ∷ []) nested h =
        acts action actions number (perform program.code store [] action) refl h
    by_stack number (InMain (action ∷ actions) ∷ first ∷ below) nested h = cc

  pub find : (count : ℕ) (rest : List Entry) → Finds count rest
  find zero rest number config nested h = absurd (none-some rest h)
  find (suc k) rest number config nested h =
      by_stack k rest (find k rest) config.store config.counts number config.stack nested h
