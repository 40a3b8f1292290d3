-- A run with hooks after its earlier steps.
use Rattle.std.proofs.Common.{◌≡◌, ℕ, suc, ◌+◌, ◌-◌, ◌≤◌, ◌<◌, List, [], ◌∷◌, ◌++◌, Bool, true, false, refl, sym, ap, ◌∙◌, subst, arith, inl, inr}
use Rattle.std.specs.Prelude.{Result, Ok, Err, ⊤, cond, nat_lt, slice_get, slice_index}
use Rattle.std.proofs.lemmas.Bool.{ltb-false}
use Rattle.std.proofs.lemmas.List.{append-nil}
use Rattle.wasm_syntax.specs.declared.modules.Module.{Module}
use Rattle.wasm_syntax.specs.Index.{imported_funcs}
use Rattle.host_script.specs.declared.scripts.Script.{Script}
use Rattle.host_script.specs.declared.scripts.ResponseEnd.TheVariants.{Trap}
use Rattle.base.specs.declared.outcomes.Outcome.{Outcome}
use Rattle.base.specs.declared.outcomes.Outcome.TheVariants.{Trapped as ByTrap}
use Rattle.history_spec.specs.declared.entries.Entry.{Entry}
use Rattle.history_spec.specs.Action.{ActionResult, Changes, Enters, Fails, Unfit, perform}
use Rattle.history_spec.specs.Budget.{IsOver}
use Rattle.history_spec.specs.Configuration.{Activation, Config, InModule, InMain, InImport}
use Rattle.history_spec.specs.Settle.{settle}
use Rattle.history_spec.specs.Store.{Store}
use Rattle.history_spec.specs.Step.{Program, Progress, Running, StepResult, after_action, after_settling, enter_function, step, step_of}
use Rattle.history_spec.specs.Run.{Run, program_of, steps}
use Rattle.wasm_flat.specs.Meters.{Weighing, meter_of}
use Rattle.flat_steps.specs.Follows.{AwaitsHost, outside_of}
use Rattle.record_replay_spec.specs.Hooks.{HookCall, hooks, on}
use Rattle.record_replay_spec.specs.HookedRuns.{call_of_hook, calls_among, hook_calls}
use Rattle.hook_names.specs.Steps.{IsRun, Steps}
use Rattle.hook_names.specs.declared.hooks.HookFault.{HookFault}
use Rattle.hook_names.specs.declared.hooks.HookFault.TheVariants as hook
use Rattle.wasm_interp.specs.declared.machine.Pause.{Pause}
use Rattle.wasm_interp.specs.declared.machine.Pause.TheVariants as pause
use Rattle.wasm_interp.specs.State.{State}
use Rattle.wasm_interp.specs.Calls.{AdvancesRun, ComesToImport, RunPart}
use Rattle.host_play.specs.declared.hooked_plays.RunSettings.{RunSettings}
use Rattle.host_play.specs.declared.host_steps.HostStep.{HostStep}
use Rattle.host_play.specs.declared.play_state.Host.{Host}
use Rattle.host_play.specs.declared.play_state.PlayState.{PlayState}
use Rattle.host_play.specs.declared.play_state.Refusal.{Refusal}
use Rattle.host_play.specs.declared.play_state.Refusal.TheVariants as unmade
use Rattle.host_play.specs.declared.play_state.Stand.{Stand}
use Rattle.host_play.specs.declared.play_state.Stand.TheVariants as at
use Rattle.host_play.specs.declared.results.PlayFault.{PlayFault}
use Rattle.host_play.specs.declared.results.PlayFault.TheVariants as refusal
use Rattle.host_play.specs.HookFaults.{fault_of_hook}
use Rattle.host_play.specs.HookedResults.{AnswersWithin, EndsWithHooks, HookedRun, HooksLead, RefusesWithHooks, steps_of}
use Rattle.host_play.specs.HooksSoFar.{CanPlay, HooksSoFar, run_in}
use Rattle.host_play.specs.HostParts.{HostDid, HostStops}
use Rattle.host_play.specs.HostSteps.{play_step_of, entries_of, stand_after}
use Rattle.host_play.specs.Hosts.{BeginsAnswer, HasNoResponse}
use Rattle.host_play.specs.Replies.{nothing_done}
use Rattle.host_play.specs.Results.{play_fault}
use Rattle.host_play.specs.Stands.{Leads, StandsAt, Stops}
use Rattle.host_play.proofs.Calls.{all_calls, delivers_none, enters_none}
use Rattle.host_play.proofs.HookCalls.{calls_joined, calls_none, hook_is_call, is_hook_call, none_called}
use Rattle.host_play.proofs.HookedParts as hooked
use Rattle.host_play.proofs.HookRuns.{runs_on}
use Rattle.host_play.proofs.HostParts.{step_made}
use Rattle.host_play.proofs.ModuleParts as parts
use Rattle.host_play.proofs.Joins.{run_of}
use Rattle.host_play.proofs.NextSteps.{begins, goes_free, goes_step, host_weight, over_within, spends, stepped, whole}

-- ---- the host calls no hook

module _ (program : Program) (n : ℕ) where
  none_among : (view : Store) (es : List Entry) → all_calls es ≡ 0 → calls_among n view es ≡ []
  none_among view es none = calls_none n view es (none_called (is_hook_call n) (hook_is_call n) es none)

  acts_none : (c : Config) (left : List Activation) (acted : ActionResult) → calls_among n c.store (after_action program c left acted).entries ≡ []
  acts_none c left (Changes store) = none_among c.store (settle left).entries (delivers_none left [])
  acts_none c left (Enters func args) =
      none_among c.store (enter_function program.code c.store c.counts func args left).entries
      (enters_none program c.store c.counts func args left)
  acts_none c left (Fails kind) = refl
  acts_none c left Unfit = refl

  host_none : (c : Config) (stack : List Activation) → AwaitsHost stack → calls_among n c.store (step_of program c stack).entries ≡ []
  host_none c [] awaits = refl
  host_none c (InModule frame ∷ below) awaits = absurd awaits
  host_none c (InMain [] ∷ below) awaits = refl
  host_none c (InMain (action ∷ actions) ∷ below) awaits = acts_none c (InMain actions ∷ below) (perform program.code c.store [] action)
  host_none c (InImport import args [] end ∷ below) awaits = refl
  host_none c (InImport import args (action ∷ actions) end ∷ below) awaits =
      acts_none c (InImport import args actions end ∷ below) (perform program.code c.store args action)

-- ---- the place of a run with hooks

module _ {H : Type 0} (is_step : Steps H) (m : Module) (script : Script) (settings : RunSettings) (initial : StepResult) (begun : H) where
  abbrev weighing : Weighing
  weighing = settings.meter.now

  abbrev n : ℕ
  n = settings.imports

  abbrev budget : ℕ
  budget = settings.turns

  abbrev r : HookedRun
  r = run_in m script settings initial

  -- the run with hooks begins with what the host did first
  pub hooks_begun : (entries : List Entry) (stand : Stand) (playing : PlayState) → CanPlay m script settings → Leads m script initial entries stand playing
      → HooksSoFar is_step m script settings initial begun begun stand playing budget
  hooks_begun entries stand playing can_play leads = record {
    can_play = can_play;
    history = [] ++ entries;
    reached = begins m script weighing initial budget entries stand playing leads;
    printed = (refl, refl);
  }

  module _ (now : H) (stand : Stand) (playing : PlayState) (left : ℕ) (t : HooksSoFar is_step m script settings initial begun now stand playing left) where
    -- memory is exhausted: the hooks took the calls so far
    pub taken_so_far : AnswersWithin is_step r (Ok tt) begun now
    taken_so_far =
        let spent : t.reached.used + left ≡ budget = t.reached.spent in
        let same : (steps_of r t.reached.steps).turns ≡ t.reached.used = ap (λ (x : Run). x.turns) t.reached.run in
        record { count = t.reached.steps; in_budget = omega (arith, spent, same); hooks = t.printed }

    -- the hooks take the calls of more steps
    leads_on : (more : ℕ) (next : Progress) (calls : List HookCall) (answer : Result ⊤ HookFault) (later : H) → t.reached.pending.next ≡ next
        → hook_calls n (program_of m script) more next ≡ calls → IsRun is_step now calls answer later
        → HooksLead is_step r (t.reached.steps + more) begun answer later
    leads_on more next calls answer later is calls_are run =
        let there : (steps (program_of m script) (meter_of m weighing) t.reached.steps initial.next).at ≡ next = ap (λ (x : Run). x.at) t.reached.run ∙ is in
        subst (λ all. IsRun is_step begun all answer later)
        (ap (λ more. hook_calls n (program_of m script) t.reached.steps initial.next ++ more)
        (sym calls_are ∙ ap (hook_calls n (program_of m script) more) (sym there))
        ∙ sym (calls_joined n (program_of m script) (meter_of m weighing) t.reached.steps more initial.next))
        (runs_on is_step begun now later (hook_calls n (program_of m script) t.reached.steps initial.next) calls answer t.printed run)

  -- the run is over by an outcome
  pub ends_with_hooks : (outcome : Outcome) (now : H) (playing : PlayState) (left : ℕ)
      → HooksSoFar is_step m script settings initial begun now (at.Over outcome) playing left
      → EndsWithHooks is_step r outcome begun now
  ends_with_hooks outcome now playing left t = record {
    run = whole m script weighing initial budget outcome t.history playing left t.reached;
    within = over_within m script weighing initial budget outcome t.history playing left t.reached;
    ends = refl;
    hooks = t.printed;
  }

  -- ---- the host's part

  module _ (now : H) (playing : PlayState) (left : ℕ) (t : HooksSoFar is_step m script settings initial begun now at.Host playing left) where
    -- a step of the host calls no hook
    leads_by_host : (c : Config) → t.reached.pending.next ≡ Running c → AwaitsHost c.stack → HooksLead is_step r (suc t.reached.steps) begun (Ok tt) now
    leads_by_host c standing awaits =
        let more : t.reached.steps + 1 ≡ suc t.reached.steps = omega arith in
        subst (λ count. HooksLead is_step r count begun (Ok tt) now) more
        (leads_on now at.Host playing left t 1 (Running c) [] (Ok tt) now standing
        (append-nil (calls_among n c.store (step (program_of m script) c).entries)
        ∙ host_none (program_of m script) n c c.stack awaits) (refl, refl))

    pub host_did : (did : HostStep) (new_playing : PlayState) (later : ℕ) → HostDid m script t.reached.pending left did new_playing later
        → HooksSoFar is_step m script settings initial begun now (stand_after did) new_playing later
    host_did did new_playing later (inl free) =
        subst (HooksSoFar is_step m script settings initial begun now (stand_after did) new_playing) (sym free.0)
        (record {
          can_play = t.can_play;
          history = t.history ++ entries_of did;
          reached = goes_free m script weighing initial budget t.history at.Host playing left t.reached (play_step_of did) new_playing free.1;
          printed = t.printed;
        })
    host_did did new_playing later (inr made) = record {
      can_play = t.can_play;
      history = t.history ++ entries_of did;
      reached =
          goes_step m script weighing initial budget t.history at.Host playing left t.reached (play_step_of did)
          new_playing later made.0 (step_made m script t.reached.pending (Ok (play_step_of did)) new_playing made.1)
          (host_weight m weighing made.1.before.config.stack made.1.before.awaits);
      printed = leads_by_host made.1.before.config (ap (λ (s : StepResult). s.next) made.1.before.standing) made.1.before.awaits;
    }

    pub host_stops : (fault : PlayFault) (new_playing : PlayState) (later : ℕ)
        → HostStops m script t.reached.pending budget left fault new_playing later
        → RefusesWithHooks is_step r fault begun now
    host_stops (refusal.Fault turn kind) new_playing later stops =
        let spent : t.reached.used + left ≡ budget = t.reached.spent in
        let c : Config = stops.2.before.config in
        record {
          run = run_of (t.history ++ (step (program_of m script) c).entries) (t.reached.used + 1) (step (program_of m script) c).next;
          within = record {
            count = suc t.reached.steps;
            is_run =
                stepped m script weighing initial budget t.history at.Host playing left t.reached c
                stops.2.before.standing (host_weight m weighing c.stack stops.2.before.awaits);
            over = subst IsOver (sym stops.2.leads) tt;
            in_budget = omega (arith, spent, stops.0);
          };
          kind_is = stops.2.leads;
          turn_is = omega (arith, spent, stops.0, stops.1);
          hooks = leads_by_host c (ap (λ (s : StepResult). s.next) stops.2.before.standing) stops.2.before.awaits;
        }
    host_stops refusal.Spent new_playing later stops = record {
      spent =
          spends m script weighing initial budget t.history at.Host playing left t.reached stops.1.config stops.0
          (host_weight m weighing stops.1.config.stack stops.1.awaits) stops.1.standing;
      hooks = t.printed;
    }
    host_stops (refusal.Hook number) new_playing later stops = absurd stops
    host_stops refusal.Memory new_playing later stops = inl (taken_so_far now at.Host playing left t)

  -- ---- the module's part

  module _ (now : H) (playing : PlayState) (given : ℕ)
      (t : HooksSoFar is_step m script settings initial begun now at.Module playing given) (end : Pause) (new : State)
      (left : ℕ) (run : AdvancesRun playing.machine weighing given end left new) where
    abbrev standing : StandsAt m script at.Module playing t.reached.pending
    standing = t.reached.standing

    abbrev a : RunPart m standing.heights (program_of m script) (meter_of m weighing)
        (outside_of standing.goes_on.below) standing.counts (after_settling playing.machine.store standing.counts
        (settle (InModule standing.goes_on.frame ∷ standing.goes_on.below))) given end left new
    a = parts.a m script weighing t.reached.pending playing standing given end new left run

    abbrev start : StepResult
    start = after_settling playing.machine.store standing.counts (settle (InModule standing.goes_on.frame ∷ standing.goes_on.below))

    leads_after : (calls : List HookCall) (answer : Result ⊤ HookFault) (later : H)
        → hook_calls n (program_of m script) a.count start.next ≡ calls → IsRun is_step now calls answer later
        → HooksLead is_step r (t.reached.steps + a.count) begun answer later
    leads_after calls answer later are taken =
        leads_on now at.Module playing given t a.count start.next calls answer later
        (ap (λ (s : StepResult). s.next) standing.goes_on.same) are taken

    pub part_to_host : end ≡ pause.Returned → HooksSoFar is_step m script settings initial begun now at.Host (record playing { machine = new }) left
    part_to_host is = record {
      can_play = t.can_play;
      history = (t.history ++ a.before) ++ a.entries;
      reached =
          parts.to_host m script weighing t.reached.pending playing standing given end new left run initial budget
          t.reached.steps t.reached.used t.history t.reached.run t.reached.spent is;
      printed = leads_after [] (Ok tt) now (hooked.none_to_host m script weighing t.reached.pending playing standing given end new left run n is) (refl, refl);
    }

    pub part_to_trap : end ≡ pause.Trapped → HooksSoFar is_step m script settings initial begun now (at.Over ByTrap) (record playing { machine = new }) left
    part_to_trap is = record {
      can_play = t.can_play;
      history = (t.history ++ a.before) ++ a.entries;
      reached =
          parts.to_trap m script weighing t.reached.pending playing standing given end new left run initial budget
          t.reached.steps t.reached.used t.history t.reached.run t.reached.spent is;
      printed = leads_after [] (Ok tt) now (hooked.none_to_trap m script weighing t.reached.pending playing standing given end new left run n is) (refl, refl);
    }

    pub part_to_spent : end ≡ pause.Spent → RefusesWithHooks is_step r refusal.Spent begun now
    part_to_spent is = record {
      spent =
          parts.to_spent m script weighing t.reached.pending playing standing given end new left run initial budget
          t.reached.steps t.reached.used t.history t.reached.run t.reached.spent is;
      hooks = leads_after [] (Ok tt) now (hooked.none_to_spent m script weighing t.reached.pending playing standing given end new left run n is) (refl, refl);
    }

    module _ (index : ℕ) (is : end ≡ pause.Import index) where
      abbrev to : ComesToImport m standing.heights (program_of m script) (outside_of standing.goes_on.below) standing.counts index a.entries new a.last
      to = parts.comes m script weighing t.reached.pending playing standing given end new left run index is

      there : index < imported_funcs m
      there = (to.stands [] Trap (λ k d below. absurd (omega arith)) tt).holds.laid.2

      calls_are : hook_calls n (program_of m script) a.count start.next ≡ call_of_hook n index to.args new.store
      calls_are = go (nat_lt index n) refl
        where
          go : (b : Bool) → nat_lt index n ≡ b → hook_calls n (program_of m script) a.count start.next ≡ call_of_hook n index to.args new.store
          go true below =
              hooked.none_to_own m script weighing t.reached.pending playing standing given end new left run index is n below
              ∙ ap (λ b. cond b [] (on (slice_get hooks (index - n)) (λ kind. record { kind = kind; args = to.args; view = new.store } ∷ []))) (sym below)
          go false past =
              hooked.call_to_hook m script weighing t.reached.pending playing standing given end new left run index is nothing_done
              (t.can_play.hooks.answered index (slice_index standing.counts index) (ltb-false index n past) there) n

      -- what the hooks answer
      call_taken : (answer : Result ⊤ HookFault) (later : H)
          → IsRun is_step now (call_of_hook n index to.args new.store) answer later
          → HooksLead is_step r (t.reached.steps + a.count) begun answer later
      call_taken answer later taken = leads_after (call_of_hook n index to.args new.store) answer later calls_are taken

      within_budget : (steps_of r (t.reached.steps + a.count)).turns ≤ budget
      within_budget =
          let all : (t.reached.used + a.taken) + left ≡ budget =
          parts.all m script weighing t.reached.pending playing standing given end new left run initial budget
          t.reached.steps t.reached.used t.history t.reached.run t.reached.spent in
          let same : (steps_of r (t.reached.steps + a.count)).turns ≡ t.reached.used + a.taken =
          ap (λ (x : Run). x.turns) (parts.whole m script weighing t.reached.pending playing standing given end new left
          run initial budget t.reached.steps t.reached.used t.history t.reached.run t.reached.spent) in
          omega (arith, all, same)

      pub answered_within : (answer : Result ⊤ HookFault) (later : H)
          → IsRun is_step now (call_of_hook n index to.args new.store) answer later
          → AnswersWithin is_step r answer begun later
      answered_within answer later taken = record { count = t.reached.steps + a.count; in_budget = within_budget; hooks = call_taken answer later taken }

      pub hook_refuses : (fault : HookFault) (later : H)
          → IsRun is_step now (call_of_hook n index to.args new.store) (Err fault) later
          → RefusesWithHooks is_step r (fault_of_hook fault) begun later
      hook_refuses (hook.Order number) later taken = answered_within (Err (hook.Order number)) later taken
      hook_refuses hook.Memory later taken = inr (answered_within (Err hook.Memory) later taken)

      pub part_to_import : (later : H) → IsRun is_step now (call_of_hook n index to.args new.store) (Ok tt) later
          → (hosts : List Host) (new_playing : PlayState) → new_playing.machine ≡ new → new_playing.functions ≡ playing.functions → new_playing.hosts ≡ hosts
          → BeginsAnswer script playing.hosts playing.counts.items index hosts new_playing.counts.items
          → HooksSoFar is_step m script settings initial begun later at.Host new_playing left
      part_to_import later taken hosts new_playing same_machine same_functions same_hosts begins_answer = record {
        can_play = t.can_play;
        history = (t.history ++ a.before) ++ a.entries;
        reached =
            parts.to_import m script weighing t.reached.pending playing standing given end new left run initial budget
            t.reached.steps t.reached.used t.history t.reached.run t.reached.spent index is
            hosts new_playing same_machine same_functions same_hosts begins_answer;
        printed = call_taken (Ok tt) later taken;
      }

      pub part_without_response : (later : H) → IsRun is_step now (call_of_hook n index to.args new.store) (Ok tt) later
          → (refused : Refusal) (turn : ℕ) → turn + left ≡ budget
          → HasNoResponse script playing.counts.items index refused → RefusesWithHooks is_step r (play_fault refused turn) begun later
      part_without_response later taken unmade.Memory turn at none = inl (answered_within (Ok tt) later taken)
      part_without_response later taken (unmade.Fault kind) turn at none =
          let all : (t.reached.used + a.taken) + left ≡ budget =
          parts.all m script weighing t.reached.pending playing standing given end new left run initial budget
          t.reached.steps t.reached.used t.history t.reached.run t.reached.spent in
          let stops : Stops (unmade.Fault kind) a.last = parts.without_response m script weighing t.reached.pending
          playing standing given end new left run initial budget t.reached.steps t.reached.used t.history t.reached.run
          t.reached.spent index is (unmade.Fault kind) none in
          record {
            run = run_of ((t.history ++ a.before) ++ a.last.entries) (t.reached.used + a.taken) a.last.next;
            within = record {
              count = t.reached.steps + a.count;
              is_run =
                  parts.whole m script weighing t.reached.pending playing standing given end new left run initial budget
                  t.reached.steps t.reached.used t.history t.reached.run t.reached.spent;
              over = subst IsOver (sym stops) tt;
              in_budget = omega (arith, all);
            };
            kind_is = stops;
            turn_is = omega (arith, all, at);
            hooks = call_taken (Ok tt) later taken;
          }
