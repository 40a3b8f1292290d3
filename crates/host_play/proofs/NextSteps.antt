-- One more step of a run, and where it leads.
use Rattle.std.proofs.Common.{◌≡◌, ℕ, suc, zero, ◌+◌, List, [], ◌∷◌, ◌++◌, refl, sym, ap, ◌∙◌, subst, arith, append_assoc}
use Rattle.std.specs.Prelude.{Some, None, Ok, Err}
use Rattle.std.proofs.lemmas.List.{append-nil}
use Rattle.wasm_syntax.specs.declared.modules.Module.{Module}
use Rattle.host_script.specs.declared.scripts.Script.{Script}
use Rattle.base.specs.declared.outcomes.Outcome.{Outcome}
use Rattle.history_spec.specs.declared.entries.Entry.{Entry}
use Rattle.history_spec.specs.Budget.{IsOver, IsOverWithin, IsSpent}
use Rattle.history_spec.specs.Configuration.{Activation, Config, InModule, InMain, InImport}
use Rattle.history_spec.specs.Step.{Program, Progress, Running, Finished, Faulted, Stuck, StepResult, step_result, step}
use Rattle.history_spec.specs.Run.{Meter, Run, all_one, program_of, run_from, run_after, steps, weight, weight_of}
use Rattle.history_spec.proofs.Budgets.{takes_one}
use Rattle.wasm_flat.specs.Meters.{Weighing, meter_of}
use Rattle.flat_steps.specs.Follows.{AwaitsHost}
use Rattle.host_play.specs.declared.host_steps.PlayStep.{PlayStep}
use Rattle.host_play.specs.declared.play_state.Stand.{Stand}
use Rattle.host_play.specs.declared.play_state.Stand.TheVariants as at
use Rattle.host_play.specs.declared.play_state.Refusal.{Refusal}
use Rattle.host_play.specs.declared.play_state.Refusal.TheVariants as unmade
use Rattle.host_play.specs.declared.play_state.PlayState.{PlayState}
use Rattle.host_play.specs.RunsSoFar.{ComesTo}
use Rattle.host_play.proofs.Joins.{run_of}
use Rattle.host_play.specs.Results.{Refuses, play_fault}
use Rattle.host_play.specs.Stands.{Leads, LeadsBy, MakesStep, Stops}

-- the host's step takes a turn
pub host_weight : (m : Module) (weighing : Weighing) (stack : List Activation) → AwaitsHost stack → weight_of (meter_of m weighing) stack ≡ 1
host_weight m None [] awaits = refl
host_weight m None (InModule frame ∷ below) awaits = refl
host_weight m None (InMain actions ∷ below) awaits = refl
host_weight m None (InImport import args actions «end» ∷ below) awaits = refl
host_weight m (Some weights) [] awaits = refl
host_weight m (Some weights) (InModule frame ∷ below) awaits = absurd awaits
host_weight m (Some weights) (InMain actions ∷ below) awaits = refl
host_weight m (Some weights) (InImport import args actions «end» ∷ below) awaits = refl

-- one more step after steps that go on
more : (program : Program) (meter : Meter) (k : ℕ) (at : Progress) (config : Config) → (steps program meter k at).at ≡ Running config
    → steps program meter (suc k) at ≡ run_of ((steps program meter k at).history ++ (step program config).entries)
    ((steps program meter k at).turns + weight meter config) (step program config).next
more program meter zero (Running c) config is =
    let same : c ≡ config = cc in
    ap (λ x. run_of ((step program x).entries ++ []) (weight meter x + 0) (step program x).next) same
    ∙ ap (λ es. run_of es (weight meter config + 0) (step program config).next) (append-nil (step program config).entries)
    ∙ ap (λ n. run_of (step program config).entries n (step program config).next) (omega arith)
more program meter zero (Finished outcome) config is = cc
more program meter zero (Faulted kind) config is = cc
more program meter zero Stuck config is = cc
more program meter (suc k) (Running c) config is =
    let first : StepResult = step program c in
    let inner : Run = steps program meter k first.next in
    let w : ℕ = weight meter c in
    ap (run_after first.entries w) (more program meter k first.next config is)
    ∙ ap (λ es. run_of es (w + (inner.turns + weight meter config)) (step program config).next)
    (sym (append_assoc first.entries inner.history (step program config).entries))
    ∙ ap (λ n. run_of ((first.entries ++ inner.history) ++ (step program config).entries) n (step program config).next) (omega arith)
more program meter (suc k) (Finished outcome) config is = cc
more program meter (suc k) (Faulted kind) config is = cc
more program meter (suc k) Stuck config is = cc

pub one_more : (program : Program) (meter : Meter) (initial : StepResult) (k : ℕ) (history : List Entry) (turns : ℕ)
    (config : Config) → run_from program meter initial k ≡ run_of history turns (Running config)
    → run_from program meter initial (suc k) ≡ run_of (history ++ (step program config).entries) (turns + weight meter config) (step program config).next
one_more program meter initial k history turns config is =
    let inner : Run = steps program meter k initial.next in
    let here : initial.entries ++ inner.history ≡ history = ap (λ (r : Run). r.history) is in
    let spent : 0 + inner.turns ≡ turns = ap (λ (r : Run). r.turns) is in
    ap (run_after initial.entries 0) (more program meter k initial.next config (ap (λ (r : Run). r.at) is))
    ∙ ap (λ es. run_of es (0 + (inner.turns + weight meter config)) (step program config).next)
    (sym (append_assoc initial.entries inner.history (step program config).entries))
    ∙ ap (λ es. run_of (es ++ (step program config).entries) (0 + (inner.turns + weight meter config)) (step program config).next) here
    ∙ ap (λ n. run_of (history ++ (step program config).entries) n (step program config).next) (omega arith)

-- ---- the place to which a run comes

module _ (m : Module) (script : Script) (weighing : Weighing) (initial : StepResult) (budget : ℕ) where
  abbrev meter : Meter
  meter = meter_of m weighing

  -- what a step leads to
  abbrev pub led : (stand : Stand) (playing : PlayState) (count left used : ℕ) (history entries : List Entry) (s : StepResult)
      → run_from (program_of m script) meter initial count ≡ run_of (history ++ s.entries) used s.next → used + left ≡ budget
      → Leads m script s entries stand playing → ComesTo m script weighing initial budget (history ++ entries) stand playing left
  led stand playing count left used history entries s run spent l = record {
    steps = count;
    pending = l.next;
    used = used;
    run =
        run
        ∙ ap (λ (t : StepResult). run_of (history ++ t.entries) used t.next) l.same
        ∙ ap (λ es. run_of es used l.next.next) (sym (append_assoc history entries l.next.entries));
    spent = spent;
    standing = l.standing;
  }

  -- what the run begins with
  abbrev pub begins : (entries : List Entry) (stand : Stand) (playing : PlayState)
      → Leads m script initial entries stand playing
      → ComesTo m script weighing initial budget ([] ++ entries) stand playing budget
  begins entries stand playing l =
      led stand playing 0 budget 0 [] entries initial (ap (λ es. run_of es 0 initial.next) (append-nil initial.entries))
      (omega arith) l

  module _ (history : List Entry) (stand : Stand) (playing : PlayState) (left : ℕ)
      (r : ComesTo m script weighing initial budget history stand playing left) where
    abbrev pub goes_free : (moved : PlayStep) (new_playing : PlayState)
        → Leads m script r.pending moved.entries moved.stand new_playing
        → ComesTo m script weighing initial budget (history ++ moved.entries) moved.stand new_playing left
    goes_free moved new_playing l = led moved.stand new_playing r.steps left r.used history moved.entries r.pending r.run r.spent l

    -- a run that is before a step
    pub standing_run : (config : Config) → r.pending ≡ step_result [] (Running config)
        → run_from (program_of m script) meter initial r.steps ≡ run_of history r.used (Running config)
    standing_run config is =
        r.run
        ∙ ap (λ (t : StepResult). run_of (history ++ t.entries) r.used t.next) is
        ∙ ap (λ es. run_of es r.used (Running config)) (append-nil history)

    -- the run after a step that takes a turn
    pub stepped : (config : Config) → r.pending ≡ step_result [] (Running config) → weight meter config ≡ 1
        → run_from (program_of m script) meter initial (suc r.steps) ≡ run_of
        (history ++ (step (program_of m script) config).entries) (r.used + 1) (step (program_of m script) config).next
    stepped config is one =
        one_more (program_of m script) meter initial r.steps history r.used config (standing_run config is)
        ∙ ap (λ n. run_of (history ++ (step (program_of m script) config).entries) (r.used + n) (step (program_of m script) config).next) one

    abbrev pub spends : (config : Config) → left ≡ 0 → weight meter config ≡ 1
        → r.pending ≡ step_result [] (Running config)
        → IsSpent (run_from (program_of m script) meter initial) meter budget
    spends config none one is =
        let spent : r.used + left ≡ budget = r.spent in
        record {
          count = r.steps;
          config = config;
          standing = ap (λ (x : Run). x.at) (standing_run config is);
          used = ap (λ (x : Run). x.turns) (standing_run config is) ∙ (let all : r.used ≡ budget = omega arith in all);
          wants = omega arith;
        }

    abbrev pub goes_step : (moved : PlayStep) (new_playing : PlayState) (now : ℕ) → now + 1 ≡ left
        → (made : MakesStep m script r.pending (Ok moved) new_playing) → weight meter made.config ≡ 1
        → ComesTo m script weighing initial budget (history ++ moved.entries) moved.stand new_playing now
    goes_step moved new_playing now one made weighs =
        let spent : r.used + left ≡ budget = r.spent in
        led moved.stand new_playing (suc r.steps) now (r.used + 1) history moved.entries (step (program_of m script) made.config)
        (stepped made.config made.standing weighs) (omega arith) made.leads

  -- the run is over by an outcome
  module _ (outcome : Outcome) (history : List Entry) (playing : PlayState) (left : ℕ)
      (r : ComesTo m script weighing initial budget history (at.Over outcome) playing left) where
    abbrev pub whole : Run
    whole = run_of history r.used (Finished outcome)

    abbrev pub over_within : IsOverWithin (run_from (program_of m script) meter initial) budget whole
    over_within =
        let spent : r.used + left ≡ budget = r.spent in
        record {
          count = r.steps;
          is_run =
              r.run
              ∙ ap (λ (t : StepResult). run_of (history ++ t.entries) r.used t.next) r.standing.goes_on
              ∙ ap (λ es. run_of es r.used (Finished outcome)) (append-nil history);
          over = tt;
          in_budget = omega arith;
        }

-- ---- if each step takes a turn

module _ (m : Module) (script : Script) (initial : StepResult) (budget : ℕ) where
  -- a fault of the script stops the run
  stopped : (count left used turn : ℕ) (history : List Entry) (s : StepResult) (refusal : Refusal)
      → run_from (program_of m script) all_one initial count ≡ run_of (history ++ s.entries) used s.next → used + left ≡ budget → turn + left ≡ budget
      → Stops refusal s → Refuses (program_of m script) initial budget (play_fault refusal turn)
  stopped count left used turn history s unmade.Memory run spent is stops = tt
  stopped count left used turn history s (unmade.Fault kind) run spent is stops = record {
    run = run_of (history ++ s.entries) used s.next;
    within = record { count = count; is_run = run; over = subst IsOver (sym stops) tt; in_budget = omega arith };
    kind_is = stops;
    turn_is = omega arith;
  }

  module _ (history : List Entry) (stand : Stand) (playing : PlayState) (left : ℕ) (r : ComesTo m script None initial budget history stand playing left) where
    pub step_fails : (refusal : Refusal) (new_playing : PlayState) (now : ℕ) (turn : ℕ) → now + 1 ≡ left → turn + now ≡ budget
        → MakesStep m script r.pending (Err refusal) new_playing → Refuses (program_of m script) initial budget (play_fault refusal turn)
    step_fails refusal new_playing now turn one is made =
        let spent : r.used + left ≡ budget = r.spent in
        stopped (suc r.steps) now (r.used + 1) turn history (step (program_of m script) made.config) refusal
        (stepped m script None initial budget history stand playing left r made.config made.standing (takes_one made.config.stack)) (omega arith) is made.leads

    -- without a turn a run stops only if memory is exhausted, or by a fault of the script, which is not possible here
    pub free_fails : (refusal : Refusal) (new_playing : PlayState) (turn : ℕ) → turn + left ≡ budget
        → LeadsBy m script r.pending (Err refusal) new_playing → Refuses (program_of m script) initial budget (play_fault refusal turn)
    free_fails refusal new_playing turn is leads = stopped r.steps left r.used turn history r.pending refusal r.run r.spent is leads
