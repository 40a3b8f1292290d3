-- Turns and hook calls in a run whose steps take at most one turn.
use Rattle.std.proofs.Common.{◌≡◌, ℕ, zero, suc, ◌+◌, ◌<◌, ◌≤◌, List, [], ◌∷◌, ◌++◌, Option, Some, None, refl, sym, ap, ◌∙◌, arith}
use Rattle.std.proofs.lemmas.List.{append_assoc}
use Rattle.history_spec.specs.Budget.{IsOver}
use Rattle.history_spec.specs.Configuration.{Activation, InModule, InMain, InImport, Config}
use Rattle.history_spec.specs.Step.{Program, Progress, Running, Finished, Faulted, Stuck, step}
use Rattle.history_spec.specs.Run.{Meter, steps, weight, weight_of}
use Rattle.record_replay_spec.specs.Hooks.{HookCall}
use Rattle.record_replay_spec.specs.HookedRuns.{calls_among, hook_calls}
use Rattle.record_replay_spec.specs.Order.{HookedShape, OrderState, number_or, ordered_step, first_disorder}

-- the first of several hook calls in order are in order
pub first_in_order : (shape : HookedShape) (state : OrderState) (at : ℕ) (first later : List HookCall)
    → first_disorder shape state at (first ++ later) ≡ None → first_disorder shape state at first ≡ None
first_in_order shape state at [] later h = refl
first_in_order shape state at (call ∷ first) later h =
    by (ordered_step shape state call) (λ next h. first_in_order shape next (at + 1) first later h) h
  where
    by : (o : Option OrderState)
        → ((next : OrderState) → first_disorder shape next (at + 1) (first ++ later) ≡ None
        → first_disorder shape next (at + 1) first ≡ None)
        → number_or at o (λ next. first_disorder shape next (at + 1) (first ++ later)) ≡ None
        → number_or at o (λ next. first_disorder shape next (at + 1) first) ≡ None
    by None each h = cc
    by (Some next) each h = each next h

module _ (n : ℕ) (program : Program) (meter : Meter) where
  abbrev calls : ℕ → Progress → List HookCall
  calls k at = hook_calls n program k at

  -- hook calls are the first of all
  abbrev pub IsFirst : (first all : List HookCall) → Type 0
  IsFirst first all = (later : List HookCall) × (all ≡ first ++ later)

  more_first : (front first all : List HookCall) → IsFirst first all → IsFirst (front ++ first) (front ++ all)
  more_first front first all part =
      (part.0, ap (λ l. front ++ l) part.1 ∙ sym (append_assoc front first part.0))

  -- fewer steps make the first of the hook calls
  pub fewer_first : (k j : ℕ) (at : Progress) → k ≤ j → IsFirst (calls k at) (calls j at)
  fewer_first zero j at less = (calls j at, refl)
  fewer_first (suc k) zero at less = absurd (omega (arith, less))
  fewer_first (suc k) (suc j) (Running config) less =
      more_first (calls_among n config.store (step program config).entries) (calls k (step program config).next)
      (calls j (step program config).next) (fewer_first k j (step program config).next (omega (arith, less)))
  fewer_first (suc k) (suc j) (Finished outcome) less = ([], refl)
  fewer_first (suc k) (suc j) (Faulted kind) less = ([], refl)
  fewer_first (suc k) (suc j) Stuck less = ([], refl)

  -- if the run is over, more steps make no more hook calls
  pub over_last : (k j : ℕ) (at : Progress) → IsOver (steps program meter k at).at → IsFirst (calls j at) (calls k at)
  over_last k zero at over = (calls k at, refl)
  over_last zero (suc j) (Running config) over = absurd over
  over_last (suc k) (suc j) (Running config) over =
      more_first (calls_among n config.store (step program config).entries) (calls j (step program config).next)
      (calls k (step program config).next) (over_last k j (step program config).next over)
  over_last zero (suc j) (Finished outcome) over = ([], refl)
  over_last zero (suc j) (Faulted kind) over = ([], refl)
  over_last zero (suc j) Stuck over = ([], refl)
  over_last (suc k) (suc j) (Finished outcome) over = ([], refl)
  over_last (suc k) (suc j) (Faulted kind) over = ([], refl)
  over_last (suc k) (suc j) Stuck over = ([], refl)

  -- if the run is over after two numbers of steps, the hook calls are equal
  pub over_same : (k j : ℕ) (at : Progress) → IsOver (steps program meter k at).at
      → IsOver (steps program meter j at).at → calls k at ≡ calls j at
  over_same zero zero at over last = refl
  over_same zero (suc j) (Running config) over last = absurd over
  over_same (suc k) zero (Running config) over last = absurd last
  over_same (suc k) (suc j) (Running config) over last =
      ap (λ l. calls_among n config.store (step program config).entries ++ l)
      (over_same k j (step program config).next over last)
  over_same zero (suc j) (Finished outcome) over last = refl
  over_same zero (suc j) (Faulted kind) over last = refl
  over_same zero (suc j) Stuck over last = refl
  over_same (suc k) zero (Finished outcome) over last = refl
  over_same (suc k) zero (Faulted kind) over last = refl
  over_same (suc k) zero Stuck over last = refl
  over_same (suc k) (suc j) (Finished outcome) over last = refl
  over_same (suc k) (suc j) (Faulted kind) over last = refl
  over_same (suc k) (suc j) Stuck over last = refl

-- the turns of one more step
pub one_more : (program : Program) (meter : Meter) (k : ℕ) (at : Progress) (config : Config)
    → (steps program meter k at).at ≡ Running config
    → (steps program meter (suc k) at).turns ≡ (steps program meter k at).turns + weight meter config
one_more program meter zero at config standing =
    let e : weight meter config + 0 ≡ 0 + weight meter config = omega arith in
    ap (λ p. (steps program meter 1 p).turns) standing ∙ e
one_more program meter (suc k) (Running here) config standing =
    let later = one_more program meter k (step program here).next config standing in
    let e : weight meter here + (steps program meter (suc k) (step program here).next).turns
    ≡ weight meter here + (steps program meter k (step program here).next).turns + weight meter config =
    omega (arith, later) in e
one_more program meter (suc k) (Finished outcome) config standing = cc
one_more program meter (suc k) (Faulted kind) config standing = cc
one_more program meter (suc k) Stuck config standing = cc

module _ (program : Program) (meter : Meter) (small : (func number : ℕ) → meter.instruction func number ≤ 1)
    (host : meter.action ≡ 1) where
  pub small_weight : (stack : List Activation) → weight_of meter stack ≤ 1
  small_weight [] = omega (arith, host)
  small_weight (InModule frame ∷ below) = small frame.func frame.at.number
  small_weight (InMain actions ∷ below) = omega (arith, host)
  small_weight (InImport import args actions end ∷ below) = omega (arith, host)

  -- a run takes at most as many turns as steps
  pub few_turns : (k : ℕ) (at : Progress) → (steps program meter k at).turns ≤ k
  few_turns zero at = omega arith
  few_turns (suc k) (Running config) =
      let one = small_weight config.stack in
      let later = few_turns k (step program config).next in omega (arith, one, later)
  few_turns (suc k) (Finished outcome) = omega arith
  few_turns (suc k) (Faulted kind) = omega arith
  few_turns (suc k) Stuck = omega arith

  -- after these turns the next step takes one more
  pub record Wants (budget : ℕ) (at : Progress) : Type 0 where
    pub count : ℕ
    pub config : Config
    pub standing : (steps program meter count at).at ≡ Running config
    pub used : (steps program meter count at).turns ≡ budget
    pub wants : 0 < weight meter config

  -- if some number of steps takes more turns than the budget, a step takes the first turn above the budget
  pub wants_one : (k budget : ℕ) (at : Progress) → budget < (steps program meter k at).turns → Wants budget at
  wants_one zero budget at more = absurd (omega (arith, more))
  wants_one (suc k) budget (Finished outcome) more = absurd (omega (arith, more))
  wants_one (suc k) budget (Faulted kind) more = absurd (omega (arith, more))
  wants_one (suc k) budget Stuck more = absurd (omega (arith, more))
  wants_one (suc k) budget (Running config) more =
      by (λ b more. wants_one k b (step program config).next more) (weight meter config) refl budget refl
    where
      next : Progress
      next = (step program config).next

      after_step : (b : ℕ) → Wants b next → weight meter config + b ≡ budget → Wants budget (Running config)
      after_step b w e =
          record {
            count = suc w.count;
            config = w.config;
            standing = w.standing;
            used = let used = w.used in omega (arith, used, e);
            wants = w.wants;
          }

      by : ((b : ℕ) → b < (steps program meter k next).turns → Wants b next) → (w : ℕ) → weight meter config ≡ w
          → (b : ℕ) → budget ≡ b → Wants budget (Running config)
      by rest zero is b same =
          after_step budget (rest budget (omega (arith, is, more))) (omega (arith, is))
      by rest (suc w) is zero same =
          record { count = 0; config = config; standing = refl; used = sym same; wants = omega (arith, is) }
      by rest (suc w) is (suc b) same =
          let one = small_weight config.stack in
          after_step b (rest b (omega (arith, is, more, same, one))) (omega (arith, is, same, one))
