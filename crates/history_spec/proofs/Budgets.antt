-- A run within a budget has at most one result, and exactly one if each step is a turn.
use Rattle.std.proofs.Common.{◌≡◌, ℕ, zero, suc, ◌+◌, ◌<◌, ◌≤◌, refl, sym, ◌∙◌, ap, subst, arith, List, [], ◌∷◌}
use Rattle.history_spec.specs.Configuration.{Config, Activation, InModule, InMain, InImport}
use Rattle.history_spec.specs.Step.{Program, Progress, Running, Finished, Faulted, Stuck, StepResult, step}
use Rattle.history_spec.specs.Run.{Meter, Run, run_after, steps, run_from, weight, weight_of, all_one}
use Rattle.history_spec.specs.Budget.{IsOver, Over, Spent, IsOverWithin, IsSpent, HasSomeResult, RunsHaveOneResultAtMost, RunsHaveSomeResult}

-- a run that is over is the same after each number of steps
pub same_end : (program : Program) (meter : Meter) (k l : ℕ) (at : Progress) → IsOver (steps program meter k at).at
    → IsOver (steps program meter l at).at → steps program meter k at ≡ steps program meter l at
same_end program meter zero zero at a b = refl
same_end program meter zero (suc l) (Running config) a b = absurd a
same_end program meter zero (suc l) (Finished outcome) a b = refl
same_end program meter zero (suc l) (Faulted kind) a b = refl
same_end program meter zero (suc l) Stuck a b = refl
same_end program meter (suc k) zero (Running config) a b = absurd b
same_end program meter (suc k) zero (Finished outcome) a b = refl
same_end program meter (suc k) zero (Faulted kind) a b = refl
same_end program meter (suc k) zero Stuck a b = refl
same_end program meter (suc k) (suc l) (Running config) a b =
    ap (run_after (step program config).entries (weight meter config))
    (same_end program meter k l (step program config).next a b)
same_end program meter (suc k) (suc l) (Finished outcome) a b = refl
same_end program meter (suc k) (suc l) (Faulted kind) a b = refl
same_end program meter (suc k) (suc l) Stuck a b = refl

-- a run that goes on is not over
pub not_over : (at : Progress) (config : Config) → at ≡ Running config → IsOver at → ⊥
not_over at config e over = let P : Progress → Type 0 = λ p. IsOver p in subst P e over

-- the turns that the next step takes, 0 if the run is over
abbrev pub weight_at : Meter → Progress → ℕ
weight_at meter (Running config) = weight meter config
weight_at meter other = 0

-- from a configuration on, at least its next step's turns are taken until the run is over
pub wants_more : (program : Program) (meter : Meter) (k l : ℕ) (at : Progress) (config : Config)
    → (steps program meter k at).at ≡ Running config → IsOver (steps program meter l at).at
    → (steps program meter k at).turns + weight meter config ≤ (steps program meter l at).turns
wants_more program meter zero zero at config e over = absurd (not_over at config e over)
wants_more program meter zero (suc l) (Running here) config e over =
    let w : weight_at meter (Running here) ≡ weight_at meter (Running config) = ap (weight_at meter) e in omega arith
wants_more program meter zero (suc l) (Finished outcome) config e over =
    absurd (not_over (Finished outcome) config e tt)
wants_more program meter zero (suc l) (Faulted kind) config e over = absurd (not_over (Faulted kind) config e tt)
wants_more program meter zero (suc l) Stuck config e over = absurd (not_over Stuck config e tt)
wants_more program meter (suc k) zero (Running here) config e over = absurd over
wants_more program meter (suc k) zero (Finished outcome) config e over =
    absurd (not_over (Finished outcome) config e tt)
wants_more program meter (suc k) zero (Faulted kind) config e over = absurd (not_over (Faulted kind) config e tt)
wants_more program meter (suc k) zero Stuck config e over = absurd (not_over Stuck config e tt)
wants_more program meter (suc k) (suc l) (Running here) config e over =
    let later : (steps program meter k (step program here).next).turns + weight meter
    config ≤ (steps program meter l (step program here).next).turns =
    wants_more program meter k l (step program here).next config e over
    in omega arith
wants_more program meter (suc k) (suc l) (Finished outcome) config e over =
    absurd (not_over (Finished outcome) config e tt)
wants_more program meter (suc k) (suc l) (Faulted kind) config e over = absurd (not_over (Faulted kind) config e tt)
wants_more program meter (suc k) (suc l) Stuck config e over = absurd (not_over Stuck config e tt)

-- the run after the start
abbrev pub after : Program → Meter → StepResult → ℕ → Run
after program meter initial k = steps program meter k initial.next

abbrev pub over_there : (program : Program) (meter : Meter) (initial : StepResult) (k : ℕ) (run : Run)
    → run_from program meter initial k ≡ run → IsOver run.at → IsOver (after program meter initial k).at
over_there program meter initial k run e over = let P : Run → Type 0 = λ r. IsOver r.at in subst P (sym e) over

-- a run that is over leaves no step that takes a turn past the budget
pub not_spent : (program : Program) (meter : Meter) (initial : StepResult) (budget : ℕ) (run : Run)
    → IsOverWithin (run_from program meter initial) budget run → IsSpent (run_from program meter initial) meter budget
    → ⊥
not_spent program meter initial budget run o s =
    let more : (after program meter initial s.count).turns + weight meter
    s.config ≤ (after program meter initial o.count).turns =
    wants_more program meter s.count o.count initial.next s.config s.standing
    (over_there program meter initial o.count run o.is_run o.over)
    in let took : 0 + (after program meter initial o.count).turns ≡ run.turns = ap (λ (r : Run). r.turns) o.is_run
    in let used : 0 + (after program meter initial s.count).turns ≡ budget = s.used
    in let wants : 0 < weight meter s.config = s.wants
    in let within : run.turns ≤ budget = o.in_budget
    in omega arith

pub one_at_most : RunsHaveOneResultAtMost
one_at_most program meter initial budget (Over a) (Over b) p q =
    let e : after program meter initial p.count ≡ after program meter initial q.count =
    same_end program meter p.count q.count initial.next (over_there program meter initial p.count a p.is_run p.over)
    (over_there program meter initial q.count b q.is_run q.over)
    in ap Over (sym p.is_run ∙ (ap (run_after initial.entries 0) e ∙ q.is_run))
one_at_most program meter initial budget (Over a) Spent p q = absurd (not_spent program meter initial budget a p q)
one_at_most program meter initial budget Spent (Over b) p q = absurd (not_spent program meter initial budget b q p)
one_at_most program meter initial budget Spent Spent p q = refl

-- ---- if each step is a turn

pub takes_one : (stack : List Activation) → weight_of all_one stack ≡ 1
takes_one [] = refl
takes_one (InModule frame ∷ below) = refl
takes_one (InMain actions ∷ below) = refl
takes_one (InImport import args actions end ∷ below) = refl

pub takes_at_most : (program : Program) (k : ℕ) (at : Progress) → (steps program all_one k at).turns ≤ k
takes_at_most program zero at = omega arith
takes_at_most program (suc k) (Running config) =
    let one : weight all_one config ≡ 1 = takes_one config.stack
    in let later : (steps program all_one k (step program config).next).turns ≤ k =
    takes_at_most program k (step program config).next
    in omega arith
takes_at_most program (suc k) (Finished outcome) = omega arith
takes_at_most program (suc k) (Faulted kind) = omega arith
takes_at_most program (suc k) Stuck = omega arith

pub takes_all : (program : Program) (k : ℕ) (at : Progress) (config : Config)
    → (steps program all_one k at).at ≡ Running config → (steps program all_one k at).turns ≡ k
takes_all program zero at config e = refl
takes_all program (suc k) (Running here) config e =
    let one : weight all_one here ≡ 1 = takes_one here.stack
    in let later : (steps program all_one k (step program here).next).turns ≡ k =
    takes_all program k (step program here).next config e
    in omega arith
takes_all program (suc k) (Finished outcome) config e = absurd (not_over (Finished outcome) config e tt)
takes_all program (suc k) (Faulted kind) config e = absurd (not_over (Faulted kind) config e tt)
takes_all program (suc k) Stuck config e = absurd (not_over Stuck config e tt)

pub over_result : (program : Program) (initial : StepResult) (budget : ℕ)
    → IsOver (run_from program all_one initial budget).at
    → HasSomeResult (run_from program all_one initial) all_one budget
over_result program initial budget over =
    let few : 0 + (steps program all_one budget initial.next).turns ≤ budget =
    let most : (steps program all_one budget initial.next).turns ≤ budget =
    takes_at_most program budget initial.next in omega arith
    in (
      Over (run_from program all_one initial budget),
      record
          { count = budget; is_run = refl; over = over; in_budget = few },
    )

-- after as many steps as there are turns the run is over, or its turns are spent
pub result_at : (program : Program) (initial : StepResult) (budget : ℕ) (at : Progress)
    → (run_from program all_one initial budget).at ≡ at
    → HasSomeResult (run_from program all_one initial) all_one budget
result_at program initial budget (Running config) e =
    let used : 0 + (steps program all_one budget initial.next).turns ≡ budget =
    let all : (steps program all_one budget initial.next).turns ≡ budget =
    takes_all program budget initial.next config e in omega arith
    in let one : weight all_one config ≡ 1 = takes_one config.stack
    in (Spent, record { count = budget; config = config; standing = e; used = used; wants = omega arith })
result_at program initial budget (Finished outcome) e =
    over_result program initial budget (let P : Progress → Type 0 = λ p. IsOver p in subst P (sym e) tt)
result_at program initial budget (Faulted kind) e =
    over_result program initial budget (let P : Progress → Type 0 = λ p. IsOver p in subst P (sym e) tt)
result_at program initial budget Stuck e =
    over_result program initial budget (let P : Progress → Type 0 = λ p. IsOver p in subst P (sym e) tt)

pub some_result : RunsHaveSomeResult
some_result program initial budget = result_at program initial budget (run_from program all_one initial budget).at refl
