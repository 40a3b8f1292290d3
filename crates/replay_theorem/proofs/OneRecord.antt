-- A recorded run has at most one answer.
use Rattle.std.proofs.Common.{◌≡◌, ℕ, zero, suc, ◌+◌, ◌<◌, ◌≤◌, List, [], ◌∷◌, ◌++◌, Option, Some, None, Bool, true, false, nat_lt, Result, Ok, Err, refl, sym, ap, ◌∙◌, subst, arith}
use Rattle.std.proofs.lemmas.Bool.{ltb-true, ltb-false}
use Rattle.base.specs.declared.outcomes.Outcome.{Outcome}
use Rattle.base.proofs.Options.{none_some, same_some}
use Rattle.base.proofs.Results.{same_ok, ok_err}
use Rattle.trace_model.specs.declared.events.Log.{Log}
use Rattle.history_spec.specs.declared.entries.FaultKind.{FaultKind}
use Rattle.history_spec.specs.Configuration.{Config}
use Rattle.history_spec.specs.Step.{Program, Progress, Running, Finished, Faulted, Stuck, step}
use Rattle.history_spec.specs.Run.{Meter, Run, steps, weight}
use Rattle.history_spec.specs.Budget as budget
use Rattle.history_spec.specs.Budget.{IsOver, HasOneResultAtMost}
use Rattle.history_spec.specs.Instantiation.{table_length}
use Rattle.record_replay_spec.specs.Hooks.{HookCall}
use Rattle.record_replay_spec.specs.Order.{HookedShape, OrderState, number_or, order_start, ordered_step, first_disorder}
use Rattle.record_replay_spec.specs.Logs.{LogState, after_events, call_events, events_from, events_or, log_after_call, log_of, log_start, log_with}
use Rattle.host_play.specs.declared.results.PlayFault.{PlayFault}
use Rattle.host_play.specs.declared.results.PlayFault.TheVariants as refusal
use Rattle.host_play.specs.HookedResults.{steps_of}
use Rattle.instrumented_run_laws.proofs.RunTurns.{first_in_order, fewer_first, over_last, over_same}
use Rattle.run_recorder.specs.Records.{RecordedRun, calls_in, disorder_in, IsLog, IsFaulty, IsSpentInOrder, IsOutOfOrder, IsRecord}
use Rattle.type_safety.proofs.OneResult.{same_run, over_spent, same_outcome, same_kind, ended_faulted}

-- the first call out of order remains the first if more calls follow
later_disorder : (shape : HookedShape) (state : OrderState) (at : ℕ) (first later : List HookCall) (number : ℕ)
    → first_disorder shape state at first ≡ Some number → first_disorder shape state at (first ++ later) ≡ Some number
later_disorder shape state at [] later number h = cc
later_disorder shape state at (call ∷ first) later number h =
    by (ordered_step shape state call) (λ next h. later_disorder shape next (at + 1) first later number h) h
  where
    by : (o : Option OrderState)
        → ((next : OrderState) → first_disorder shape next (at + 1) first ≡ Some number
        → first_disorder shape next (at + 1) (first ++ later) ≡ Some number)
        → number_or at o (λ next. first_disorder shape next (at + 1) first) ≡ Some number
        → number_or at o (λ next. first_disorder shape next (at + 1) (first ++ later)) ≡ Some number
    by None each h = h
    by (Some next) each h = each next h

-- calls that are out of order have no events
no_events : (shape : HookedShape) (order : OrderState) (log : LogState) (at : ℕ) (calls : List HookCall) (number : ℕ)
    → first_disorder shape order at calls ≡ Some number → events_from shape order log at calls ≡ Err number
no_events shape order log at [] number h = absurd (cc h)
no_events shape order log at (call ∷ calls) number h =
    by (ordered_step shape order call)
    (λ next h. no_events shape next (log_after_call shape log call) (at + 1) calls number h) h
  where
    by : (o : Option OrderState)
        → ((next : OrderState) → first_disorder shape next (at + 1) calls ≡ Some number
        → events_from shape next (log_after_call shape log call) (at + 1) calls ≡ Err number)
        → number_or at o (λ next. first_disorder shape next (at + 1) calls) ≡ Some number
        → events_or at o (λ next. after_events (call_events shape log order.pending call)
        (events_from shape next (log_after_call shape log call) (at + 1) calls)) ≡ Err number
    by None each h = let same : at ≡ number = cc h in ap Err same
    by (Some next) each h = ap (after_events (call_events shape log order.pending call)) (each next h)

-- from a configuration on, each further step takes at least the turns of the next one
more_turns : (program : Program) (meter : Meter) (k l : ℕ) (at : Progress) (config : Config)
    → (steps program meter k at).at ≡ Running config → k < l
    → (steps program meter k at).turns + weight meter config ≤ (steps program meter l at).turns
more_turns program meter zero zero at config e less = absurd (omega (arith, less))
more_turns program meter (suc k) zero at config e less = absurd (omega (arith, less))
more_turns program meter zero (suc l) (Running here) config e less =
    let w : weight meter here ≡ weight meter config = cc in omega (arith, w)
more_turns program meter zero (suc l) (Finished outcome) config e less = absurd (cc e)
more_turns program meter zero (suc l) (Faulted kind) config e less = absurd (cc e)
more_turns program meter zero (suc l) Stuck config e less = absurd (cc e)
more_turns program meter (suc k) (suc l) (Running here) config e less =
    let later = more_turns program meter k l (step program here).next config e (omega (arith, less))
    in omega (arith, later)
more_turns program meter (suc k) (suc l) (Finished outcome) config e less = absurd (cc e)
more_turns program meter (suc k) (suc l) (Faulted kind) config e less = absurd (cc e)
more_turns program meter (suc k) (suc l) Stuck config e less = absurd (cc e)

-- ---- differences, and equal results

-- ---- one answer

module _ (r : RecordedRun) (one : HasOneResultAtMost (steps_of r.run) r.run.meter r.run.budget) where
  -- the first of several calls
  abbrev AreFirst : (j k : ℕ) → Type 0
  AreFirst j k = (later : List HookCall) × (calls_in r k ≡ calls_in r j ++ later)

  ordered_first : (j k : ℕ) → AreFirst j k → disorder_in r k ≡ None → disorder_in r j ≡ None
  ordered_first j k part is =
      first_in_order r.shape (order_start (table_length r.opened.table)) 0 (calls_in r j) part.0
      (sym (ap (first_disorder r.shape (order_start (table_length r.opened.table)) 0) part.1) ∙ is)

  disorder_later : (j k number : ℕ) → AreFirst j k → disorder_in r j ≡ Some number → disorder_in r k ≡ Some number
  disorder_later j k number part is =
      ap (first_disorder r.shape (order_start (table_length r.opened.table)) 0) part.1
      ∙ later_disorder r.shape (order_start (table_length r.opened.table)) 0 (calls_in r j) part.0 number is

  -- the calls after fewer steps are the first of those after more
  fewer : (j k : ℕ) → j ≤ k → AreFirst j k
  fewer j k less = fewer_first r.run.imports r.run.program r.run.meter j k r.run.initial.next less

  -- if the run is over, no more calls follow
  over_there : (k : ℕ) (run : Run) → steps_of r.run k ≡ run → IsOver run.at
      → IsOver (steps r.run.program r.run.meter k r.run.initial.next).at
  over_there k run e over = subst (λ (run : Run). IsOver run.at) (sym e) over

  never_later : (j k : ℕ) (run : Run) → steps_of r.run k ≡ run → IsOver run.at → AreFirst j k
  never_later j k run e over =
      over_last r.run.imports r.run.program r.run.meter k j r.run.initial.next (over_there k run e over)

  -- no call is out of order if none is when the run is over or its turns are spent
  over_ordered : (k number : ℕ) (run : Run) → steps_of r.run k ≡ run → IsOver run.at → disorder_in r k ≡ None
      → IsOutOfOrder r number → ⊥
  over_ordered k number run e over is o =
      none_some (disorder_in r o.count) number (ordered_first o.count k (never_later o.count k run e over) is) o.first

  spent_ordered : (number : ℕ) → IsSpentInOrder r → IsOutOfOrder r number → ⊥
  spent_ordered number s o = by (nat_lt s.spent.count o.count) refl
    where
      by : (b : Bool) → nat_lt s.spent.count o.count ≡ b → ⊥
      by true is =
          let more = more_turns r.run.program r.run.meter s.spent.count o.count r.run.initial.next s.spent.config
          s.spent.standing (ltb-true s.spent.count o.count is) in
          let used : 0 + (steps r.run.program r.run.meter s.spent.count r.run.initial.next).turns ≡ r.run.budget = s.spent.used in
          let within : 0 + (steps r.run.program r.run.meter o.count r.run.initial.next).turns ≤ r.run.budget = o.in_budget in
          let wants = s.spent.wants in
          absurd (omega (arith, more, used, within, wants))
      by false is =
          none_some (disorder_in r o.count) number
          (ordered_first o.count s.spent.count (fewer o.count s.spent.count (ltb-false s.spent.count o.count is)) s.ordered)
          o.first

  disorder_one : (a b : ℕ) → IsOutOfOrder r a → IsOutOfOrder r b → a ≡ b
  disorder_one a b o p = by (nat_lt o.count p.count) refl
    where
      by : (t : Bool) → nat_lt o.count p.count ≡ t → a ≡ b
      by true is =
          let less = ltb-true o.count p.count is in
          same_some (disorder_in r p.count) a b
          (disorder_later o.count p.count a (fewer o.count p.count (omega (arith, less))) o.first) p.first
      by false is =
          same_some (disorder_in r o.count) a b o.first
          (disorder_later p.count o.count b (fewer p.count o.count (ltb-false o.count p.count is)) p.first)

  log_one : (a b : Outcome) (log other : Log) → IsLog r a log → IsLog r b other → log ≡ other
  log_one a b log other x y =
      let run : x.after ≡ y.after = same_run x.after y.after (one (budget.Over x.after) (budget.Over y.after) x.within y.within) in
      let ends : a ≡ b = same_outcome x.after.at a b x.ends (ap (λ (run : Run). run.at) run ∙ y.ends) in
      let calls : calls_in r x.within.count ≡ calls_in r y.within.count =
      over_same r.run.imports r.run.program r.run.meter x.within.count y.within.count r.run.initial.next
      (over_there x.within.count x.after x.within.is_run x.within.over)
      (over_there y.within.count y.after y.within.is_run y.within.over) in
      same_ok (log_of r.shape r.opened (calls_in r y.within.count) b) log other
      (sym (ap (λ (calls : List HookCall). log_of r.shape r.opened calls b) calls)
      ∙ sym (ap (log_of r.shape r.opened (calls_in r x.within.count)) ends) ∙ x.logged) y.logged

  faulty_one : (t u : ℕ) (a b : FaultKind) → IsFaulty r t a → IsFaulty r u b → refusal.Fault t a ≡ refusal.Fault u b
  faulty_one t u a b x y =
      let run : x.after ≡ y.after = same_run x.after y.after (one (budget.Over x.after) (budget.Over y.after) x.within y.within) in
      let kind : a ≡ b = same_kind x.after.at a b x.kind_is (ap (λ (run : Run). run.at) run ∙ y.kind_is) in
      let turn : t ≡ u = sym x.turn_is ∙ ap (λ (run : Run). run.turns) run ∙ y.turn_is in
      ap (λ t. refusal.Fault t a) turn ∙ ap (refusal.Fault u) kind

  log_faulty : (a : Outcome) (log : Log) (t : ℕ) (kind : FaultKind) → IsLog r a log → IsFaulty r t kind → ⊥
  log_faulty a log t kind x y =
      let run : x.after ≡ y.after = same_run x.after y.after (one (budget.Over x.after) (budget.Over y.after) x.within y.within) in
      ended_faulted x.after.at a kind x.ends (ap (λ (run : Run). run.at) run ∙ y.kind_is)

  log_spent : (a : Outcome) (log : Log) → IsLog r a log → IsSpentInOrder r → ⊥
  log_spent a log x y = over_spent x.after (one (budget.Over x.after) budget.Spent x.within y.spent)

  faulty_spent : (t : ℕ) (kind : FaultKind) → IsFaulty r t kind → IsSpentInOrder r → ⊥
  faulty_spent t kind x y = over_spent x.after (one (budget.Over x.after) budget.Spent x.within y.spent)

  log_disorder : (a : Outcome) (log : Log) (number : ℕ) → IsLog r a log → IsOutOfOrder r number → ⊥
  log_disorder a log number x o =
      let there = disorder_later o.count x.within.count number
      (never_later o.count x.within.count x.after x.within.is_run x.within.over) o.first in
      let none = no_events r.shape (order_start (table_length r.opened.table)) (log_start r.opened) 0
      (calls_in r x.within.count) number there in
      ok_err (log_of r.shape r.opened (calls_in r x.within.count) a) log number x.logged
      (ap (log_with r.shape.imports a) none)

  faulty_disorder : (t : ℕ) (kind : FaultKind) (number : ℕ) → IsFaulty r t kind → IsOutOfOrder r number → ⊥
  faulty_disorder t kind number x o =
      over_ordered x.within.count number x.after x.within.is_run x.within.over x.ordered o

  abbrev Answer : Type 0
  Answer = Result Log PlayFault

  abbrev IsSure : Answer → Type 0
  IsSure a = a ≡ Err refusal.Memory → ⊥

  pub record_one : (a b : Answer) → IsSure a → IsSure b → IsRecord r a → IsRecord r b → a ≡ b
  record_one (Ok log) (Ok other) s t x y = ap Ok (log_one log.outcome other.outcome log other x y)
  record_one (Ok log) (Err (refusal.Fault turn kind)) s t x y = absurd (log_faulty log.outcome log turn kind x y)
  record_one (Ok log) (Err refusal.Spent) s t x y = absurd (log_spent log.outcome log x y)
  record_one (Ok log) (Err (refusal.Hook number)) s t x y = absurd (log_disorder log.outcome log number x y)
  record_one (Ok log) (Err refusal.Memory) s t x y = absurd (t refl)
  record_one (Err (refusal.Fault turn kind)) (Ok log) s t x y = absurd (log_faulty log.outcome log turn kind y x)
  record_one (Err (refusal.Fault turn kind)) (Err (refusal.Fault other why)) s t x y = ap Err (faulty_one turn other kind why x y)
  record_one (Err (refusal.Fault turn kind)) (Err refusal.Spent) s t x y = absurd (faulty_spent turn kind x y)
  record_one (Err (refusal.Fault turn kind)) (Err (refusal.Hook number)) s t x y = absurd (faulty_disorder turn kind number x y)
  record_one (Err (refusal.Fault turn kind)) (Err refusal.Memory) s t x y = absurd (t refl)
  record_one (Err refusal.Spent) (Ok log) s t x y = absurd (log_spent log.outcome log y x)
  record_one (Err refusal.Spent) (Err (refusal.Fault turn kind)) s t x y = absurd (faulty_spent turn kind y x)
  record_one (Err refusal.Spent) (Err refusal.Spent) s t x y = refl
  record_one (Err refusal.Spent) (Err (refusal.Hook number)) s t x y = absurd (spent_ordered number x y)
  record_one (Err refusal.Spent) (Err refusal.Memory) s t x y = absurd (t refl)
  record_one (Err (refusal.Hook number)) (Ok log) s t x y = absurd (log_disorder log.outcome log number y x)
  record_one (Err (refusal.Hook number)) (Err (refusal.Fault turn kind)) s t x y = absurd (faulty_disorder turn kind number y x)
  record_one (Err (refusal.Hook number)) (Err refusal.Spent) s t x y = absurd (spent_ordered number y x)
  record_one (Err (refusal.Hook number)) (Err (refusal.Hook other)) s t x y =
      ap (λ n. Err (refusal.Hook n)) (disorder_one number other x y)
  record_one (Err (refusal.Hook number)) (Err refusal.Memory) s t x y = absurd (t refl)
  record_one (Err refusal.Memory) b s t x y = absurd (s refl)
