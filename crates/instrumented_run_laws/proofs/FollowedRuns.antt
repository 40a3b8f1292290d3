-- An instrumented run that comes beside the original's after each number of its steps follows it.
use Rattle.std.proofs.Common.{◌≡◌, ℕ, suc, List, ◌++◌, map, None, Ok, refl, sym, ap, ◌∙◌, subst, arith}
use Rattle.wasm_syntax.specs.Index.{imported_funcs}
use Rattle.base.specs.declared.outcomes.Outcome.{Outcome}
use Rattle.history_spec.specs.Budget.{IsOver, RunResult, Over, Spent, IsOverWithin, IsSpent, IsResult, RunsHaveOneResultAtMost, RunsHaveSomeResult}
use Rattle.history_spec.specs.Instantiation.{table_length}
use Rattle.history_spec.specs.Run.{Meter, Run, all_one, steps, run_start}
use Rattle.history_spec.specs.Step.{Program, Progress, Running, Finished, Faulted, Stuck}
use Rattle.record_replay_spec.specs.Hooks.{HookCall, renumbered_call}
use Rattle.record_replay_spec.specs.Instrumented.{instrumented_meter}
use Rattle.record_replay_spec.specs.Order.{order_start, first_disorder}
use Rattle.record_replay_spec.specs.ReportedCalls.{WaitingCall, reported_by_run}
use Rattle.tape_laws.specs.CallLaws.{OriginalRun, hooked_shape, calls_of_run, HookCallsAreInOrder}
use Rattle.instrumented_module_laws.specs.Links.{script_with_hooks}
use Rattle.instrumented_run_laws.specs.Laws.{original_program, original_start, original_run, instrumented_of, instrumented_program, instrumented_start, instrumented_run, instrumented_calls, AreAlike, IsReported, IsFollowed}
use Rattle.instrumented_run_laws.proofs.Follows.{Follows}
use Rattle.instrumented_run_laws.proofs.FunctionWeights.{weight_at_most_one}
use Rattle.instrumented_run_laws.proofs.Relation.{ComesBeside}
use Rattle.instrumented_run_laws.proofs.RunsAlong.{arrives}
use Rattle.instrumented_run_laws.proofs.RunTurns.{first_in_order, fewer_first, over_last, over_same, one_more, few_turns, wants_one}

over_at : (at to : Progress) → to ≡ at → IsOver at → IsOver to
over_at at to same over = subst IsOver (sym same) over

module _ (run : OriginalRun) (waiting : ℕ → List WaitingCall)
    (reached : (count : ℕ)
    → Follows run.m (instrumented_program run) (instrumented_meter run.m)
    (reported_by_run run.m (original_program run) run.store (original_start run) count) (waiting count)
    (original_run run count).at (instrumented_start run).next (original_run run count).turns)
    (begins : run_start (instrumented_of run) (script_with_hooks run.m run.script) ≡ Ok (instrumented_start run))
    (one_result : RunsHaveOneResultAtMost) (some_result : RunsHaveSomeResult) (in_order : HookCallsAreInOrder) where
  abbrev n : ℕ
  n = imported_funcs run.m

  abbrev other : Program
  other = instrumented_program run

  abbrev meter : Meter
  meter = instrumented_meter run.m

  abbrev start : Progress
  start = (instrumented_start run).next

  -- some steps of the instrumented run, which do what `count` steps of the original's run do
  record Reaches (count : ℕ) : Type 0 where
    there : ℕ
    at : Progress
    is : (steps other meter there start).at ≡ at
    beside : ComesBeside run.m meter (original_run run count).at (waiting count) at
    turns : (steps other meter there start).turns ≡ (original_run run count).turns
    calls : instrumented_calls run there ≡ calls_of_run run count

  reaches : (count : ℕ) → Reaches count
  reaches count =
      let f = reached count in
      let e = arrives n other meter start f.to (original_run run count).turns
      (map (renumbered_call n) (reported_by_run run.m (original_program run) run.store (original_start run) count)) f.led in
      record { there = e.count; at = f.to; is = e.at; beside = f.beside; turns = e.turns; calls = e.calls }

  -- if the original's run is over, so is the instrumented one
  ends_alike : (count : ℕ) (at : Progress) → (original_run run count).at ≡ at → IsOver at → (r : Reaches count) → r.at ≡
      at
  ends_alike count at is over r =
      by at over (subst (λ p. ComesBeside run.m meter p (waiting count) r.at) is r.beside)
    where
      by : (at : Progress) → IsOver at → ComesBeside run.m meter at (waiting count) r.at → r.at ≡ at
      by (Running config) over beside = absurd over
      by (Finished outcome) over beside = beside
      by (Faulted kind) over beside = beside
      by Stuck over beside = absurd beside

  -- ---- results

  abbrev ComesOut : ℕ → RunResult → Type 0
  ComesOut budget result =
      (found : RunResult) × IsResult (instrumented_run run) meter budget found × AreAlike result found

  comes_over : (budget : ℕ) (result : Run) → IsOverWithin (original_run run) budget result → ComesOut budget (Over
      result)
  comes_over budget result o =
      let r = reaches o.count in
      let result_at : (original_run run o.count).at ≡ result.at = ap (λ (x : Run). x.at) o.is_run in
      let turns_are : (original_run run o.count).turns ≡ result.turns = ap (λ (x : Run). x.turns) o.is_run in
      let at : (instrumented_run run r.there).at ≡ result.at =
      r.is ∙ ends_alike o.count result.at result_at o.over r in
      let turns : (instrumented_run run r.there).turns ≡ result.turns =
      let t = r.turns in omega (arith, t, turns_are) in
      let within = o.in_budget in (
        Over (instrumented_run run r.there),
        record {
          count = r.there;
          is_run = refl;
          over = over_at result.at (instrumented_run run r.there).at at o.over;
          in_budget = omega (arith, turns, within);
        },
        (at, turns),
      )

  comes_spent : (budget : ℕ) → IsSpent (original_run run) all_one budget → ComesOut budget Spent
  comes_spent budget s =
      let r = reaches (suc s.count) in
      let more = one_more (original_program run) all_one s.count (original_start run).next s.config s.standing in
      let turns = r.turns in
      let used = s.used in
      let wants = s.wants in
      let w = wants_one other meter (weight_at_most_one run.m) refl r.there budget start
      (omega (arith, more, turns, used, wants)) in
      let taken = w.used in (
        Spent,
        record {
          count = w.count;
          config = w.config;
          standing = w.standing;
          used = omega (arith, taken);
          wants = w.wants;
        },
        tt,
      )

  comes_out : (budget : ℕ) (result : RunResult) → IsResult (original_run run) all_one budget result
      → ComesOut budget result
  comes_out budget (Over result) is = comes_over budget result is
  comes_out budget Spent is = comes_spent budget is

  -- each result of the instrumented run is alike to a result of the original's
  comes_of : (budget : ℕ) (found : RunResult) → IsResult (instrumented_run run) meter budget found
      → (result : RunResult) × IsResult (original_run run) all_one budget result × AreAlike result found
  comes_of budget found is =
      let some = some_result (original_program run) (original_start run) budget in
      let c = comes_out budget some.0 some.1 in
      let same = one_result other meter (instrumented_start run) budget c.0 found c.1 is in
      (some.0, some.1, subst (AreAlike some.0) same c.2)

  -- ---- calls

  is_reported : (count : ℕ) → IsReported run count
  is_reported count =
      let r = reaches count in
      record {
        steps = r.there;
        calls = r.calls;
        outcome = λ outcome is. r.is ∙ ends_alike count (Finished outcome) is tt r;
      }

  reported_all : (count steps : ℕ) (outcome found : Outcome) → (original_run run count).at ≡ Finished outcome
      → (instrumented_run run steps).at ≡ Finished found → instrumented_calls run steps ≡ calls_of_run run count
  reported_all count number outcome found is there =
      let r = reaches count in
      let at = r.is ∙ ends_alike count (Finished outcome) is tt r in
      over_same n other meter number r.there start
      (over_at (Finished found) (instrumented_run run number).at there tt)
      (over_at (Finished outcome) (instrumented_run run r.there).at at tt)
      ∙ r.calls

  -- ---- order

  abbrev IsInOrder : ℕ → Type 0
  IsInOrder number =
      first_disorder (hooked_shape run) (order_start (table_length run.store.table)) 0 (instrumented_calls run number)
      ≡ None

  -- hook calls that are the first of those of the original's run are in order
  first_ordered : (number count : ℕ) (later : List HookCall) → calls_of_run run count ≡ instrumented_calls run number ++
      later
      → IsInOrder number
  first_ordered number count later parts =
      first_in_order (hooked_shape run) (order_start (table_length run.store.table)) 0 (instrumented_calls run number)
      later
      (ap (first_disorder (hooked_shape run) (order_start (table_length run.store.table)) 0) (sym parts)
      ∙ in_order run count)

  ordered_by : (number : ℕ) (result : RunResult) → IsResult (original_run run) all_one number result → IsInOrder number
  ordered_by number (Over result) o =
      let r = reaches o.count in
      let result_at : (original_run run o.count).at ≡ result.at = ap (λ (x : Run). x.at) o.is_run in
      let at = r.is ∙ ends_alike o.count result.at result_at o.over r in
      let part = over_last n other meter r.there number start
      (over_at result.at (instrumented_run run r.there).at at o.over) in
      first_ordered number o.count part.0 (sym r.calls ∙ part.1)
  ordered_by number Spent s =
      let r = reaches s.count in
      let few = few_turns other meter (weight_at_most_one run.m) refl r.there start in
      let turns = r.turns in
      let used = s.used in
      let part = fewer_first n other meter number r.there start (omega (arith, few, turns, used)) in
      first_ordered number s.count part.0 (sym r.calls ∙ part.1)

  ordered : (number : ℕ) → IsInOrder number
  ordered number =
      let some = some_result (original_program run) (original_start run) number in
      ordered_by number some.0 some.1

  pub is_followed : IsFollowed run
  is_followed =
      record {
        begins = begins;
        results = comes_out;
        instrumented_results = comes_of;
        reported = is_reported;
        reported_all = reported_all;
        ordered = ordered;
      }
