-- A program that realises a world has the outcomes of the world.
use Rattle.std.proofs.Common.{◌≡◌, ℕ, ◌<◌, Result, Ok, Err, refl, sym, ap, ◌∙◌, subst}
use Rattle.base.specs.declared.outcomes.Outcome.{Outcome}
use Rattle.host_script.specs.declared.scripts.LinkFault.{LinkFault}
use Rattle.history_spec.specs.declared.entries.FaultKind.{FaultKind}
use Rattle.history_spec.specs.Configuration.{Config}
use Rattle.history_spec.specs.Step.{Faulted, Finished, Program, Progress, Running, StepResult, Stuck}
use Rattle.history_spec.specs.Run.{Meter, Run, program_of, run_after, run_from, weight}
use Rattle.history_spec.specs.Budget.{IsOver, IsOverWithin, IsSpent}
use Rattle.instance_spec.specs.Instances.{World, run_in}
use Rattle.instance_spec.specs.Renamed.{renamed_config, renamed_progress, renamed_result, renamed_run}
use Rattle.instance_spec.specs.ForeignRuns.{foreign_start, foreign_world}
use Rattle.instance_spec.specs.Widened.{widened}
use Rattle.instance_spec.specs.Laws.{DoesFollow, RunsFollow, WidenedRunsFollow, renamed_start}
use Rattle.instance_spec.specs.Outcomes.{DoOutcomesFollow, HasOutcomeIn, IsFaultyIn, IsSpentIn, OutcomesFollow, WidenedOutcomesFollow}
use Rattle.instance_laws.proofs.Steps.{stack_weighed}

module _ (w : World) where
  -- ---- what is renamed

  at_kept : (at : Progress) → IsOver at → renamed_progress w at ≡ at
  at_kept (Running config) over = absurd over
  at_kept (Finished outcome) over = refl
  at_kept (Faulted kind) over = refl
  at_kept Stuck over = refl

  run_kept : (run : Run) → IsOver run.at → renamed_run w run ≡ run
  run_kept run over = ap (λ at. record run { at = at }) (at_kept run.at over)

  over_before : (at : Progress) → IsOver (renamed_progress w at) → IsOver at
  over_before (Running config) over = over
  over_before (Finished outcome) over = tt
  over_before (Faulted kind) over = tt
  over_before Stuck over = tt

  running_before : (at : Progress) (config : Config) → renamed_progress w at ≡ Running config
      → (own : Config) × (at ≡ Running own) × (renamed_config w own ≡ config)
  running_before (Running own) config e = (own, refl, cc)
  running_before (Finished outcome) config e = cc
  running_before (Faulted kind) config e = cc
  running_before Stuck config e = cc

  start_before : (begun : Result StepResult LinkFault) (other : StepResult) → renamed_start w begun ≡ Ok other
      → (initial : StepResult) × (begun ≡ Ok initial) × (renamed_result w initial ≡ other)
  start_before (Ok initial) other e = (initial, refl, cc)
  start_before (Err fault) other e = cc

  fault_before : (begun : Result StepResult LinkFault) (fault : LinkFault) → renamed_start w begun ≡ Err fault
      → begun ≡ Err fault
  fault_before (Ok initial) fault e = cc
  fault_before (Err found) fault e = e

  -- ---- runs

  module _ (p : Program) (meter : Meter) (follow : DoesFollow w p) where
    run_is : (initial : StepResult) (k : ℕ)
        → run_from p meter (renamed_result w initial) k ≡ renamed_run w (run_in w meter initial k)
    run_is initial k = ap (run_after initial.entries 0) (follow.goes_on meter k initial.next)

    within_there : (initial : StepResult) (turns : ℕ) (run : Run) → IsOverWithin (run_in w meter initial) turns run
        → IsOverWithin (run_from p meter (renamed_result w initial)) turns run
    within_there initial turns run h =
        record {
          count = h.count;
          is_run = run_is initial h.count ∙ ap (renamed_run w) h.is_run ∙ run_kept run h.over;
          over = h.over;
          in_budget = h.in_budget;
        }

    within_back : (initial : StepResult) (turns : ℕ) (run : Run)
        → IsOverWithin (run_from p meter (renamed_result w initial)) turns run
        → IsOverWithin (run_in w meter initial) turns run
    within_back initial turns run h =
        let own = run_in w meter initial h.count in
        let same : renamed_run w own ≡ run = sym (run_is initial h.count) ∙ h.is_run in
        let over : IsOver own.at =
        over_before own.at (subst (λ (r : Run). IsOver r.at) (sym same) h.over)
        in
        record {
          count = h.count;
          is_run = sym (run_kept own over) ∙ same;
          over = h.over;
          in_budget = h.in_budget;
        }

    spent_there : (initial : StepResult) (turns : ℕ) → IsSpent (run_in w meter initial) meter turns
        → IsSpent (run_from p meter (renamed_result w initial)) meter turns
    spent_there initial turns h =
        record {
          count = h.count;
          config = renamed_config w h.config;
          standing = ap (λ (r : Run). r.at) (run_is initial h.count) ∙ ap (renamed_progress w) h.standing;
          used = ap (λ (r : Run). r.turns) (run_is initial h.count) ∙ h.used;
          wants = subst (λ k. 0 < k) (sym (stack_weighed w meter h.config.stack)) h.wants;
        }

    spent_back : (initial : StepResult) (turns : ℕ) → IsSpent (run_from p meter (renamed_result w initial)) meter turns
        → IsSpent (run_in w meter initial) meter turns
    spent_back initial turns h =
        let own = run_in w meter initial h.count in
        let same = run_is initial h.count in
        let found =
        running_before own.at h.config (sym (ap (λ (r : Run). r.at) same) ∙ h.standing)
        in
        let weight_is : weight meter h.config ≡ weight meter found.0 =
        sym (ap (weight meter) found.2) ∙ stack_weighed w meter found.0.stack
        in
        record {
          count = h.count;
          config = found.0;
          standing = found.1;
          used = sym (ap (λ (r : Run). r.turns) same) ∙ h.used;
          wants = subst (λ k. 0 < k) weight_is h.wants;
        }

    -- ---- from a start

    module _ (begun : Result StepResult LinkFault) where
      outcome_there : (turns : ℕ) (run : Run) (outcome : Outcome) → HasOutcomeIn begun (run_in w meter) turns run outcome
          → HasOutcomeIn (renamed_start w begun) (run_from p meter) turns run outcome
      outcome_there turns run outcome h =
          record {
            initial = renamed_result w h.initial;
            starts = ap (renamed_start w) h.starts;
            within = within_there h.initial turns run h.within;
            ends = h.ends;
          }

      outcome_back : (turns : ℕ) (run : Run) (outcome : Outcome)
          → HasOutcomeIn (renamed_start w begun) (run_from p meter) turns run outcome
          → HasOutcomeIn begun (run_in w meter) turns run outcome
      outcome_back turns run outcome h =
          let before = start_before begun h.initial h.starts in
          record {
            initial = before.0;
            starts = before.1;
            within =
                within_back before.0 turns run
                (subst (λ s. IsOverWithin (run_from p meter s) turns run) (sym before.2) h.within);
            ends = h.ends;
          }

      fault_there : (turns turn : ℕ) (kind : FaultKind) → IsFaultyIn begun (run_in w meter) turns turn kind
          → IsFaultyIn (renamed_start w begun) (run_from p meter) turns turn kind
      fault_there turns turn kind h =
          record {
            initial = renamed_result w h.initial;
            starts = ap (renamed_start w) h.starts;
            run = h.run;
            within = within_there h.initial turns h.run h.within;
            kind_is = h.kind_is;
            turn_is = h.turn_is;
          }

      fault_back : (turns turn : ℕ) (kind : FaultKind)
          → IsFaultyIn (renamed_start w begun) (run_from p meter) turns turn kind
          → IsFaultyIn begun (run_in w meter) turns turn kind
      fault_back turns turn kind h =
          let before = start_before begun h.initial h.starts in
          record {
            initial = before.0;
            starts = before.1;
            run = h.run;
            within =
                within_back before.0 turns h.run
                (subst (λ s. IsOverWithin (run_from p meter s) turns h.run) (sym before.2) h.within);
            kind_is = h.kind_is;
            turn_is = h.turn_is;
          }

      turns_there : (turns : ℕ) → IsSpentIn begun (run_in w meter) meter turns
          → IsSpentIn (renamed_start w begun) (run_from p meter) meter turns
      turns_there turns h =
          record {
            initial = renamed_result w h.initial;
            starts = ap (renamed_start w) h.starts;
            spent = spent_there h.initial turns h.spent;
          }

      turns_back : (turns : ℕ) → IsSpentIn (renamed_start w begun) (run_from p meter) meter turns
          → IsSpentIn begun (run_in w meter) meter turns
      turns_back turns h =
          let before = start_before begun h.initial h.starts in
          record {
            initial = before.0;
            starts = before.1;
            spent =
                spent_back before.0 turns
                (subst (λ s. IsSpent (run_from p meter s) meter turns) (sym before.2) h.spent);
          }

      all_follow : DoOutcomesFollow w p meter begun (renamed_start w begun)
      all_follow =
          record {
            outcomes = λ turns run outcome. (outcome_there turns run outcome, outcome_back turns run outcome);
            faults = λ turns turn kind. (fault_there turns turn kind, fault_back turns turn kind);
            spent = λ turns. (turns_there turns, turns_back turns);
            unlinked = λ fault. (ap (renamed_start w), fault_before begun fault);
          }

pub outcomes_follow : RunsFollow → OutcomesFollow
outcomes_follow follow w p meter begun realises = all_follow w p meter (follow w p realises) begun

pub widened_outcomes_follow : OutcomesFollow → WidenedRunsFollow → WidenedOutcomesFollow
widened_outcomes_follow outcomes follow m decls script meter =
    let w = foreign_world m decls script in
    let p = program_of (widened m decls) script in
    let own = follow m decls script in
    subst (DoOutcomesFollow w p meter (foreign_start m decls script)) (sym own.starts)
    (outcomes w p meter (foreign_start m decls script) own.realises)
