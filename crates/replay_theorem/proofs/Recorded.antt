-- The log of an instrumented run is that of the original's run.
use Rattle.std.proofs.Common.{◌≡◌, ℕ, ◌-◌, [], slice_index, refl, sym, ap, ◌∙◌, subst, arith}
use Rattle.std.specs.List.{slice_index_or}
use Rattle.wasm_syntax.specs.Index.{imported_funcs}
use Rattle.base.specs.declared.outcomes.Outcome.{Outcome}
use Rattle.history_spec.specs.Budget.{IsOver, RunResult, Over, Spent, IsResult}
use Rattle.history_spec.specs.Run.{Meter, Run, all_one}
use Rattle.history_spec.specs.Step.{Progress, Finished}
use Rattle.record_replay_spec.specs.Hooks.{renumbered_view}
use Rattle.record_replay_spec.specs.Instrumented.{instrumented_weights, instrumented_meter}
use Rattle.record_replay_spec.specs.HookLaws.{InstrumentedKeepIndices}
use Rattle.record_replay_spec.specs.Logs.{log_of}
use Rattle.tape_laws.specs.CallLaws.{OriginalRun, hooked_shape}
use Rattle.instrumented_run_laws.specs.Laws.{original_run, instrumented_run, AreAlike, InstrumentedRunsFollow}
use Rattle.replay_theorem.specs.Laws.{RunsAreReplayedFromLogs}
use Rattle.replay_theorem.specs.RecordedRunLaws.{WeightsMeanMeters, IsRecorded, RecordedRunsAreReplayed, RunsAreRecorded}

pub weights_mean_meters : InstrumentedKeepIndices → WeightsMeanMeters
weights_mean_meters keep m digest = λ i. record {
  instruction = λ func number.
      slice_index (slice_index_or (instrumented_weights m) (func - (keep m digest).imports i) []) number;
  action = 1;
}

pub over_at : (at : Progress) (outcome : Outcome) → at ≡ Finished outcome → IsOver at
over_at at outcome same = subst IsOver (sym same) tt

module _ (follows : InstrumentedRunsFollow) (replays : RunsAreReplayedFromLogs) (run : OriginalRun)
    (outcome : Outcome) where
  -- both runs have the outcome, in equally many turns
  recorded_both : (count steps : ℕ) → (original_run run count).at ≡ Finished outcome
      → (instrumented_run run steps).at ≡ Finished outcome
      → (instrumented_run run steps).turns ≡ (original_run run count).turns → IsRecorded run count steps outcome
  recorded_both count steps original instrumented turns =
      record {
        original = original;
        instrumented = instrumented;
        turns = turns;
        log = ap
            (λ calls. log_of (hooked_shape run) (renumbered_view (imported_funcs run.m) run.store) calls outcome)
            ((follows run).reported_all count steps outcome outcome original instrumented);
        shown = replays run count outcome original;
      }

  -- a run that is over is its own result
  own_result : (steps : ℕ → Run) (meter : Meter) (count : ℕ) → (steps count).at ≡ Finished outcome
      → IsResult steps meter (steps count).turns (Over (steps count))
  own_result steps meter count over =
      record {
        count = count;
        is_run = refl;
        over = over_at (steps count).at outcome over;
        in_budget = omega arith;
      }

  original_by : (steps budget : ℕ) → (instrumented_run run steps).at ≡ Finished outcome → (result : RunResult)
      → IsResult (original_run run) all_one budget result → AreAlike result (Over (instrumented_run run steps))
      → (count : ℕ) × IsRecorded run count steps outcome
  original_by steps budget over Spent o alike = absurd alike
  original_by steps budget over (Over result) o alike = (
    o.count,
    recorded_both o.count steps (ap (λ (x : Run). x.at) o.is_run ∙ sym alike.0 ∙ over) over
        (alike.1 ∙ sym (ap (λ (x : Run). x.turns) o.is_run)),
  )

  recorded_run : (steps : ℕ) → (instrumented_run run steps).at ≡ Finished outcome
      → (count : ℕ) × IsRecorded run count steps outcome
  recorded_run steps over =
      let found = (follows run).instrumented_results (instrumented_run run steps).turns
      (Over (instrumented_run run steps)) (own_result (instrumented_run run) (instrumented_meter run.m) steps over) in
      original_by steps (instrumented_run run steps).turns over found.0 found.1 found.2

  instrumented_by : (count budget : ℕ) → (original_run run count).at ≡ Finished outcome → (found : RunResult)
      → IsResult (instrumented_run run) (instrumented_meter run.m) budget found
      → AreAlike (Over (original_run run count)) found → (steps : ℕ) × IsRecorded run count steps outcome
  instrumented_by count budget over Spent o alike = absurd alike
  instrumented_by count budget over (Over found) o alike = (
    o.count,
    recorded_both count o.count over (ap (λ (x : Run). x.at) o.is_run ∙ alike.0 ∙ over)
        (ap (λ (x : Run). x.turns) o.is_run ∙ alike.1),
  )

  run_recorded : (count : ℕ) → (original_run run count).at ≡ Finished outcome
      → (steps : ℕ) × IsRecorded run count steps outcome
  run_recorded count over =
      let found = (follows run).results (original_run run count).turns (Over (original_run run count))
      (own_result (original_run run) all_one count over) in
      instrumented_by count (original_run run count).turns over found.0 found.1 found.2

pub recorded_runs_are_replayed : InstrumentedRunsFollow → RunsAreReplayedFromLogs → RecordedRunsAreReplayed
recorded_runs_are_replayed follows replays run steps outcome over = recorded_run follows replays run outcome steps over

pub runs_are_recorded : InstrumentedRunsFollow → RunsAreReplayedFromLogs → RunsAreRecorded
runs_are_recorded follows replays run count outcome over = run_recorded follows replays run outcome count over
