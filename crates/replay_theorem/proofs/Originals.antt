-- The record of an instrumented module's run, as a statement on the original's run.
use Rattle.std.proofs.Common.{◌≡◌, ℕ, zero, suc, List, [], ◌∷◌, ◌++◌, ◌≤◌, Option, Some, None, refl, sym, ap, ◌∙◌, subst, replicate}
use Rattle.host_script.specs.declared.scripts.Answer.{Answer}
use Rattle.host_script.specs.declared.scripts.Script.{Script}
use Rattle.base.specs.declared.outcomes.Outcome.{Outcome}
use Rattle.trace_model.specs.declared.events.Log.{Log}
use Rattle.history_spec.specs.declared.entries.FaultKind.{FaultKind}
use Rattle.history_spec.specs.Budget.{RunResult, Over, Spent, IsResult, IsSpent}
use Rattle.history_spec.specs.Run.{Meter, Run, all_one, program_of, start_in_store}
use Rattle.wasm_syntax.specs.Index.{imported_funcs}
use Rattle.wasm_flat.specs.Meters.{meter_of}
use Rattle.record_replay_spec.specs.Hooks.{HookCall, hook_count, renumbered_view}
use Rattle.record_replay_spec.specs.Order.{order_start, first_disorder}
use Rattle.record_replay_spec.specs.HookedRuns.{first_answers, hook_answer, hook_calls, hooked_script, renumbered_script}
use Rattle.record_replay_spec.specs.Instrumented.{instrumented_weights, instrumented_meter}
use Rattle.tape_laws.specs.CallLaws.{OriginalRun, calls_of_run, hooked_shape}
use Rattle.tape_laws.proofs.CallOrder.{same_length}
use Rattle.instrumented_module_laws.specs.Links.{script_with_hooks}
use Rattle.instrumented_run_laws.specs.Laws.{AreAlike, InstrumentedRunsFollow, IsFollowed, instrumented_calls, instrumented_of, instrumented_program, instrumented_start, original_program, original_run, original_start}
use Rattle.replay_theorem.specs.RecordedRunLaws.{RecordedRunsAreReplayed, WeightsMeanMeters}
use Rattle.host_play.specs.HookedResults.{HookedRun, steps_of}
use Rattle.host_play.specs.Results.{IsFault}
use Rattle.run_recorder.specs.Records.{RecordedRun, IsFaulty, IsLog, IsOutOfOrder, IsSpentInOrder, calls_in}
use Rattle.replay_theorem.specs.RecordedOriginalLaws.{IsLogOfRun, RecordsReportOriginals, record_of}

-- ---- hooks are answered once

first_again : (n : ℕ) (answers later : List (Option Answer)) → first_answers n (first_answers n answers ++ later) ≡ first_answers n answers
first_again zero answers later = refl
first_again (suc n) [] later = ap (λ rest. None ∷ rest) (first_again n [] later)
first_again (suc n) (answer ∷ answers) later = ap (λ rest. answer ∷ rest) (first_again n answers later)

hooked_once : (n : ℕ) (script : Script) → hooked_script n (hooked_script n script) ≡ hooked_script n script
hooked_once n script =
    ap (λ imports. record script { imports = imports ++ replicate hook_count (Some hook_answer) })
    (first_again n script.imports (replicate hook_count (Some hook_answer)))

-- ---- the instrumented run, as the machine makes it and as the laws define it

plain_of : OriginalRun → (turns : ℕ) → HookedRun
plain_of run turns =
    record {
      imports = imported_funcs run.m;
      program = instrumented_program run;
      meter = instrumented_meter run.m;
      initial = instrumented_start run;
      budget = turns;
    }

with_script : OriginalRun → (turns : ℕ) → Script → Meter → HookedRun
with_script run turns script meter =
    record {
      imports = imported_funcs run.m;
      program = program_of (instrumented_of run) script;
      meter = meter;
      initial = start_in_store (instrumented_of run) script (renumbered_view (imported_funcs run.m) run.store);
      budget = turns;
    }

same_run : WeightsMeanMeters → (run : OriginalRun) (turns : ℕ) → (record_of run turns).run ≡ plain_of run turns
unfolding plain_of with_script
same_run meters run turns =
    ap (λ script. with_script run turns script (meter_of (instrumented_of run) (Some (instrumented_weights run.m))))
    (hooked_once (imported_funcs run.m) (renumbered_script (imported_funcs run.m) run.script))
    ∙ ap (λ meter. with_script run turns (script_with_hooks run.m run.script) meter) (meters run.m run.digest)

plain_record : OriginalRun → (turns : ℕ) → RecordedRun
plain_record run turns =
    record { run = plain_of run turns; shape = hooked_shape run; opened = renumbered_view (imported_funcs run.m) run.store }

same_record : WeightsMeanMeters → (run : OriginalRun) (turns : ℕ) → record_of run turns ≡ plain_record run turns
unfolding plain_record
same_record meters run turns =
    ap (λ r. record { run = r; shape = hooked_shape run; opened = renumbered_view (imported_funcs run.m) run.store }) (same_run meters run turns)

-- ---- logs

log_reported : RecordedRunsAreReplayed → (run : OriginalRun) (turns : ℕ) (outcome : Outcome) (log : Log)
    → IsLog (plain_record run turns) outcome log → IsLogOfRun run turns outcome log
unfolding plain_record plain_of
log_reported replayed run turns outcome log is =
    let found = replayed run is.within.count outcome (ap (λ (r : Run). r.at) is.within.is_run ∙ is.ends) in
    record {
      count = found.0;
      ends = found.1.original;
      in_budget = subst (λ t. t ≤ turns) (sym (ap (λ (r : Run). r.turns) is.within.is_run) ∙ found.1.turns) is.within.in_budget;
      logged = sym found.1.log ∙ is.logged;
      shown = found.1.shown;
    }

-- ---- faults and spent turns

fault_reported : InstrumentedRunsFollow → (run : OriginalRun) (turns turn : ℕ) (kind : FaultKind) → IsFaulty (plain_record run turns) turn kind
    → IsFault (original_program run) (original_start run) turns turn kind
unfolding plain_record plain_of
fault_reported follow run turns turn kind is =
    let found = (follow run).instrumented_results turns (Over is.after) is.within in
    go found.0 found.1 found.2
  where
    go : (result : RunResult) → IsResult (original_run run) all_one turns result → AreAlike result (Over is.after)
        → IsFault (original_program run) (original_start run) turns turn kind
    go (Over other) within alike =
        record { run = other; within = within; kind_is = sym alike.0 ∙ is.kind_is; turn_is = sym alike.1 ∙ is.turn_is }
    go Spent within alike = absurd alike

spent_reported : InstrumentedRunsFollow → (run : OriginalRun) (turns : ℕ) → IsSpentInOrder (plain_record run turns)
    → IsSpent (original_run run) all_one turns
unfolding plain_record plain_of
spent_reported follow run turns is =
    let found = (follow run).instrumented_results turns Spent is.spent in
    go found.0 found.1 found.2
  where
    go : (result : RunResult) → IsResult (original_run run) all_one turns result → AreAlike result Spent
        → IsSpent (original_run run) all_one turns
    go (Over other) within alike = absurd alike
    go Spent spent alike = spent

-- ---- order

abbrev IsNone : Option ℕ → Type 0
IsNone None = Unit {0}
IsNone (Some number) = ⊥

in_order : InstrumentedRunsFollow → (run : OriginalRun) (turns number : ℕ) → IsOutOfOrder (plain_record run turns) number → ⊥
unfolding plain_record plain_of
in_order follow run turns number is =
    let size = same_length (imported_funcs run.m) run.store.table in
    let none = subst (λ size. first_disorder (hooked_shape run) (order_start size) 0 (instrumented_calls run is.count) ≡ None) (sym size)
    ((follow run).ordered is.count) in
    subst IsNone (sym none ∙ is.first) tt

pub reports : WeightsMeanMeters → InstrumentedRunsFollow → RecordedRunsAreReplayed → RecordsReportOriginals
reports meters follow replayed = λ run turns.
    let same = same_record meters run turns in
    record {
      logs = λ outcome log is. log_reported replayed run turns outcome log (subst (λ r. IsLog r outcome log) same is);
      faults = λ turn kind is. fault_reported follow run turns turn kind (subst (λ r. IsFaulty r turn kind) same is);
      spends = λ is. spent_reported follow run turns (subst IsSpentInOrder same is);
      ordered = λ number is. in_order follow run turns number (subst (λ r. IsOutOfOrder r number) same is);
    }

-- ---- hook calls

calls_made : HookedRun → (count : ℕ) → List HookCall
calls_made run count = hook_calls run.imports run.program count run.initial.next

-- the hook calls of a recorded run are those of the original's run
pub calls_alike : WeightsMeanMeters → (run : OriginalRun) (turns : ℕ) → IsFollowed run → (outcome : Outcome) (log : Log)
    (is : IsLog (record_of run turns) outcome log) (of : IsLogOfRun run turns outcome log)
    → calls_in (record_of run turns) is.within.count ≡ calls_of_run run of.count
unfolding plain_of calls_made
calls_alike meters run turns follows outcome log is of =
    let same = same_run meters run turns in
    let count = is.within.count in
    ap (λ run. calls_made run count) same
    ∙ follows.reported_all of.count count outcome outcome of.ends
    (sym (ap (λ (run : HookedRun). (steps_of run count).at) same) ∙ ap (λ (after : Run). after.at) is.within.is_run
    ∙ is.ends)
