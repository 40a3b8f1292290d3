-- The log of the hook calls of a run gives the tape that the run needs.
use Rattle.std.proofs.Common.{◌≡◌, ℕ, List, [], ◌∷◌, ◌++◌, refl, ap, ◌∙◌, subst, inr, Ok}
use Rattle.wasm_syntax.specs.Index.{imported_funcs}
use Rattle.base.specs.declared.outcomes.Outcome.{Outcome}
use Rattle.trace_model.specs.declared.tapes.Origin.TheVariants.{Begin}
use Rattle.trace_model.specs.declared.events.Event.{Event}
use Rattle.history_spec.specs.Run.{program_of, start_in_store}
use Rattle.history_spec.specs.Step.{Program, StepResult}
use Rattle.record_replay_spec.specs.Known.{opening_known}
use Rattle.record_replay_spec.specs.Needed.{AreNeededSegments}
use Rattle.record_replay_spec.specs.Observations.{Begins, activity_observations, run_observations}
use Rattle.tape_laws.specs.Below.{LawsOfSteps, LawsOfRuns}
use Rattle.record_replay_spec.specs.HookLaws.{IndicesAreRenumbered, InstrumentedKeepIndices}
use Rattle.record_replay_spec.specs.LogTapes.{log_marks}
use Rattle.record_replay_spec.specs.Logs.{LogState, log_start, log_with, events_from}
use Rattle.record_replay_spec.specs.Order.{order_start}
use Rattle.tape_laws.specs.CallLaws.{hooked_shape, calls_of_run, OriginalRun}
use Rattle.tape_laws.proofs.CallOrder.{same_length, same_entry, state}
use Rattle.tape_laws.proofs.Ordered.{hooked_run, observed, moments_of, IsRunTrail, run_trail}
use Rattle.tape_laws.proofs.TrailsOfRuns.{outcome_of}
use Rattle.record_replay_spec.proofs.OneTape.{observations_same}
use Rattle.tape_laws.specs.LogLaws.{LogsGiveNeededTapes, opened_store, log_of_run}
use Rattle.tape_laws.proofs.Agrees.{Agrees}
use Rattle.tape_laws.proofs.LogStands.{Stands}
use Rattle.tape_laws.proofs.TrailLogs.{Reports}
use Rattle.tape_laws.proofs.LoggedTrails.{reports}

-- the log before its first event
abbrev pub first_log : OriginalRun → LogState
first_log run = log_start (opened_store run)

-- what the log knows where the run begins
pub opening_stands : (run : OriginalRun) → Stands run.m [] (opening_known run.store) run.store (first_log run)
opening_stands run =
    record {
      reported = record {
        byte = λ at. refl;
        entry = λ at. same_entry (imported_funcs run.m) run.store.table at;
        global = λ at. refl;
        pages = refl;
        entries = same_length (imported_funcs run.m) run.store.table;
      };
      immutable = λ at i. refl;
      real = λ w. refl;
    }

-- the log of a run whose hook calls have these events
pub log_is : (run : OriginalRun) (count : ℕ) (outcome : Outcome) (events : List Event)
    → events_from (hooked_shape run) (state [] [] (opening_known run.store).entries) (first_log run) 0
    (calls_of_run run count) ≡ Ok events
    → log_of_run run count outcome
    ≡ Ok (record { imports = imported_funcs run.m; events = events; outcome = outcome })
log_is run count outcome events are =
    ap
    (λ e. log_with n outcome
    (events_from (hooked_shape run) (order_start e) (first_log run) 0 (calls_of_run run count)))
    (same_length n run.store.table)
    ∙ ap (log_with n outcome) are
  where
    n : ℕ
    n = imported_funcs run.m

pub logs_give : LawsOfSteps → LawsOfRuns → InstrumentedKeepIndices → IndicesAreRenumbered → LogsGiveNeededTapes
logs_give laws runs indices renumbered run count outcome ends =
    record {
      log = record { imports = imported_funcs run.m; events = t.found; outcome = outcome };
      logged = log_is run count outcome t.found (t.are 0);
      to_log = λ tape needed.
          agrees.to_log tape.segments
          ((runs.kept (opening_known run.store) (run_observations program initial count) tape.segments).0
          (subst
          (λ l. AreNeededSegments (opening_known run.store) []
          (Begins Begin ∷ (activity_observations initial.entries ++ l)) tape.segments)
          (observations_same program needed.count count initial.next needed.outcome outcome needed.ends ends)
          needed.needed));
      from_log = λ tape h.
          record {
            count = count;
            outcome = outcome;
            ends = ends;
            needed =
                (runs.kept (opening_known run.store) (run_observations program initial count) tape.segments).1
                (agrees.from_log tape.segments h);
          };
    }
  where
    program : Program
    program = program_of run.m run.script

    initial : StepResult
    initial = start_in_store run.m run.script run.store

    t : Reports run.m (hooked_shape run) outcome [] (opening_known run.store) run.store (observed run count)
        (first_log run) (moments_of run count)
    t =
        reports run.m (hooked_shape run) (hooked_run indices renumbered run) outcome (moments_of run count) []
        (opening_known run.store) run.store (observed run count) (first_log run)
        (subst (IsRunTrail run count) (ap outcome_of ends) (run_trail laws runs indices run count))
        (opening_stands run)

    agrees : Agrees (opening_known run.store) (Begins Begin ∷ observed run count)
        (log_marks (record { imports = imported_funcs run.m; events = t.found; outcome = outcome }))
    agrees = t.agrees 0 (inr refl) Begin
