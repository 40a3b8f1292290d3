-- The log of a recorded run has a spelling.
use Rattle.std.proofs.Common.{◌≡◌, ℕ, List, Result, Ok, Err, refl, subst}
use Rattle.base.proofs.Results.{same_ok}
use Rattle.host_script.specs.declared.scripts.Script.{Script}
use Rattle.trace_model.specs.declared.events.Event.{Event}
use Rattle.trace_model.specs.declared.events.Log.{Log}
use Rattle.trace_bytes.specs.declared.tags.TheConstants.{VERSION_2}
use Rattle.trace_bytes.specs.Spelled.{FitEvents}
use Rattle.history_spec.specs.Instantiation.{table_length}
use Rattle.history_spec.specs.Run.{program_of, start_in_store}
use Rattle.type_safety.specs.Configurations.{IsProgram, IsSafe, IsTypedCode}
use Rattle.type_safety.specs.Heights.{AreHeights, Heights}
use Rattle.type_safety.specs.Laws.{InstructionsHaveRules, StartsAreSafe, StepsAreSafe, ValidCodeHasHeights, ValidCodeIsTyped}
use Rattle.record_replay_spec.specs.HookedRuns.{hooked_script}
use Rattle.record_replay_spec.specs.Order.{order_start, shape_of}
use Rattle.record_replay_spec.specs.Logs.{events_from, log_start, log_with}
use Rattle.host_play.proofs.HookShapes.{hooked_fits}
use Rattle.run_recorder.specs.Records.{calls_in}
use Rattle.replay_theorem.specs.RecordLaws.{LogsHaveSpellings, recorded_run}
use Rattle.replay_theorem.proofs.TypedCalls.{AreTypedCalls, calls_typed}
use Rattle.replay_theorem.proofs.FittingEvents.{events_fit}

pub fitting_logs : ValidCodeHasHeights → ValidCodeIsTyped → InstructionsHaveRules → StartsAreSafe → StepsAreSafe
    → LogsHaveSpellings
fitting_logs has_heights is_typed rules starts steps m script store weighing imports budget can outcome log is =
    by (events_from (shape_of imports m) (order_start (table_length store.table)) (log_start store) 0
    (calls_in (recorded_run m script store weighing imports budget) is.within.count)) refl is.logged
  where
    under : Script
    under = hooked_script imports script

    code : (heights : Heights) × AreHeights m heights
    code = has_heights m can.runnable.valid

    typed : IsTypedCode m code.0
    typed = is_typed m code.0 can.runnable.valid can.runnable.supported code.1

    program : IsProgram m (program_of m under)
    program =
        record { code = refl; answers = (hooked_fits m imports can.hooked script can.fits).imports }

    safe : IsSafe m code.0 (start_in_store m under store).next
    safe =
        starts m code.0 (program_of m under) store under.main can.runnable.valid typed program can.typed can.fits.main

    calls : AreTypedCalls m (calls_in (recorded_run m script store weighing imports budget) is.within.count)
    calls =
        calls_typed rules m code.0 can.runnable.valid typed (program_of m under) program imports steps is.within.count
        (start_in_store m under store).next safe

    by : (found : Result (List Event) ℕ)
        → events_from (shape_of imports m) (order_start (table_length store.table)) (log_start store) 0
        (calls_in (recorded_run m script store weighing imports budget) is.within.count) ≡ found
        → log_with imports outcome found ≡ Ok log → FitEvents VERSION_2 log.events
    by (Ok reported) e f =
        subst (λ (log : Log). FitEvents VERSION_2 log.events)
        (same_ok (log_with imports outcome (Ok reported)) (record { imports = imports; events = reported; outcome = outcome })
        log refl f)
        (events_fit m can.runnable.valid can.short imports (order_start (table_length store.table)) (log_start store) 0
        (calls_in (recorded_run m script store weighing imports budget) is.within.count) reported tt calls e)
    by (Err number) e f = absurd (cc f)
