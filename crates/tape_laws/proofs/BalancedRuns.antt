-- The log of the hook calls of a run is balanced.
use Rattle.std.proofs.Common.{◌≡◌, ℕ, [], ◌∷◌, ◌++◌, true, false, refl, ap, subst, inr}
use Rattle.wasm_syntax.specs.Index.{imported_funcs}
use Rattle.base.specs.declared.outcomes.Outcome.{Outcome}
use Rattle.base.proofs.Results.{same_ok}
use Rattle.trace_model.specs.declared.events.Log.{Log}
use Rattle.trace_model.specs.declared.tapes.Origin.TheVariants.{Begin}
use Rattle.trace_model.specs.Balance.{IsBalanced}
use Rattle.history_spec.specs.Run.{all_one, program_of, start_in_store, run_from}
use Rattle.history_spec.specs.Step.{Finished}
use Rattle.record_replay_spec.specs.Kept.{AreKeptSegments}
use Rattle.record_replay_spec.specs.Known.{opening_known}
use Rattle.record_replay_spec.specs.Laws.{NeededSegmentsAreKept}
use Rattle.record_replay_spec.specs.Observations.{Begins, activity_observations, run_observations}
use Rattle.tape_laws.specs.Below.{LawsOfSteps, LawsOfRuns}
use Rattle.record_replay_spec.specs.HookLaws.{IndicesAreRenumbered, InstrumentedKeepIndices}
use Rattle.tape_laws.specs.NeededTape.{RunsHaveOneNeededTape}
use Rattle.tape_laws.specs.CallLaws.{OriginalRun, hooked_shape}
use Rattle.tape_laws.proofs.Ordered.{hooked_run, observed, moments_of, IsRunTrail, run_trail}
use Rattle.tape_laws.proofs.TrailsOfRuns.{outcome_of}
use Rattle.tape_laws.specs.LogLaws.{log_of_run, LogsAreBalanced}
use Rattle.tape_laws.proofs.BalancedTrails.{reports}
use Rattle.tape_laws.proofs.HostTraps.{TrapsInside, first_inside}
use Rattle.record_replay_spec.proofs.OneTape.{observations_same}
use Rattle.tape_laws.proofs.WholeLogs.{log_is, first_log}
use Rattle.tape_laws.proofs.BalancedCalls.{Reports}

-- the host traps only in a call of an import, since the needed tape fits
inside : NeededSegmentsAreKept → RunsHaveOneNeededTape → (run : OriginalRun) (count : ℕ) (outcome : Outcome)
    → (run_from (program_of run.m run.script) all_one (start_in_store run.m run.script run.store) count).at
    ≡ Finished outcome
    → TrapsInside true 0 (observed run count)
inside kept one run count outcome ends =
    let tape = one run.m run.script run.supply run.store count outcome run.runnable run.fits run.supplied run.opens ends
    in
    let needed = tape.1.is_needed in
    let program = program_of run.m run.script in
    let initial = start_in_store run.m run.script run.store in
    first_inside run.m (opening_known run.store) (observed run count) tape.0
    (subst
    (λ l. AreKeptSegments (opening_known run.store)
    (Begins Begin ∷ (activity_observations (start_in_store run.m run.script run.store).entries ++ l)) tape.0)
    (observations_same program needed.count count initial.next needed.outcome outcome needed.ends ends)
    ((kept (opening_known run.store) (run_observations program initial needed.count) tape.0).0 needed.needed))
    tape.1.fits

pub logs_balance : LawsOfSteps → LawsOfRuns → InstrumentedKeepIndices → IndicesAreRenumbered → RunsHaveOneNeededTape
    → LogsAreBalanced
logs_balance laws runs indices renumbered one run count outcome ends log logged =
    subst IsBalanced
    (same_ok (log_of_run run count outcome) found log (log_is run count outcome t.found (t.are 0)) logged)
    (t.balanced false (inr refl) [] tt 0 false)
  where
    t : Reports run.m (hooked_shape run) outcome [] (opening_known run.store).entries (first_log run)
        (moments_of run count)
    t =
        reports run.m (hooked_shape run) (hooked_run indices renumbered run) outcome (moments_of run count) []
        (opening_known run.store) run.store (observed run count) (first_log run)
        (subst (IsRunTrail run count) (ap outcome_of ends) (run_trail laws runs indices run count))
        (inside runs.kept one run count outcome ends)

    found : Log
    found = record { imports = imported_funcs run.m; events = t.found; outcome = outcome }
