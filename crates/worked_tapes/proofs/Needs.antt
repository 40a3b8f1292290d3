-- From computed tests to the statements on needed tapes.
use Rattle.std.proofs.Common.{◌≡◌, ℕ, Bool, true, Result, Ok, Err, List, refl}
use Rattle.wasm_syntax.specs.declared.modules.Module.{Module}
use Rattle.host_script.specs.declared.scripts.LinkFault.{LinkFault}
use Rattle.host_script.specs.declared.scripts.Script.{Script}
use Rattle.base.specs.declared.outcomes.Outcome.{Outcome}
use Rattle.trace_model.specs.declared.tapes.Segment.{Segment}
use Rattle.trace_model.specs.Weight.{tape_weight}
use Rattle.history_spec.specs.Store.{Store}
use Rattle.history_spec.specs.Step.{Finished}
use Rattle.history_spec.specs.Run.{program_of, start_in_store}
use Rattle.record_replay_spec.specs.Observations.{run_observations}
use Rattle.record_replay_spec.specs.Known.{opening_known}
use Rattle.record_replay_spec.specs.Needed.{IsNeededTape, opening_store, IsNeededOfRun}
use Rattle.record_replay_spec.specs.NeededTest.{are_needed_segments}
use Rattle.record_replay_spec.specs.TapeRun.{Over, tape_result}
use Rattle.record_replay_spec.specs.Laws.{TestedSegmentsAreNeeded}
use Rattle.worked_tapes.specs.TapeBuild.{IfOpened, max_steps, scripted_run, run_of_tape, Needs}

-- the test of the segments for the run from this store
abbrev pub test : Module → Script → List Segment → Store → Bool
test m script segments store =
    are_needed_segments (opening_known store)
    (run_observations (program_of m script) (start_in_store m script store) max_steps) segments

abbrev pub needed_by_test : TestedSegmentsAreNeeded
    → (m : Module) (script : Script) (segments : List Segment) (outcome : Outcome) (store : Store)
    → (scripted_run m script store).at ≡ Finished outcome → test m script segments store ≡ true
    → IsNeededTape (program_of m script) (start_in_store m script store) store segments
needed_by_test law m script segments outcome store ends tested =
    let seen = run_observations (program_of m script) (start_in_store m script store) max_steps in
    record { count = max_steps; outcome = outcome; ends = ends; needed = law (opening_known store) seen segments tested }

-- the computed tests for a run from this store
pub record Passes (m : Module) (script : Script) (segments : List Segment) (outcome : Outcome) (store : Store)
    : Type 0 where
  pub ends : (scripted_run m script store).at ≡ Finished outcome
  pub tested : test m script segments store ≡ true
  pub replays : run_of_tape m store segments ≡ tape_result (scripted_run m script store).history (Over outcome)

pub needs : {m : Module} {script : Script} {segments : List Segment} {weight : ℕ} {outcome : Outcome}
    → TestedSegmentsAreNeeded
    → IfOpened (opening_store m script) (Passes m script segments outcome)
    → tape_weight (record { segments = segments }) ≡ weight
    → Needs m script segments weight outcome
needs {m} {script} {segments} {weight} {outcome} law passes weighs =
    record {
      needed = needed (opening_store m script) refl passes;
      weighs = weighs;
      replays = replays (opening_store m script) passes;
    }
  where
    needed : (o : Result Store LinkFault) → opening_store m script ≡ o
        → IfOpened o (Passes m script segments outcome) → IsNeededOfRun m script segments
    needed (Ok store) links passes =
        record {
          opened = store;
          links = links;
          is_needed = needed_by_test law m script segments outcome store passes.ends passes.tested;
        }
    needed (Err fault) links passes = absurd passes

    replays : (o : Result Store LinkFault) → IfOpened o (Passes m script segments outcome)
        → IfOpened o
        (λ store. run_of_tape m store segments ≡ tape_result (scripted_run m script store).history (Over outcome))
    replays (Ok store) passes = passes.replays
    replays (Err fault) passes = absurd passes
