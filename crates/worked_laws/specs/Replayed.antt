-- The tapes that the runs of the example modules need replay them.
use Rattle.std.specs.Prelude.{List}
use Rattle.wasm_syntax.specs.declared.modules.Module.{Module}
use Rattle.host_script.specs.declared.scripts.Script.{Script}
use Rattle.base.specs.declared.outcomes.Outcome.{Outcome}
use Rattle.trace_model.specs.declared.tapes.Segment.{Segment}
use Rattle.history_spec.specs.Code.{code_of}
use Rattle.record_replay_spec.specs.Needed.{opening_store}
use Rattle.tape_laws.specs.Laws.{IsReplayed}
use Rattle.worked_tapes.specs.TapeBuild.{IfOpened, scripted_run}
use Rattle.worked_laws.specs.Runs.{OfEachRun}

-- the run of the segments has the scripted run's outcome and history, and disagrees after no number of steps
abbrev pub Replays : Module → Script → List Segment → Outcome → Type 0
Replays m script segments outcome =
    IfOpened (opening_store m script) (λ store.
    IsReplayed (code_of m) store segments (scripted_run m script store).history outcome)

-- each of the runs is replayed
abbrev pub WorkedReplays : Type 0
WorkedReplays = OfEachRun Replays
