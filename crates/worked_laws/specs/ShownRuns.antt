-- The replay modules of the tapes that the runs of the example modules need show these runs.
use Rattle.std.specs.Prelude.{List}
use Rattle.wasm_syntax.specs.declared.modules.Module.{Module}
use Rattle.host_script.specs.declared.scripts.Script.{Script}
use Rattle.base.specs.declared.outcomes.Outcome.{Outcome}
use Rattle.trace_model.specs.declared.tapes.Segment.{Segment}
use Rattle.trace_model.specs.declared.tapes.Tape.{Tape}
use Rattle.history_spec.specs.Store.{Store}
use Rattle.history_spec.specs.Replay.{Replays, alone}
use Rattle.record_replay_spec.specs.Needed.{opening_store}
use Rattle.replay_module_spec.specs.Fragments.{start_index}
use Rattle.replay_module_spec.specs.Merge.{layout_of}
use Rattle.generated_code_laws.specs.Playable.{replay_of}
use Rattle.replay_theorem.specs.Laws.{MakesEffectsOf}
use Rattle.worked_tapes.specs.TapeBuild.{IfOpened, scripted_run}
use Rattle.worked_laws.specs.Runs.{OfEachRun}

-- the run of the tape's replay module shows this history and outcome, and makes exactly the tape's effects
pub record HasReplay (m : Module) (script : Script) (tape : Tape) (outcome : Outcome) (store : Store) : Type 0 where
  pub shows : Replays (replay_of m alone tape) (layout_of m) (start_index m) (scripted_run m script store).history
      outcome
  pub makes : MakesEffectsOf m alone tape

-- the replay module of the segments shows the scripted run
abbrev pub IsShown : Module → Script → List Segment → Outcome → Type 0
IsShown m script segments outcome =
    IfOpened (opening_store m script) (HasReplay m script (record { segments = segments }) outcome)

-- each of the runs is shown
abbrev pub WorkedShown : Type 0
WorkedShown = OfEachRun IsShown
