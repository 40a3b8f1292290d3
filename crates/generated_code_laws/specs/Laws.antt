-- The law of replay modules: the replay module of a tape follows the run of the tape.
use Rattle.std.specs.Prelude.{◌≡◌, ℕ, List, [], ◌++◌, Ok}
use Rattle.wasm_syntax.specs.declared.modules.Module.{Module}
use Rattle.wasm_syntax.specs.Index.{imported_funcs}
use Rattle.host_script.specs.declared.scripts.Supply.{Supply}
use Rattle.base.specs.declared.outcomes.Outcome.{Outcome}
use Rattle.trace_model.specs.declared.tapes.Effect.{Effect}
use Rattle.trace_model.specs.declared.tapes.Segment.{Segment}
use Rattle.trace_model.specs.declared.tapes.Tape.{Tape}
use Rattle.history_spec.specs.declared.entries.Entry.{Entry}
use Rattle.history_spec.specs.Store.{Store}
use Rattle.history_spec.specs.Code.{code_of}
use Rattle.history_spec.specs.Step.{StepResult, Finished}
use Rattle.history_spec.specs.Projection.{shown_entries}
use Rattle.history_spec.specs.Replay.{Replays, run_start_alone}
use Rattle.record_replay_spec.specs.TapeRun.{Over, tape_run}
use Rattle.replay_module_spec.specs.Plans.{plan_of}
use Rattle.replay_module_spec.specs.Fragments.{start_index}
use Rattle.replay_run_spec.specs.Stretches.{AreEffectsOf, stretches}
use Rattle.replay_run_spec.specs.Steps.{AreWithinBound, call_steps}
use Rattle.replay_module_spec.specs.Merge.{layout_of}
use Rattle.generated_code_laws.specs.Playable.{IsPlayable, GrowsAlways, replay_of, replay_run, shown_run}

-- ---- histories and outcomes

-- after a number of steps the run of a replay module shows exactly this history of the original
pub record ShowsHistory (m replay : Module) (initial : StepResult) (history : List Entry) : Type 0 where
  pub count : ℕ
  pub shows : shown_entries (layout_of m) [] [] (replay_run replay initial count).history ≡ history

-- a replay module can be run: it is instantiated without a fault
abbrev pub ReplaysBegin : Type 0
ReplaysBegin =
    (m : Module) (supply : Supply) (store : Store) (tape : Tape) → IsPlayable m supply store tape
    → (initial : StepResult) × (run_start_alone (replay_of m supply tape) (start_index m) ≡ Ok initial)

-- the replay module shows each history of the tape's run; if that run disagrees at last, the histories before
abbrev pub ReplaysShowHistories : Type 0
ReplaysShowHistories =
    (m : Module) (supply : Supply) (store : Store) (tape : Tape) (initial : StepResult) (k : ℕ)
    → IsPlayable m supply store tape → run_start_alone (replay_of m supply tape) (start_index m) ≡ Ok initial
    → ShowsHistory m (replay_of m supply tape) initial (tape_run (code_of m) store tape.segments k).entries

-- if the tape's run has an outcome, the replay module's has one too, and shows the history and the outcome of the
-- tape's run
abbrev pub ReplaysShowOutcomes : Type 0
ReplaysShowOutcomes =
    (m : Module) (supply : Supply) (store : Store) (tape : Tape) (k : ℕ) (outcome : Outcome)
    → IsPlayable m supply store tape → (tape_run (code_of m) store tape.segments k).next ≡ Over outcome
    → Replays (replay_of m supply tape) (layout_of m) (start_index m)
    (tape_run (code_of m) store tape.segments k).entries outcome

-- ---- changes and steps

-- the tape's run has an outcome, and the replay module's run is over after `count` steps
pub record AreBothOver (m : Module) (supply : Supply) (store : Store) (tape : Tape) (initial : StepResult)
    (count : ℕ) : Type 0 where
  pub taken : ℕ
  pub outcome : Outcome
  pub over : (tape_run (code_of m) store tape.segments taken).next ≡ Over outcome
  pub own : Outcome
  pub starts : run_start_alone (replay_of m supply tape) (start_index m) ≡ Ok initial
  pub ends : (replay_run (replay_of m supply tape) initial count).at ≡ Finished own

-- stretches make exactly the effects of the first segments, one stretch for each segment
pub record AreEffectsOfFirst (segments : List Segment) (changes : List (List Effect)) : Type 0 where
  pub taken : List Segment
  pub left : List Segment
  pub parts : segments ≡ taken ++ left
  pub effects : AreEffectsOf taken changes

-- the stretches of a replay module's run make exactly the effects of the tape's first segments, one stretch for each
-- segment
abbrev pub ReplaysMakeEffects : Type 0
ReplaysMakeEffects =
    (m : Module) (supply : Supply) (store : Store) (tape : Tape) (initial : StepResult) (count : ℕ)
    → IsPlayable m supply store tape → GrowsAlways m store tape → AreBothOver m supply store tape initial count
    → AreEffectsOfFirst tape.segments (stretches (shown_run m (replay_of m supply tape) initial count))

-- in each call of an import the functions in the import's place and of its groups make at most as many steps, and as
-- many of `block`, as the bound by the tape's plan allows; the steps of a call within another belong to the inner call
abbrev pub ReplaysAreWithinBound : Type 0
ReplaysAreWithinBound =
    (m : Module) (supply : Supply) (store : Store) (tape : Tape) (initial : StepResult) (count : ℕ)
    → IsPlayable m supply store tape → AreBothOver m supply store tape initial count
    → AreWithinBound (plan_of (imported_funcs m) tape).imports
    (call_steps (imported_funcs m) (shown_run m (replay_of m supply tape) initial count))
