-- The run of the replay module of a tape, compared with the run of the tape.
use Rattle.std.specs.Prelude.{◌≡◌, ℕ, Ok}
use Rattle.wasm_syntax.specs.declared.modules.Module.{Module}
use Rattle.wasm_syntax.specs.Index.{imported_funcs}
use Rattle.host_script.specs.declared.scripts.Supply.{Supply}
use Rattle.base.specs.declared.outcomes.Outcome.{Outcome}
use Rattle.trace_model.specs.declared.tapes.Tape.{Tape}
use Rattle.history_spec.specs.Store.{Store}
use Rattle.history_spec.specs.Code.{code_of}
use Rattle.history_spec.specs.Step.{StepResult}
use Rattle.history_spec.specs.Replay.{Replays, run_start_alone}
use Rattle.record_replay_spec.specs.TapeRun.{Over, tape_run}
use Rattle.replay_module_spec.specs.Plans.{plan_of}
use Rattle.replay_module_spec.specs.Fragments.{start_index}
use Rattle.replay_run_spec.specs.Stretches.{stretches}
use Rattle.replay_run_spec.specs.Steps.{AreWithinBound, call_steps}
use Rattle.replay_module_spec.specs.Merge.{layout_of}
use Rattle.generated_code_laws.specs.Playable.{GrowsAlways, IsPlayable, replay_of, shown_run}
use Rattle.generated_code_laws.specs.Laws.{AreBothOver, AreEffectsOfFirst, ShowsHistory}

-- The replay module of a tape is instantiated without a fault. It shows each history of the tape's run, or the
-- histories before if that run disagrees at last; and if the tape's run has an outcome, exactly its history and
-- outcome. Once both runs are over, the changes of functions outside the original are the effects of the tape's first
-- segments, one stretch for each segment, if each effect that gives a size gives a greater one; and each call of an
-- import took at most as many steps as its bound.
pub record FollowsTape (m : Module) (supply : Supply) (store : Store) (tape : Tape) : Type 0 where
  pub begins : (initial : StepResult) × (run_start_alone (replay_of m supply tape) (start_index m) ≡ Ok initial)
  pub histories : (initial : StepResult) (k : ℕ)
      → run_start_alone (replay_of m supply tape) (start_index m) ≡ Ok initial
      → ShowsHistory m (replay_of m supply tape) initial (tape_run (code_of m) store tape.segments k).entries
  pub outcomes : (k : ℕ) (outcome : Outcome) → (tape_run (code_of m) store tape.segments k).next ≡ Over outcome
      → Replays (replay_of m supply tape) (layout_of m) (start_index m)
      (tape_run (code_of m) store tape.segments k).entries outcome
  pub effects : (initial : StepResult) (count : ℕ) → GrowsAlways m store tape
      → AreBothOver m supply store tape initial count
      → AreEffectsOfFirst tape.segments (stretches (shown_run m (replay_of m supply tape) initial count))
  pub steps : (initial : StepResult) (count : ℕ) → AreBothOver m supply store tape initial count
      → AreWithinBound (plan_of (imported_funcs m) tape).imports
      (call_steps (imported_funcs m) (shown_run m (replay_of m supply tape) initial count))

-- the replay module follows the tape, for each tape from which a replay module can be made
abbrev pub ReplayModulesFollowTapes : Type 0
ReplayModulesFollowTapes =
    (m : Module) (supply : Supply) (store : Store) (tape : Tape) → IsPlayable m supply store tape
    → FollowsTape m supply store tape
