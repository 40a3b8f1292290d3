-- Tapes from which a replay module can be made, that module, and what its run shows of the original.
use Rattle.std.specs.Prelude.{◌≡◌, ℕ, ◌≤◌, List, [], ◌∷◌, length, Ok, All}
use Rattle.wasm_syntax.specs.declared.limits.TheConstants.{MAX_TAPE_WEIGHT}
use Rattle.wasm_syntax.specs.declared.modules.Module.{Module}
use Rattle.wasm_syntax.specs.Index.{imported_funcs, all_globals}
use Rattle.host_script.specs.declared.scripts.Supply.{Supply}
use Rattle.trace_model.specs.declared.tapes.Effect.{Effect}
use Rattle.trace_model.specs.declared.tapes.Effect.TheVariants.{Bytes}
use Rattle.trace_model.specs.declared.tapes.Segment.{Segment}
use Rattle.trace_model.specs.declared.tapes.Tape.{Tape}
use Rattle.trace_model.specs.Fitting.{IsFitting}
use Rattle.trace_model.specs.Weight.{tape_weight}
use Rattle.history_spec.specs.Store.{Store}
use Rattle.history_spec.specs.Code.{code_of}
use Rattle.history_spec.specs.Configuration.{Activation, InModule}
use Rattle.history_spec.specs.Instantiation.{instantiate}
use Rattle.history_spec.specs.Step.{StepResult}
use Rattle.history_spec.specs.Run.{Run, run_from}
use Rattle.history_spec.specs.Replay.{instructions, program_alone}
use Rattle.record_replay_spec.specs.TapeRun.{Plays, TapeConfig, tape_run}
use Rattle.type_safety.specs.Supplies.{IsRunnable, IsSupply}
use Rattle.replay_module_spec.specs.Plans.{plan_of}
use Rattle.replay_module_spec.specs.Fragments.{fragment_of}
use Rattle.replay_module_spec.specs.Merge.{layout_of, replay_module}
use Rattle.replay_run_spec.specs.Items.{Item, run_items, shown_items}
use Rattle.generated_code_laws.specs.Bytes.{AreBytes}
use Rattle.generated_code_laws.specs.EffectLaws.{AllGrowSizes}

-- ---- tapes

-- the bytes that an effect writes are bytes
abbrev pub WritesBytes : Effect → Type 0
WritesBytes (Bytes addr bytes) = AreBytes bytes
WritesBytes effect = Unit {0}

-- the bytes that the effects of a segment write are bytes
abbrev pub AllWriteBytes : Segment → Type 0
AllWriteBytes segment = All WritesBytes segment.effects

-- a module that can be run, a supply that matches its imports, the store in which its run begins, and a tape that fits
-- the module, writes bytes and has at most the allowed weight
pub record IsPlayable (m : Module) (supply : Supply) (store : Store) (tape : Tape) : Type 0 where
  pub runnable : IsRunnable m
  pub supplied : IsSupply m supply
  pub begins : instantiate m supply ≡ Ok store
  pub fits : IsFitting m tape
  pub bytes : All AllWriteBytes tape.segments
  pub weight : tape_weight tape ≤ MAX_TAPE_WEIGHT

-- if control is with the host, the effects of the next segment that give a size give a greater one
abbrev pub GrowsNext : Store → List Activation → List Segment → Type 0
GrowsNext store (InModule frame ∷ below) segments = Unit {0}
GrowsNext store stack [] = Unit {0}
GrowsNext store stack (segment ∷ later) = AllGrowSizes store segment.effects

-- in the run of a tape each effect that gives a size gives a greater one; this holds of the tape that a run needs
abbrev pub GrowsAlways : Module → Store → Tape → Type 0
GrowsAlways m store tape =
    (k : ℕ) (t : TapeConfig) → (tape_run (code_of m) store tape.segments k).next ≡ Plays t
    → GrowsNext t.config.store t.config.stack t.left

-- ---- the replay module and its run

-- the replay module of a tape, for a module and its supply
abbrev pub replay_of : Module → Supply → Tape → Module
replay_of m supply tape = replay_module m supply (fragment_of m (plan_of (imported_funcs m) tape))

-- the run of a replay module after a number of steps, each instruction a turn
abbrev pub replay_run : Module → StepResult → ℕ → Run
replay_run replay initial count = run_from (program_alone replay) instructions initial count

-- what a run shows of the original: entries, and the changes and the steps of functions outside it
abbrev pub shown_run : (m replay : Module) → StepResult → ℕ → List Item
shown_run m replay initial count =
    shown_items (layout_of m) [] []
    (run_items (layout_of m) (length (all_globals m)) (program_alone replay) initial count)
