-- The laws of runs and replay modules: the tape that a run needs has a replay module, which shows the run.
use Rattle.std.specs.Prelude.{◌≡◌, ℕ, ◌≤◌, List, Ok, All}
use Rattle.wasm_syntax.specs.declared.limits.TheConstants.{MAX_TAPE_WEIGHT}
use Rattle.wasm_syntax.specs.declared.modules.Module.{Module}
use Rattle.host_script.specs.declared.scripts.Script.{Script}
use Rattle.host_script.specs.declared.scripts.Supply.{Supply}
use Rattle.host_script.specs.Fits.{Fits}
use Rattle.host_script.specs.Supply.{supply_of}
use Rattle.base.specs.declared.outcomes.Outcome.{Outcome}
use Rattle.trace_model.specs.declared.events.Log.{Log}
use Rattle.trace_model.specs.declared.tapes.Segment.{Segment}
use Rattle.trace_model.specs.declared.tapes.Tape.{Tape}
use Rattle.trace_model.specs.Weight.{tape_weight}
use Rattle.history_spec.specs.declared.entries.Entry.{Entry}
use Rattle.history_spec.specs.Store.{Store}
use Rattle.history_spec.specs.Instantiation.{instantiate}
use Rattle.history_spec.specs.Replay.{Replays, run_start_alone}
use Rattle.history_spec.specs.Step.{Finished, StepResult}
use Rattle.history_spec.specs.Run.{all_one, program_of, start_in_store, run_from}
use Rattle.record_replay_spec.specs.Needed.{IsNeededTape}
use Rattle.replay_module_spec.specs.Fragments.{start_index}
use Rattle.replay_run_spec.specs.Stretches.{AreEffectsOf, stretches}
use Rattle.type_safety.specs.Supplies.{IsRunnable}
use Rattle.record_replay_spec.specs.LogTapes.{IsLogTape}
use Rattle.tape_laws.specs.NeededTape.{IsOneNeededTape}
use Rattle.tape_laws.specs.CallLaws.{OriginalRun}
use Rattle.tape_laws.specs.LogLaws.{log_of_run}
use Rattle.replay_module_spec.specs.Merge.{layout_of}
use Rattle.generated_code_laws.specs.Playable.{AllWriteBytes, IsPlayable, GrowsAlways, replay_of, replay_run, shown_run}

-- ---- needed tapes

-- for each module that can be run, and each script that fits it and links with it: the bytes that the effects of a
-- needed tape write are bytes
abbrev pub NeededTapesWriteBytes : Type 0
NeededTapesWriteBytes =
    (m : Module) (script : Script) (supply : Supply) (store : Store) (segments : List Segment)
    → IsRunnable m → Fits m script → supply_of m script ≡ Ok supply → instantiate m supply ≡ Ok store
    → IsNeededTape (program_of m script) (start_in_store m script store) store segments
    → All AllWriteBytes segments

-- a replay module can be made of a needed tape with at most the allowed weight
abbrev pub NeededTapesArePlayable : Type 0
NeededTapesArePlayable =
    (m : Module) (script : Script) (supply : Supply) (store : Store) (tape : Tape)
    → IsRunnable m → Fits m script → supply_of m script ≡ Ok supply → instantiate m supply ≡ Ok store
    → IsNeededTape (program_of m script) (start_in_store m script store) store tape.segments
    → tape_weight tape ≤ MAX_TAPE_WEIGHT → IsPlayable m supply store tape

-- each effect of a needed tape that gives a size, in the tape's own run, gives a greater one
abbrev pub NeededTapesGrowSizes : Type 0
NeededTapesGrowSizes =
    (m : Module) (script : Script) (supply : Supply) (store : Store) (tape : Tape)
    → IsRunnable m → Fits m script → supply_of m script ≡ Ok supply → instantiate m supply ≡ Ok store
    → IsNeededTape (program_of m script) (start_in_store m script store) store tape.segments
    → GrowsAlways m store tape

-- ---- runs

-- the run of the replay module of a tape, once it is over: the changes of functions outside the original are exactly
-- the effects of the tape's segments, one stretch for each segment
abbrev pub MakesEffectsOf : Module → Supply → Tape → Type 0
MakesEffectsOf m supply tape =
    (initial : StepResult) (count : ℕ) (own : Outcome)
    → run_start_alone (replay_of m supply tape) (start_index m) ≡ Ok initial
    → (replay_run (replay_of m supply tape) initial count).at ≡ Finished own
    → AreEffectsOf tape.segments (stretches (shown_run m (replay_of m supply tape) initial count))

-- a run with this history and outcome, its one needed tape, and the replay module of that tape: if the tape has at
-- most the allowed weight, the replay module's run shows exactly that history and that outcome, and makes exactly the
-- tape's effects
pub record IsShownByReplay (m : Module) (script : Script) (supply : Supply) (store : Store) (history : List Entry)
    (outcome : Outcome) (tape : Tape) : Type 0 where
  pub is_one : IsOneNeededTape m script store history outcome tape.segments
  pub shows : tape_weight tape ≤ MAX_TAPE_WEIGHT
      → Replays (replay_of m supply tape) (layout_of m) (start_index m) history outcome
  pub makes : tape_weight tape ≤ MAX_TAPE_WEIGHT → MakesEffectsOf m supply tape

-- for each module that can be run, and each script that fits it and links with it, nested to any depth: if the run has
-- an outcome, the replay module of its one needed tape shows the run
abbrev pub RunsAreReplayed : Type 0
RunsAreReplayed =
    (m : Module) (script : Script) (supply : Supply) (store : Store) (count : ℕ) (outcome : Outcome)
    → IsRunnable m → Fits m script → supply_of m script ≡ Ok supply → instantiate m supply ≡ Ok store
    → (run_from (program_of m script) all_one (start_in_store m script store) count).at ≡ Finished outcome
    → (tape : Tape)
    × IsShownByReplay m script supply store
    (run_from (program_of m script) all_one (start_in_store m script store) count).history outcome tape

-- ---- logs

-- a run with this history and outcome has a log of its hook calls, and there is exactly one tape of the log: it is the
-- one that the run needs, and its replay module shows the run
pub record IsShownFromLog (run : OriginalRun) (count : ℕ) (history : List Entry) (outcome : Outcome) : Type 0 where
  pub log : Log
  pub logged : log_of_run run count outcome ≡ Ok log
  pub tape : Tape
  pub is_tape : IsLogTape log tape
  pub is_one : (other : Tape) → IsLogTape log other → other ≡ tape
  pub shown : IsShownByReplay run.m run.script run.supply run.store history outcome tape

-- for each run of a module of the form Core that can be run, under a script that fits it and links with it: if the run
-- has an outcome, the replay module of the one tape of its log shows it
abbrev pub RunsAreReplayedFromLogs : Type 0
RunsAreReplayedFromLogs =
    (run : OriginalRun) (count : ℕ) (outcome : Outcome)
    → (run_from (program_of run.m run.script) all_one (start_in_store run.m run.script run.store) count).at
    ≡ Finished outcome
    → IsShownFromLog run count
    (run_from (program_of run.m run.script) all_one (start_in_store run.m run.script run.store) count).history outcome
