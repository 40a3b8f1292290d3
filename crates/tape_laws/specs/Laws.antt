-- The law of tapes: the tape that a run needs replays it.
use Rattle.std.specs.Prelude.{◌≡◌, ◌≢◌, ℕ, List, Ok}
use Rattle.wasm_syntax.specs.declared.modules.Module.{Module}
use Rattle.host_script.specs.declared.scripts.Script.{Script}
use Rattle.host_script.specs.declared.scripts.Supply.{Supply}
use Rattle.host_script.specs.Fits.{Fits}
use Rattle.host_script.specs.Supply.{supply_of}
use Rattle.base.specs.declared.outcomes.Outcome.{Outcome}
use Rattle.trace_model.specs.declared.tapes.Segment.{Segment}
use Rattle.history_spec.specs.declared.entries.Entry.{Entry}
use Rattle.history_spec.specs.Store.{Store}
use Rattle.history_spec.specs.Code.{Code, code_of}
use Rattle.history_spec.specs.Instantiation.{instantiate}
use Rattle.history_spec.specs.Step.{Finished}
use Rattle.history_spec.specs.Run.{all_one, program_of, start_in_store, run_from}
use Rattle.record_replay_spec.specs.Needed.{IsNeededTape}
use Rattle.record_replay_spec.specs.TapeRun.{tape_result, Over, Disagrees, tape_run}
use Rattle.type_safety.specs.Supplies.{IsRunnable}

-- the run of a tape ends with this outcome and exactly this history, and never disagrees
pub record IsReplayed (code : Code) (store : Store) (segments : List Segment) (history : List Entry)
    (outcome : Outcome) : Type 0 where
  pub count : ℕ
  pub shows : tape_run code store segments count ≡ tape_result history (Over outcome)
  pub agrees : (k : ℕ) → (tape_run code store segments k).next ≢ Disagrees

-- for each module that can be run, and each script that fits it and links with it: if the run has an outcome, the
-- needed tape replays its history and its outcome
abbrev pub NeededTapesReplayRuns : Type 0
NeededTapesReplayRuns =
    (m : Module) (script : Script) (supply : Supply) (store : Store) (segments : List Segment) (count : ℕ)
    (outcome : Outcome)
    → IsRunnable m → Fits m script → supply_of m script ≡ Ok supply → instantiate m supply ≡ Ok store
    → IsNeededTape (program_of m script) (start_in_store m script store) store segments
    → (run_from (program_of m script) all_one (start_in_store m script store) count).at ≡ Finished outcome
    → IsReplayed (code_of m) store segments
    (run_from (program_of m script) all_one (start_in_store m script store) count).history outcome
