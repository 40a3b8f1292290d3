-- The laws of the needed tape of a run: it fits the module, and there is exactly one.
use Rattle.std.specs.Prelude.{◌≡◌, ℕ, List, Ok}
use Rattle.wasm_syntax.specs.declared.modules.Module.{Module}
use Rattle.host_script.specs.declared.scripts.Script.{Script}
use Rattle.host_script.specs.declared.scripts.Supply.{Supply}
use Rattle.host_script.specs.Fits.{Fits}
use Rattle.host_script.specs.Supply.{supply_of}
use Rattle.base.specs.declared.outcomes.Outcome.{Outcome}
use Rattle.trace_model.specs.declared.tapes.Segment.{Segment}
use Rattle.trace_model.specs.Fitting.{IsFitting}
use Rattle.history_spec.specs.declared.entries.Entry.{Entry}
use Rattle.history_spec.specs.Store.{Store}
use Rattle.history_spec.specs.Code.{code_of}
use Rattle.history_spec.specs.Instantiation.{instantiate}
use Rattle.history_spec.specs.Step.{Finished}
use Rattle.history_spec.specs.Run.{all_one, program_of, start_in_store, run_from}
use Rattle.record_replay_spec.specs.Needed.{IsNeededTape}
use Rattle.type_safety.specs.Supplies.{IsRunnable}
use Rattle.tape_laws.specs.Laws.{IsReplayed}

-- for each module that can be run, and each script that fits it and links with it: a needed tape fits the module
abbrev pub NeededTapesFit : Type 0
NeededTapesFit =
    (m : Module) (script : Script) (supply : Supply) (store : Store) (segments : List Segment)
    → IsRunnable m → Fits m script → supply_of m script ≡ Ok supply → instantiate m supply ≡ Ok store
    → IsNeededTape (program_of m script) (start_in_store m script store) store segments
    → IsFitting m (record { segments = segments })

-- the one needed tape of a run of a module under a script from a store: it fits the module, and its run ends with the
-- run's outcome and exactly its history, and never disagrees
pub record IsOneNeededTape (m : Module) (script : Script) (store : Store) (history : List Entry) (outcome : Outcome)
    (segments : List Segment) : Type 0 where
  pub is_needed : IsNeededTape (program_of m script) (start_in_store m script store) store segments
  pub is_one : (others : List Segment)
      → IsNeededTape (program_of m script) (start_in_store m script store) store others → others ≡ segments
  pub fits : IsFitting m (record { segments = segments })
  pub replays : IsReplayed (code_of m) store segments history outcome

-- for each module that can be run, and each script that fits it and links with it, nested to any depth: if the run has
-- an outcome, it has exactly one needed tape, which fits the module and replays the run
abbrev pub RunsHaveOneNeededTape : Type 0
RunsHaveOneNeededTape =
    (m : Module) (script : Script) (supply : Supply) (store : Store) (count : ℕ) (outcome : Outcome)
    → IsRunnable m → Fits m script → supply_of m script ≡ Ok supply → instantiate m supply ≡ Ok store
    → (run_from (program_of m script) all_one (start_in_store m script store) count).at ≡ Finished outcome
    → (segments : List Segment)
    × IsOneNeededTape m script store
    (run_from (program_of m script) all_one (start_in_store m script store) count).history outcome segments
