-- A run with an outcome has exactly one needed tape, which fits the module and replays the run.
use Rattle.std.proofs.Common.{◌≡◌, ℕ, [], Ok}
use Rattle.wasm_syntax.specs.declared.modules.Module.{Module}
use Rattle.host_script.specs.declared.scripts.Script.{Script}
use Rattle.host_script.specs.declared.scripts.Supply.{Supply}
use Rattle.host_script.specs.Fits.{Fits}
use Rattle.host_script.specs.Supply.{supply_of}
use Rattle.base.specs.declared.outcomes.Outcome.{Outcome}
use Rattle.history_spec.specs.Store.{Store}
use Rattle.history_spec.specs.Instantiation.{instantiate}
use Rattle.history_spec.specs.Step.{Program, Finished, StepResult}
use Rattle.history_spec.specs.Run.{all_one, program_of, start_in_store, run_from}
use Rattle.record_replay_spec.specs.Laws.{NeededTapeIsOne}
use Rattle.record_replay_spec.specs.Known.{opening_known}
use Rattle.record_replay_spec.specs.Needed.{IsNeededTape}
use Rattle.record_replay_spec.specs.Observations.{run_observations}
use Rattle.type_safety.specs.Supplies.{IsRunnable}
use Rattle.tape_laws.specs.Below.{LawsOfSteps, LawsOfRuns}
use Rattle.tape_laws.specs.RealReads.{observed_from}
use Rattle.tape_laws.specs.NeededTape.{NeededTapesFit, RunsHaveOneNeededTape}
use Rattle.tape_laws.proofs.Whole.{needed_tape_replays}
use Rattle.tape_laws.proofs.RealReads.{reads_are_real_after_settling}
use Rattle.tape_laws.proofs.NewStores.{new_kept}
use Rattle.tape_laws.proofs.FitSegments.{AreFromEnd, first_needed, first_fits}
use Rattle.tape_laws.proofs.FitActivities.{from_start}
use Rattle.tape_laws.proofs.SafeRuns.{safe_run}

module _ (laws : LawsOfSteps) (safety : LawsOfRuns) (m : Module) (script : Script) (supply : Supply) (store : Store)
    (runnable : IsRunnable m) (fits : Fits m script) (links : supply_of m script ≡ Ok supply)
    (opens : instantiate m supply ≡ Ok store) where
  abbrev program : Program
  program = program_of m script

  abbrev initial : StepResult
  initial = start_in_store m script store

  -- the activities of the run fit
  run_fits : (count : ℕ) (outcome : Outcome) → (run_from program all_one initial count).at ≡ Finished outcome
      → AreFromEnd m (opening_known store) [] (observed_from program count initial)
  run_fits count outcome ends =
      let run = safe_run safety m script supply store runnable fits links opens in
      let kept = new_kept m supply store run.is (safety.supplied m script supply fits links) opens in
      from_start laws (reads_are_real_after_settling laws) m run.heights runnable.valid run.typed script.imports
      fits.imports count script.main store (opening_known store) kept m.start runnable.valid.outside.start run.safe
      (outcome, ends)

pub needed_tapes_fit : LawsOfSteps → LawsOfRuns → NeededTapesFit
needed_tapes_fit laws safety m script supply store segments runnable fits links opens needed =
    first_fits m (opening_known store)
    (observed_from (program_of m script) needed.count (start_in_store m script store)) segments
    (run_fits laws safety m script supply store runnable fits links opens needed.count needed.outcome needed.ends)
    ((safety.kept (opening_known store)
    (run_observations (program_of m script) (start_in_store m script store) needed.count) segments).0 needed.needed)

pub runs_have_one_needed_tape : LawsOfSteps → LawsOfRuns → NeededTapeIsOne → RunsHaveOneNeededTape
runs_have_one_needed_tape laws safety one m script supply store count outcome runnable fits links opens ends =
    let program = program_of m script in
    let initial = start_in_store m script store in
    let found = first_needed m (opening_known store) (observed_from program count initial)
    (run_fits laws safety m script supply store runnable fits links opens count outcome ends) in
    let needed : IsNeededTape program initial store found.0 = record {
      count = count;
      outcome = outcome;
      ends = ends;
      needed = (safety.kept (opening_known store) (run_observations program initial count) found.0).1 found.1;
    } in (
      found.0,
      record {
        is_needed = needed;
        is_one = λ others other. one program initial store others found.0 other needed;
        fits = needed_tapes_fit laws safety m script supply store found.0 runnable fits links opens needed;
        replays =
            needed_tape_replays laws safety m script supply store found.0 count outcome runnable fits links opens needed
            ends;
      },
    )
