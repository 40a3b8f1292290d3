-- Nothing can be removed from the tape that a run needs.
use Rattle.std.proofs.Common.{[], refl, inl, replicate}
use Rattle.history_spec.specs.Store.{Store}
use Rattle.history_spec.specs.Run.{program_of, start_in_store}
use Rattle.record_replay_spec.specs.Observations.{run_observations}
use Rattle.record_replay_spec.specs.Known.{opening_known}
use Rattle.record_replay_spec.specs.ShownStepLaws.{ShownStepsAreAnswered}
use Rattle.tape_laws.specs.Below.{LawsOfSteps, LawsOfRuns}
use Rattle.tape_laws.specs.Dropped.{NothingCanBeDropped}
use Rattle.tape_laws.proofs.Activities.{HasSizes}
use Rattle.tape_laws.proofs.HostStores.{sizes_of}
use Rattle.tape_laws.proofs.AllSteps.{started}
use Rattle.tape_laws.proofs.CoreObservations.{run_of_core}
use Rattle.tape_laws.proofs.DroppedStores.{HoldsLess}
use Rattle.tape_laws.proofs.DroppedRuns.{lacks, lacks_closed}
use Rattle.tape_laws.proofs.SafeRuns.{safe_run}

opening_holds_less : (store : Store) → HasSizes store → HoldsLess (opening_known store) [] store
opening_holds_less store sizes =
    record {
      pages = inl sizes.whole;
      entries = inl refl;
      byte = λ at. inl refl;
      entry = λ at. inl refl;
      global = λ at. inl refl;
    }

pub nothing_can_be_dropped : LawsOfSteps → LawsOfRuns → ShownStepsAreAnswered → NothingCanBeDropped
nothing_can_be_dropped laws safety answered m script supply store segments runnable core fits links opens needed left
    are apart =
    let run = safe_run safety m script supply store runnable fits links opens in
    let closed = lacks_closed laws.alike answered laws.rules m run.heights runnable.valid run.typed in
    let f = started laws m run.heights runnable.valid run.typed script.imports fits.imports (lacks m) closed
    needed.count script.main store run.is m.start run.safe in
    let kept = safety.kept (opening_known store)
    (run_observations (program_of m script) (start_in_store m script store) needed.count) segments in
    f.shows store left needed.outcome refl
    (record {
      core =
          run_of_core m core (program_of m script) refl needed.count m.start store
          (replicate (program_of m script).code.imported 0) script.main;
      whole = segments;
      needed = kept.0 needed.needed;
      are_left = are;
      holds = opening_holds_less store (sizes_of m store run.is);
      typed = run.is;
      lacks = λ same held. apart same;
    })
    needed.ends
