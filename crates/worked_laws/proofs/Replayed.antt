-- The tapes that the runs of the examples need replay them, by the law of tapes.
use Rattle.std.proofs.Common.{◌≡◌, List, Result, Ok, Err, refl}
use Rattle.wasm_syntax.specs.declared.modules.Module.{Module}
use Rattle.wasm_syntax.specs.Laws.{ValidityIsDecided}
use Rattle.host_script.specs.declared.scripts.LinkFault.{LinkFault}
use Rattle.host_script.specs.declared.scripts.Script.{Script}
use Rattle.base.specs.declared.outcomes.Outcome.{Outcome}
use Rattle.trace_model.specs.declared.tapes.Segment.{Segment}
use Rattle.history_spec.specs.Store.{Store}
use Rattle.history_spec.specs.Code.{code_of}
use Rattle.record_replay_spec.specs.Laws.{TestedSegmentsAreNeeded}
use Rattle.record_replay_spec.specs.Needed.{opening_store}
use Rattle.tape_laws.specs.Laws.{IsReplayed, NeededTapesReplayRuns}
use Rattle.worked_tapes.specs.TapeBuild.{IfOpened, max_steps, scripted_run}
use Rattle.worked_laws.specs.Replayed.{Replays, WorkedReplays}
use Rattle.worked_laws.proofs.Runs.{none_supplied, CanRun, HasTape, needed_tape, runnable, opens}
use Rattle.worked_laws.proofs.EachRun.{of_each_run}

replays : NeededTapesReplayRuns → TestedSegmentsAreNeeded → ValidityIsDecided → (m : Module) (script : Script)
    (segments : List Segment) (outcome : Outcome) → CanRun m script
    → IfOpened (opening_store m script) (HasTape m script segments outcome) → Replays m script segments outcome
replays law tested valid m script segments outcome can has = go (opening_store m script) refl has
  where
    go : (o : Result Store LinkFault) → opening_store m script ≡ o → IfOpened o (HasTape m script segments outcome)
        → IfOpened o (λ store. IsReplayed (code_of m) store segments (scripted_run m script store).history outcome)
    go (Err fault) e has = has
    go (Ok store) e has =
        law m script none_supplied store segments max_steps outcome (runnable valid m script can) can.fits
        can.supplied (opens m script store can e) (needed_tape tested m script segments outcome store has) has.ends

pub examples_replay : NeededTapesReplayRuns → TestedSegmentsAreNeeded → ValidityIsDecided → WorkedReplays
examples_replay law tested valid =
    of_each_run Replays (λ m script segments outcome can has light.
    replays law tested valid m script segments outcome can has)
