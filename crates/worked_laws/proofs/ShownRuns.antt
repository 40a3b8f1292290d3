-- The replay modules of the tapes that the runs of the examples need show them, by the law of runs.
use Rattle.std.proofs.Common.{◌≡◌, ◌≤◌, List, Result, Ok, Err, refl, sym, ap, subst, arith}
use Rattle.std.proofs.lemmas.Bool.Decides.{nat_tests}
use Rattle.wasm_syntax.specs.declared.limits.TheConstants.{MAX_TAPE_WEIGHT}
use Rattle.wasm_syntax.specs.declared.modules.Module.{Module}
use Rattle.wasm_syntax.specs.Laws.{ValidityIsDecided}
use Rattle.host_script.specs.declared.scripts.LinkFault.{LinkFault}
use Rattle.host_script.specs.declared.scripts.Script.{Script}
use Rattle.base.specs.declared.outcomes.Outcome.{Outcome}
use Rattle.trace_model.specs.declared.tapes.Segment.{Segment}
use Rattle.trace_model.specs.declared.tapes.Tape.{Tape}
use Rattle.trace_model.specs.Weight.{tape_weight}
use Rattle.history_spec.specs.Store.{Store}
use Rattle.record_replay_spec.specs.Laws.{TestedSegmentsAreNeeded}
use Rattle.record_replay_spec.specs.Needed.{opening_store}
use Rattle.replay_theorem.specs.Laws.{RunsAreReplayed}
use Rattle.worked_tapes.specs.TapeBuild.{IfOpened, max_steps}
use Rattle.worked_laws.specs.ShownRuns.{HasReplay, IsShown, WorkedShown}
use Rattle.worked_laws.proofs.Runs.{none_supplied, CanRun, HasTape, needed_tape, runnable, opens}
use Rattle.worked_laws.proofs.EachRun.{IsLight, of_each_run}

-- the tape of some segments
abbrev tape_of : List Segment → Tape
tape_of segments = record { segments = segments }

shown : RunsAreReplayed → TestedSegmentsAreNeeded → ValidityIsDecided → (m : Module) (script : Script)
    (segments : List Segment) (outcome : Outcome) → CanRun m script
    → IfOpened (opening_store m script) (HasTape m script segments outcome)
    → IsLight segments → IsShown m script segments outcome
shown law tested valid m script segments outcome can has light = go (opening_store m script) refl has
  where
    go : (o : Result Store LinkFault) → opening_store m script ≡ o → IfOpened o (HasTape m script segments outcome)
        → IfOpened o (HasReplay m script (tape_of segments) outcome)
    go (Err fault) e has = has
    go (Ok store) e has =
        let r = law m script none_supplied store max_steps outcome (runnable valid m script can) can.fits can.supplied
        (opens m script store can e) has.ends in
        let same : tape_of segments ≡ r.0 = ap tape_of
        (r.1.is_one.is_one segments (needed_tape tested m script segments outcome store has)) in
        let low : tape_weight (tape_of segments) ≤ MAX_TAPE_WEIGHT = grind (arith, nat_tests, light) in
        let light_too : tape_weight r.0 ≤ MAX_TAPE_WEIGHT = subst (λ tape. tape_weight tape ≤ MAX_TAPE_WEIGHT) same low in
        subst (λ tape. HasReplay m script tape outcome store) (sym same)
        (record { shows = r.1.shows light_too; makes = r.1.makes light_too })

pub examples_are_shown : RunsAreReplayed → TestedSegmentsAreNeeded → ValidityIsDecided → WorkedShown
examples_are_shown law tested valid = of_each_run IsShown (shown law tested valid)
