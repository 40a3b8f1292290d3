use Rattle.std.proofs.Common.{◌≡◌, ◌⊎◌, sym, subst}
use Rattle.history_spec.specs.Run.{start_in_store}
use Rattle.r3_faults.specs.declared.faults.Fault.{Fault}
use Rattle.r3_faults.specs.declared.faults.Fault.TheVariants.{Memory}
use Rattle.accepted_runs.specs.Runs.{HasNoOutcome}
use Rattle.accepted_runs.proofs.Refused.{refused_run, refuses_same}
use Rattle.accepted_runs.proofs.runs.printed_run.Goals as goal

pub returns-in-Err-clause-cause : goal.returns-in-Err-clause-cause
returns-in-Err-clause-cause c =
    let m = c.args.checked.now in
    let script = c.args.script.now in
    let initial = start_in_store m script c.args.store in
    let fault = c.in-Err.fault in
    subst (λ (fault : Fault). (fault ≡ Memory) ⊎ HasNoOutcome m script c.args.turns fault) (sym c.run_fault.ensures)
    (refused_run m script initial c.args.turns fault c.requires.start.opened
    (refuses_same c.module.result.now m script c.args.turns fault c.module.ensures.same c.in-Err.ensures initial
    c.requires.start.opened))
