use Rattle.accepted_runs.proofs.links.supply_and_store.Goals as goal

pub returns-in-Err-clause-cause : goal.returns-in-Err-clause-cause
returns-in-Err-clause-cause c =
    c.fault_of.ensures c.args.checked.now c.args.script.now c.in-Err.ensures.not_opened
