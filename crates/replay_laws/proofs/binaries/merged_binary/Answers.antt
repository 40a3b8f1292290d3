use Rattle.replay_laws.proofs.PlannedBinaries.{binary_short, part_fits}
use Rattle.replay_laws.proofs.binaries.merged_binary.Goals as goal

pub merge-requires-clause-fits : goal.merge-requires-clause-fits
merge-requires-clause-fits c =
    part_fits c.args.«module» c.module-2.result.now c.module-3.result.now c.args.tape c.in_ok-plan.plan
    c.in_ok-fragment.fragment c.module-2.ensures.same c.module-3.ensures.same c.in_ok-plan.ensures c.in_ok-fragment.ensures
    c.fragments_fit.ensures.linked c.args.supply.now c.module-2.ensures.valid c.requires.supplied c.requires.fits
    c.requires.constants

pub returns-clause-short : goal.returns-clause-short
returns-clause-short c =
    binary_short c.args.«module» c.module-2.result.now c.module-3.result.now c.args.tape c.in_ok-plan.plan
    c.in_ok-fragment.fragment c.module-2.ensures.same c.module-3.ensures.same c.in_ok-plan.ensures c.in_ok-fragment.ensures
    c.replay_modules_are_short.ensures.short c.args.supply.now c.merge.result c.module-2.ensures.valid c.merge.ensures
