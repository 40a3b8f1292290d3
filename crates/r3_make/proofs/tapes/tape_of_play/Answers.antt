use Rattle.std.proofs.Common.{◌≡◌, ◌⊎◌, sym, subst}
use Rattle.replay_theorem.specs.RecordedOriginalLaws.{record_of}
use Rattle.r3_faults.specs.declared.faults.Fault.{Fault}
use Rattle.r3_faults.specs.declared.faults.Fault.TheVariants.{Memory}
use Rattle.r3_make.specs.Refusals.{IsUnmade, OfRun}
use Rattle.r3_make.proofs.LogTapes.{heavy_answer, light_answer, needed_answer, refused_as, taken, taken_log}
use Rattle.r3_make.proofs.tapes.tape_of_play.Goals as goal

pub record_play-requires : goal.record_play-requires
record_play-requires c = c.requires

pub tape_of-requires-clause-balanced : goal.tape_of-requires-clause-balanced
tape_of-requires-clause-balanced c =
    let run = c.requires.0 in
    let is = c.requires.1 in
    taken run c.args.turns (c.records_report_originals.ensures run c.args.turns) c.args.inputs.now.imports
    is.inputs_are.imports c.in-Ok.reducer c.in-Ok.outcome
    (taken_log (record_of run c.args.turns) c.in-Ok.reducer c.in-Ok.outcome (c.in-Ok.ensures run is c.requires.2))
    c.logs_are_balanced.ensures

pub tape_of-requires-clause-imports : goal.tape_of-requires-clause-imports
tape_of-requires-clause-imports c = (c.in-Ok.ensures c.requires.0 c.requires.1 c.requires.2).taken.imports_are

pub tape_of-requires-clause-most : goal.tape_of-requires-clause-most
tape_of-requires-clause-most c = (c.in-Ok.ensures c.requires.0 c.requires.1 c.requires.2).taken.most_is

pub returns-in-Ok-clause-needed : goal.returns-in-Ok-clause-needed
returns-in-Ok-clause-needed c = λ run is begun.
    needed_answer run c.args.turns (c.records_report_originals.ensures run c.args.turns) c.args.inputs.now.imports
    is.inputs_are.imports c.in-Ok.reducer c.in-Ok.outcome
    (taken_log (record_of run c.args.turns) c.in-Ok.reducer c.in-Ok.outcome (c.in-Ok.ensures run is begun))
    c.tape_of.result c.tape_of.ensures

pub returns-in-Ok-clause-light : goal.returns-in-Ok-clause-light
returns-in-Ok-clause-light c =
    let run = c.requires.0 in
    let is = c.requires.1 in
    light_answer run c.args.turns (c.records_report_originals.ensures run c.args.turns) c.args.inputs.now.imports
    is.inputs_are.imports c.in-Ok.reducer c.in-Ok.outcome
    (taken_log (record_of run c.args.turns) c.in-Ok.reducer c.in-Ok.outcome (c.in-Ok.ensures run is c.requires.2))
    c.tape_of.result c.tape_of.ensures

pub returns-in-Ok-clause-cause : goal.returns-in-Ok-clause-cause
returns-in-Ok-clause-cause c = λ run is begun.
    heavy_answer run c.args.turns (c.records_report_originals.ensures run c.args.turns) c.args.inputs.now.imports
    is.inputs_are.imports c.in-Ok.reducer c.in-Ok.outcome
    (taken_log (record_of run c.args.turns) c.in-Ok.reducer c.in-Ok.outcome (c.in-Ok.ensures run is begun))
    c.tape_of.result c.tape_of.ensures

pub returns-in-Err-clause-cause : goal.returns-in-Err-clause-cause
returns-in-Err-clause-cause c = λ run is begun.
    subst (λ (fault : Fault). (fault ≡ Memory) ⊎ IsUnmade run.m run.script c.args.turns fault)
    (sym c.run_fault.ensures)
    (refused_as run c.args.turns (c.records_report_originals.ensures run c.args.turns)
    (IsUnmade run.m run.script c.args.turns) (λ fault none. OfRun none) c.in-Err.fault (c.in-Err.ensures run is begun))
