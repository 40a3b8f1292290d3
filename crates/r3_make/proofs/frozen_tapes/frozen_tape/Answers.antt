use Rattle.std.proofs.Common.{◌≡◌, ◌⊎◌, sym, ◌∙◌, subst}
use Rattle.r3_faults.specs.declared.faults.Fault.{Fault}
use Rattle.r3_faults.specs.declared.faults.Fault.TheVariants.{Memory}
use Rattle.r3_make.proofs.FrozenTapes.{balanced, frozen_answer, no_answer, none_frozen}
use Rattle.r3_make.proofs.LogTapes.{refused_as}
use Rattle.r3_make.specs.RestRefusals.{HasNoRest, OfRun}
use Rattle.r3_make.proofs.frozen_tapes.frozen_tape.Goals as goal

pub frozen_run-requires : goal.frozen_run-requires
frozen_run-requires c = c.requires

pub tape_at-requires-clause-balanced : goal.tape_at-requires-clause-balanced
tape_at-requires-clause-balanced c =
    let run = c.requires.0 in
    let is = c.requires.1 in
    balanced run c.args.turns (c.records_report_originals.ensures run c.args.turns)
    (c.instrumented_runs_follow.ensures run) c.instrumented_meters_fit.ensures.meter c.args.number c.in-Ok.played
    (c.in-Ok.ensures run is c.requires.2) c.args.inputs.now.imports is.inputs_are.imports c.logs_are_balanced.ensures

pub tape_at-requires-clause-imports : goal.tape_at-requires-clause-imports
tape_at-requires-clause-imports c =
    let run = c.requires.0 in
    let is = c.requires.1 in
    (c.in-Ok.ensures run is c.requires.2).taken.imports_are ∙ sym is.inputs_are.imports

pub tape_at-requires-clause-most : goal.tape_at-requires-clause-most
tape_at-requires-clause-most c = (c.in-Ok.ensures c.requires.0 c.requires.1 c.requires.2).taken.most_is

pub tape_at-requires-clause-frozen : goal.tape_at-requires-clause-frozen
tape_at-requires-clause-frozen c =
    let run = c.requires.0 in
    let is = c.requires.1 in
    none_frozen run c.args.turns (c.records_report_originals.ensures run c.args.turns)
    (c.instrumented_runs_follow.ensures run) c.instrumented_meters_fit.ensures.meter c.args.number c.in-Ok.played
    (c.in-Ok.ensures run is c.requires.2) c.args.inputs.now.imports is.inputs_are.imports
    c.calls_are_of_runs.ensures c.known_before_is_kept.ensures c.rests_are_there.ensures
    c.top_calls_are_reported.ensures c.logs_know_what_is_known.ensures

pub returns-in-Ok-clause-frozen : goal.returns-in-Ok-clause-frozen
returns-in-Ok-clause-frozen c = λ run is begun.
    frozen_answer run c.args.turns (c.records_report_originals.ensures run c.args.turns)
    (c.instrumented_runs_follow.ensures run) c.instrumented_meters_fit.ensures.meter c.args.number c.in-Ok.played
    (c.in-Ok.ensures run is begun) c.args.inputs.now.imports is.inputs_are.imports c.calls_are_of_runs.ensures
    c.known_before_is_kept.ensures c.rests_are_there.ensures c.top_calls_are_reported.ensures
    c.logs_know_what_is_known.ensures c.tape_at.result c.tape_at.ensures

pub returns-in-Ok-clause-cause : goal.returns-in-Ok-clause-cause
returns-in-Ok-clause-cause c = λ run is begun.
    no_answer run c.args.turns (c.records_report_originals.ensures run c.args.turns)
    (c.instrumented_runs_follow.ensures run) c.instrumented_meters_fit.ensures.meter c.args.number c.in-Ok.played
    (c.in-Ok.ensures run is begun) c.args.inputs.now.imports is.inputs_are.imports c.calls_are_of_runs.ensures
    c.known_before_is_kept.ensures c.rests_are_there.ensures c.top_calls_are_reported.ensures
    c.logs_know_what_is_known.ensures c.tape_at.result c.tape_at.ensures c.ranges.number.fits

pub returns-in-Err-clause-cause : goal.returns-in-Err-clause-cause
returns-in-Err-clause-cause c = λ run is begun.
    subst (λ (fault : Fault). (fault ≡ Memory) ⊎ HasNoRest run.m run.script c.args.turns c.args.number fault)
    (sym c.run_fault.ensures)
    (refused_as run c.args.turns (c.records_report_originals.ensures run c.args.turns)
    (HasNoRest run.m run.script c.args.turns c.args.number) (λ fault none. OfRun none) c.in-Err.fault
    (c.in-Err.ensures run is begun))
