use Rattle.r3_inputs.proofs.TextStages.{replay_goes_on, replay_stopped}
use Rattle.accepted_runs.proofs.InputAnswers.{inputs_exact}
use Rattle.r3_make.proofs.Commands.{HasReplay, replayable, summary_stages}
use Rattle.r3_make.proofs.Originals.{of_file}
use Rattle.r3_make.proofs.summaries.summary_of.Goals as goal

pub lines_of-requires-clause-original : goal.lines_of-requires-clause-original
lines_of-requires-clause-original c =
    of_file c.args.module.now c.args.script.now c.in_ok-original.original c.in_ok-original.script c.requires
    c.in_ok-original.ensures.taken

pub returns-in_err-original : goal.returns-in_err-original
returns-in_err-original c =
    let module_bytes = c.args.module.now in
    let script_bytes = c.args.script.now in
    replay_stopped (summary_stages module_bytes script_bytes c.args.turns) c.inputs_of.result
    (inputs_exact module_bytes script_bytes c.inputs_of.result c.inputs_of.ensures.taken c.inputs_of.ensures.cause
    c.inputs_of.ensures.refused c.inputs_of.ensures.accepted) c.from_residual.result c.in_err-original.field-0.0
    c.in_err-original.was c.from_residual.ensures.1 (HasReplay module_bytes script_bytes c.args.turns)
    (replayable module_bytes script_bytes c.args.turns)

pub returns : goal.returns
returns c =
    let module_bytes = c.args.module.now in
    let script_bytes = c.args.script.now in
    replay_goes_on (summary_stages module_bytes script_bytes c.args.turns) c.inputs_of.result
    (inputs_exact module_bytes script_bytes c.inputs_of.result c.inputs_of.ensures.taken c.inputs_of.ensures.cause
    c.inputs_of.ensures.refused c.inputs_of.ensures.accepted) c.lines_of.result
    (c.in_ok-original.original, c.in_ok-original.script) c.in_ok-original.was (HasReplay module_bytes script_bytes c.args.turns)
    (replayable module_bytes script_bytes c.args.turns) c.lines_of.ensures
