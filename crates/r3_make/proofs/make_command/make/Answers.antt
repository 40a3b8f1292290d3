use Rattle.r3_inputs.proofs.TextStages.{replay_goes_on, replay_stopped}
use Rattle.accepted_runs.proofs.InputAnswers.{inputs_exact}
use Rattle.r3_make.proofs.Commands.{HasReplay, printed_stages, replayable}
use Rattle.r3_make.proofs.Originals.{of_file}
use Rattle.r3_make.proofs.make_command.make.Goals as goal

pub replay_of-requires-clause-original : goal.replay_of-requires-clause-original
replay_of-requires-clause-original c =
    of_file c.args.module.now c.args.script.now c.in_ok-checked.checked c.in_ok-checked.script c.requires.small
    c.in_ok-checked.ensures.taken

pub returns-in_err-checked : goal.returns-in_err-checked
returns-in_err-checked c =
    let module_bytes = c.args.module.now in
    let script_bytes = c.args.script.now in
    replay_stopped (printed_stages module_bytes script_bytes c.args.turns) c.inputs_of.result
    (inputs_exact module_bytes script_bytes c.inputs_of.result c.inputs_of.ensures.taken c.inputs_of.ensures.cause
    c.inputs_of.ensures.refused c.inputs_of.ensures.accepted) c.from_residual.result c.in_err-checked.field-0.0
    c.in_err-checked.was c.from_residual.ensures.1 (HasReplay module_bytes script_bytes c.args.turns)
    (replayable module_bytes script_bytes c.args.turns)

pub returns : goal.returns
returns c =
    let module_bytes = c.args.module.now in
    let script_bytes = c.args.script.now in
    replay_goes_on (printed_stages module_bytes script_bytes c.args.turns) c.inputs_of.result
    (inputs_exact module_bytes script_bytes c.inputs_of.result c.inputs_of.ensures.taken c.inputs_of.ensures.cause
    c.inputs_of.ensures.refused c.inputs_of.ensures.accepted) c.replay_of.result
    (c.in_ok-checked.checked, c.in_ok-checked.script) c.in_ok-checked.was (HasReplay module_bytes script_bytes c.args.turns)
    (replayable module_bytes script_bytes c.args.turns) c.replay_of.ensures
