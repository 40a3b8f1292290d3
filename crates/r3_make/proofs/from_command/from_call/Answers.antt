use Rattle.r3_inputs.proofs.TextStages.{replay_goes_on, replay_stopped}
use Rattle.accepted_runs.proofs.InputAnswers.{inputs_exact}
use Rattle.r3_make.proofs.Commands.{HasRest, rest_stages, with_rest}
use Rattle.r3_make.proofs.Originals.{of_file}
use Rattle.r3_make.proofs.from_command.from_call.Goals as goal

pub rest_replay_of-requires-clause-original : goal.rest_replay_of-requires-clause-original
rest_replay_of-requires-clause-original c =
    of_file c.args.module.now c.args.script.now c.in_ok-checked.checked c.in_ok-checked.script c.requires.small
    c.in_ok-checked.ensures.taken

pub returns-in_err-checked : goal.returns-in_err-checked
returns-in_err-checked c =
    let module_bytes = c.args.module.now in
    let script_bytes = c.args.script.now in
    replay_stopped (rest_stages module_bytes script_bytes c.args.turns c.args.number) c.inputs_of.result
    (inputs_exact module_bytes script_bytes c.inputs_of.result c.inputs_of.ensures.taken c.inputs_of.ensures.cause
    c.inputs_of.ensures.refused c.inputs_of.ensures.accepted) c.from_residual.result c.in_err-checked.field-0.0
    c.in_err-checked.was c.from_residual.ensures.1 (HasRest module_bytes script_bytes c.args.turns c.args.number)
    (with_rest module_bytes script_bytes c.args.turns c.args.number)

pub returns : goal.returns
returns c =
    let module_bytes = c.args.module.now in
    let script_bytes = c.args.script.now in
    replay_goes_on (rest_stages module_bytes script_bytes c.args.turns c.args.number) c.inputs_of.result
    (inputs_exact module_bytes script_bytes c.inputs_of.result c.inputs_of.ensures.taken c.inputs_of.ensures.cause
    c.inputs_of.ensures.refused c.inputs_of.ensures.accepted) c.rest_replay_of.result
    (c.in_ok-checked.checked, c.in_ok-checked.script) c.in_ok-checked.was (HasRest module_bytes script_bytes c.args.turns c.args.number)
    (with_rest module_bytes script_bytes c.args.turns c.args.number) c.rest_replay_of.ensures
