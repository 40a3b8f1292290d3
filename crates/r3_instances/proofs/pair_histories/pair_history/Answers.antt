use Rattle.r3_inputs.proofs.TextStages.{text_goes_on, text_stopped}
use Rattle.r3_instances.specs.PairInputs.{pair_source}
use Rattle.r3_instances.proofs.ReplayFunctions.{pair_follow}
use Rattle.r3_instances.proofs.SourceCommands.{history_parts, history_stages}
use Rattle.r3_instances.proofs.pair_histories.pair_history.Goals as goal

pub returns-in_err-inputs : goal.returns-in_err-inputs
returns-in_err-inputs c =
    let source = pair_source c.args.left.now c.args.right.now in
    let follow = pair_follow c.args.left.now c.args.right.now c.linked_outcomes_follow.ensures in
    text_stopped (history_stages source c.args.script.now c.args.turns follow) c.pair_inputs.result
    c.pair_inputs.ensures.exact c.from_residual.result c.in_err-inputs.field-0.0 c.in_err-inputs.was
    c.from_residual.ensures.1 (history_parts source c.args.script.now c.args.turns follow)

pub returns : goal.returns
returns c =
    let source = pair_source c.args.left.now c.args.right.now in
    let follow = pair_follow c.args.left.now c.args.right.now c.linked_outcomes_follow.ensures in
    text_goes_on (history_stages source c.args.script.now c.args.turns follow) c.pair_inputs.result
    c.pair_inputs.ensures.exact c.history_of.result c.in_ok-inputs.inputs c.in_ok-inputs.was
    (history_parts source c.args.script.now c.args.turns follow) c.history_of.ensures
