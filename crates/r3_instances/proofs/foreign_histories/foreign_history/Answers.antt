use Rattle.r3_inputs.proofs.TextStages.{text_goes_on, text_stopped}
use Rattle.r3_instances.specs.ForeignInputs.{foreign_source}
use Rattle.r3_instances.proofs.ReplayFunctions.{foreign_follow}
use Rattle.r3_instances.proofs.SourceCommands.{history_parts, history_stages}
use Rattle.r3_instances.proofs.foreign_histories.foreign_history.Goals as goal

pub returns-in_err-inputs : goal.returns-in_err-inputs
returns-in_err-inputs c =
    let source = foreign_source c.args.module.now c.args.decls.now in
    let follow = foreign_follow c.args.module.now c.args.decls.now c.widened_outcomes_follow.ensures in
    text_stopped (history_stages source c.args.script.now c.args.turns follow) c.foreign_inputs.result
    c.foreign_inputs.ensures.exact c.from_residual.result c.in_err-inputs.field-0.0 c.in_err-inputs.was
    c.from_residual.ensures.1 (history_parts source c.args.script.now c.args.turns follow)

pub returns : goal.returns
returns c =
    let source = foreign_source c.args.module.now c.args.decls.now in
    let follow = foreign_follow c.args.module.now c.args.decls.now c.widened_outcomes_follow.ensures in
    text_goes_on (history_stages source c.args.script.now c.args.turns follow) c.foreign_inputs.result
    c.foreign_inputs.ensures.exact c.history_of.result c.in_ok-inputs.inputs c.in_ok-inputs.was
    (history_parts source c.args.script.now c.args.turns follow) c.history_of.ensures
