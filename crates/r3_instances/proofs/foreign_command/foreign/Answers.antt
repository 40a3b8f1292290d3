use Rattle.r3_inputs.proofs.TextStages.{replay_goes_on, replay_stopped}
use Rattle.r3_instances.specs.ForeignInputs.{foreign_source}
use Rattle.r3_instances.proofs.Commands.{foreign_stages}
use Rattle.r3_instances.proofs.SourceCommands.{IsLight, replayable}
use Rattle.r3_instances.proofs.foreign_command.foreign.Goals as goal

pub returns-in_err-inputs : goal.returns-in_err-inputs
returns-in_err-inputs c =
    replay_stopped
    (foreign_stages c.args.module.now c.args.decls.now c.args.script.now c.args.turns c.widened_outcomes_follow.ensures)
    c.foreign_inputs.result c.foreign_inputs.ensures.exact c.from_residual.result c.in_err-inputs.field-0.0
    c.in_err-inputs.was c.from_residual.ensures.1 (IsLight c.args.turns)
    (replayable (foreign_source c.args.module.now c.args.decls.now) c.args.script.now c.args.turns)

pub returns : goal.returns
returns c =
    replay_goes_on
    (foreign_stages c.args.module.now c.args.decls.now c.args.script.now c.args.turns c.widened_outcomes_follow.ensures)
    c.foreign_inputs.result c.foreign_inputs.ensures.exact c.replay_of_inputs.result c.in_ok-inputs.inputs
    c.in_ok-inputs.was (IsLight c.args.turns)
    (replayable (foreign_source c.args.module.now c.args.decls.now) c.args.script.now c.args.turns) c.replay_of_inputs.ensures
