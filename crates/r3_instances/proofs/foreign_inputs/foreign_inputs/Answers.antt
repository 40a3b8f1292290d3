use Rattle.r3_instances.specs.ForeignInputs.{foreign_source}
use Rattle.r3_inputs.proofs.Stages.{goes_on, stopped}
use Rattle.r3_instances.proofs.FileStages.{script_stages}
use Rattle.r3_instances.proofs.foreign_inputs.foreign_inputs.Goals as goal

pub returns-in_err-wide-clause-exact : goal.returns-in_err-wide-clause-exact
returns-in_err-wide-clause-exact c =
    stopped (script_stages (foreign_source c.args.module.now c.args.decls.now) c.args.script.now) c.widened_file.result
    c.widened_file.ensures.exact c.in_err-wide.field-0.0 c.in_err-wide.was c.from_residual.result
    c.from_residual.ensures.1

pub returns-clause-exact : goal.returns-clause-exact
returns-clause-exact c =
    goes_on (script_stages (foreign_source c.args.module.now c.args.decls.now) c.args.script.now) c.widened_file.result
    c.widened_file.ensures.exact c.in_ok-wide.wide c.in_ok-wide.was c.run_inputs.result c.run_inputs.ensures.exact
