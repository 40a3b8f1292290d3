use Rattle.r3_instances.specs.PairInputs.{pair_source}
use Rattle.r3_inputs.proofs.Stages.{goes_on, stopped}
use Rattle.r3_instances.proofs.FileStages.{script_stages}
use Rattle.r3_instances.proofs.pair_inputs.pair_inputs.Goals as goal

pub returns-in_err-linked-clause-exact : goal.returns-in_err-linked-clause-exact
returns-in_err-linked-clause-exact c =
    stopped (script_stages (pair_source c.args.left.now c.args.right.now) c.args.script.now) c.linked_file.result
    c.linked_file.ensures.exact c.in_err-linked.field-0.0 c.in_err-linked.was c.from_residual.result
    c.from_residual.ensures.1

pub returns-clause-exact : goal.returns-clause-exact
returns-clause-exact c =
    goes_on (script_stages (pair_source c.args.left.now c.args.right.now) c.args.script.now) c.linked_file.result
    c.linked_file.ensures.exact c.in_ok-linked.linked c.in_ok-linked.was c.run_inputs.result c.run_inputs.ensures.exact
