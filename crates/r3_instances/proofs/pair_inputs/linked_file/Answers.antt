use Rattle.r3_inputs.proofs.Stages.{goes_on, stopped}
use Rattle.r3_instances.proofs.FileStages.{left_stages, right_stages}
use Rattle.r3_instances.proofs.pair_inputs.linked_file.Goals as goal

pub returns-in_err-left_module-clause-exact : goal.returns-in_err-left_module-clause-exact
returns-in_err-left_module-clause-exact c =
    stopped (left_stages c.args.left.now c.args.right.now) c.file_module.result c.file_module.ensures.exact
    c.in_err-left_module.field-0.0 c.in_err-left_module.was c.from_residual.result c.from_residual.ensures.1

pub returns-in_err-right_module-clause-exact : goal.returns-in_err-right_module-clause-exact
returns-in_err-right_module-clause-exact c =
    goes_on (left_stages c.args.left.now c.args.right.now) c.file_module.result c.file_module.ensures.exact
    c.in_ok-left_module.left_module c.in_ok-left_module.was c.from_residual-in_err-right_module.result
    (stopped (right_stages c.args.left.now c.args.right.now c.in_ok-left_module.left_module) c.file_module-2.result
    c.file_module-2.ensures.exact c.in_err-right_module.field-0.0 c.in_err-right_module.was c.from_residual-in_err-right_module.result
    c.from_residual-in_err-right_module.ensures.1)

pub returns-clause-exact : goal.returns-clause-exact
returns-clause-exact c =
    goes_on (left_stages c.args.left.now c.args.right.now) c.file_module.result c.file_module.ensures.exact
    c.in_ok-left_module.left_module c.in_ok-left_module.was c.linked_module.result
    (goes_on (right_stages c.args.left.now c.args.right.now c.in_ok-left_module.left_module) c.file_module-2.result
    c.file_module-2.ensures.exact c.in_ok-right_module.right_module c.in_ok-right_module.was c.linked_module.result
    c.linked_module.ensures.exact)
