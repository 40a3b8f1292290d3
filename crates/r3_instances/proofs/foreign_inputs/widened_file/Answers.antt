use Rattle.std.proofs.Common.{◌≡◌, Ok}
use Rattle.wasm_syntax.specs.declared.modules.Module.{Module}
use Rattle.r3_instances.specs.ForeignInputs.{foreign_source, widened_of}
use Rattle.r3_inputs.proofs.Stages.{goes_on, stopped}
use Rattle.r3_instances.proofs.FileStages.{recorded_stages}
use Rattle.r3_instances.proofs.ResultLemmas.{memory_answer, value_answer}
use Rattle.r3_instances.proofs.foreign_inputs.widened_file.Goals as goal

pub returns-in_err-declared-clause-exact : goal.returns-in_err-declared-clause-exact
returns-in_err-declared-clause-exact c =
    stopped (recorded_stages (foreign_source c.args.module.now c.args.decls.now)) c.declared_module.result
    c.declared_module.ensures.exact c.in_err-declared.field-0.0 c.in_err-declared.was c.from_residual.result
    c.from_residual.ensures.1

pub returns-in_err-wide-clause-exact : goal.returns-in_err-wide-clause-exact
returns-in_err-wide-clause-exact c =
    let declared = c.in_ok-declared.declared in
    goes_on (recorded_stages (foreign_source c.args.module.now c.args.decls.now)) c.declared_module.result
    c.declared_module.ensures.exact declared c.in_ok-declared.was c.from_residual-in_err-wide.result
    (memory_answer (λ (m : Module). m ≡ widened_of declared) (λ fault. ⊥) c.from_residual-in_err-wide.result
    c.from_residual-in_err-wide.ensures.1)

pub returns-clause-exact : goal.returns-clause-exact
returns-clause-exact c =
    let declared = c.in_ok-declared.declared in
    goes_on (recorded_stages (foreign_source c.args.module.now c.args.decls.now)) c.declared_module.result
    c.declared_module.ensures.exact declared c.in_ok-declared.was (Ok c.in_ok-wide.wide)
    (value_answer (widened_of declared) c.in_ok-wide.wide c.in_ok-wide.ensures.is)
