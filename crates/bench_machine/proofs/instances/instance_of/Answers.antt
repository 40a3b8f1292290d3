use Rattle.std.proofs.Common.{◌≡◌, ◌⊎◌, inl, inr}
use Rattle.r3_inputs.specs.Inputs.{ByModule, ByScript}
use Rattle.bench_machine.specs.Instances.{HasCause}
use Rattle.bench_machine.specs.declared.instances.MachineFault.TheVariants.{Input}
use Rattle.bench_machine.proofs.Causes.{holds_of_error}
use Rattle.bench_machine.proofs.instances.instance_of.Goals as goal

pub returns-in_err-checked-clause-cause : goal.returns-in_err-checked-clause-cause
returns-in_err-checked-clause-cause c =
    holds_of_error c.from_residual.result (Input c.in_err-checked.field-0.0) (HasCause c.args.module.now c.args.script.now) c.from_residual.ensures.1
    (elim c.in_err-checked.ensures.cause [ inl memory ↦ inl memory | inr refused ↦ inr (ByModule refused) ])

pub returns-in_err-script-clause-cause : goal.returns-in_err-script-clause-cause
returns-in_err-script-clause-cause c =
    holds_of_error c.from_residual-in_err-script.result (Input c.in_err-script.field-0.0)
    (HasCause c.args.module.now c.args.script.now) c.from_residual-in_err-script.ensures.1
    (elim c.in_err-script.ensures.cause [
      | inl memory ↦ inl memory
      | inr refused ↦ inr (ByScript c.in_ok-checked.checked c.in_ok-checked.ensures.taken refused)
    ])
