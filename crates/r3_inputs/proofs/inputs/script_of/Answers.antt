use Rattle.std.proofs.Common.{◌≡◌, sym, subst}
use Rattle.wasm_syntax.specs.declared.modules.Module.{Module}
use Rattle.host_script.specs.Fits.{Fits}
use Rattle.r3_inputs.proofs.inputs.script_of.Goals as goal

pub returns-in-Ok-clause-fits : goal.returns-in-Ok-clause-fits
returns-in-Ok-clause-fits c =
    subst (λ (m : Module). Fits m c.in-Ok.script) c.module.ensures.same
    (c.scripts_that_are_read_fit.ensures.texts c.module.result.now c.args.bytes.now c.in-Ok.script
    c.module.ensures.valid c.in-Ok.ensures)
