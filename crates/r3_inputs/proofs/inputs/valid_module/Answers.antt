use Rattle.std.proofs.Common.{inr, refl, ap, ◌∙◌, None, Err}
use Rattle.wasm_validate.specs.declared.whole.InvalidFault.TheVariants.{Invalid}
use Rattle.r3_inputs.proofs.inputs.valid_module.Goals as goal

pub returns-in-Err-Invalid-None-clause-cause : goal.returns-in-Err-Invalid-None-clause-cause
returns-in-Err-Invalid-None-clause-cause c =
    let here = c.in-Err-Invalid-None in
    inr (record {
      place = None;
      named = refl;
      invalid = here.ensures.invalid None
          (ap Err (here.field-0-is ∙ ap Invalid here.field-0-0-is));
    })
