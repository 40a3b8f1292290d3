use Rattle.std.proofs.Common.{inr, refl, subst}
use Rattle.r3_inputs.specs.ModuleFiles.{form_of}
use Rattle.wasm_decode.specs.DecodeResults.{IsFaultOf}
use Rattle.wasm_decode.specs.declared.modules.DecodeFault.TheVariants.{Malformed}
use Rattle.r3_inputs.proofs.inputs.decoded_module.Goals as goal

pub returns-in-Err-Malformed-clause-cause : goal.returns-in-Err-Malformed-clause-cause
returns-in-Err-Malformed-clause-cause c =
    let read : IsFaultOf c.form.result c.args.bytes.now (Malformed c.in-Err-Malformed.at) =
    subst (IsFaultOf c.form.result c.args.bytes.now) c.in-Err-Malformed.field-0-is c.in-Err-Malformed.ensures.fault
    in
    let fault : IsFaultOf (form_of c.args.file) c.args.bytes.now (Malformed c.in-Err-Malformed.at) =
    subst (λ form. IsFaultOf form c.args.bytes.now (Malformed c.in-Err-Malformed.at)) c.form.ensures read
    in
    inr (record { at = c.in-Err-Malformed.at; named = refl; none = fault.0; place = fault.1 })
