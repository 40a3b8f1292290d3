use Rattle.r3_inputs.proofs.Refusals.{refused-answered, accepted-answered}
use Rattle.r3_inputs.proofs.inputs.module_in.Goals as goal

pub returns-clause-refused : goal.returns-clause-refused
returns-clause-refused c = λ fault refused.
    refused-answered c.args.file c.module_encoding.ensures.one c.fault_places.ensures.one
    c.validity_is_decided.ensures.invalid
    c.accepted_module.result c.args.bytes.now fault c.accepted_module.ensures.taken c.accepted_module.ensures.cause
    refused

pub returns-clause-accepted : goal.returns-clause-accepted
returns-clause-accepted c = λ m is.
    accepted-answered c.args.file c.module_encoding.ensures.one c.fault_places.ensures.one
    c.validity_is_decided.ensures.invalid
    c.accepted_module.result c.args.bytes.now m c.accepted_module.ensures.taken c.accepted_module.ensures.cause is
