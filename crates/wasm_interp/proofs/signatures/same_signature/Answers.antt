-- The derived equality is the test.
use Rattle.std.proofs.Common.{◌∙◌}
use Rattle.wasm_syntax.proofs.SameTypes.{signature_test}
use Rattle.wasm_interp.proofs.signatures.same_signature.Goals as goal

pub returns : goal.returns
returns c = c.eq.ensures ∙ signature_test c.args.a.now c.args.b.now
