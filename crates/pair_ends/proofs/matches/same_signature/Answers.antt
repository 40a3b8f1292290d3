use Rattle.std.proofs.Common.{◌∙◌}
use Rattle.wasm_syntax.proofs.SameTypes.{signature_test}
use Rattle.pair_ends.proofs.matches.same_signature.Goals as goal

pub returns : goal.returns
returns c = c.eq.ensures ∙ signature_test c.args.given.now c.args.wanted.now
