use Rattle.std.proofs.Common.{arith}
use Rattle.wasm_syntax.specs.declared.forms.Form.TheVariants.{Core}
use Rattle.replay_encoding_laws.proofs.Indices.{bound_small}
use Rattle.replay_encoding_laws.proofs.Sizes.{replay_most}
use Rattle.replay_encoding_laws.proofs.replay_modules_are_short.Goals as goal

pub returns : goal.returns
returns c = record {
  short = λ m supply tape valid core. replay_most m supply tape valid core;
  bounds = λ bytes m tape file weight.
      bound_small m tape
      (let least = c.shortest_encoding.ensures.least Core bytes m file.encoded in
      let few = file.few in
      omega (arith, least, few)) weight;
}
