use Rattle.wasm_syntax.specs.declared.forms.Form.TheVariants.{Core}
use Rattle.replay_encoding_laws.proofs.Indices.{indices_fit}
use Rattle.replay_encoding_laws.proofs.plans_fit_indices.Goals as goal

pub returns : goal.returns
returns c bytes m tape file taken =
    indices_fit bytes m tape (c.lists_of_encoding.ensures.within Core bytes m file.encoded)
    (c.shortest_encoding.ensures.least Core bytes m file.encoded) file.few taken.weight
