use Rattle.wasm_syntax.specs.declared.forms.Form.TheVariants.{Core}
use Rattle.replay_encoding_laws.proofs.Encodable.{kept_parts, taken_encodable}
use Rattle.replay_encoding_laws.proofs.replay_modules_are_encodable.Goals as goal

pub returns : goal.returns
returns c bytes m supply tape file supplied taken =
    taken_encodable c.replay_modules_of_tapes_are_valid.ensures.plans c.replay_modules_of_tapes_are_valid.ensures.valid
    m supply tape file.valid
    (kept_parts c.encoding_forms.ensures.in_replay m file.valid
    (c.shortest_encoding.ensures.encodable Core bytes m file.encoded))
    supplied taken (c.plans_fit_indices.ensures bytes m tape file taken)
