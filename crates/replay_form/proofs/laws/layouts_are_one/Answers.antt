use Rattle.replay_form.proofs.LayoutBytes.{bytes-one, layout-one}
use Rattle.replay_form.proofs.laws.layouts_are_one.Goals as goal

pub returns : goal.returns
returns c = record {
  bytes = bytes-one c.u32_encoding.ensures.encoding;
  modules = layout-one c.u32_encoding.ensures.encoding;
}
