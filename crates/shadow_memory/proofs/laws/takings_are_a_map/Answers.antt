use Rattle.std.proofs.Common.{◌∙◌, ap}
use Rattle.std.specs.Prelude.{unwrap_or}
use Rattle.shadow_memory.specs.Takings.{taken_byte}
use Rattle.shadow_memory.proofs.Takings.{known_after}
use Rattle.shadow_memory.proofs.laws.takings_are_a_map.Goals as goal

pub returns : goal.returns
returns c store opening after runs is taken at =
    known_after runs opening after taken at ∙ ap (unwrap_or (taken_byte runs at)) (is.bytes at)
