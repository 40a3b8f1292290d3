use Rattle.std.proofs.Common.{◌≡◌, take}
use Rattle.std.specs.List.{filter}
use Rattle.std.specs.Option.{option_copied, option_to_list}
use Rattle.replay_form.specs.Forms.{has_layout_name}
use Rattle.replay_form.proofs.layouts.layout_section.Given as goal

abbrev pub invariant-customs : goal.invariant-customs
invariant-customs l = filter has_layout_name (take l.custom-index l.module.customs) ≡ option_to_list (option_copied l.found)
