use Rattle.std.proofs.Common.{◌≡◌, drop}
use Rattle.std.specs.Prelude.{option_map}
use Rattle.std.specs.List.{cons_option}
use Rattle.record_replay_spec.specs.HookedForm.{hooked_sections}
use Rattle.hook_insert.proofs.Sections.{named}
use Rattle.hook_insert.proofs.forms.only_section.Given as goal

abbrev pub invariant-customs : goal.invariant-customs
invariant-customs l =
    hooked_sections l.«module»
    ≡ cons_option (option_map (λ custom. custom.now) l.found) (named (drop l.custom-index l.«module».customs))
