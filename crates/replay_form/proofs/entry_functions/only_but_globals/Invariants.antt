use Rattle.std.proofs.Common.{◌≡◌, take}
use Rattle.std.specs.Option.{option_copied, option_to_list}
use Rattle.replay_form.specs.Forms.{exports_but_globals}
use Rattle.replay_form.proofs.entry_functions.only_but_globals.Given as goal

abbrev pub invariant-exports : goal.invariant-exports
invariant-exports l = exports_but_globals (take l.export-index l.exports) ≡ option_to_list (option_copied l.found)
