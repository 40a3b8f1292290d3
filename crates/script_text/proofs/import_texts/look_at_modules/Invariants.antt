use Rattle.std.proofs.Common.{◌≡◌}
use Rattle.serde_json.specs.View.{members_view}
use Rattle.script_text.specs.Texts.{each_name}
use Rattle.script_text.specs.ImportTexts.{has_module, look_in_module}
use Rattle.script_text.proofs.import_texts.look_at_modules.Given as goal

abbrev pub invariant-names : goal.invariant-names
invariant-names l =
    each_name (has_module l.texts l.names) (look_in_module l.texts l.names) (members_view l.fn.object.entries)
    ≡ each_name (has_module l.texts l.names) (look_in_module l.texts l.names) (members_view l.from-iterator)
