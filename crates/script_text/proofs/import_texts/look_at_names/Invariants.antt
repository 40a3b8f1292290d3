use Rattle.std.proofs.Common.{◌≡◌}
use Rattle.serde_json.specs.View.{members_view}
use Rattle.script_text.specs.Texts.{each_name}
use Rattle.script_text.specs.ImportTexts.{has_names, look}
use Rattle.script_text.proofs.import_texts.look_at_names.Given as goal

abbrev pub invariant-names : goal.invariant-names
invariant-names l =
    each_name (has_names l.texts l.names l.from) (look l.texts l.names l.from) (members_view l.fn.object.entries)
    ≡ each_name (has_names l.texts l.names l.from) (look l.texts l.names l.from) (members_view l.name-iterator)
