use Rattle.std.proofs.Common.{◌≡◌, drop}
use Rattle.serde_json.specs.View.{items_view}
use Rattle.script_text.specs.Walk.{items_from}
use Rattle.script_text.specs.Texts.{response_of}
use Rattle.script_text.proofs.Loops.{with_front}
use Rattle.script_text.proofs.responses.read_responses.Given as goal

abbrev pub invariant-items : goal.invariant-items
invariant-items l =
    with_front l.found.items (items_from (response_of l.names l.name l.types) l.index (items_view (drop l.index l.values)))
    ≡ items_from (response_of l.names l.name l.types) 0 (items_view l.values)
