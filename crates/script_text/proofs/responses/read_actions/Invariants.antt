use Rattle.std.proofs.Common.{◌≡◌, drop}
use Rattle.serde_json.specs.View.{items_view}
use Rattle.script_text.specs.Walk.{items_from}
use Rattle.script_text.specs.Actions.{action_of}
use Rattle.script_text.specs.Places.{place_of}
use Rattle.script_text.proofs.Loops.{with_front}
use Rattle.script_text.proofs.responses.read_actions.Given as goal

abbrev pub invariant-items : goal.invariant-items
invariant-items l =
    with_front l.found.items (items_from (action_of l.names (place_of l.place)) l.index (items_view (drop l.index l.values)))
    ≡ items_from (action_of l.names (place_of l.place)) 0 (items_view l.values)
