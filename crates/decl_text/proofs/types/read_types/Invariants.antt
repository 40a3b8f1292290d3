use Rattle.std.proofs.Common.{◌≡◌, drop}
use Rattle.serde_json.specs.View.{items_view}
use Rattle.decl_text.specs.Walk.{items_from}
use Rattle.decl_text.specs.Texts.{type_of}
use Rattle.decl_text.proofs.Loops.{with_front}
use Rattle.decl_text.proofs.types.read_types.Given as goal

abbrev pub invariant-items : goal.invariant-items
invariant-items l = with_front l.found.items (items_from type_of l.index (items_view (drop l.index l.values))) ≡ items_from type_of 0 (items_view l.values)
