use Rattle.std.proofs.lemmas.Result.{err_from_is_err_and}
use Rattle.serde_json.specs.View.{items_view}
use Rattle.script_text.specs.Walk.{items_from}
use Rattle.script_text.specs.Values.{value_of}
use Rattle.script_text.proofs.Loops.{goes_on, ends, is_done}
use Rattle.script_text.proofs.values.read_values.Goals as goal

pub returns-in_err-item : goal.returns-in_err-item
returns-in_err-item c =
    let p = err_from_is_err_and c.from_residual.result c.from_residual.ensures.1 in
    rw (p.1, p.2) (ends value_of c.in_err-item.field-0.0 c.items.found.items c.args.values.now c.items.index
    c.index-values-index.result (items_from value_of 0 (items_view c.args.values.now)) c.items-test.true
    c.index-values-index.is c.in_err-item.ensures c.items.invariant)

pub items-preserved : goal.items-preserved
items-preserved c =
    rw c.in_ok-push_item.ensures.ok
    (goes_on value_of c.items.found.items c.args.values.now c.items.index c.index-values-index.result c.in_ok-item.item
    (items_from value_of 0 (items_view c.args.values.now)) c.items-test.true c.index-values-index.is
    c.in_ok-item.ensures c.items.invariant)

pub returns : goal.returns
returns c =
    rw c.from_vec.ensures (is_done value_of c.items.found.items c.args.values.now c.items.index
    (items_from value_of 0 (items_view c.args.values.now)) c.items-test.false c.items.invariant)
