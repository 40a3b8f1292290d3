use Rattle.wasm_decode.proofs.ItemLemmas.{goes_on}
use Rattle.wasm_decode.proofs.vectors.first_vector.Goals as goal

pub loop-preserved : goal.loop-preserved
loop-preserved g c =
    rw c.in_ok-push.ensures.items
    (goes_on (g.K.Kind.first c.args.form) c.loop.items.items c.in_ok-count.count c.loop.counter c.loop.rest.now
    c.in_ok-item.item c.in_ok-item.after.now _ c.loop-test.true c.in_ok-item.ensures c.loop.invariant)
