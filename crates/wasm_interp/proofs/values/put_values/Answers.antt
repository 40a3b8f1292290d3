-- The values that are left go into the slots that are left.
use Rattle.std.proofs.Common.{arith, refl, add-zero, sym}
use Rattle.wasm_interp.proofs.Slots.{one_put, all_put}
use Rattle.wasm_interp.proofs.values.put_values.Goals as goal

pub each-init : goal.each-init
each-init c = (sym (add-zero c.args.at), refl)

pub overflow_add-slot : goal.overflow_add-slot
overflow_add-slot c = let place = c.each.invariant.0 in omega (arith, place)

pub each-preserved : goal.each-preserved
each-preserved c =
    let place = c.each.invariant.0 in
    (omega (arith, place), one_put c.each.slots _ c.each.slot c.each.value-index c.args.values.now _ _ c.each-test.true c.set_bits.ensures c.each.invariant.1)

pub returns : goal.returns
returns c = all_put c.each.slots c.each.slot c.each.value-index c.args.values.now _ (omega arith) c.each.invariant.1
