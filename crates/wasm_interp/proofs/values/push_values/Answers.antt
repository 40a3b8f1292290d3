-- The values that are read come before those that are left to be read.
use Rattle.std.proofs.Common.{arith, add-zero, sym, refl}
use Rattle.wasm_interp.proofs.Slots.{one_read, all_read}
use Rattle.wasm_interp.proofs.values.push_values.Goals as goal

pub each-init : goal.each-init
each-init c = (sym (add-zero c.args.at), refl)

pub overflow_add-slot : goal.overflow_add-slot
overflow_add-slot c = let place = c.each.invariant.0 in omega (arith, place)

pub each-preserved : goal.each-preserved
each-preserved c =
    let place = c.each.invariant.0 in (
      omega (arith, place),
      one_read c.args.slots.now c.each.slot c.each.ty-index c.args.types.now c.each.values.items c.push.new.self.items _
          _ _ c.each-test.true c.bits_at.ensures c.in_ok-push.ensures.items c.each.invariant.1,
    )

pub returns : goal.returns
returns c = all_read c.args.slots.now c.each.slot c.each.ty-index c.args.types.now c.each.values.items _ (omega arith) c.each.invariant.1
