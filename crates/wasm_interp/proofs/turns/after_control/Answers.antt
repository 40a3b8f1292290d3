-- The slots of an activation are within all slots, which are fewer than the bytes of any memory.
use Rattle.std.proofs.Common.{arith}
use Rattle.wasm_interp.proofs.Safety.{base_top}
use Rattle.wasm_interp.proofs.turns.after_control.Goals as goal

pub call-requires-clause-small : goal.call-requires-clause-small
call-requires-clause-small c =
    let base = base_top c.args.frames.now c.in-Some.frame c.in-Some.ensures in
    let within = c.requires.small in
    let small = c.args.slots.now.small in
    let same = c.args.slots.now.ok in
    omega (arith, base, within, small, same)
