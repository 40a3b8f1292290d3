-- The slots of a binary operation exist, and its entry is the one that the definition has.
use Rattle.std.proofs.Common.{◌+◌, ◌≤◌, arith}
use Rattle.short_forms.proofs.Operands.{binary_slots}
use Rattle.wasm_interp.proofs.Entries.{executed_entry}
use Rattle.wasm_flat.specs.declared.code.Op.TheVariants as op
use Rattle.wasm_interp.specs.InstrEntries.{as_entry}
use Rattle.wasm_interp.proofs.turns.execute_and_record.Goals as goal

pub compute-control-requires-clause-there : goal.compute-control-requires-clause-there
compute-control-requires-clause-there c =
    let slots : c.args.i.now.at + 2 ≤ c.args.func.now.reach =
    binary_slots c.args.flat.now c.args.func.now c.args.i.now c.in-Binary.op c.in-Binary.is c.requires.instr in
    omega arith

pub returns-in_ok-put_control-in-Binary-clause-entry : goal.returns-in_ok-put_control-in-Binary-clause-entry
returns-in_ok-put_control-in-Binary-clause-entry c =
    executed_entry c.args.flat.now c.args.store.now c.args.slots.now c.compute-control.new.slots c.args.frame
    c.args.i.now (op.Binary c.in-Binary.op) c.put_two_operands.new.self.operands.items c.compute-control.result
    (as_entry c.put_control-in-Binary.new.self) c.in-Binary.is c.in_ok-put_control-in-Binary.ensures
    c.in_ok-put_two_operands-in-Binary.ensures.operands c.compute-control.ensures.control c.compute-control.ensures.slots
