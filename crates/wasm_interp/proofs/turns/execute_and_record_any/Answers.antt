-- The recorded entry is the one that the definition has.
use Rattle.flat_steps.specs.FlatStep.{execute_item}
use Rattle.wasm_interp.proofs.Entries.{recorded_entry}
use Rattle.wasm_interp.specs.InstrEntries.{as_entry}
use Rattle.wasm_interp.proofs.turns.execute_and_record_any.Goals as goal

pub returns-clause-entry : goal.returns-clause-entry
returns-clause-entry c =
    recorded_entry c.args.flat.now c.args.slots.now c.execute.new.slots c.args.frame c.args.i.now
    (execute_item c.args.flat.now c.args.store.now c.args.slots.now c.args.frame.base c.args.i.now)
    c.put_operands.new.self.operands.items c.in_ok-control.control (as_entry c.put_control.new.self)
    c.in_ok-put_control.ensures c.in_ok-put_operands.ensures.operands c.in_ok-control.ensures.control c.in_ok-control.ensures.slots
