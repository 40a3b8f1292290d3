-- The topmost activation is at an instruction of its function; what follows is within bounds.
use Rattle.std.proofs.Common.{◌∷◌, [], ap, arith}
use Rattle.flat_steps.specs.FlatStep.{turn}
use Rattle.wasm_interp.specs.InstrEntries.{as_entry}
use Rattle.wasm_interp.specs.Steps.{after_control}
use Rattle.wasm_interp.proofs.Due.{top_function}
use Rattle.wasm_interp.proofs.Entries.{turned, turn_recorded}
use Rattle.wasm_interp.proofs.Fits.{act_keeps, on_ok}
use Rattle.wasm_interp.proofs.Safety.{base_top}
use Rattle.wasm_interp.proofs.CodeBounds.{Stands, stands, instr_bound, after_safe, no_instr}
use Rattle.wasm_interp.proofs.turns.turn.Goals as goal

pub execute_and_record_all-requires-clause-instr : goal.execute_and_record_all-requires-clause-instr
execute_and_record_all-requires-clause-instr c =
    instr_bound c.args.flat.now c.args.slots.now.items c.in-Some.frame c.in-Some-function_at.func.now c.in-Some-instr_at.i.now
    (stands c.args.flat.now c.args.frames.now c.args.slots.now.items c.in-Some.frame c.in-Some-function_at.func.now
    c.in-Some.ensures c.requires.safe c.requires.module c.in-Some-function_at.ensures.there)
    c.in-Some-instr_at.ensures.there

pub execute_and_record_all-requires-clause-room : goal.execute_and_record_all-requires-clause-room
execute_and_record_all-requires-clause-room c =
    (stands c.args.flat.now c.args.frames.now c.args.slots.now.items c.in-Some.frame c.in-Some-function_at.func.now
    c.in-Some.ensures c.requires.safe c.requires.module c.in-Some-function_at.ensures.there).place.room

pub execute_and_record_all-requires-clause-locals : goal.execute_and_record_all-requires-clause-locals
execute_and_record_all-requires-clause-locals c =
    let reach =
    (stands c.args.flat.now c.args.frames.now c.args.slots.now.items c.in-Some.frame c.in-Some-function_at.func.now
    c.in-Some.ensures c.requires.safe c.requires.module c.in-Some-function_at.ensures.there).bound.reach in
    omega (arith, reach)

pub after_control-requires-clause-control : goal.after_control-requires-clause-control
after_control-requires-clause-control c =
    let s : Stands c.args.flat.now c.args.slots.now.items c.in-Some.frame c.in-Some-function_at.func.now =
    stands c.args.flat.now c.args.frames.now c.args.slots.now.items c.in-Some.frame c.in-Some-function_at.func.now
    c.in-Some.ensures c.requires.safe c.requires.module c.in-Some-function_at.ensures.there in
    after_safe c.args.flat.now c.args.frames.now c.args.slots.now.items c.execute_and_record_all.new.slots.items
    c.in-Some.frame c.in-Some-function_at.func.now c.in-Some-instr_at.i.now c.args.store.now c.in_ok-control.control
    c.in-Some.ensures c.requires.safe s c.in-Some-function_at.ensures.there
    (instr_bound c.args.flat.now c.args.slots.now.items c.in-Some.frame c.in-Some-function_at.func.now
    c.in-Some-instr_at.i.now s c.in-Some-instr_at.ensures.there)
    c.in_ok-control.ensures.control c.execute_and_record_all.ensures.same

pub after_control-requires-clause-small : goal.after_control-requires-clause-small
after_control-requires-clause-small c =
    let room =
    (stands c.args.flat.now c.args.frames.now c.args.slots.now.items c.in-Some.frame c.in-Some-function_at.func.now
    c.in-Some.ensures c.requires.safe c.requires.module c.in-Some-function_at.ensures.there).place.room in
    let base = base_top c.args.frames.now c.in-Some.frame c.in-Some.ensures in
    let same = c.execute_and_record_all.ensures.same in
    omega (arith, room, base, same)

pub after_control-requires-clause-function : goal.after_control-requires-clause-function
after_control-requires-clause-function c =
    top_function c.args.flat.now c.in-Some-function_at.func.now c.args.frames.now c.in-Some.frame c.in-Some.ensures
    c.in-Some-function_at.ensures.there

pub returns-clause-done : goal.returns-clause-done
returns-clause-done c =
    turn_recorded c.after_control.result
    (as_entry c.execute_and_record_all.new.entry) c.after_control.new.entries.items c.args.entries.now.items
    c.execute_and_record_all.new.store c.after_control.new.frames c.after_control.new.slots.items
    (after_control c.args.flat.now c.execute_and_record_all.new.store c.execute_and_record_all.new.slots.items
    c.args.frames.now c.in-Some-instr_at.i.now c.in_ok-control.control)
    (turn c.args.flat.now c.args.store.now c.args.frames.now c.args.slots.now.items)
    c.requires.none
    (turned c.args.flat.now c.args.store.now c.execute_and_record_all.new.store c.args.slots.now.items
    c.execute_and_record_all.new.slots.items c.args.frames.now c.in-Some.frame c.in-Some-function_at.func.now
    c.in-Some-instr_at.i.now c.in_ok-control.control [] (as_entry c.execute_and_record_all.new.entry ∷ [])
    c.in-Some.ensures c.in-Some-function_at.ensures.there c.in-Some-instr_at.ensures.there
    c.in_ok-control.ensures.control c.in_ok-control.ensures.store c.in_ok-control.ensures.slots
    (ap (λ e. e ∷ []) c.in_ok-control.ensures.entry)) c.after_control.ensures.done

pub unreachable-requires-in_default-instr_at : goal.unreachable-requires-in_default-instr_at
unreachable-requires-in_default-instr_at c =
    no_instr c.args.flat.now c.args.slots.now.items c.in-Some.frame c.in-Some-function_at.func.now
    (stands c.args.flat.now c.args.frames.now c.args.slots.now.items c.in-Some.frame c.in-Some-function_at.func.now
    c.in-Some.ensures c.requires.safe c.requires.module c.in-Some-function_at.ensures.there)
    c.in_default-instr_at.ensures.absent

pub returns-clause-fits : goal.returns-clause-fits
returns-clause-fits c =
    on_ok c.after_control.result
    (act_keeps c.args.flat.now c.in-Some-function_at.func.now c.args.store.now c.execute_and_record_all.new.store
    c.args.slots.now.items c.in-Some.frame.base c.in-Some-instr_at.i.now
    (instr_bound c.args.flat.now c.args.slots.now.items c.in-Some.frame c.in-Some-function_at.func.now c.in-Some-instr_at.i.now
    (stands c.args.flat.now c.args.frames.now c.args.slots.now.items c.in-Some.frame c.in-Some-function_at.func.now
    c.in-Some.ensures c.requires.safe c.requires.module c.in-Some-function_at.ensures.there)
    c.in-Some-instr_at.ensures.there)
    c.requires.fits c.in_ok-control.ensures.store)
