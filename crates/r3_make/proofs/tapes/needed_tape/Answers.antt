use Rattle.r3_make.proofs.tapes.needed_tape.Goals as goal

pub tape_of_inputs-requires : goal.tape_of_inputs-requires
tape_of_inputs-requires c = (c.args.checked.now, c.args.script, c.in_ok-inputs.ensures)

pub returns-clause-needed : goal.returns-clause-needed
returns-clause-needed c =
    c.tape_of_inputs.ensures.needed c.args.checked.now c.args.script c.in_ok-inputs.ensures

pub returns-clause-cause : goal.returns-clause-cause
returns-clause-cause c = c.tape_of_inputs.ensures.cause c.args.checked.now c.args.script c.in_ok-inputs.ensures
