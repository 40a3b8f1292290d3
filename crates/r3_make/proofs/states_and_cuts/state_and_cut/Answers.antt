use Rattle.r3_make.proofs.states_and_cuts.state_and_cut.Goals as goal

pub parts_of_inputs-requires : goal.parts_of_inputs-requires
parts_of_inputs-requires c = (c.args.script, c.in_ok-inputs.ensures)

pub returns-clause-parts : goal.returns-clause-parts
returns-clause-parts c = c.parts_of_inputs.ensures.parts c.args.script c.in_ok-inputs.ensures

pub returns-clause-cause : goal.returns-clause-cause
returns-clause-cause c = c.parts_of_inputs.ensures.cause c.args.script c.in_ok-inputs.ensures
