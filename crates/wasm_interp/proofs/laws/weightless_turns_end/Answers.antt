use Rattle.wasm_interp.proofs.CodeAhead.{turn_lessens, settle_ahead, below_ahead, advance_lessens, step_lessens}
use Rattle.wasm_interp.proofs.laws.weightless_turns_end.Goals as goal

pub returns-clause-turns : goal.returns-clause-turns
returns-clause-turns c = turn_lessens

pub returns-clause-returns : goal.returns-clause-returns
returns-clause-returns c = settle_ahead

pub returns-clause-answers : goal.returns-clause-answers
returns-clause-answers c = below_ahead

pub returns-clause-advances : goal.returns-clause-advances
returns-clause-advances c = advance_lessens

pub returns-clause-steps : goal.returns-clause-steps
returns-clause-steps c = step_lessens c.weights_agree.ensures c.meters_fit.ensures
