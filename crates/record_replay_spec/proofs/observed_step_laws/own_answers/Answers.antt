use Rattle.record_replay_spec.proofs.OwnAnswers.{stores_answer_themselves}
use Rattle.record_replay_spec.proofs.observed_step_laws.own_answers.Goals as goal

pub returns-clause-answers : goal.returns-clause-answers
returns-clause-answers c = stores_answer_themselves
