use Rattle.replay_theorem.proofs.OneRecord.{record_one}
use Rattle.replay_theorem.proofs.record_laws.records_are_one.Goals as goal

pub returns : goal.returns
returns c = λ r a b sure other x y.
    record_one r (c.runs_have_one_result_at_most.ensures r.run.program r.run.meter r.run.initial r.run.budget) a b sure other x y
