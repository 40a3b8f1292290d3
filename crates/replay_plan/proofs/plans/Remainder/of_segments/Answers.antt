use Rattle.replay_plan.proofs.Reading.{all_left}
use Rattle.replay_plan.proofs.plans.Remainder.of_segments.Goals as goal

pub returns : goal.returns
returns c =
    all_left c.args.imports c.args.segments c.into_vec.result.items c.in_ok-remainder.remainder c.read_all.new.self
    c.into_vec.ensures c.in_ok-remainder.ensures c.in_ok-read_all.ensures
