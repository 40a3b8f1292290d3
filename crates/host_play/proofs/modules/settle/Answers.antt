use Rattle.host_play.proofs.Returns.{settled_at_instruction, settled_at_host}
use Rattle.host_play.proofs.modules.settle.Goals as goal

pub returns-in-None-clause-leads : goal.returns-in-None-clause-leads
returns-in-None-clause-leads c = λ m s standing.
    settled_at_instruction m c.args.script.now s c.args.playing.now c.settle.new.self c.in_ok-turn.turn standing c.in_ok-turn.ensures.run c.in-None.is

pub returns-in-Some-clause-leads : goal.returns-in-Some-clause-leads
returns-in-Some-clause-leads c = λ m s standing.
    settled_at_host m c.args.script.now s c.args.playing.now c.settle.new.self c.in_ok-turn.turn standing
    c.in_ok-turn.ensures.run c.in-Some.field-0 c.in-Some.is c.in_ok-turn.ensures.ok
