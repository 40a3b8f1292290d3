use Rattle.replay_laws.proofs.binaries.build_binary.Goals as goal

pub returns-clause-follows : goal.returns-clause-follows
returns-clause-follows c = λ store playable.
    c.replay_modules_follow_tapes.ensures c.args.«module» c.args.supply.now store c.args.tape playable
