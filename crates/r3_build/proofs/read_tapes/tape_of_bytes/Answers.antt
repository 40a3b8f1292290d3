use Rattle.r3_build.proofs.read_tapes.tape_of_bytes.Goals as goal

pub returns-in-Ok-clause-constants : goal.returns-in-Ok-clause-constants
returns-in-Ok-clause-constants c =
    c.read_tapes_are_constant.ensures c.args.bytes.now c.in-Ok.read.0 c.in-Ok.read.1 c.know_bytes.ensures
    c.in-Ok.ensures.found
