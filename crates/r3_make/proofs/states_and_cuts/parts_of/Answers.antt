use Rattle.std.proofs.Common.{Err, subst}
use Rattle.std.specs.Prelude.{IsSome}
use Rattle.checkpoint.specs.Cuts.{IsCut}
use Rattle.r3_make.proofs.states_and_cuts.parts_of.Goals as goal

-- a cut that is there is found
pub unreachable-requires : goal.unreachable-requires
unreachable-requires c =
    let missing =
    subst (λ fault. IsCut c.args.number c.args.tape.now (Err fault)) c.in-Err-NoCall.field-0-is c.in-Err-NoCall.ensures in
    cc (subst IsSome missing.0 c.requires.cut)
