use Rattle.std.proofs.Common.{w64, FitsSigned, rules}
use Rattle.leb_bytes.proofs.SignedSteps.{ended_plus, ended_minus}
use Rattle.leb_bytes.proofs.read.last_signed.Goals as goal

pub returns-then-digit-limit : goal.returns-then-digit-limit
returns-then-digit-limit c =
    let fits : FitsSigned w64 c.cast_signed.result = search rules in
    ended_plus c.args.low c.args.shift c.args.left c.args.byte c.min.result c.cast_signed.result c.requires.bits c.requires.left c.min.ensures fits
    (rw (← c.from-digit.ensures) c.if-digit-limit.true) (rw (← c.from-digit.ensures) c.cast_signed.ensures)

pub returns-then-negated-limit : goal.returns-then-negated-limit
returns-then-negated-limit c =
    let fits : FitsSigned w64 c.cast_signed-then-negated-limit.result = search rules in
    ended_minus c.args.low c.args.shift c.args.left c.args.byte c.min.result c.cast_signed-then-negated-limit.result
    c.requires.bits c.requires.left c.min.ensures fits
    (rw (← c.from-digit.ensures) c.if-digit-limit.false) c.requires.last (rw (← c.from-digit.ensures) c.if-negated-limit.true)
    (rw (← c.from-digit.ensures) c.cast_signed-then-negated-limit.ensures)
