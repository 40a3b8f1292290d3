use Rattle.std.proofs.Common.{length, arith, refl}
use Rattle.std.proofs.lemmas.Bool.{le-ltb}
use Rattle.trace_format.proofs.headers.first_digest.Goals as goal

pub returns-in-Some : goal.returns-in-Some
returns-in-Some c =
    let e = c.in-Some.ensures.cases in
    rw (c.of.ensures, e.0, e.1, le-ltb (length c.args.bytes.now) 32 (omega (arith, e.2))) refl
