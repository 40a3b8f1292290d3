use Rattle.std.proofs.Common.{◌-◌, length, take, drop, FitsSigned, w32}
use Rattle.leb_bytes.proofs.Encodings.{cast_32, laws_32, narrow_32, no_number, number_there, read_fits, same_64}
use Rattle.leb_bytes.proofs.read.read_i32.Goals as goal

fits : (c : goal.In-Some) → FitsSigned w32 c.in-Some.number
fits c =
    read_fits w32 narrow_32 (take (length c.args.bytes.now - c.args.at) (drop c.args.at c.args.bytes.now)) _
    c.in-Some.number c.in-Some.ensures.1

pub overflow_cast-result : goal.overflow_cast-result
overflow_cast-result c = rw (same_64 c.in-Some.number (fits c)) (fits c)

pub returns-in-Some : goal.returns-in-Some
returns-in-Some c =
    number_there laws_32 (record {}) c.args.bytes.now c.args.at c.in-Some.taken c.in-Some.number _ c.requires
    c.in-Some.ensures.0 c.in-Some.ensures.1 (cast_32 c.in-Some.number (fits c))

pub returns-in-None : goal.returns-in-None
returns-in-None c = no_number laws_32 (record {}) c.args.bytes.now c.args.at c.in-None.ensures
