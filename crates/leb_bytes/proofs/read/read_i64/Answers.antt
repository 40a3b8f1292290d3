use Rattle.std.proofs.Common.{◌-◌, length, take, drop, w64}
use Rattle.std.proofs.lemmas.Int.{to_z-of_z}
use Rattle.leb_bytes.proofs.Encodings.{laws_64, narrow_64, no_number, number_there, read_fits}
use Rattle.leb_bytes.proofs.read.read_i64.Goals as goal

pub returns-in-Some : goal.returns-in-Some
returns-in-Some c =
    let fits = read_fits w64 narrow_64
    (take (length c.args.bytes.now - c.args.at) (drop c.args.at c.args.bytes.now)) _ c.in-Some.number
    c.in-Some.ensures.1 in
    number_there laws_64 (record {}) c.args.bytes.now c.args.at c.in-Some.taken c.in-Some.number _ c.requires
    c.in-Some.ensures.0 c.in-Some.ensures.1 (to_z-of_z w64 c.in-Some.number fits)

pub returns-in-None : goal.returns-in-None
returns-in-None c = no_number laws_64 (record {}) c.args.bytes.now c.args.at c.in-None.ensures
