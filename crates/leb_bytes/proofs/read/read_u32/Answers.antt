use Rattle.std.proofs.Common.{refl}
use Rattle.leb_bytes.specs.Unsigned.{EncodesU32, first_u32}
use Rattle.leb_bytes.proofs.Encodings.{u32_read, u32_range}
use Rattle.leb_bytes.proofs.Placed.{read_there, none_there}
use Rattle.leb_bytes.proofs.read.read_u32.Goals as goal

pub returns-in-Some : goal.returns-in-Some
unfolding first_u32
returns-in-Some c =
    read_there EncodesU32 first_u32 u32_read (λ front x h. (u32_range front x h).1) (record {}) c.args.bytes.now c.args.at
    c.in-Some.taken c.in-Some.number c.in-Some.number c.requires c.in-Some.ensures.0 c.in-Some.ensures.1 refl

pub returns-in-None : goal.returns-in-None
unfolding first_u32
returns-in-None c =
    none_there EncodesU32 first_u32 (record {}) u32_read c.args.bytes.now c.args.at c.in-None.ensures
