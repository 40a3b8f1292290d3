use Rattle.std.proofs.Common.{◌++◌, length, ap, sym, ◌∙◌, arith}
use Rattle.leb_bytes.specs.Unsigned.{u32_bytes}
use Rattle.leb_bytes.proofs.Appended.{appended}
use Rattle.leb_bytes.proofs.UnsignedLaws.{u32-last, u32-length, u32-more}
use Rattle.leb_bytes.proofs.write.push_u32.Goals as goal

pub bytes-init : goal.bytes-init
bytes-init c = record {
  written = ap (λ x. x ++ u32_bytes c.args.number) c.reserve.ensures.items;
  room = omega (arith, c.in_ok-reserve.ensures.ok, (u32-length c.args.number).1);
}

pub push_reserved-requires : goal.push_reserved-requires
push_reserved-requires c = omega (arith, c.bytes.invariant.room, (u32-length c.bytes.rest).0)

pub bytes-preserved : goal.bytes-preserved
bytes-preserved c =
    let more = u32-more c.bytes.rest c.bytes-test.true c.bytes.auto.rest-fits.fits in
    record {
      written = appended c.bytes.out.items _ (u32_bytes c.bytes.rest) _ _ _ c.bytes.invariant.written more c.push_reserved.ensures.items;
      room = omega (arith, c.bytes.invariant.room, ap length more, c.push_reserved.ensures.len, c.push_reserved.ensures.capacity);
    }

pub push_reserved-requires-2 : goal.push_reserved-requires-2
push_reserved-requires-2 c = omega (arith, c.bytes.invariant.room, (u32-length c.bytes.rest).0)

pub returns-clause-ok : goal.returns-clause-ok
returns-clause-ok c =
    c.push_reserved-2.ensures.items ∙ ap (λ x. c.bytes.out.items ++ x) (sym (u32-last c.bytes.rest (omega arith))) ∙ c.bytes.invariant.written
