use Rattle.std.proofs.Common.{◌≡◌, ◌+◌, ◌^◌, ◌++◌, ◌∷◌, [], true, false, length, ap, sym, ◌∙◌, arith, rules, w64, to_z, of_z, FitsSigned}
use Rattle.std.proofs.lemmas.Int.{to_z-of_z}
use Rattle.std.specs.Int.Signed.{shr_z}
use Rattle.leb_bytes.specs.Signed.{fits_seven_bits, high_bits, s64_bytes}
use Rattle.leb_bytes.proofs.Appended.{appended}
use Rattle.leb_bytes.proofs.SignedLaws.{s64-last, s64-length, s64-more, shifted}
use Rattle.leb_bytes.proofs.write.push_i64.Goals as goal

pub bytes-init : goal.bytes-init
bytes-init c = record {
  written = ap (λ x. x ++ s64_bytes (to_z w64 (of_z w64 c.args.number))) c.reserve.ensures.items;
  room = omega (arith, c.in_ok-reserve.ensures.ok, (s64-length (to_z w64 (of_z w64 c.args.number))).1);
}

pub push_reserved-requires : goal.push_reserved-requires
push_reserved-requires c = omega (arith, c.bytes.invariant.room, (s64-length (to_z w64 c.bytes.rest-bits)).0)

pub bytes-preserved : goal.bytes-preserved
bytes-preserved c =
    let fits : FitsSigned w64 (to_z w64 c.bytes.rest-bits) = search rules in
    let large : fits_seven_bits (to_z w64 c.bytes.rest-bits) ≡ false = sym c.fits_seven_bits.ensures ∙ c.bytes-test.true in
    let next : to_z w64 (of_z w64 (shr_z (to_z w64 c.bytes.rest-bits) (2 ^ 7))) ≡ high_bits (to_z w64 c.bytes.rest-bits) =
    shifted (to_z w64 c.bytes.rest-bits) fits.sfits in
    let more : s64_bytes (to_z w64 c.bytes.rest-bits)
    ≡ (c.low_bits.result + 2 ^ 7) ∷ s64_bytes (to_z w64 (of_z w64 (shr_z (to_z w64 c.bytes.rest-bits) (2 ^ 7)))) =
    rw (next, c.low_bits.ensures) (s64-more (to_z w64 c.bytes.rest-bits) large fits.sfits) in
    record {
      written = appended c.bytes.out.items _ (s64_bytes (to_z w64 c.bytes.rest-bits)) _ _ _ c.bytes.invariant.written more c.push_reserved.ensures.items;
      room = omega (arith, c.bytes.invariant.room, ap length more, c.push_reserved.ensures.len, c.push_reserved.ensures.capacity);
    }

pub push_reserved-requires-2 : goal.push_reserved-requires-2
push_reserved-requires-2 c = omega (arith, c.bytes.invariant.room, (s64-length (to_z w64 c.bytes.rest-bits)).0)

pub returns-clause-ok : goal.returns-clause-ok
returns-clause-ok c =
    let seven : fits_seven_bits (to_z w64 c.bytes.rest-bits) ≡ true = sym c.fits_seven_bits.ensures ∙ c.bytes-test.false in
    c.push_reserved-2.ensures.items ∙ ap (λ b. c.bytes.out.items ++ b ∷ []) c.low_bits-2.ensures
    ∙ ap (λ x. c.bytes.out.items ++ x) (sym (s64-last (to_z w64 c.bytes.rest-bits) seven)) ∙ c.bytes.invariant.written
    ∙ ap (λ z. c.args.out.now.items ++ s64_bytes z) (to_z-of_z w64 c.args.number c.ranges.number)
