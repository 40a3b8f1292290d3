use Rattle.std.proofs.Common.{arith, sym, ◌∙◌}
use Rattle.hook_insert.proofs.Sections.{byte_last, byte_more, is_there}
use Rattle.hook_insert.proofs.forms.after_u32.Goals as goal

pub returns-then-not-has_byte : goal.returns-then-not-has_byte
returns-then-not-has_byte c =
    c.bytes.invariant.left
    ∙ byte_more c.bytes.rest c.args.bytes.now c.bytes.next _ c.bytes.invariant.within c.bytes-test.true
    c.bytes.auto.rest-fits.fits (sym c.if-not-has_byte.true ∙ c.has_byte.ensures)

pub bytes-preserved : goal.bytes-preserved
bytes-preserved c =
    let first = sym c.has_byte.ensures ∙ c.if-not-has_byte.false in
    record {
      left =
          c.bytes.invariant.left
          ∙ byte_more c.bytes.rest c.args.bytes.now c.bytes.next _ c.bytes.invariant.within c.bytes-test.true
          c.bytes.auto.rest-fits.fits (sym c.if-not-has_byte.false ∙ c.has_byte.ensures);
      within = omega (arith, is_there _ c.args.bytes.now c.bytes.next first);
    }

pub returns-then-has_byte : goal.returns-then-has_byte
returns-then-has_byte c =
    let first = sym c.has_byte-2.ensures ∙ c.if-has_byte.true in (
      omega (arith, is_there _ c.args.bytes.now c.bytes.next first),
      c.bytes.invariant.left
          ∙ byte_last c.bytes.rest c.args.bytes.now c.bytes.next _ c.bytes.invariant.within (omega arith)
          (sym c.if-has_byte.true ∙ c.has_byte-2.ensures),
    )

pub returns-else-has_byte : goal.returns-else-has_byte
returns-else-has_byte c =
    c.bytes.invariant.left
    ∙ byte_last c.bytes.rest c.args.bytes.now c.bytes.next _ c.bytes.invariant.within (omega arith)
    (sym c.if-has_byte.false ∙ c.has_byte-2.ensures)
