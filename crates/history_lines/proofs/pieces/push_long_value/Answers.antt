use Rattle.std.proofs.Common.{◌/◌, ◌++◌, ◌∙◌, ap, append_assoc}
use Rattle.history_spec.specs.Line.{hex_digits}
use Rattle.history_lines.proofs.Digits.{sixteen-pushed}
use Rattle.history_lines.proofs.pieces.push_long_value.Goals as goal

pub returns-clause-items : goal.returns-clause-items
returns-clause-items c =
    let n = c.args.bits in
    let old = c.args.out.now.items in
    let name = c.args.name.now in
    c.push_eight_digits-2.ensures.items
    ∙ ap (λ l. l ++ hex_digits 8 n) (c.push_eight_digits.ensures.items
    ∙ ap (λ l. l ++ hex_digits 8 (n / 4294967296)) c.push_bytes.ensures.items)
    ∙ sixteen-pushed (old ++ name) n
    ∙ append_assoc old name (hex_digits 16 n)
