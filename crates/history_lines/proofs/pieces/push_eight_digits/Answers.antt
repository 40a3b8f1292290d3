use Rattle.std.proofs.Common.{◌/◌, ◌%◌, ◌++◌, ◌∙◌, ap}
use Rattle.history_spec.specs.Line.{hex_digits}
use Rattle.history_lines.proofs.Digits.{eight-pushed}
use Rattle.history_lines.proofs.pieces.push_eight_digits.Goals as goal

pub returns-clause-items : goal.returns-clause-items
returns-clause-items c =
    let n = c.args.bits in
    c.push_digits_of-4.ensures.items
    ∙ ap (λ l. l ++ hex_digits 2 (n % 256)) (c.push_digits_of-3.ensures.items
    ∙ ap (λ l. l ++ hex_digits 2 (n / 256 % 256)) (c.push_digits_of-2.ensures.items
    ∙ ap (λ l. l ++ hex_digits 2 (n / 65536 % 256)) c.push_digits_of.ensures.items))
    ∙ eight-pushed c.args.out.now.items n
