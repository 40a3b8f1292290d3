use Rattle.std.proofs.Common.{◌+◌, ◌/◌, ◌%◌, [], ◌∷◌, ◌++◌, ◌∙◌, ap}
use Rattle.history_lines.proofs.Numbers.{hundreds-pushed}
use Rattle.history_lines.proofs.pieces.push_hundreds.Goals as goal

pub returns-clause-items : goal.returns-clause-items
returns-clause-items c =
    c.push_two_digits.ensures.items
    ∙ ap (λ l. l ++ (48 + c.args.number % 100 / 10) ∷ (48 + c.args.number % 100 % 10) ∷ []) c.push_bytes.ensures.items
    ∙ hundreds-pushed c.args.out.now.items c.args.number c.requires.least c.requires.most
