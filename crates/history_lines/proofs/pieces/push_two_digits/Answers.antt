use Rattle.std.proofs.Common.{◌+◌, ◌*◌, [], ◌∷◌, ◌++◌, ◌∙◌, ap, slice_index}
use Rattle.history_lines.specs.declared.pieces.TheConstants.{TENS}
use Rattle.history_lines.proofs.Numbers.{two-pushed}
use Rattle.history_lines.proofs.pieces.push_two_digits.Goals as goal

pub returns-clause-items : goal.returns-clause-items
returns-clause-items c =
    c.push_reserved-2.ensures.items
    ∙ ap (λ l. l ++ slice_index TENS (c.args.number * 2 + 1) ∷ []) c.push_reserved.ensures.items
    ∙ two-pushed c.args.out.now.items c.args.number c.requires.most
