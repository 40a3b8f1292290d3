use Rattle.std.proofs.Common.{◌+◌, ◌*◌, [], ◌∷◌, ◌++◌, ◌∙◌, ap, slice_index}
use Rattle.history_lines.specs.declared.pieces.TheConstants.{PAIRS}
use Rattle.history_lines.proofs.Digits.{pair-pushed}
use Rattle.history_lines.proofs.pieces.push_digits_of.Goals as goal

pub returns-clause-items : goal.returns-clause-items
returns-clause-items c =
    c.push_reserved-2.ensures.items
    ∙ ap (λ l. l ++ slice_index PAIRS (c.args.byte * 2 + 1) ∷ []) c.push_reserved.ensures.items
    ∙ pair-pushed c.args.out.now.items c.args.byte c.ranges.byte.fits
