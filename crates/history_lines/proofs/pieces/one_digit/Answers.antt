use Rattle.std.proofs.Common.{refl}
use Rattle.history_lines.proofs.Numbers.{one-digit}
use Rattle.history_lines.proofs.pieces.one_digit.Goals as goal

pub returns : goal.returns
returns c = one-digit c.args.number _ c.requires refl
