use Rattle.std.proofs.Common.{codes, subst, sym}
use Rattle.history_spec.specs.Line.{found_text, number_text}
use Rattle.history_lines.specs.Growth.{GrewByFirstPart}
use Rattle.history_lines.proofs.Growths.{grew-longer, at-exit}
use Rattle.history_lines.proofs.words.put_found.Goals as goal

pub returns-in_err-put-in-Some-clause-refused : goal.returns-in_err-put-in-Some-clause-refused
returns-in_err-put-in-Some-clause-refused c =
    at-exit c.from_residual.result
    (subst (λ found. GrewByFirstPart c.args.out.now.items c.put.new.out.items (found_text found)) (sym c.in-Some.is)
    (grew-longer _ _ (codes " found") (number_text c.in-Some.number) c.in_err-put-in-Some.ensures.refused))
