use Rattle.std.proofs.Common.{codes}
use Rattle.history_spec.specs.Line.{number_text}
use Rattle.history_lines.proofs.Growths.{grew-after, grew-longer, at-exit, at-refusal}
use Rattle.history_lines.proofs.lines.put_enter.Goals as goal

pub returns-in_err-put-clause-refused : goal.returns-in_err-put-clause-refused
returns-in_err-put-clause-refused c =
    at-exit c.from_residual.result
    (grew-longer _ _ (codes "enter") (number_text c.args.func) c.in_err-put.ensures.refused)

pub returns-clause-refused : goal.returns-clause-refused
returns-clause-refused c =
    at-refusal c.put_number.result
    (λ part. grew-after _ _ _ (codes "enter") (number_text c.args.func) c.in_ok-put.ensures.ok
    (part)) c.put_number.ensures.refused
