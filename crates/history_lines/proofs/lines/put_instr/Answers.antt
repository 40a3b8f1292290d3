use Rattle.std.proofs.Common.{◌++◌}
use Rattle.history_spec.specs.Line.{number_text}
use Rattle.history_lines.proofs.Growths.{grew-after, grew-longer, at-exit, at-refusal}
use Rattle.history_lines.proofs.lines.put_instr.Goals as goal

pub returns-in_err-put-clause-refused : goal.returns-in_err-put-clause-refused
returns-in_err-put-clause-refused c =
    at-exit c.from_residual.result (grew-longer _ _ c.args.name.now ((number_text c.args.func) ++ (number_text c.args.number)) c.in_err-put.ensures.refused)

pub returns-in_err-put_number-clause-refused : goal.returns-in_err-put_number-clause-refused
returns-in_err-put_number-clause-refused c =
    at-exit c.from_residual-in_err-put_number.result
    (grew-after _ _ _ c.args.name.now ((number_text c.args.func) ++ (number_text c.args.number)) c.in_ok-put.ensures.ok
    (grew-longer _ _ (number_text c.args.func) (number_text c.args.number) c.in_err-put_number.ensures.refused))

pub returns-clause-refused : goal.returns-clause-refused
returns-clause-refused c =
    at-refusal c.put_number-2.result
    (λ part.
    grew-after _ _ _ c.args.name.now ((number_text c.args.func) ++ (number_text c.args.number)) c.in_ok-put.ensures.ok
    (grew-after _ _ _ (number_text c.args.func) (number_text c.args.number) c.in_ok-put_number.ensures.ok part))
    c.put_number-2.ensures.refused
