use Rattle.std.proofs.Common.{◌++◌}
use Rattle.history_spec.specs.Line.{found_text, kind_text, values_text, with_space}
use Rattle.history_lines.proofs.Growths.{grew-after, grew-longer, at-exit, at-refusal}
use Rattle.history_lines.proofs.lines.put_cause.Goals as goal

pub returns-in_err-put_kind-clause-refused : goal.returns-in_err-put_kind-clause-refused
returns-in_err-put_kind-clause-refused c =
    at-exit c.from_residual.result (grew-longer _ _ (with_space (kind_text c.args.kind))
    ((values_text c.args.operands.now) ++ (found_text c.args.found)) c.in_err-put_kind.ensures.refused)

pub returns-in_err-put_values-clause-refused : goal.returns-in_err-put_values-clause-refused
returns-in_err-put_values-clause-refused c =
    at-exit c.from_residual-in_err-put_values.result
    (grew-after _ _ _ (with_space (kind_text c.args.kind)) ((values_text c.args.operands.now) ++ (found_text c.args.found)) c.in_ok-put_kind.ensures.ok
    (grew-longer _ _ (values_text c.args.operands.now) (found_text c.args.found) c.in_err-put_values.ensures.refused))

pub returns-clause-refused : goal.returns-clause-refused
returns-clause-refused c =
    at-refusal c.put_found.result
    (λ part.
    grew-after _ _ _ (with_space (kind_text c.args.kind)) ((values_text c.args.operands.now) ++ (found_text c.args.found)) c.in_ok-put_kind.ensures.ok
    (grew-after _ _ _ (values_text c.args.operands.now) (found_text c.args.found) c.in_ok-put_values.ensures.ok part))
    c.put_found.ensures.refused
