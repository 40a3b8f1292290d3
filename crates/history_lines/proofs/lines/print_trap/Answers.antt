use Rattle.std.proofs.Common.{codes}
use Rattle.history_spec.specs.Line.{entry_text}
use Rattle.history_spec.specs.declared.entries.Entry.TheVariants.{Trap}
use Rattle.history_lines.proofs.Growths.{grew-after, grew-longer, at-exit, at-refusal}
use Rattle.history_lines.proofs.lines.print_trap.Goals as goal

pub returns-in_err-put_trap-clause-refused : goal.returns-in_err-put_trap-clause-refused
returns-in_err-put_trap-clause-refused c =
    at-exit c.from_residual.result
    (grew-longer _ _ (entry_text (Trap c.args.func c.args.number c.args.kind c.args.operands.now c.args.found)) (codes "\n") c.in_err-put_trap.ensures.refused)

pub returns-clause-refused : goal.returns-clause-refused
returns-clause-refused c =
    at-refusal c.put_line_feed.result
    (λ part. grew-after _ _ _ (entry_text (Trap c.args.func c.args.number c.args.kind c.args.operands.now c.args.found))
    (codes "\n") c.in_ok-put_trap.ensures.ok (part)) c.put_line_feed.ensures.refused
