use Rattle.std.proofs.Common.{◌++◌, codes, subst}
use Rattle.history_spec.specs.Line.{found_text, kind_text, number_text, values_text, with_space}
use Rattle.history_lines.specs.Growth.{GrewByFirstPart}
use Rattle.history_lines.proofs.Growths.{grew-after, grew-longer, at-exit, at-refusal}
use Rattle.history_lines.proofs.Texts.{trap-text}
use Rattle.history_lines.proofs.lines.put_trap.Goals as goal

pub returns-in_err-put_instr-clause-refused : goal.returns-in_err-put_instr-clause-refused
returns-in_err-put_instr-clause-refused c =
    at-exit c.from_residual.result
    (subst (GrewByFirstPart _ _) (trap-text c.args.func c.args.number c.args.kind c.args.operands.now c.args.found)
    (grew-longer _ _ (codes "trap" ++ (number_text c.args.func ++ number_text c.args.number))
    (with_space (kind_text c.args.kind) ++ (values_text c.args.operands.now ++ found_text c.args.found))
    c.in_err-put_instr.ensures.refused))

pub returns-clause-refused : goal.returns-clause-refused
returns-clause-refused c =
    at-refusal c.put_cause.result
    (λ part.
    subst (GrewByFirstPart _ _) (trap-text c.args.func c.args.number c.args.kind c.args.operands.now c.args.found)
    (grew-after _ _ _ (codes "trap" ++ (number_text c.args.func ++ number_text c.args.number))
    (with_space (kind_text c.args.kind) ++ (values_text c.args.operands.now ++ found_text c.args.found))
    c.in_ok-put_instr.ensures.ok part))
    c.put_cause.ensures.refused
