use Rattle.std.proofs.Common.{◌∙◌, List, ℕ, ◌++◌, codes, subst, OnOk}
use Rattle.r3_outside.specs.Growth.{Grew}
use Rattle.r3_faults.specs.Lines.{kind_text}
use Rattle.r3_faults.proofs.lines.put_script.Goals as goal

pub returns-clause-wrote : goal.returns-clause-wrote
returns-clause-wrote g c =
    let grew = λ (parts : List ℕ). OnOk c.put_parts.result
    (Grew (g.E.Sink.written c.args.err.now) (g.E.Sink.written c.put_parts.new.sink) parts) in
    let turn = c.as_bytes.ensures.value ∙ c.format.ensures.text in
    subst (λ t. grew (codes "script fault: turn " ++ (t ++ (kind_text c.args.kind ++ codes "\n")))) turn
    (subst (λ k. grew (codes "script fault: turn " ++ (c.as_bytes.result.now ++ (k ++ codes "\n")))) c.kind_text.ensures
    c.put_parts.ensures.wrote)
