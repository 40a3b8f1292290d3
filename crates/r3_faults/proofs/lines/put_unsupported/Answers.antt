use Rattle.std.proofs.Common.{◌∙◌, List, ℕ, ◌++◌, decimal, codes, subst, OnOk}
use Rattle.r3_outside.specs.Growth.{Grew}
use Rattle.r3_faults.specs.Lines.{feature_text}
use Rattle.r3_faults.proofs.lines.put_unsupported.Goals as goal

pub returns-clause-wrote : goal.returns-clause-wrote
returns-clause-wrote g c =
    let grew = λ (parts : List ℕ). OnOk c.put_parts.result
    (Grew (g.E.Sink.written c.args.err.now) (g.E.Sink.written c.put_parts.new.sink) parts) in
    let func = c.as_bytes.ensures.value ∙ c.format.ensures.text in
    let number = c.as_bytes-2.ensures.value ∙ c.format-2.ensures.text in
    subst (λ f. grew (codes "unsupported: function "
    ++ (f ++ (codes " instruction " ++ (decimal c.args.number ++ (feature_text c.args.feature ++ codes "\n")))))) func
    (subst (λ k. grew (codes "unsupported: function "
    ++ (c.as_bytes.result.now ++ (codes " instruction " ++ (k ++ (feature_text c.args.feature ++ codes "\n"))))))
    number
    (subst (λ t. grew (codes "unsupported: function "
    ++ (c.as_bytes.result.now ++ (codes " instruction " ++ (c.as_bytes-2.result.now ++ (t ++ codes "\n"))))))
    c.feature_text.ensures
    c.put_parts.ensures.wrote))
