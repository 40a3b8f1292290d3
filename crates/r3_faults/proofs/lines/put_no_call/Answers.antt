use Rattle.std.proofs.Common.{◌∙◌, List, ℕ, ◌++◌, decimal, codes, subst, OnOk}
use Rattle.r3_outside.specs.Growth.{Grew}
use Rattle.r3_faults.proofs.lines.put_no_call.Goals as goal

pub returns-clause-wrote : goal.returns-clause-wrote
returns-clause-wrote g c =
    let grew = λ (parts : List ℕ). OnOk c.put_parts.result
    (Grew (g.E.Sink.written c.args.err.now) (g.E.Sink.written c.put_parts.new.sink) parts) in
    let call = c.as_bytes.ensures.value ∙ c.format.ensures.text in
    let count = c.as_bytes-2.ensures.value ∙ c.format-2.ensures.text in
    subst (λ k. grew (codes "no call: " ++ (k ++ (codes " of " ++ (decimal c.args.calls ++ codes "\n"))))) call
    (subst (λ n. grew (codes "no call: " ++ (c.as_bytes.result.now ++ (codes " of " ++ (n ++ codes "\n"))))) count
    c.put_parts.ensures.wrote)
