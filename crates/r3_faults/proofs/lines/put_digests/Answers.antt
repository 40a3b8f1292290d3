use Rattle.std.proofs.Common.{List, ℕ, ◌++◌, codes, subst, OnOk}
use Rattle.hex.specs.Hex.{encode_lower}
use Rattle.r3_outside.specs.Growth.{Grew}
use Rattle.r3_faults.proofs.lines.put_digests.Goals as goal

pub returns-clause-wrote : goal.returns-clause-wrote
returns-clause-wrote g c =
    let grew = λ (tape given : List ℕ). OnOk c.put_parts.result
    (Grew (g.E.Sink.written c.args.err.now) (g.E.Sink.written c.put_parts.new.sink)
    (codes "other module: " ++ (tape ++ (codes " " ++ (given ++ codes "\n"))))) in
    subst (λ tape. grew tape (encode_lower c.args.given.now)) c.hexadecimal.ensures
    (subst (λ given. grew c.hexadecimal.result given) c.hexadecimal-2.ensures c.put_parts.ensures.wrote)
