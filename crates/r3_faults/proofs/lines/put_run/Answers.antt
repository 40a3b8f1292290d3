use Rattle.std.proofs.Common.{◌≡◌, ◌++◌, take, drop, sym, ◌∙◌, ap, subst}
use Rattle.r3_outside.specs.Growth.{GrewByPrefix}
use Rattle.r3_faults.specs.Lines.{escaped}
use Rattle.r3_faults.proofs.EscapeLemmas.{escaped-split, escaped-first, not-plain_first}
use Rattle.r3_outside.proofs.GrowthLemmas.{GrewByPrefix-longer, OnErr-always}
use Rattle.r3_faults.proofs.lines.put_run.Goals as goal

pub returns-in_err-put_all-clause-wrote_prefix : goal.returns-in_err-put_all-clause-wrote_prefix
returns-in_err-put_all-clause-wrote_prefix g c =
    let text = c.args.text.now in
    let count = c.plain_count-plain.result in
    let whole : take count text ++ escaped (drop count text) ≡ escaped text =
    ap (λ l. l ++ escaped (drop count text)) (sym c.plain_count-plain.ensures.plain) ∙ escaped-split text count
    in
    OnErr-always c.from_residual.result
    (subst (GrewByPrefix _ _) whole
    (GrewByPrefix-longer _ _ (take count text) (escaped (drop count text)) c.in_err-put_all.ensures.wrote_prefix))

pub returns-in_err-put_all-2-clause-wrote_prefix : goal.returns-in_err-put_all-2-clause-wrote_prefix
returns-in_err-put_all-2-clause-wrote_prefix g c =
    let text = c.args.text.now in
    let bytes = c.escaped_byte.result in
    let first = not-plain_first text c.plain_count-plain.result c.if-plain-gt0.false c.requires
    c.plain_count-plain.ensures.ends in
    let whole : bytes ++ escaped (drop 1 text) ≡ escaped text =
    ap (λ l. l ++ escaped (drop 1 text)) (c.escaped_byte.ensures ∙ sym (escaped-first text c.requires first))
    ∙ escaped-split text 1
    in
    OnErr-always c.from_residual-in_err-put_all-2.result
    (subst (GrewByPrefix _ _) whole
    (GrewByPrefix-longer _ _ bytes (escaped (drop 1 text)) c.in_err-put_all-2.ensures.wrote_prefix))
