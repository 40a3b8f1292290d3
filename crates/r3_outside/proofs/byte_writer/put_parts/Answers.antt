use Rattle.r3_outside.proofs.GrowthLemmas.{GrewByPrefix-parts, OnErr-always}
use Rattle.r3_outside.proofs.byte_writer.put_parts.Goals as goal

pub returns-in_err-put_all-clause-wrote_prefix : goal.returns-in_err-put_all-clause-wrote_prefix
returns-in_err-put_all-clause-wrote_prefix g c =
    OnErr-always c.from_residual.result
    (GrewByPrefix-parts (λ part. part.now) c.args.parts.now c.parts.part-index _ _ _ _ c.parts-test.true
    c.parts.invariant.grew c.in_err-put_all.ensures.wrote_prefix)
