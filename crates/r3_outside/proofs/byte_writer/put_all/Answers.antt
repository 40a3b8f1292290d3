use Rattle.std.proofs.Common.{arith, length-drop, ◌∙◌}
use Rattle.std.proofs.lemmas.List.{take_rest}
use Rattle.r3_outside.proofs.GrowthLemmas.{Grew-more, GrewByPrefix-failed}
use Rattle.r3_outside.proofs.byte_writer.put_all.Goals as goal

pub returns-in-Err-clause-wrote_prefix : goal.returns-in-Err-clause-wrote_prefix
returns-in-Err-clause-wrote_prefix g c =
    GrewByPrefix-failed _ _ _ _ c.pieces.done c.pieces.invariant.grew c.in-Err.ensures.wrote_none

pub pieces-preserved : goal.pieces-preserved
pieces-preserved g c =
    let wrote = rw (take_rest c.args.bytes.now c.pieces.done) at c.in-Ok.ensures.wrote in
    record {
      within = omega (arith, c.in-Ok.ensures.within_piece, length-drop c.pieces.done c.args.bytes.now);
      failed_none = c.in-Ok.ensures.failed_none ∙ c.pieces.invariant.failed_none;
      faults_never_fall = omega (arith, c.in-Ok.ensures.faults_never_fall);
      grew = Grew-more _ _ _ c.args.bytes.now c.pieces.done _ c.pieces.invariant.grew wrote;
    }
