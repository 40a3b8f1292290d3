use Rattle.std.proofs.Common.{◌≡◌, ◌+◌, ◌≤◌, length, length-append, drop, ◌∙◌, sym, vec_len, arith}
use Rattle.r3_outside.proofs.ContentsLemmas.{length-piece, take-piece}
use Rattle.r3_outside.proofs.file_reader.load.Goals as goal

pub pieces-preserved : goal.pieces-preserved
pieces-preserved g c =
    let rest = drop c.min-wanted.result c.pieces.piece in
    let fits : c.in-Ok-read_at.count ≤ length c.read_at.new.into = c.in-Ok-read_at.ensures.within_buffer in
    let more : vec_len c.extend_from_slice.new.self ≡ vec_len c.pieces.bytes + c.in-Ok-read_at.count =
    omega (arith, c.in-Ok-extend_from_slice.ensures.len, length-piece c.read_at.new.into rest c.in-Ok-read_at.count fits)
    in
    record {
      within = omega arith;
      some = omega (arith, c.pieces.invariant.some, length-append c.read_at.new.into rest);
      contents_unchanged = c.in-Ok-read_at.ensures.contents_unchanged ∙ c.pieces.invariant.contents_unchanged;
      failed_none = λ other. c.in-Ok-read_at.ensures.failed_none other ∙ c.pieces.invariant.failed_none other;
      faults_never_fall = λ other. omega (arith, c.pieces.invariant.faults_never_fall other, c.in-Ok-read_at.ensures.faults_never_fall other);
      taken_never_falls = λ other. omega (arith, c.pieces.invariant.taken_never_falls other, c.in-Ok-read_at.ensures.taken_never_falls other);
      took = omega (arith, c.in-Ok-read_at.ensures.took);
      loaded = λ known e.
          let e' = sym c.in-Ok-read_at.ensures.contents_unchanged ∙ e in
          rw c.in-Ok-extend_from_slice.ensures.items
          (take-piece _ _ c.read_at.new.into rest (vec_len c.pieces.bytes) _ c.in-Ok-read_at.count _
          (c.pieces.invariant.loaded known e') c.len-in-pieces.ensures (c.in-Ok-read_at.ensures.piece known e') fits
          more);
    }
