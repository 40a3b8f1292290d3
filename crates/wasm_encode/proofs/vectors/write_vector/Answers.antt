use Rattle.std.proofs.Common.{arith}
use Rattle.wasm_encode.proofs.VectorLemmas.{count_fits}
use Rattle.wasm_encode.proofs.vectors.write_vector.Goals as goal

pub overflow_cast-items : goal.overflow_cast-items
overflow_cast-items g c =
    omega (
      arith,
      count_fits g.E.Encoding.fits g.E.Encoding.bytes g.met.E.Encoding.some c.args.items.now
          c.requires.fits c.requires.sizes,
    )
