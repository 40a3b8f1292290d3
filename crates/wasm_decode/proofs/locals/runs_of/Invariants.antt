use Rattle.std.proofs.Common.{◌≡◌, ◌<◌, ◌^◌, ◌∷◌, ◌++◌, drop}
use Rattle.wasm_syntax.specs.Encoding.Readers.{runs_of}
use Rattle.wasm_decode.proofs.Counts.{counts}
use Rattle.wasm_decode.proofs.locals.runs_of.Given as goal

abbrev pub invariant-loop-run : goal.invariant-loop-run
invariant-loop-run l =
    record {
      same : l.runs.items ++ runs_of (l.last ∷ drop l.run-index l.written) ≡ runs_of l.written;
      few : counts (l.last ∷ drop l.run-index l.written) < 2 ^ 32;
    }
