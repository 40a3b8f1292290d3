use Rattle.std.proofs.Common.{◌≡◌, ◌+◌, ◌<◌, ◌^◌, drop}
use Rattle.wasm_decode.proofs.Counts.{counts}
use Rattle.wasm_decode.proofs.locals.are_few.Given as goal

abbrev pub invariant-loop-run : goal.invariant-loop-run
invariant-loop-run l =
    record { all : l.total + counts (drop l.run-index l.runs) ≡ counts l.runs; few : l.total < 2 ^ 32 }
