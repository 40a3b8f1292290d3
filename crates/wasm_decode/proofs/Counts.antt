-- The number of locals of runs.
use Rattle.std.proofs.Common.{ℕ, List}
use Rattle.std.specs.Prelude.{sum_by}
use Rattle.wasm_syntax.specs.declared.modules.Run.{Run}

abbrev pub counts : List Run → ℕ
counts runs = sum_by (λ run. run.count) runs
