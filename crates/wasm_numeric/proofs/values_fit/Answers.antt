use Rattle.wasm_numeric.proofs.ValuesFit.{results_fit}
use Rattle.wasm_numeric.proofs.values_fit.Goals as goal

pub returns : goal.returns
returns c = results_fit
