use Rattle.wasm_interp.proofs.Meters.{weights_fit}
use Rattle.wasm_interp.proofs.laws.meters_fit.Goals as goal

pub returns : goal.returns
returns c = weights_fit c.weightless_items_go_ahead.ensures
