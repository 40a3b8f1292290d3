use Rattle.hook_insert.proofs.Meters.{instrumented_meters_fit, weights_are_of_meter}
use Rattle.hook_insert.proofs.encoding_laws.instrumented_meters_fit.Goals as goal

pub returns-clause-fits : goal.returns-clause-fits
returns-clause-fits c = instrumented_meters_fit c.bodies_are_read.ensures c.instrumented_keep_indices.ensures

pub returns-clause-meter : goal.returns-clause-meter
returns-clause-meter c = weights_are_of_meter c.instrumented_keep_indices.ensures
