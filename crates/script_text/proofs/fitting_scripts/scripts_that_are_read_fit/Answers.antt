use Rattle.script_text.proofs.FittingScripts.{script_fits, text_fits}
use Rattle.script_text.proofs.fitting_scripts.scripts_that_are_read_fit.Goals as goal

pub returns : goal.returns
returns c = record { values = script_fits; texts = text_fits }
