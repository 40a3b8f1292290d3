use Rattle.host_play.proofs.HookShapes as shapes
use Rattle.host_play.proofs.laws.forms_have_hooks.Goals as goal

pub returns : goal.returns
returns c = shapes.forms_have_hooks
