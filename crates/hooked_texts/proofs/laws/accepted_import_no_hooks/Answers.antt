use Rattle.hooked_texts.proofs.Accepted.{accepted_import_no_hooks}
use Rattle.hooked_texts.proofs.laws.accepted_import_no_hooks.Goals as goal

pub returns : goal.returns
returns c = accepted_import_no_hooks
