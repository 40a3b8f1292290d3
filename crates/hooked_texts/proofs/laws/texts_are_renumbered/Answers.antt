use Rattle.hooked_texts.proofs.Scripts.{texts_are_renumbered}
use Rattle.hooked_texts.proofs.laws.texts_are_renumbered.Goals as goal

pub returns : goal.returns
returns c = texts_are_renumbered c.instrumented_keep_indices.ensures
